-- Which bytes of the lent memory, and which entries of the lent list, a call may change: 11.13 and 11.14 of docs/SPECIFICATION.md, the latter Item 5 of document 02 in its words. Of every memory and list, whoever wrote them.
-- proofs/Footprint.antt proves it. The model's Footprint has the parts, by the words of the memory; `ByteOf` (the layout's Parts) says which bytes those are.
use Rattle.std.specs.Prelude.{◌≡◌, ◌⊎◌, List, ℕ, ◌≤◌, length, get_or}
use Rattle.terms.specs.declared.Shape.{Shape}
use Rattle.terms.specs.declared.Form.{Form}
use Rattle.terms.specs.declared.ScanEntry.{ScanEntry}
use Rattle.words.specs.Words.{words, Bytes}
use Rattle.layout.specs.declared.Sizes.{Sizes}
use Rattle.layout.specs.Sizes.{bytes_needed}
use Rattle.layout.specs.Parts.{Part, OneOf}
use Rattle.history.specs.History.{Call, merge, move}
use Rattle.facts.specs.Usable.{stored_shape, stored_sizes}
use Rattle.making.specs.Made.{made}
use Rattle.model.specs.Stored.{current_in, chunk_of}
use Rattle.model.specs.Writing.{free_in}
use Rattle.model.specs.Footprint.{footprint, page_written, standing_written, lineage_written, merges_written, entries_written, EntriesWithin}
use Rattle.promise.specs.Promise.{store_view, lend, memory_after, list_after, second_after}

-- The memory m' is the memory m but for bytes of the parts.
abbrev pub BytesWithin : Sizes → List Part → List ℕ → List ℕ → Type 0
BytesWithin s xs m m' = (length m' ≡ length m) × ((i : ℕ) → (get_or m' i 0 ≡ get_or m i 0) ⊎ OneOf s xs i)

-- 11.13: call c, lent the memory m and the list ps, left m' and ps', and changed nothing but its footprint
unfoldable pub WithinFootprint : List ℕ → List ScanEntry → Call → List ℕ → List ScanEntry → Type 0
WithinFootprint m ps c m' ps' =
    BytesWithin (stored_sizes (words m)) (footprint (stored_shape (words m)) (store_view m) ps c) m m' × EntriesWithin (entries_written ps c) ps ps'

unfoldable pub ChangesOnly : Type 0
ChangesOnly = (m : List ℕ) (ps : List ScanEntry) (c : Call) → Bytes m → WithinFootprint m ps c (memory_after (lend m ps) c) (list_after (lend m ps) c)

-- 11.14: a merge of range g and column c changed no entry, and no byte but those of the page it wrote, those that say which page is current, waiting or free, the lineage and the merges made
unfoldable pub MergeWithin : List ℕ → List ScanEntry → (g c : ℕ) → List ℕ → List ScanEntry → Type 0
MergeWithin m ps g c m' ps' =
    let S = stored_shape (words m) in
    let s = stored_sizes (words m) in
    let v = store_view m in
    let p = free_in S v in
    (ps' ≡ ps)
    × (length m' ≡ length m)
    × ((i : ℕ)
    → (get_or m' i 0 ≡ get_or m i 0)
    ⊎ OneOf s (page_written p) i
    ⊎ OneOf s (standing_written (chunk_of S g c) (current_in S v g c) p) i
    ⊎ OneOf s (lineage_written p) i
    ⊎ OneOf s merges_written i)

unfoldable pub MergeChangesOnly : Type 0
MergeChangesOnly = (m : List ℕ) (ps : List ScanEntry) (g c n : ℕ) → Bytes m → MergeWithin m ps g c (memory_after (lend m ps) (merge g c n)) (list_after (lend m ps) (merge g c n))

-- and a making of shape S in the form F no byte past those that the shape needs in it
unfoldable pub MakingWithin : Form → Shape → List ℕ → List ℕ → Type 0
MakingWithin F S m m' = (length m' ≡ length m) × ((i : ℕ) → bytes_needed F S ≤ i → get_or m' i 0 ≡ get_or m i 0)

unfoldable pub MakingChangesOnly : Type 0
MakingChangesOnly = (F : Form) (S : Shape) (m : List ℕ) (ps : List ScanEntry) → MakingWithin F S m (made F S (length ps) m).1

-- nor a move to the form F any byte of the second memory past those; of the first one it changes none (`footprint`)
unfoldable pub MoveChangesOnly : Type 0
MoveChangesOnly = (F : Form) (m : List ℕ) (ps : List ScanEntry) (second : List ℕ) → MakingWithin F (stored_shape (words m)) second (second_after (lend m ps) (move F second))
