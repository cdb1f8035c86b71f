-- The proved cases (section 13 of docs/SPECIFICATION.md) on a store just made. Of P1 to P16 and P18 to P24 the store's definitions give the same outcomes as the table asks of the plain history; 13.17 is of the store alone:
-- which words of the memory a merge changes.
use Rattle.std.specs.Prelude.{◌≡◌, refl, cond, List, [], ◌∷◌, ◌++◌, map, ℕ, suc, eqb, replicate}
use Rattle.terms.specs.Measures.{most_scans}
use Rattle.terms.specs.declared.Shape.{Shape}
use Rattle.terms.specs.Answers.{Answer}
use Rattle.terms.specs.declared.Form.{Form}
use Rattle.terms.specs.declared.ScanEntry.{ScanEntry}
use Rattle.layout.specs.declared.Region.{Region}
use Rattle.layout.specs.declared.Region.TheVariants.{Header, Current, PageState, PageChunk, PageMade, PageReplaced, PageLineage, PageNewest, Cells}
use Rattle.layout.specs.Regions.{all}
use Rattle.layout.specs.View.{View}
use Rattle.layout.specs.Parts.{Part, word}
use Rattle.history.specs.History.{begin, update, commit, merge, Outcome}
use Rattle.history.specs.Unfolding.{definitions}
use Rattle.history.specs.Table.{Case, table, wanted, one_row, two}
use Rattle.terms.specs.Entries.{free_entry}
use Rattle.model.specs.Writing.{made_view}
use Rattle.model.specs.Calls.{outcomes_in, view_after, view_next}
use Rattle.model.specs.Unfolding.{execution}

-- the list of a store just made
abbrev pub free_list : List ScanEntry
free_list = replicate most_scans free_entry

abbrev pub given_by_store : List Case → List (List (Outcome Answer))
given_by_store = map (λ p. outcomes_in p.shape (made_view Form.Newest p.shape) free_list (map (λ l. l.call) p.lines))

pub proved_table : given_by_store table ≡ wanted table
unfolding table execution definitions
proved_table = refl

-- ---- 13.17
-- where two lists differ, the words of region k from index i on
abbrev pub differing_from : Region → ℕ → List ℕ → List ℕ → List Part
differing_from k i [] m = []
differing_from k i (x ∷ l) [] = []
differing_from k i (x ∷ l) (y ∷ m) = cond (eqb x y) (differing_from k (suc i) l m) (word k i ∷ differing_from k (suc i) l m)

-- where two views differ in these regions
abbrev pub differing : List Region → View → View → List Part
differing [] v v' = []
differing (k ∷ ks) v v' = differing_from k 0 (v k) (v' k) ++ differing ks v v'

-- two spares; the row, and its column 1 set to 40 by transaction 2, committed at 20
abbrev pub two_spares : Shape
two_spares = record { columns = 2; ranges = 1; capacity = 4; spares = 2 }

abbrev pub before_merge : View
before_merge = view_after two_spares (made_view Form.Newest two_spares) free_list (map (λ l. l.call) one_row ++ begin ∷ update 2 0 2 (two 0 40) ∷ commit 2 20 ∷ [])

-- the merges made; the page that chunk 1 names; pages 1, which waits, and 2, which is current; of page 2 the chunk and the merge that made it, of page 1 the merge that replaced it; lineage and newest stamp of page 2, and its cell of the row
pub proved_words : differing all before_merge (view_next two_spares before_merge free_list (merge 0 1 2))
    ≡ word Header 8 ∷ word Current 1 ∷ word PageState 1 ∷ word PageState 2 ∷ word PageChunk 2 ∷ word PageMade 2 ∷ word PageReplaced 1 ∷ word PageLineage 2 ∷ word PageNewest 2 ∷ word Cells 128 ∷ []
unfolding execution definitions view_after
proved_words = refl
