-- The entries that a list of words holds: how many, entry i, an entry stored, and all of them freed.
use Prim.Native.Nat.{ℕ, zero, suc, ◌+◌, ◌*◌, ◌/◌, ◌≤◌, ◌<◌}
use mathlib.Core.Path.{◌≡◌, refl, ap, sym, ◌∙◌}
use mathlib.Core.List.{List, [], ◌∷◌}
use native.Mathlib.Omega.{arith}
use lib.ListN.{length, get_or, set, length-replicate, get_or-replicate}
use lib.Seq.{ext_get_or}
use Rattle.terms.specs.declared.ScanEntry.{ScanEntry}
use Rattle.loops.specs.Change.{filled}
use Rattle.loops.proofs.Change.{changed_length, changed_at_lem}
use Rattle.terms.specs.Entries.{free_entry}
use Rattle.requests.specs.Packed.{entry_words, entries_of}
use Rattle.scans.specs.Entries.{all_freed}

abbrev pub entry_of : ℕ → ℕ → ℕ → ℕ → ScanEntry
entry_of a b c d = record { number = a; stamp = b; merges = c; commits = d }

pub length_entries : (ws : List ℕ) → length (entries_of ws) ≡ length ws / entry_words
unfolding entries_of
length_entries [] = refl
length_entries (a ∷ []) = refl
length_entries (a ∷ b ∷ []) = refl
length_entries (a ∷ b ∷ c ∷ []) = refl
length_entries (a ∷ b ∷ c ∷ d ∷ ws) = omega (arith, length_entries ws)

-- one entry on is four words on
four : (i k : ℕ) → suc i * entry_words + k ≡ suc (suc (suc (suc (i * entry_words + k))))
four i k = omega arith

four0 : (i : ℕ) → suc i * entry_words ≡ suc (suc (suc (suc (i * entry_words))))
four0 i = omega arith

-- the entry whose first word is word j
abbrev entry_from : List ℕ → ℕ → ScanEntry
entry_from ws j = entry_of (get_or ws j 0) (get_or ws (j + 1) 0) (get_or ws (j + 2) 0) (get_or ws (j + 3) 0)

pub entries_at : (ws : List ℕ) (i : ℕ) → i * entry_words + 3 < length ws → get_or (entries_of ws) i free_entry ≡ entry_from ws (i * entry_words)
unfolding entries_of
entries_at [] i h = absurd (omega arith)
entries_at (a ∷ []) i h = absurd (omega arith)
entries_at (a ∷ b ∷ []) i h = absurd (omega arith)
entries_at (a ∷ b ∷ c ∷ []) i h = absurd (omega arith)
entries_at (a ∷ b ∷ c ∷ d ∷ ws) zero h = refl
entries_at (a ∷ b ∷ c ∷ d ∷ ws) (suc i) h = rw (four i 1, four i 2, four i 3, four0 i) (entries_at ws i (omega arith))

pub entries_put : (ws : List ℕ) (i a b c d : ℕ) → i * entry_words + 3 < length ws
    → entries_of (set (set (set (set ws (i * entry_words) a) (i * entry_words + 1) b) (i * entry_words + 2) c) (i * entry_words + 3) d) ≡ set (entries_of ws) i (entry_of a b c d)
unfolding entries_of
entries_put [] i a b c d h = absurd (omega arith)
entries_put (x ∷ []) i a b c d h = absurd (omega arith)
entries_put (x ∷ y ∷ []) i a b c d h = absurd (omega arith)
entries_put (x ∷ y ∷ z ∷ []) i a b c d h = absurd (omega arith)
entries_put (x ∷ y ∷ z ∷ w ∷ ws) zero a b c d h = refl
entries_put (x ∷ y ∷ z ∷ w ∷ ws) (suc i) a b c d h =
    rw (four i 1, four i 2, four i 3, four0 i) (ap (λ (l : List ScanEntry). entry_of x y z w ∷ l) (entries_put ws i a b c d (omega arith)))

-- zeros in all words of the entries free them all
pub entries_freed : (ws : List ℕ) (n : ℕ) → n ≡ length ws / entry_words * entry_words → entries_of (filled 0 n 0 ws) ≡ all_freed (entries_of ws)
entries_freed ws n e =
    let f : ℕ → ℕ → ℕ = λ i x. 0 in
    let l : length (filled 0 n 0 ws) ≡ length ws = changed_length f 0 ws n in
    let k = length_entries ws in
    let k' = length_entries (filled 0 n 0 ws) in
    let m : length (entries_of (filled 0 n 0 ws)) ≡ length (entries_of ws) = k' ∙ ap (λ (j : ℕ). j / entry_words) l ∙ sym k in
    ext_get_or free_entry (entries_of (filled 0 n 0 ws)) (all_freed (entries_of ws)) (m ∙ sym (length-replicate (length (entries_of ws)) free_entry))
    (λ i h.
    entries_at (filled 0 n 0 ws) i (omega arith)
    ∙ each ws n i (omega arith) (omega arith)
    ∙ sym (get_or-replicate (length (entries_of ws)) i free_entry free_entry (omega arith)))
  where
    zeroed : (ws : List ℕ) (n j : ℕ) → n ≤ length ws → j < n → get_or (filled 0 n 0 ws) j 0 ≡ 0
    zeroed ws n j h k = let q : 0 + j ≡ j = omega arith in rw q at (changed_at_lem (λ i x. 0) 0 ws n j (omega arith) k)

    each : (ws : List ℕ) (n i : ℕ) → n ≤ length ws → i * entry_words + 3 < n → entry_from (filled 0 n 0 ws) (i * entry_words) ≡ free_entry
    each ws n i h k =
        let j : ℕ = i * entry_words in
        rw (zeroed ws n j h (omega arith), zeroed ws n (j + 1) h (omega arith), zeroed ws n (j + 2) h (omega arith), zeroed ws n (j + 3) h k)
