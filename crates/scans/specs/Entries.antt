-- What is asked of the lent list of open scans, which may be of any length.
use Rattle.std.specs.Prelude.{ℕ, suc, Bool, true, false, not, cond, ◌&&◌, ◌||◌, List, [], ◌∷◌, eqb, length, replicate}
use Rattle.terms.specs.declared.ScanEntry.{ScanEntry}
use Rattle.terms.specs.Entries.{free_entry, first_index}

abbrev pub is_open : ScanEntry → Bool
is_open p = not (eqb p.number 0)

abbrev pub first_free : List ScanEntry → ℕ
first_free ps = first_index (λ p. eqb p.number 0) ps

-- the open scans, in the order of the list, and their indices, that of the list's first being k
abbrev pub opened : List ScanEntry → List ScanEntry
opened [] = []
opened (p ∷ ps) = cond (is_open p) (p ∷ opened ps) (opened ps)

abbrev pub opened_at : ℕ → List ScanEntry → List ℕ
opened_at k [] = []
opened_at k (p ∷ ps) = cond (is_open p) (k ∷ opened_at (suc k) ps) (opened_at (suc k) ps)

abbrev pub open_count : List ScanEntry → ℕ
open_count ps = length (opened ps)

-- whether each, or some, open scan passes a test
abbrev pub every_open : (ScanEntry → Bool) → List ScanEntry → Bool
every_open f [] = true
every_open f (p ∷ ps) = (not (is_open p) || f p) && every_open f ps

abbrev pub some_open : (ScanEntry → Bool) → List ScanEntry → Bool
some_open f [] = false
some_open f (p ∷ ps) = (is_open p && f p) || some_open f ps

-- whether a number stands in a list, and whether the numbers of a list that are not 0 differ from each other
abbrev pub among : ℕ → List ℕ → Bool
among x [] = false
among x (y ∷ l) = eqb y x || among x l

abbrev pub differ : List ℕ → Bool
differ [] = true
differ (x ∷ l) = (eqb x 0 || not (among x l)) && differ l

-- as many entries, each free
abbrev pub all_freed : List ScanEntry → List ScanEntry
all_freed ps = replicate (length ps) free_entry

-- the entries of a list, all freed if a store was made
abbrev pub freed_if : Bool → List ScanEntry → List ScanEntry
freed_if b ps = cond b (all_freed ps) ps
