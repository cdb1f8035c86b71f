-- The table that stands for a list of scans, and what is asked of it.
use Rattle.std.specs.Prelude.{ℕ, ◌+◌, min, Bool, true, false, cond, ◌||◌, List, [], ◌∷◌, ◌++◌, map, eqb, ltb, length, set, take, replicate}
use Rattle.terms.specs.Measures.{most_scans}
use Rattle.terms.specs.declared.ScanEntry.{ScanEntry}
use Rattle.std.specs.Prelude.{Option, None}
use Rattle.loops.specs.Search.{first_at}
use Rattle.scans.specs.declared.Scans.{Scans}
use Rattle.scans.specs.Entries.{opened, opened_at, open_count, first_free}

-- as many entries as a table has: those of l, then zeros
abbrev pub column : List ℕ → List ℕ
column l = take most_scans (l ++ replicate most_scans 0)

unfoldable pub table_of : List ScanEntry → Scans
table_of ps =
    record {
      length = length ps;
      count = min most_scans (open_count ps);
      numbers = column (map (λ p. p.number) (opened ps));
      stamps = column (map (λ p. p.stamp) (opened ps));
      merges = column (map (λ p. p.merges) (opened ps));
      commits = column (map (λ p. p.commits) (opened ps));
      indices = column (opened_at 0 ps);
      free = first_free ps;
      more = ltb most_scans (open_count ps);
    }

-- a table with the same open scans and another head, which is all that it has beside them
abbrev pub with_head : (length count free : ℕ) → (more : Bool) → Scans → Scans
with_head n k f b t =
    record {
      length = n;
      count = k;
      numbers = t.numbers;
      stamps = t.stamps;
      merges = t.merges;
      commits = t.commits;
      indices = t.indices;
      free = f;
      more = b;
    }

-- a table whose list has another length
abbrev pub of_length : ℕ → Scans → Scans
of_length n t = with_head n t.count t.free t.more t

-- a table with an open scan as its entry k, which has index i in the list
abbrev pub placed : (k i : ℕ) → ScanEntry → Scans → Scans
placed k i p t =
    record {
      length = t.length;
      count = t.count;
      numbers = set t.numbers k p.number;
      stamps = set t.stamps k p.stamp;
      merges = set t.merges k p.merges;
      commits = set t.commits k p.commits;
      indices = set t.indices k i;
      free = t.free;
      more = t.more;
    }

-- the table with the next entry of the list: a free one, an open one that has room, and one for which the table has no room
unfoldable pub with_entry : Scans → ScanEntry → Scans
with_entry t p =
    let i = t.length in
    let n = t.count in
    let free = cond (eqb t.free i) (i + 1) t.free in
    cond (eqb p.number 0)
    (of_length (i + 1) t)
    (cond (ltb n most_scans) (placed n i p (with_head (i + 1) (n + 1) free t.more t)) (with_head (i + 1) n free true t))

-- the index of an open scan in the table. No scan has the number 0, which marks free entries of the list and unused ones of the table.
unfoldable pub find_in : Scans → ℕ → Option ℕ
find_in t number = cond (eqb number 0) None (first_at number 0 t.numbers)

-- whether a number of the list is below m
abbrev pub some_less : ℕ → List ℕ → Bool
some_less m [] = false
some_less m (x ∷ l) = ltb x m || some_less m l
