-- What a call's own tests tell: the verdict of the tests in the stated order, and of what was found what the call may rely on.
use Rattle.std.specs.Prelude.{ℕ, ◌≤◌, ◌≡◌, List}
use Rattle.terms.specs.Measures.{most_scans}
use Rattle.terms.specs.declared.ScanEntry.{ScanEntry}
use Rattle.layout.specs.declared.Sizes.{Sizes}
use Rattle.layout.specs.View.{view_of}
use Rattle.history.specs.History.{Call, Verdict, accept, refuse, verdict}
use Rattle.scans.specs.declared.Scans.{Scans}
use Rattle.scans.specs.Entries.{open_count}
use Rattle.scans.specs.Table.{table_of}
use Rattle.model.specs.Calls.{tests_in}
use Rattle.model.specs.Preconditions.{shape_in}
use Rattle.std.specs.Prelude.{Result, Ok, Err}
use Rattle.terms.specs.declared.Refusal.{Refusal}

-- the tests found what the verdict says
abbrev pub Says : Result ℕ Refusal → Verdict → Type 0
Says (Ok j) w = w ≡ accept
Says (Err x) w = w ≡ refuse x

-- what was found, if the tests are passed, is as P has it
unfoldable pub Finds : Result ℕ Refusal → (ℕ → Type 0) → Type 0
Finds (Ok j) P = P j
Finds (Err x) P = Unit {0}

-- and then A holds
unfoldable pub IfPassed : Result ℕ Refusal → Type 0 → Type 0
IfPassed (Ok j) A = A
IfPassed (Err x) A = Unit {0}

-- the tests of call c on the memory m, whatever the scan list
unfoldable pub Tests : Sizes → List ℕ → Call → Result ℕ Refusal → Type 0
Tests s m c r = (ps : List ScanEntry) → Says r (verdict (tests_in (shape_in s) (view_of s m) ps c))

-- and by every scan list that a table stands for, and that a usable store may have
unfoldable pub TestsBy : Scans → Sizes → List ℕ → Call → Result ℕ Refusal → Type 0
TestsBy t s m c r = (ps : List ScanEntry) → t ≡ table_of ps → open_count ps ≤ most_scans → Says r (verdict (tests_in (shape_in s) (view_of s m) ps c))
