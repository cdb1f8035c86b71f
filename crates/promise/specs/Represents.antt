-- The one relation between lent bytes and the plain history. Nobody must believe it: the proof of demand 3 goes by it (proofs/Represents.antt).
use Rattle.std.specs.Prelude.{◌≡◌, true, List, ℕ, ◌≤◌, length}
use Rattle.terms.specs.Measures.{within_limits}
use Rattle.terms.specs.declared.Shape.{Shape}
use Rattle.terms.specs.declared.Form.{Form}
use Rattle.terms.specs.declared.ScanEntry.{ScanEntry}
use Rattle.layout.specs.Sizes.{sizes_of, bytes_needed}
use Rattle.layout.specs.View.{view_of}
use Rattle.history.specs.History.{History}
use Rattle.model.specs.Represents.{Represents, WellFormed}

-- The memory's view by the shape in the form F, and the scan list, represent the history, and there are the bytes for it. That the memory says this shape, and that it is usable, follows.
pub record MemoryRepresents (m : List ℕ) (ps : List ScanEntry) (F : Form) (S : Shape) (h : History) : Type 0 where
  pub within : within_limits S ≡ true
  pub room : bytes_needed F S ≤ length m
  pub well_formed : WellFormed S h
  pub shown : Represents F S (view_of (sizes_of F S) m) ps h
