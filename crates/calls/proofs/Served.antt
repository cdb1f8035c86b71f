-- From what making promises to what its call promises: the list is freed if a store was made.
use mathlib.Core.Path.{◌≡◌, refl}
use mathlib.Core.List.{List}
use Prim.Native.Nat.{ℕ}
use lib.ListN.{length}
use Rattle.terms.specs.declared.Shape.{Shape}
use Rattle.terms.specs.Refusals.{is_accepted}
use Rattle.terms.specs.Answers.{Answer}
use Rattle.terms.specs.declared.Form.{Form}
use Rattle.terms.specs.declared.ScanEntry.{ScanEntry}
use Rattle.scans.specs.Entries.{freed_if}
use Rattle.making.specs.Made.{made}
use Rattle.promise.proofs.Makes.{made_makes}
use Rattle.promise.specs.Promise.{Makes}

pub made_so : (S : Shape) (m : List ℕ) (n : ℕ) (x z : Answer) (m' : List ℕ) (ps ps' : List ScanEntry) → n ≡ length ps → (x, m') ≡ made Form.Newest S n m → (z ≡ x) × (ps' ≡ freed_if (is_accepted x) ps) → Makes m ps S z m' ps'
made_so S m n x z m' ps ps' e h k = rw k.0 (made_makes m ps S n x m' (is_accepted x) ps' h e refl k.1)
