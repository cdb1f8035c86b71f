-- A making promises what `made` says, where the list is freed as its answer has it.
use Prim.Native.Nat.{ℕ}
use mathlib.Core.Path.{◌≡◌, ap, ◌∙◌}
use mathlib.Core.Bool.{Bool}
use mathlib.Core.List.{List}
use lib.ListN.{length}
use Rattle.terms.specs.declared.Shape.{Shape}
use Rattle.terms.specs.Answers.{Answer}
use Rattle.terms.specs.declared.Form.{Form}
use Rattle.terms.specs.declared.ScanEntry.{ScanEntry}
use Rattle.terms.specs.Refusals.{is_accepted}
use Rattle.scans.specs.Entries.{freed_if}
use Rattle.making.specs.Made.{made}
use Rattle.promise.specs.Promise.{Makes}

pub made_makes : (m : List ℕ) (ps : List ScanEntry) (S : Shape) (n : ℕ) (r : Answer) (m' : List ℕ) (b : Bool) (ps' : List ScanEntry)
    → (r, m') ≡ made Form.Newest S n m → n ≡ length ps → b ≡ is_accepted r → ps' ≡ freed_if b ps → Makes m ps S r m' ps'
unfolding Makes
made_makes m ps S n r m' b ps' e l a q =
    let whole : (r, m') ≡ made Form.Newest S (length ps) m = rw l at e in
    let answer = ap (λ (z : Answer × List ℕ). z.0) whole in (
      answer,
      ap (λ (z : Answer × List ℕ). z.1) whole,
      q ∙ ap (λ (z : Bool). freed_if z ps) a ∙ ap (λ (z : Answer). freed_if (is_accepted z) ps) answer,
    )
