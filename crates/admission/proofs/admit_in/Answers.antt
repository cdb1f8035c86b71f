-- A memory that is not usable is refused with 2, and so is one in the other form.
use Rattle.std.proofs.Common.{ℕ, ◌≡◌, refl, ap, sym, ◌∙◌, false, List}
use Rattle.std.proofs.lemmas.Result.{err_from_is_err_and}
use mathlib.Core.Bool.{and-false}
use borrow.Author.Tests.{not-true, not-false}
use denote.Enum.Bare.{sameb}
use Rattle.terms.specs.contracts.Form as derived
use Rattle.terms.specs.declared.Form.{Form}
use Rattle.terms.specs.declared.ScanEntry.{ScanEntry}
use Rattle.history.specs.Forms.{is_form}
use Rattle.words.specs.Words.{words}
use Rattle.layout.specs.declared.Sizes.{Sizes}
use Rattle.facts.specs.Usable.{stored_form, stored_sizes}
use Rattle.admission.specs.Admitted.{PassedWith, Admits}
use Rattle.admission.proofs.admit_in.Goals as goal

-- the derived equality is the definition's
same : (a b : Form) → sameb derived.the_type a b ≡ is_form b a
same Form.First Form.First = refl
same Form.First Form.Newest = refl
same Form.Newest Form.First = refl
same Form.Newest Form.Newest = refl

-- the sizes that were found have the form that the memory says
form_found : {s : Sizes} {m : List ℕ} {ps : List ScanEntry} → PassedWith s m ps → s.form ≡ stored_form (words m)
unfolding stored_sizes
form_found p = ap (λ (x : Sizes). x.form) p.sizes_are

pub returns-in_err-s : goal.returns-in_err-s
unfolding Admits
returns-in_err-s c =
    let p = err_from_is_err_and c.from_residual.result c.from_residual.ensures.1 in
    let e = c.in_err-s.ensures in
    rw (p.1, p.2) (e.0, λ ps q. rw (e.1 ps q, and-false _))

pub returns-then-ne : goal.returns-then-ne
unfolding Admits
returns-then-ne c =
    let e = c.in_ok-s.ensures in
    let f : is_form c.args.form c.in_ok-s.s.form ≡ false = rw (← same c.in_ok-s.s.form c.args.form) (not-true _ (sym c.if-ne.ensures)) in
    (refl, λ ps q. rw (← form_found (e.0.listed ps q), f))

pub returns : goal.returns
unfolding Admits
returns c = (c.in_ok-s.ensures.0, sym (same c.in_ok-s.s.form c.args.form) ∙ not-false _ (sym c.if-ne.ensures))
