-- The table's length is the list's, and the entries are freed where the store is made.
use Rattle.std.proofs.Common.{◌≡◌, refl, sym, ap, true, false, ◌∙◌, Ok, Err}
use Rattle.std.specs.Result.{is_ok}
use Rattle.terms.specs.Answers.{Answer}
use Rattle.terms.specs.Refusals.{is_accepted}
use Rattle.scans.specs.Table.{table_of}
use Rattle.scans.specs.declared.Scans.{Scans}
use Rattle.promise.proofs.Makes.{made_makes}
use Rattle.requests.proofs.make_store.Goals as goal

is_made : (a : Answer) → is_ok a ≡ is_accepted a
is_made (Ok f) = refl
is_made (Err r) = refl

pub returns-then-is_ok : goal.returns-then-is_ok
unfolding table_of
returns-then-is_ok c =
    made_makes _ _ _ c.table-t.result.length _ _ true _ c.make-answer.ensures (ap (λ (t : Scans). t.length) c.table-t.ensures)
    (sym c.if-is_ok.true ∙ c.is_ok.ensures.value ∙ is_made c.make-answer.result) c.free_all.ensures

pub returns-else-is_ok : goal.returns-else-is_ok
unfolding table_of
returns-else-is_ok c =
    made_makes _ _ _ c.table-t.result.length _ _ false _ c.make-answer.ensures (ap (λ (t : Scans). t.length) c.table-t.ensures)
    (sym c.if-is_ok.false ∙ c.is_ok.ensures.value ∙ is_made c.make-answer.result) refl
