-- What the call says of one entry of the list is what is written back; a refused call says of none.
use Rattle.std.proofs.Common.{refl, Ok, Err}
use Rattle.std.proofs.lemmas.Result.{err_from_is_err_and}
use Rattle.requests.proofs.Arms.{listed}
use Rattle.requests.proofs.close_listed.Goals as goal

pub returns-in_err-listed : goal.returns-in_err-listed
returns-in_err-listed c =
    let p = err_from_is_err_and c.from_residual.result c.from_residual.ensures.1 in
    rw (p.1, p.2) (λ z. listed _ _ _ (Err c.in_err-listed.field-0.0) _ _ _ c.in_err-listed.ensures refl z)

pub returns : goal.returns
returns c = λ z. listed _ _ _ (Ok c.in_ok-listed.listed) _ _ _ c.in_ok-listed.ensures c.put_entry.ensures z
