-- The record of an open transaction: what its methods make of it, and where it lies in the memory.
use Rattle.std.specs.Prelude.{ℕ, cond, eqb, get_or}
use Rattle.terms.specs.declared.Transaction.{Transaction}
use Rattle.layout.specs.declared.Region.{Region}
use Rattle.layout.specs.View.{View, put}
use Rattle.model.specs.Stored.{next_word}
use Rattle.transactions.specs.declared.pending.Pending.{Pending}

abbrev pub fresh : Transaction → ℕ → Pending
fresh t keeper = record { number = t; changes = 0; keeper = keeper }

abbrev pub one_more : Pending → Pending
one_more p = record { number = p.number; changes = next_word p.changes; keeper = p.keeper }

abbrev pub handed_back : Pending → Transaction
handed_back p = p.number

abbrev pub owner : Pending → ℕ
owner p = cond (eqb p.changes 0) 0 p.number.0

abbrev pub free_record : Pending
free_record = record { number = record { 0 = 0 }; changes = 0; keeper = 0 }

abbrev pub pending_at : View → ℕ → Pending
pending_at v j = record { number = record { 0 = get_or (v Region.Opens) j 0 }; changes = get_or (v Region.Changes) j 0; keeper = get_or (v Region.OpenKeeper) j 0 }

unfoldable pub pending_put : ℕ → Pending → View → View
pending_put j p v = put Region.OpenKeeper j p.keeper (put Region.Changes j p.changes (put Region.Opens j p.number.0 v))
