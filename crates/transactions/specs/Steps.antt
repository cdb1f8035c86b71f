-- The steps between the model's definitions and the code's functions: each function writes what one of these says.
use Rattle.std.specs.Prelude.{ℕ, Bool, not, [], ◌∷◌, eqb, get_or}
use Rattle.history.specs.History.{Commit, any}
use Rattle.layout.specs.Regions.{index, first_slot}
use Rattle.terms.specs.declared.Shape.{Shape}
use Rattle.layout.specs.declared.Region.{Region}
use Rattle.layout.specs.View.{View, renew, put, mark, used_in}
use Rattle.model.specs.Stored.{next_word}
use Rattle.model.specs.Writing.{mark_tails}

-- a change is noted at index j of the open transactions
unfoldable pub noted_at : ℕ → View → View
noted_at j v = put Region.Changes j (next_word (get_or (v Region.Changes) j 0)) v

-- a region that may be marked: none that the marks go by, which are the counts and the transactions
abbrev pub markable : Region → Bool
markable k = not (any (λ i. eqb (index k) i) (index Region.Header ∷ index Region.RowTransaction ∷ index Region.TailTransaction ∷ index Region.Used ∷ []))

-- the used records of range g that bear transaction t get w in region k; and those of every range
unfoldable pub tail_marked : Shape → ℕ → Region → ℕ → ℕ → View → View
tail_marked S t k w g v = mark Region.TailTransaction t k (first_slot S.capacity g) (used_in v g) w v

unfoldable pub tails_marked : Shape → ℕ → Region → ℕ → View → View
tails_marked S t k w v = renew k (mark_tails S (v Region.Used) (v Region.TailTransaction) t w S.ranges (v k)) v

-- a commit by its stamp and its ordinal
abbrev pub commit_at : ℕ → ℕ → Commit
commit_at stamp ordinal = record { stamp = stamp; ordinal = ordinal }
