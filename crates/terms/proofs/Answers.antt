-- The last arm of a match on an answer that has one arm for refusals and one for every other answer.
use Prim.Native.Nat.{ℕ}
use mathlib.Core.Path.{◌≡◌}
use mathlib.Core.Bool.{false, true≢false}
use lib.IntN.{ℤ}
use Rattle.std.specs.Prelude.{Ok, Err}
use Rattle.terms.specs.declared.Fields.{Fields}
use Rattle.terms.specs.Answers.{Answer}
use Rattle.terms.specs.Refusals.{is_refused}

-- what holds of each of the eight answers of an accepted call holds of every answer that is no refusal
pub others : (P : Answer → Type 0) → P (Ok Fields.Done) → ((n : ℕ) → P (Ok (Fields.Number n))) → ((v : ℤ) (s : ℕ) → P (Ok (Fields.Version v s))) → ((v : ℤ) → P (Ok (Fields.Value v)))
    → P (Ok Fields.None) → ((n : ℕ) (v : ℤ) → P (Ok (Fields.Sum n v))) → ((n m : ℕ) → P (Ok (Fields.Lineage n m))) → ((n : ℕ) → P (Ok (Fields.Listed n))) → (a : Answer) → is_refused a ≡ false → P a
others P done number version value none sum lineage listed (Err r) h = absurd (true≢false h)
others P done number version value none sum lineage listed (Ok Fields.Done) h = done
others P done number version value none sum lineage listed (Ok (Fields.Number n)) h = number n
others P done number version value none sum lineage listed (Ok (Fields.Version v s)) h = version v s
others P done number version value none sum lineage listed (Ok (Fields.Value v)) h = value v
others P done number version value none sum lineage listed (Ok Fields.None) h = none
others P done number version value none sum lineage listed (Ok (Fields.Sum n v)) h = sum n v
others P done number version value none sum lineage listed (Ok (Fields.Lineage n m)) h = lineage n m
others P done number version value none sum lineage listed (Ok (Fields.Listed n)) h = listed n
