-- Every entry that bears the number is looked at, and 0 is no transaction's.
use Rattle.std.proofs.Common.{◌≡◌, ℕ, Bool, true, false, not, ◌&&◌, eqb, length, get_or, refl, ◌∙◌, arith, rules, eqb-true}
use borrow.Author.Tests.{eqb-false}
use Rattle.terms.specs.Measures.{most_transactions}
use Rattle.words.specs.Words.{words}
use Rattle.words.proofs.Words.{length_words}
use Rattle.layout.specs.declared.Region.TheVariants.{Opens}
use Rattle.layout.specs.View.{View, view_of}
use Rattle.layout.proofs.View.{view_long}
use Rattle.model.specs.Stored.{any_below}
use Rattle.model.specs.Calls.{open_in}
use Rattle.conditions.proofs.Records.{open_is, open_zero}
use Rattle.conditions.proofs.is_open.Goals as goal

-- the number is not 0, and one of the entries has it
told : (v : View) (k : ℕ) (flag : Bool) → length (v Opens) ≡ most_transactions → flag ≡ any_below (λ j. eqb (get_or (v Opens) j 0) k) most_transactions
    → (not (eqb k 0) && flag) ≡ open_in v k
told v k flag l e = go (eqb k 0) refl
  where
    go : (b : Bool) → eqb k 0 ≡ b → (not b && flag) ≡ open_in v k
    go true q = open_zero v k (eqb-true k 0 q)
    go false q = open_is v k flag l (eqb-false k 0 q) e

pub returns : goal.returns
returns c =
    let long = view_long c.args.s (words c.args.mem.now) (omega (arith, length_words c.args.mem.now)) Opens in
    c.both.ensures ∙ told (view_of c.args.s c.args.mem.now) _ _ long (c.any_below-found.ensures _ (λ i b h q. search rules))
