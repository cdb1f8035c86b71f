-- The result of a reply tells whether the call was refused, and with which number.
use mathlib.Core.Path.{◌≡◌, refl, ap, sym, ◌∙◌}
use mathlib.Core.Logic.{inl, inr, ⊎_elim, ◌↔◌}
use mathlib.Core.Bool.{Bool, true, false, cond, true≢false}
use mathlib.Core.List.{List, [], ◌∷◌, map}
use Prim.Native.Nat.{ℕ}
use lib.ListN.{get_or}
use Rattle.terms.specs.Refusals.{refusal_number, is_refused}
use Rattle.std.specs.Prelude.{Ok, Err}
use Rattle.terms.specs.Answers.{Answer}
use Rattle.terms.specs.declared.Fields.{Fields}
use Rattle.terms.specs.declared.Refusal.{Refusal}
use Rattle.history.proofs.Lists.{by_test, clash}
use Rattle.deskrook.specs.Replies.{reply_of}
use Rattle.deskrook.specs.Runs.{AcceptedReply}

-- the refusal of a number, in the order of the refusals; Done for every other number
refusals : List Refusal
refusals =
    Refusal.Shape
    ∷ Refusal.Memory
    ∷ Refusal.Transaction
    ∷ Refusal.Scan
    ∷ Refusal.Row
    ∷ Refusal.Column
    ∷ Refusal.Range
    ∷ Refusal.Mask
    ∷ Refusal.Held
    ∷ Refusal.Gone
    ∷ Refusal.Full
    ∷ Refusal.Tail
    ∷ Refusal.Time
    ∷ Refusal.Busy
    ∷ Refusal.Number
    ∷ Refusal.Reach
    ∷ Refusal.Open
    ∷ Refusal.NoPage
    ∷ Refusal.Command
    ∷ Refusal.Cut
    ∷ Refusal.List
    ∷ Refusal.Keeper
    ∷ []

refusal_of : ℕ → Answer
refusal_of k = get_or ((Ok Fields.Done) ∷ map Err refusals) k (Ok Fields.Done)

known : (n : Refusal) → refusal_of (refusal_number n) ≡ Err n
unfolding refusal_of refusals
known Refusal.Shape = refl
known Refusal.Memory = refl
known Refusal.Transaction = refl
known Refusal.Scan = refl
known Refusal.Row = refl
known Refusal.Column = refl
known Refusal.Range = refl
known Refusal.Mask = refl
known Refusal.Held = refl
known Refusal.Gone = refl
known Refusal.Full = refl
known Refusal.Tail = refl
known Refusal.Time = refl
known Refusal.Busy = refl
known Refusal.Number = refl
known Refusal.Reach = refl
known Refusal.Open = refl
known Refusal.NoPage = refl
known Refusal.Command = refl
known Refusal.Cut = refl
known Refusal.List = refl
known Refusal.Keeper = refl

by_result : (a : Answer) → refusal_of (reply_of a).result ≡ cond (is_refused a) a (Ok Fields.Done)
unfolding refusal_of refusals
by_result (Err n) = known n
by_result (Ok Fields.Done) = refl
by_result (Ok (Fields.Number n)) = refl
by_result (Ok (Fields.Version v s)) = refl
by_result (Ok (Fields.Value v)) = refl
by_result (Ok Fields.None) = refl
by_result (Ok (Fields.Sum n v)) = refl
by_result (Ok (Fields.Lineage n m)) = refl
by_result (Ok (Fields.Listed n)) = refl

pub refused_result : (a : Answer) (n : Refusal) → (reply_of a).result ≡ refusal_number n → a ≡ Err n
refused_result a n e =
    by_test (λ b. cond b a (Ok Fields.Done) ≡ Err n → a ≡ Err n) (is_refused a) (λ _ q. q) (λ _ q. clash (cc))
    (sym (by_result a) ∙ ap refusal_of e ∙ known n)

pub accepted_result : (a : Answer) → AcceptedReply (reply_of a) ↔ (is_refused a ≡ false)
unfolding refusal_of refusals
accepted_result a = (λ g. go (is_refused a) refl (sym (by_result a) ∙ ⊎_elim (ap refusal_of) (ap refusal_of) g), back a)
  where
    go : (b : Bool) → is_refused a ≡ b → cond b a (Ok Fields.Done) ≡ Ok Fields.Done → is_refused a ≡ false
    go true e q = ap is_refused q
    go false e q = e

    back : (a : Answer) → is_refused a ≡ false → AcceptedReply (reply_of a)
    back (Err n) e = absurd (true≢false e)
    back (Ok Fields.Done) e = inl refl
    back (Ok (Fields.Number n)) e = inl refl
    back (Ok (Fields.Version v s)) e = inl refl
    back (Ok (Fields.Value v)) e = inl refl
    back (Ok Fields.None) e = inr refl
    back (Ok (Fields.Sum n v)) e = inl refl
    back (Ok (Fields.Lineage n m)) e = inl refl
    back (Ok (Fields.Listed n)) e = inl refl
