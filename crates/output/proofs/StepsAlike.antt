-- Two machines that have the same outcomes for every list of calls that commands can make write the same lines for every input.
use Prim.Native.Nat.{ℕ, zero, suc}
use mathlib.Core.Path.{◌≡◌, refl, ap, ◌∙◌}
use mathlib.Core.Bool.{true, false, cond}
use mathlib.Core.List.{List, [], ◌∷◌, ◌++◌}
use native.Mathlib.Omega.{arith}
use lib.Dec.{T, leb}
use lib.ListN.{length, take}
use Rattle.terms.specs.declared.Refusal.{Refusal}
use Rattle.std.specs.Prelude.{Ok, Err}
use Rattle.terms.specs.Answers.{Answer}
use Rattle.words.specs.Words.{Bytes}
use Rattle.history.specs.History.{Call, Outcome, alone}
use Rattle.history.specs.Forms.{form_use, in_place}
use Rattle.history.specs.Lists.{All}
use Rattle.commands.specs.Commands.{Chosen, chosen, width, call_from, behind}
use Rattle.commands.proofs.Uses.{command_in_place}
use Rattle.output.specs.Output.{goes_on}
use Rattle.model.specs.Calls.{Typed}
use Rattle.model.specs.Machine.{Machine, outcomes_from}
use Rattle.output.specs.Steps.{operands_of, outcome_to, line_of, state_after, steps}
use Rattle.output.proofs.Typed.{typed, bytes_take, bytes_drop}

-- what a command can make: a call whose numbers fit the types of its operands, and that is no move
abbrev pub Commanded : Call → Type 0
Commanded c = Typed c × T (in_place (form_use c))

-- two machines, each in a state, have the same outcomes for every list of such calls
abbrev pub Alike : {A B : Type 0} → Machine A → Machine B → A → B → Type 0
Alike m n x y = (cs : List Call) → All Commanded cs → outcomes_from m x cs ≡ outcomes_from n y cs

-- they have the same outcome of a call, and are alike after it
module _ {A B : Type 0} (m : Machine A) (n : Machine B) (x : A) (y : B) (c : Call) (a : Alike m n x y) (t : Commanded c) where
  alike_now : m.outcome x c ≡ n.outcome y c
  unfolding outcomes_from
  alike_now = let e = a (c ∷ []) (All.cons t All.nil) in cc

  alike_next : Alike m n (m.next x c) (n.next y c)
  unfolding outcomes_from
  alike_next cs ts = let e = a (c ∷ cs) (All.cons t ts) in cc

module _ {A B : Type 0} (m : Machine A) (n : Machine B) where
  -- one command: its outcome, what it leaves, and the bytes behind it
  command_alike : (byte columns : ℕ) (x : A) (y : B) (k : Chosen) (bs : List ℕ) → chosen byte ≡ k → Bytes bs → Alike m n x y
      → (outcome_to m columns x k (operands_of columns k bs) ≡ outcome_to n columns y k (operands_of columns k bs))
      × Alike m n (state_after m columns x k (operands_of columns k bs)) (state_after n columns y k (operands_of columns k bs))
      × Bytes (behind columns k bs)
  unfolding operands_of outcome_to state_after behind
  command_alike byte columns x y (Ok f) bs e b a =
      let os = take (width columns f) bs in
      let c = call_from columns f os in
      let t : Commanded c = (typed byte columns f os e (bytes_take (width columns f) bs b), command_in_place columns f os) in (
        ap (λ (z : Outcome Answer). cond (leb (width columns f) (length os)) z (alone (Err Refusal.Cut))) (alike_now m n x y c a t),
        elim (leb (width columns f) (length os)) as (λ w. Alike m n (cond w (m.next x c) x) (cond w (n.next y c) y)) [ true ↦ alike_next m n x y c a t | false ↦ a ],
        bytes_drop (width columns f) bs b,
      )
  command_alike byte columns x y (Err r) bs e b a = (refl, a, λ k. omega arith)

  -- all of them
  pub steps_alike : (most columns : ℕ) (x : A) (y : B) (bs : List ℕ) → Bytes bs → Alike m n x y → steps most m columns x bs ≡ steps most n columns y bs
  unfolding steps
  steps_alike zero columns x y bs b a = refl
  steps_alike (suc most) columns x y [] b a = refl
  steps_alike (suc most) columns x y (byte ∷ bs) b a =
      let k = chosen byte in
      let os = operands_of columns k bs in
      let one = command_alike byte columns x y k bs refl (λ i. b (suc i)) a in
      let same = steps_alike most columns (state_after m columns x k os) (state_after n columns y k os) (behind columns k bs) one.2 one.1 in
      ap (λ (z : Outcome Answer). line_of byte z ++ cond (goes_on z.answer) (steps most m columns (state_after m columns x k os) (behind columns k bs)) []) one.0
      ∙ ap (λ (l : List ℕ). line_of byte (outcome_to n columns y k os) ++ cond (goes_on (outcome_to n columns y k os).answer) l []) same
