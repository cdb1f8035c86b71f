-- Laws of what is due: nothing once the program has ended; a line and what is due behind it, for the shape and for a command.
use Prim.Native.Nat.{ℕ, zero, suc, ◌+◌, ◌-◌, ◌≤◌, ◌<◌}
use mathlib.Core.Path.{◌≡◌, refl, ap, sym, ◌∙◌}
use mathlib.Core.Bool.{Bool, true, false, not, cond}
use mathlib.Core.List.{List, [], ◌∷◌, ◌++◌, append-nil, append_assoc}
use native.Mathlib.Omega.{arith}
use native.Mathlib.Decide.{dec_le}
use lib.Dec.{T}
use lib.ListN.{length, get_or, take, drop, length-append, length-drop, drop_of_length-le}
use lib.Seq.{take_all, take-append-le, drop-append-le, drop-cons, drop-drop, drop-length}
use Rattle.std.specs.Prelude.{Ok, Err}
use Rattle.history.proofs.Lists.{by_cases, is_false}
use Rattle.commands.specs.Commands.{Chosen, commands, chosen, width, behind, shape_bytes}
use Rattle.commands.proofs.Items.{behind_shorter}
use Rattle.commands.proofs.Table.{chosen_passes}
use Rattle.output.specs.Output.{goes_on}
use Rattle.model.specs.Machine.{Machine}
use Rattle.output.specs.Steps.{Step, operands_of, outcome_to, line_of, state_after, step, steps, lines_from}
use Rattle.output.proofs.Steps.{steps_none}
use Rattle.promise.specs.Promise.{Lent, lent_machine}
use Rattle.turns.specs.Turns.{first_store, first_step, columns_from, capped, operand_width}
use Rattle.turns.specs.Gatebook.{gatebook}
use Rattle.rounds.specs.Due.{Flow, due, Moved, end_at, step_at, CommandIn, NoCommand, ShapeIn}

-- ---- a byte that is no command ends the program
abbrev ends : Chosen → Bool
ends (Ok f) = true
ends (Err r) = not (goes_on (Err r))

chosen_ends : (byte : ℕ) → T (ends (chosen byte))
unfolding commands goes_on
chosen_ends byte = chosen_passes ends tt tt byte

-- ---- the steps
module _ {State : Type 0} (m : Machine State) (columns : ℕ) where
  -- the bound does not matter from the number of bytes on
  pub all_steps : (a b : ℕ) (x : State) (bs : List ℕ) → length bs ≤ a → length bs ≤ b → steps a m columns x bs ≡ steps b m columns x bs
  unfolding steps
  all_steps zero b x [] h k = sym (steps_none b m columns x)
  all_steps zero b x (byte ∷ bs) h k = absurd (omega arith)
  all_steps (suc a) b x [] h k = sym (steps_none b m columns x)
  all_steps (suc a) zero x (byte ∷ bs) h k = absurd (omega arith)
  all_steps (suc a) (suc b) x (byte ∷ bs) h k =
      let l = behind_shorter columns (chosen byte) bs in
      let s = step m columns x byte (operands_of columns (chosen byte) bs) in
      ap (λ (l : List ℕ). s.line ++ cond s.on l [])
      (all_steps a b s.state (behind columns (chosen byte) bs) (omega arith) (omega arith))

  -- a command's line, with the operands os, and what is due for the bytes behind
  abbrev line_then : State → ℕ → Chosen → List ℕ → ℕ → List ℕ → List ℕ
  line_then x byte k os most left =
      line_of byte (outcome_to m columns x k os) ++ cond (goes_on (outcome_to m columns x k os).answer) (steps most m columns (state_after m columns x k os) left) []

  whole_step : (x : State) (byte : ℕ) (k : Chosen) (tail rest : List ℕ) → T (ends k) → operand_width columns k ≤ length tail
      → line_then x byte k (operands_of columns k (tail ++ rest)) (length (tail ++ rest)) (behind columns k (tail ++ rest))
      ≡ line_then x byte k (take (operand_width columns k) tail) (length (drop (operand_width columns k) tail ++ rest)) (drop (operand_width columns k) tail ++ rest)
  unfolding operands_of behind operand_width outcome_to
  whole_step x byte (Ok f) tail rest e h =
      let w : ℕ = width columns f in
      rw (
        take-append-le w tail rest h,
        drop-append-le w tail rest h,
        all_steps (length (tail ++ rest)) (length (drop w tail ++ rest)) (state_after m columns x (Ok f) (take w tail)) (drop w tail ++ rest)
            (omega (arith, length-append (drop w tail) rest, length-append tail rest, length-drop w tail)) (omega arith),
      )
  whole_step x byte (Err r) tail rest e h = rw (is_false (goes_on (Err r)) e)

  cut_step : (x : State) (byte : ℕ) (k : Chosen) (tail : List ℕ) → length tail < operand_width columns k
      → line_then x byte k (operands_of columns k tail) (length tail) (behind columns k tail) ≡ line_then x byte k tail 0 []
  unfolding operands_of behind operand_width
  cut_step x byte (Ok f) tail h =
      let w : ℕ = width columns f in
      let all : take w tail ≡ tail = take_all w tail (omega arith) in
      let short : length tail ≤ w = omega arith in
      let none : drop w tail ≡ [] = drop_of_length-le tail short in
      rw (all, none, steps_none (length tail) m columns (state_after m columns x (Ok f) tail), steps_none 0 m columns (state_after m columns x (Ok f) tail))
  cut_step x byte (Err r) tail h = absurd (omega arith)

-- ---- what is due
pub due_off : (f : Flow) (x : Lent) (bs : List ℕ) → f.on ≡ false → due f x bs ≡ []
unfolding due
due_off f x bs e = rw e

due_commands : (f : Flow) (x : Lent) (bs : List ℕ) → f.started ≡ true → due f x bs ≡ cond f.on (steps (length bs) lent_machine (capped f.columns) x bs) []
unfolding due
due_commands f x bs e = rw e

due_shape : (f : Flow) (x : Lent) (bs : List ℕ) → f.on ≡ true → f.started ≡ false → due f x bs ≡ gatebook x bs
unfolding due
due_shape f x bs e q = rw (e, q)

pub moved_then : {last : Bool} {f g h : Flow} {x y z : Lent} {bs cs ds before between after : List ℕ} → Moved last f x bs before g y cs between
    → Moved last g y cs between h z ds after → Moved last f x bs before h z ds after
moved_then p q = record { same = λ rest l. p.same rest l ∙ q.same rest l }

pub never : {b : Bool} → b ≡ true → b ≡ false → ⊥
never p q = let z : ◌≡◌ {A = ℕ} 0 1 = cc in omega arith

-- a command from `at` to `end`, whole, or cut where the input ends
whole_due : (f : Flow) (x : Lent) (bs rest : List ℕ) (at end : ℕ) → f.on ≡ true → f.started ≡ true → at < length bs → end ≡ end_at f.columns bs at → end ≤ length bs
    → let s = step_at f.columns x bs at end in
    due f x (drop at bs ++ rest)
    ≡ s.line ++ cond s.on (steps (length (drop end bs ++ rest)) lent_machine (capped f.columns) s.state (drop end bs ++ rest)) []
unfolding steps step_at
whole_due f x bs rest at end on started h e l =
    let byte : ℕ = get_or bs at 0 in
    let w : ℕ = operand_width (capped f.columns) (chosen byte) in
    let one : at + 1 ≡ suc at = omega arith in
    let wide : end - suc at ≡ w = omega arith in
    let there : suc at + w ≡ end = omega arith in
    let left : drop w (drop (suc at) bs) ≡ drop end bs = drop-drop w (suc at) bs ∙ ap (λ (n : ℕ). drop n bs) there in
    let enough : w ≤ length (drop (suc at) bs) = omega (arith, length-drop (suc at) bs) in
    rw (due_commands f x (drop at bs ++ rest) started, on, drop-cons bs at 0 h, one, wide, ← left)
    (whole_step lent_machine (capped f.columns) x byte (chosen byte) (drop (suc at) bs) rest (chosen_ends byte) enough)

cut_due : (f : Flow) (x : Lent) (bs : List ℕ) (at end : ℕ) → f.on ≡ true → f.started ≡ true → at < length bs → length bs < end_at f.columns bs at → end ≡ length bs
    → let s = step_at f.columns x bs at end in
    due f x (drop at bs) ≡ s.line ++ cond s.on (steps 0 lent_machine (capped f.columns) s.state []) []
unfolding steps step_at
cut_due f x bs at end on started h l e =
    let byte : ℕ = get_or bs at 0 in
    let one : at + 1 ≡ suc at = omega arith in
    let size = length-drop (suc at) bs in
    let all : take (end - suc at) (drop (suc at) bs) ≡ drop (suc at) bs = take_all (end - suc at) (drop (suc at) bs) (omega arith) in
    rw (due_commands f x (drop at bs) started, on, drop-cons bs at 0 h, one, all)
    (cut_step lent_machine (capped f.columns) x byte (chosen byte) (drop (suc at) bs) (omega arith))

-- last bytes are all there is
only_last : (last : Bool) (rest : List ℕ) → (last ≡ true → rest ≡ []) → (last ≡ false → ⊥) → rest ≡ []
only_last true rest h n = h refl
only_last false rest h n = absurd (n refl)

-- What is due is the line of a step and what is due behind it. The bytes of the step stand at the front of bs, n of the `enough` that make it whole, and they are whole or
-- the last; `left` are the bytes behind them.
line_moved : (last : Bool) (s : Step Lent) (f g : Flow) (x y : Lent) (bs left before after : List ℕ) (columns enough n : ℕ)
    → (enough ≤ n → (rest : List ℕ) → due f x (bs ++ rest) ≡ s.line ++ cond s.on (steps (length (left ++ rest)) lent_machine (capped columns) s.state (left ++ rest)) [])
    → (n < enough → (left ≡ []) × (due f x bs ≡ s.line ++ cond s.on (steps 0 lent_machine (capped columns) s.state []) []))
    → (last ≡ false → enough ≤ n) → (g.on ≡ s.on) × (y ≡ s.state) × (after ≡ before ++ s.line) → g.started ≡ true → g.columns ≡ columns
    → Moved last f x bs before g y left after
line_moved last s f g x y bs left before after columns enough n whole cut sure e started same = record { same = go }
  where
    joined : (bs left : List ℕ) → due f x bs ≡ s.line ++ cond s.on (steps (length left) lent_machine (capped columns) s.state left) []
        → before ++ due f x bs ≡ after ++ due g y left
    joined bs left d = rw (d, due_commands g y left started, e.0, e.1, e.2, same) (sym (append_assoc before s.line _))

    go : (rest : List ℕ) → (last ≡ true → rest ≡ []) → before ++ due f x (bs ++ rest) ≡ after ++ due g y (left ++ rest)
    go rest h =
        by_cases (dec_le enough n) (λ l. joined (bs ++ rest) (left ++ rest) (whole l rest))
        (λ l.
        let none = cut (omega arith) in
        rw (only_last last rest h (λ q. l (sure q)), none.0, append-nil bs) (joined bs [] none.1))

-- a step of the program
pub step_moved : (last : Bool) (f g : Flow) (x y : Lent) (bs before after : List ℕ) (at end : ℕ) → f.on ≡ true → f.started ≡ true
    → CommandIn last f.columns bs at end
    → (let s = step_at f.columns x bs at end in
    (g.on ≡ s.on) × (y ≡ s.state) × (after ≡ before ++ s.line))
    → g.started ≡ true → g.columns ≡ f.columns → Moved last f x (drop at bs) before g y (drop end bs) after
step_moved last f g x y bs before after at end on started c =
    let ends = c.ends in
    line_moved last (step_at f.columns x bs at end) f g x y (drop at bs) (drop end bs) before after f.columns (end_at f.columns bs at) (length bs)
    (λ l rest. whole_due f x bs rest at end on started c.some (omega arith) (omega arith))
    (λ l. let short : length bs ≤ end = omega arith in (drop_of_length-le bs short, cut_due f x bs at end on started c.some l (omega arith)))
    c.whole

-- the shape's
pub shape_moved : (last : Bool) (f g : Flow) (x y : Lent) (bs after : List ℕ) (end : ℕ) → f.on ≡ true → f.started ≡ false → ShapeIn last bs end
    → (g.on ≡ (first_step x (take end bs)).on) × (y ≡ (first_step x (take end bs)).state) × (after ≡ (first_step x (take end bs)).line)
    → g.started ≡ true → g.columns ≡ columns_from (take end bs) → Moved last f x bs [] g y (drop end bs) after
unfolding gatebook lines_from
shape_moved last f g x y bs after end on started c =
    line_moved last (first_step x (take end bs)) f g x y bs (drop end bs) [] after (columns_from (take end bs)) shape_bytes (length bs)
    (λ l rest.
    let whole : end ≡ shape_bytes = omega (arith, c.ends) in
    rw (
      due_shape f x (bs ++ rest) on started,
      whole,
      take-append-le shape_bytes bs rest l,
      drop-append-le shape_bytes bs rest l,
      all_steps lent_machine (capped (columns_from (take shape_bytes bs))) (length (bs ++ rest)) (length (drop shape_bytes bs ++ rest)) (first_store x (take shape_bytes bs)) (drop shape_bytes bs ++ rest)
          (omega (arith, length-append (drop shape_bytes bs) rest, length-append bs rest, length-drop shape_bytes bs)) (omega arith),
    ))
    (λ l.
    let short : length bs ≤ end = omega (arith, c.ends) in
    let few : length bs ≤ shape_bytes = omega arith in
    let none : drop shape_bytes bs ≡ [] = drop_of_length-le bs few in (
      drop_of_length-le bs short,
      rw (due_shape f x bs on started, take_all end bs short, take_all shape_bytes bs few, none, steps_none (length bs) lent_machine (capped (columns_from bs)) (first_store x bs), steps_none 0 lent_machine (capped (columns_from bs)) (first_store x bs)),
    ))
    c.whole

-- where no command is left, the program ends with the input
pub stop_moved : (last : Bool) (f : Flow) (x : Lent) (bs before : List ℕ) (at : ℕ) → f.on ≡ true → f.started ≡ true → NoCommand last f.columns bs at
    → Moved last f x (drop at bs) before (record f { on = not last }) x (drop at bs) before
unfolding due
stop_moved true f x bs before at on started c = record {
  same = λ rest h.
      let none : drop at bs ≡ [] = rw (c.none refl) (drop-length bs) in
      rw (h refl, none, on, started, steps_none 0 lent_machine (capped f.columns) x);
}
stop_moved false f x bs before at on started c = record { same = λ rest h. rw (on, started) }
