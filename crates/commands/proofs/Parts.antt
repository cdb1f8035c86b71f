-- A command is read from its operands alone: the bytes behind them do not matter.
use Prim.Native.Nat.{ℕ, ◌+◌, ◌*◌, ◌≤◌}
use mathlib.Core.Path.{◌≡◌, refl, ap, ◌∙◌}
use mathlib.Core.List.{List, [], ◌∷◌, map}
use native.Mathlib.Omega.{arith}
use native.Mathlib.Decide.{dec_le}
use lib.Dec.{leb}
use borrow.Author.Tests.{le-leb}
use lib.ListN.{length, take, drop, length-drop}
use lib.Seq.{take-take, take_all, take-add, drop_at, length-take-le}
use mir.Syntax.{w32}
use mir.Val.{to_z}
use Rattle.words.specs.Words.{words}
use Rattle.history.proofs.Lists.{by_cases}
use Rattle.words.proofs.Words.{words_take}
use Rattle.commands.specs.declared.Format.{Format}
use Rattle.commands.specs.Commands.{value_bytes, widths_of, total, width, value_count, operand, operands, values, call_from, little_endian, shape_bytes, shape_from}

-- whether the operands are whole can be told from them
pub whole : (w : ℕ) (bs : List ℕ) → leb w (length (take w bs)) ≡ leb w (length bs)
whole w bs =
    by_cases (dec_le w (length bs)) (λ h. let e : length (take w bs) ≡ w = length-take-le w bs h in rw (le-leb w (length bs) h, e) (le-leb w w (omega arith)))
    (λ h. rw (take_all w bs (omega arith)))

operand_part : (at n w : ℕ) (bs : List ℕ) → at + n ≤ w → operand at n (take w bs) ≡ operand at n bs
unfolding operand
operand_part at n w bs h = ap (λ (l : List ℕ). little_endian (drop at l)) (take-take (at + n) w bs h)

values_part : (k n : ℕ) (bs : List ℕ) → k + n * value_bytes ≤ length bs → values n (drop k (take (k + n * value_bytes) bs)) ≡ values n (drop k bs)
unfolding values
values_part k n bs h =
    let rest : n * value_bytes ≤ length (drop k bs) = omega (arith, length-drop k bs) in
    let cut : drop k (take (k + n * value_bytes) bs) ≡ take (n * value_bytes) (drop k bs) = ap (drop k) (take-add k (n * value_bytes) bs) ∙ drop_at (take k bs) (take (n * value_bytes) (drop k bs)) k (length-take-le k bs (omega arith)) in
    let same : take n (words (take (n * value_bytes) (drop k bs))) ≡ take n (words (drop k bs)) = ap (take n) (words_take n (drop k bs) rest) ∙ take-take n n (words (drop k bs)) (omega arith) in
    ap (λ (l : List ℕ). map (to_z w32) (take n (words l))) cut ∙ ap (map (to_z w32)) same

operands_part : (at : ℕ) (ws : List ℕ) (w : ℕ) (bs : List ℕ) → at + total ws ≤ w → operands at ws (take w bs) ≡ operands at ws bs
unfolding operands
operands_part at [] w bs h = refl
operands_part at (x ∷ ws) w bs h = rw (operand_part at x w bs (omega arith), operands_part (at + x) ws w bs (omega arith))

pub call_part : (columns : ℕ) (f : Format) (bs : List ℕ) → width columns f ≤ length bs → call_from columns f (take (width columns f) bs) ≡ call_from columns f bs
unfolding call_from
call_part columns f bs h =
    let w : ℕ = width columns f in
    let k : ℕ = total (widths_of f) in
    let n : ℕ = value_count columns f in
    let e : w ≡ k + n * value_bytes = omega arith in
    let vs : values n (drop k (take w bs)) ≡ values n (drop k bs) = ap (λ (z : ℕ). values n (drop k (take z bs))) e ∙ values_part k n bs (omega arith) in
    rw (operands_part 0 (widths_of f) w bs (omega arith), vs)

-- and the shape from its bytes
pub shape_part : (bs : List ℕ) → shape_from (take shape_bytes bs) ≡ shape_from bs
unfolding shape_from
shape_part bs =
    rw (
      operand_part 0 1 shape_bytes bs (omega arith),
      operand_part 1 1 shape_bytes bs (omega arith),
      operand_part 2 2 shape_bytes bs (omega arith),
      operand_part 4 2 shape_bytes bs (omega arith),
    )
