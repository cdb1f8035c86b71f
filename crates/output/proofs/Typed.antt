-- A call that is parsed from bytes has numbers that fit the types of its operands.
use Prim.Native.Nat.{ℕ, suc, ◌+◌, ◌^◌, ◌≤◌, ◌<◌}
use mathlib.Core.Path.{◌≡◌}
use mathlib.Core.List.{List, [], ◌∷◌, map}
use native.Mathlib.Omega.{arith}
use native.Mathlib.Nat.{pow-succ', pow-le-pow_right}
use lib.ListN.{length, take, drop, length-take, length-drop, take-append-drop}
use lib.Seq.{get_or-drop}
use mir.Syntax.{w32}
use mir.Val.{to_z, SFits}
use mir.ValLaws.{to_z-Fits}
use Rattle.std.specs.Prelude.{Ok, Err}
use Rattle.words.specs.Words.{words, Bytes, Fit}
use Rattle.words.proofs.Words.{words_fit, take_fit, front_bytes}
use Rattle.history.specs.Lists.{All}
use Rattle.model.specs.Calls.{Typed, Values}
use Rattle.commands.specs.declared.Format.{Format}
use Rattle.commands.specs.Commands.{Chosen, little_endian, operand, operands, values, read_of, write_of, call_of, call_from, chosen, commands}
use Rattle.commands.proofs.Table.{chosen_each}

-- ---- numbers in bytes
pub bytes_take : (n : ℕ) (l : List ℕ) → Bytes l → Bytes (take n l)
bytes_take n l b = front_bytes (take n l) (drop n l) (rw (take-append-drop n l) b)

pub bytes_drop : (n : ℕ) (l : List ℕ) → Bytes l → Bytes (drop n l)
bytes_drop n l b k = rw get_or-drop (b (n + k))

little_below : (l : List ℕ) → Bytes l → little_endian l < 256 ^ length l
unfolding little_endian
little_below [] b = omega arith
little_below (x ∷ l) b = omega (arith, b 0, little_below l (λ k. b (suc k)), pow-succ' 256 (length l))

operand_below : (at n : ℕ) (bs : List ℕ) → Bytes bs → operand at n bs < 256 ^ n
unfolding operand
operand_below at n bs b =
    let l : List ℕ = drop at (take (at + n) bs) in
    let short : length l ≤ n = omega (arith, length-drop at (take (at + n) bs), length-take (at + n) bs) in
    let less = little_below l (bytes_drop at (take (at + n) bs) (bytes_take (at + n) bs b)) in
    omega (arith, less, pow-le-pow_right {n = 256} (omega arith) short)

all_fit : (ws : List ℕ) → Fit ws → All (SFits w32) (map (to_z w32) ws)
all_fit [] f = All.nil
all_fit (w ∷ ws) f = All.cons (to_z-Fits w32 w (record { fits = f 0 })) (all_fit ws (λ k. f (suc k)))

values_fit : (n k : ℕ) (bs : List ℕ) → Bytes bs → Values (values n (drop k bs))
unfolding values
values_fit n k bs b = all_fit (take n (words (drop k bs))) (take_fit n (words (drop k bs)) (words_fit (drop k bs) (bytes_drop k bs b)))

-- ---- every command of the table
abbrev TypedForm : Chosen → Type 0
TypedForm (Ok f) = (columns : ℕ) (os : List ℕ) → Bytes os → Typed (call_from columns f os)
TypedForm (Err r) = Unit {0}

module _ (os : List ℕ) (b : Bytes os) where
  one : (at : ℕ) → operand at 1 os < 4294967296
  one at = omega (arith, operand_below at 1 os b)

  two : (at : ℕ) → operand at 2 os < 4294967296
  two at = omega (arith, operand_below at 2 os b)

  mask : (at : ℕ) → operand at 2 os < 65536
  mask at = operand_below at 2 os b

  keeper : (at : ℕ) → operand at 2 os < 65536
  keeper at = operand_below at 2 os b

  four : (at : ℕ) → operand at 4 os < 4294967296
  four at = operand_below at 4 os b

infixr 5 ◌&◌
◌&◌ : {k : Chosen} {ks : List Chosen} → TypedForm k → All TypedForm ks → All TypedForm (k ∷ ks)
◌&◌ p ps = All.cons p ps

each_typed : All TypedForm commands
unfolding commands operands call_from call_of read_of write_of
each_typed =
    tt
    & (λ columns os b. tt)
    & (λ columns os b. (two os b 0, values_fit columns 2 os b))
    & (λ columns os b. (two os b 0, two os b 2, mask os b 4, values_fit columns 6 os b))
    & (λ columns os b. (two os b 0, two os b 2))
    & (λ columns os b. (two os b 0, four os b 2))
    & (λ columns os b. two os b 0)
    & (λ columns os b. (two os b 0, one os b 2))
    & (λ columns os b. (four os b 0, two os b 4, one os b 6))
    & (λ columns os b. (two os b 0, two os b 2, one os b 4))
    & (λ columns os b. four os b 0)
    & (λ columns os b. (two os b 0, two os b 2, one os b 4))
    & (λ columns os b. (two os b 0, one os b 2))
    & (λ columns os b. two os b 0)
    & (λ columns os b. (one os b 0, one os b 1, two os b 2))
    & (λ columns os b. tt)
    & (λ columns os b. (one os b 0, two os b 1))
    & (λ columns os b. (one os b 0, one os b 1))
    & (λ columns os b. (two os b 0, one os b 2, to_z-Fits w32 _ (record { fits = four os b 3 }), four os b 7, four os b 11))
    & (λ columns os b. keeper os b 0)
    & (λ columns os b. (four os b 0, two os b 4, one os b 6))
    & All.nil

pub typed : (byte columns : ℕ) (f : Format) (os : List ℕ) → chosen byte ≡ Ok f → Bytes os → Typed (call_from columns f os)
typed byte columns f os e b =
    let t : TypedForm (Ok f) = rw e at (chosen_each TypedForm each_typed tt byte) in
    t columns os b
