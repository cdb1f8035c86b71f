-- A turn takes one byte more, below those that are there.
use Rattle.std.proofs.Common.{◌≡◌, ◌-◌, ◌<◌, arith}
use Rattle.std.proofs.Math.Nat.{add-zero}
use Rattle.commands.specs.Commands.{operand}
use Rattle.commands.proofs.Bytes.{none_yet, turn, room}
use Rattle.commands.proofs.number.Goals as goal
use Rattle.commands.proofs.number.Goals.{After-from}

byte : (c : After-from) → c.from.result < 256
byte c = rw c.from.ensures (c.type_inv.bytes _).fits

pub loop-i-init : goal.loop-i-init
loop-i-init c = let nothing : c.args.n - c.args.n ≡ 0 = omega arith in (none_yet c.args.bytes.now c.args.at c.args.n, rw nothing (omega arith))

pub overflow_mul-total : goal.overflow_mul-total
overflow_mul-total c = let small = room _ _ c.loop-i.invariant.1 (omega arith) in record { fits = omega arith }

pub overflow_add-total : goal.overflow_add-total
overflow_add-total c =
    let small = room _ _ c.loop-i.invariant.1 (omega arith) in
    record { fits = omega (arith, byte (goal.at.overflow_add-total c).After-from) }

pub loop-i-preserved : goal.loop-i-preserved
loop-i-preserved c =
    turn c.args.bytes.now c.args.at c.args.n c.loop-i.i c.loop-i.total c.from.result c.loop-i.invariant.0 c.from.ensures c.loop-i.invariant.1
    (byte (goal.at.loop-i-preserved c).After-from) (omega arith) (omega arith) (omega arith)

pub returns : goal.returns
unfolding operand
returns c =
    let none : c.loop-i.i ≡ 0 = omega arith in
    rw (none, add-zero) at c.loop-i.invariant.0
