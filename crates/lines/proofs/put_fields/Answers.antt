-- In each arm the pieces that are written are those of the definition.
use Rattle.std.proofs.Common.{ℕ, rules, refl, arith}
use Rattle.std.proofs.Math.ListN.{length-take}
use Rattle.std.proofs.lemmas.List.{take_min}
use Rattle.std.specs.Int.{w32, w64}
use mir.Val.{SFits}
use mir.ValLaws.{to_z-of_z}
use Rattle.decimal.proofs.Pieces.{joined}
use Rattle.lines.specs.Lines.{after_ok}
use Rattle.lines.proofs.put_fields.Goals as goal

pub returns-in-Done : goal.returns-in-Done
unfolding after_ok
returns-in-Done c = rw c.in-Done.is (record { bytes = refl; ends = omega arith }, omega arith)

pub returns-in-Number : goal.returns-in-Number
unfolding after_ok
returns-in-Number c = rw c.in-Number.is (c.put_natural.ensures.0, omega arith)

pub returns-in-Value : goal.returns-in-Value
unfolding after_ok
returns-in-Value c =
    let f : SFits w32 c.in-Value.v = search rules in
    let g : SFits w64 c.in-Value.v = search rules in
    rw c.in-Value.is (rw (to_z-of_z w32 _ f, to_z-of_z w64 _ g) at c.put_integer.ensures.0, omega arith)

pub returns-in-None : goal.returns-in-None
unfolding after_ok
returns-in-None c = rw c.in-None.is (c.put.ensures, omega arith)

pub returns-in-Sum : goal.returns-in-Sum
unfolding after_ok
returns-in-Sum c =
    let f : SFits w64 c.in-Sum.sum = search rules in
    rw c.in-Sum.is (joined c.put_natural-next.ensures.0 (rw (to_z-of_z w64 _ f) at c.put_integer-in-Sum.ensures.0), omega arith)

pub returns-in-Lineage : goal.returns-in-Lineage
unfolding after_ok
returns-in-Lineage c = rw c.in-Lineage.is (joined c.put_natural-next-in-Lineage.ensures.0 c.put_natural-in-Lineage.ensures.0, omega arith)

pub returns-in-Version : goal.returns-in-Version
unfolding after_ok
returns-in-Version c =
    let f : SFits w32 c.in-Version.v = search rules in
    let g : SFits w64 c.in-Version.v = record { sfits = omega (arith, f.sfits) } in
    rw c.in-Version.is (joined (rw (to_z-of_z w32 _ f, to_z-of_z w64 _ g) at c.put_integer-next.ensures.0) c.put_natural-in-Version.ensures.0, omega arith)

pub returns-in-Listed : goal.returns-in-Listed
unfolding after_ok
returns-in-Listed c =
    let listed = rw (c.min-listed.ensures, take_min) at c.put_stamps.ensures.0 in
    rw c.in-Listed.is (joined c.put_natural-next-in-Listed.ensures.0 listed, omega (arith, length-take {A = ℕ}))
