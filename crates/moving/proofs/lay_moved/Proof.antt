-- `moving::lay_moved` meets its contract: what is copied and cleared is the store moved.
use native.Mathlib.Omega.{arith}
use borrow.Author.Rules.{rules}
use Prim.Native.Nat.{◌≤◌}
use Rattle.words.specs.Words.{words}
use Rattle.words.proofs.Words.{length_words}
use Rattle.layout.specs.Regions.{base, need}
use Rattle.layout.specs.declared.Region.TheVariants.{RowKeeper}
use Rattle.model.specs.Preconditions.{shape_in}
use Rattle.moving.proofs.Laid.{words_in, calls_moved}
use Rattle.moving.proofs.lay_moved.Statement.{statement}
use Rattle.moving.proofs.lay_moved.Tie as tie

inside : (c : tie.Start) → let a = c.args in (base a.to RowKeeper ≤ need a.s) × (base a.to RowKeeper ≤ need a.to)
inside c = words_in _ _ (shape_in c.args.s) c.args.s c.args.to c.requires.1.1.0 c.requires.1.1.1

copy-from-requires : tie.Need-copy_from-requires
copy-from-requires c κs =
    let start : tie.Start = search in
    let w = inside start in
    (omega (arith, w.0, start.requires.0.0, c.base-n.ensures), omega (arith, w.1, start.requires.0.1, c.base-n.ensures))

returns : tie.Need-returns
returns c =
    let start : tie.Start = search in
    let word : tie.After-write = search in
    let opens : tie.After-fill_in-3 = word.before.before.before.before in
    let slots : tie.After-fill_in-2 = opens.before.before.before.before in
    let rows : tie.After-fill_in = slots.before.before.before.before in
    let copy : tie.After-copy_from = rows.before.before.before.before in
    let n : tie.After-base-n = copy.before.before in
    let a = start.args in
    calls_moved _ _ (shape_in a.s) a.s a.to start.requires.1.1.0 start.requires.1.1.1 (words a.mem.now) (words a.second.now) (omega (arith, length_words a.mem.now, start.requires.0.0)) (omega (arith, length_words a.second.now, start.requires.0.1))
    _ _ _ _ _ _ _ n.base-n.ensures copy.copy_from.ensures rows.fill_in.ensures slots.fill_in-2.ensures opens.fill_in-3.ensures start.requires.1.1.2 word.write.ensures

pub lay_moved_spec : {M : Type 1} → statement M
lay_moved_spec =
    tie.close
    (tie.spec
    (λ c κs. search rules)
    copy-from-requires
    (λ c κs. search rules)
    (λ c κs. search rules)
    (λ c κs. search rules)
    (λ c κs. search rules)
    (λ c. search rules)
    returns)
