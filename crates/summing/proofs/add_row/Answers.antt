-- `summing::add_row` meets its contract: the tally is small, so that no sum overflows.
use Rattle.std.proofs.Common.{◌≡◌, ◌+ℤ◌, arith, rules, ◌∙◌, sym}
use Rattle.std.proofs.lemmas.Int.{ints}
use mir.Syntax.{w32, w64}
use mir.Val.{SFits, of_z, to_z}
use Rattle.layout.specs.View.{view_of}
use Rattle.model.specs.Preconditions.{shape_in}
use Rattle.summing.proofs.Sums.{tally_bound, row_unseen, row_seen}
use Rattle.summing.proofs.add_row.Goals as goal

pub returns-then-not-visible : goal.returns-then-not-visible
returns-then-not-visible c = row_unseen _ _ _ _ _ _ c.requires.tallied _ c.scan_reader-who.ensures (sym c.visible.ensures ∙ c.if-not-visible.true)

pub overflow_add-result : goal.overflow_add-result
overflow_add-result c = omega (arith, tally_bound (shape_in c.args.s) (view_of c.args.s c.args.mem.now) c.args.scan c.args.c c.args.row.0)

pub overflow_add-result-2 : goal.overflow_add-result-2
overflow_add-result-2 c =
    let bound = tally_bound (shape_in c.args.s) (view_of c.args.s c.args.mem.now) c.args.scan c.args.c c.args.row.0 in
    let e = c.from.ensures in
    omega (arith, ints)

pub returns : goal.returns
returns c =
    let bound = tally_bound (shape_in c.args.s) (view_of c.args.s c.args.mem.now) c.args.scan c.args.c c.args.row.0 in
    let fits : SFits w32 c.of_word-value.result = search rules in
    let total : to_z w64 (of_z w64 (to_z w64 (of_z w64 c.args.t.total) +ℤ to_z w64 (of_z w64 c.from.result))) ≡ c.args.t.total +ℤ to_z w32 c.word_of.result = omega (arith, ints) in
    row_seen _ _ _ _ _ _ c.requires.tallied _ c.scan_reader-who.ensures (sym c.visible.ensures ∙ c.if-not-visible.false) _ c.requires.page_value _ (rw c.word_of.ensures at total)
