-- Each answer follows from the tests that led to it; `lent` carries the part that was lent to the whole memory.
use Rattle.std.proofs.Common.{◌*◌, ◌<◌, arith}
use Rattle.terms.specs.declared.Form.{Form}
use Rattle.model.specs.Writing.{made_view}
use Rattle.layout.specs.Regions.{need}
use Rattle.layout.specs.Sizes.{Proper, too_many_words}
use Rattle.layout.specs.View.{Suffices}
use Rattle.layout.proofs.Lay.{lent}
use Rattle.making.proofs.Answers.{out_of_limits, small, proper_sizes, no_room, few_entries, part_room, laid}
use Rattle.making.proofs.make.Goals as goal
use Rattle.making.proofs.make.Goals.{then-mem-n-via-then-mem-n, then-mem-n-via-else-mem-n+then-length-lt-MOST_SCANS}

pub returns-then-not-within_limits : goal.returns-then-not-within_limits
returns-then-not-within_limits c = search out_of_limits

pub words_needed-n-requires : goal.words_needed-n-requires
words_needed-n-requires c =
    let few : need c.sizes_of-s.result < too_many_words = search small in
    omega (arith, few)

pub overflow_mul-n : goal.overflow_mul-n
overflow_mul-n c =
    let few : need c.sizes_of-s.result < too_many_words = search small in
    omega (arith, few, c.words_needed-n.ensures)

pub returns-then-mem-n : goal.returns-then-mem-n
returns-then-mem-n c =
    elim c.then-mem-n.branch [
      | then-mem-n-via-then-mem-n w ↦ search no_room
      | then-mem-n-via-else-mem-n+then-length-lt-MOST_SCANS w ↦ search few_entries
    ]

pub lay_out-requires-clause-suffices : goal.lay_out-requires-clause-suffices
lay_out-requires-clause-suffices c = (search part_room, search small)

pub lay_out-requires-clause-s_value : goal.lay_out-requires-clause-s_value
lay_out-requires-clause-s_value c =
    let k : Proper c.sizes_of-s.result = search proper_sizes in
    (c.sizes_of-s.ensures, omega (arith, k.pages_are), omega (arith, k.pages_to), rw c.sizes_of-s.ensures at k.columns_to)

pub returns : goal.returns
returns c =
    let n = c.words_needed-n.result * 4 in
    let room : Suffices c.sizes_of-s.result c.args.mem.now = rw c.words_needed-n.ensures at c.if-mem-n.false in
    let whole = lent c.sizes_of-s.result n c.args.mem.now c.lay_out.new.mem (λ u. made_view Form.Newest c.args.shape) c.lay_out.ensures c.lay_out.auto.mem
    (λ k. omega (arith, c.type_inv.mem k)) (omega (arith, c.words_needed-n.ensures)) room in
    search (laid, whole)
