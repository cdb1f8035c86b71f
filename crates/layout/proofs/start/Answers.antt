-- `layout::start`: no part of the sum exceeds it.
use Rattle.std.proofs.Common.{arith, ◌<◌, ◌^◌}
use Rattle.layout.specs.Starts.{words_before}
use Rattle.layout.specs.Regions.{index, lens}
use Rattle.layout.proofs.Cut.{within}
use Rattle.layout.proofs.start.Goals as goal

-- the sum, of which each part is a summand
bounded : (c : goal.After-lies_before-b) → words_before c.lies_before-b.result c.args.s < 2 ^ 62
bounded c = omega (arith, c.lies_before-b.ensures c.args.s, within 0 (lens c.args.s) (index c.args.k))

pub older_words-older-requires : goal.older_words-older-requires
older_words-older-requires c = omega (arith, bounded search)

pub overflow_mul-result : goal.overflow_mul-result
overflow_mul-result c = omega (arith, bounded search)

pub overflow_add-result : goal.overflow_add-result
overflow_add-result c = omega (arith, bounded search)

pub overflow_mul-result-2 : goal.overflow_mul-result-2
overflow_mul-result-2 c = omega (arith, bounded search)

pub overflow_add-result-2 : goal.overflow_add-result-2
overflow_add-result-2 c = omega (arith, bounded search)
