-- Measures within their limits ask for few words.
use Rattle.std.proofs.Common.{arith}
use Rattle.layout.proofs.Limits.{few_words}
use Rattle.pages.proofs.check.measure.Goals as goal

pub words_needed-requires : goal.words_needed-requires
words_needed-requires c =
    omega (arith, few_words _ _ _ _ c.sizes_of-s.ensures c.within_limits.ensures c.if-not-within_limits.false)

pub overflow_mul-words_needed : goal.overflow_mul-words_needed
overflow_mul-words_needed c =
    omega (arith, c.words_needed.ensures, few_words _ _ _ _ c.sizes_of-s.ensures c.within_limits.ensures c.if-not-within_limits.false)
