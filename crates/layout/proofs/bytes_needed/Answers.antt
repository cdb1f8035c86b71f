-- Within the limits the need is small, so that it fits a word.
use Rattle.std.proofs.Common.{arith, sym, ◌∙◌}
use Rattle.layout.specs.Sizes.{bytes_needed, bytes_answer}
use Rattle.layout.proofs.Limits.{few_words, bytes_answered}
use Rattle.layout.proofs.bytes_needed.Goals as goal

pub returns-then-not-within_limits : goal.returns-then-not-within_limits
returns-then-not-within_limits c = bytes_answered _ (unfold bytes_answer in (rw (← c.within_limits.ensures, c.if-not-within_limits.true)))

pub words_needed-n-requires : goal.words_needed-n-requires
words_needed-n-requires c = omega (arith, few_words _ _ _ _ c.sizes_of.ensures c.within_limits.ensures c.if-not-within_limits.false)

pub overflow_mul-result : goal.overflow_mul-result
overflow_mul-result c = omega (arith, c.words_needed-n.ensures, few_words _ _ _ _ c.sizes_of.ensures c.within_limits.ensures c.if-not-within_limits.false)

pub overflow_cast-result : goal.overflow_cast-result
overflow_cast-result c = omega (arith, c.words_needed-n.ensures, few_words _ _ _ _ c.sizes_of.ensures c.within_limits.ensures c.if-not-within_limits.false)

pub returns : goal.returns
returns c = bytes_answered _ (unfold bytes_answer bytes_needed in (rw (sym c.within_limits.ensures ∙ c.if-not-within_limits.false, c.words_needed-n.ensures, c.sizes_of.ensures)))
