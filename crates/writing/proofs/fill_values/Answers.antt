-- A turn puts the word of a value.
use Rattle.std.proofs.Common.{◌≡◌}
use Rattle.writing.specs.Steps.{value_words}
use Rattle.writing.proofs.Steps.{fills_none, fills_next, fills_all, word_of}
use Rattle.writing.proofs.fill_values.Goals as goal

pub loop-c-init : goal.loop-c-init
loop-c-init c = fills_none _ _ _ _

pub loop-c-preserved : goal.loop-c-preserved
loop-c-preserved c =
    let word : c.to_word.result ≡ value_words c.args.vs c.loop-c.c = search word_of in
    fills_next _ _ _ _ _ _ _ _ c.loop-c.invariant word c.write.ensures

pub returns : goal.returns
returns c = search fills_all
