-- With no other open, no record is looked at.
use Rattle.std.proofs.Common.{◌∙◌, arith}
use Rattle.words.specs.Words.{words}
use Rattle.words.proofs.Words.{length_words}
use Rattle.layout.specs.declared.Region.TheVariants.{Opens}
use Rattle.layout.specs.View.{view_of}
use Rattle.layout.proofs.View.{view_long}
use Rattle.conditions.proofs.Records.{none_held}
use Rattle.conditions.proofs.records_held.Goals as goal

pub returns-else-others_open : goal.returns-else-others_open
returns-else-others_open c =
    let long = view_long c.args.s (words c.args.mem.now) (omega (arith, length_words c.args.mem.now)) Opens in
    c.if-others_open.false ∙ none_held (view_of c.args.s c.args.mem.now) _ _ _ _ _ long c.others_open.ensures c.if-others_open.false
