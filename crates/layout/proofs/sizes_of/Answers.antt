-- The limits keep each product small.
use Rattle.std.proofs.Common.{arith}
use Rattle.layout.proofs.Limits.{proper}
use Rattle.layout.proofs.sizes_of.Goals as goal

pub times-slots-requires : goal.times-slots-requires
times-slots-requires c = (omega (arith, proper c.args.form c.args.shape c.requires), omega (arith, proper c.args.form c.args.shape c.requires))

pub times-chunks-requires : goal.times-chunks-requires
times-chunks-requires c = (omega (arith, proper c.args.form c.args.shape c.requires), omega (arith, proper c.args.form c.args.shape c.requires))

pub times-requires : goal.times-requires
times-requires c = (omega (arith, proper c.args.form c.args.shape c.requires), omega (arith, proper c.args.form c.args.shape c.requires))
