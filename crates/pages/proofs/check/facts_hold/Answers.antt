-- The counts come first; then each call tests the facts of one part of the memory.
use Rattle.std.proofs.Common.{arith}
use Rattle.layout.specs.View.{view_of}
use Rattle.facts.specs.Facts.{facts_hold}
use Rattle.facts.proofs.Order.{facts_are, memory_facts}
use Rattle.facts.proofs.Ready.{few, counts_are}
use Rattle.pages.proofs.check.facts_hold.Goals as goal

pub returns-then-counts_within-clause-value : goal.returns-then-counts_within-clause-value
returns-then-counts_within-clause-value c ps e =
    let s = c.args.s in
    let m = c.args.mem.now in
    let f = c.counts_within.ensures in
    let counts = counts_are s m c.args.t _ f ps e in
    let scans = c.scans_hold-scans.ensures ps e (few s m c.args.t _ f ps e c.if-counts_within.true) in
    grind (arith, facts_are)

pub returns-then-counts_within-clause-memory_facts : goal.returns-then-counts_within-clause-memory_facts
returns-then-counts_within-clause-memory_facts c up =
    memory_facts c.args.s (view_of c.args.s c.args.mem.now) (grind arith) (grind arith) (grind arith) (grind arith)

pub returns-else-counts_within-clause-value : goal.returns-else-counts_within-clause-value
unfolding facts_hold
returns-else-counts_within-clause-value c ps e =
    let counts = counts_are c.args.s c.args.mem.now c.args.t _ c.counts_within.ensures ps e in
    grind arith
