-- The pass stands, before the next record of the row, where the values of the records before it leave it; where none is left, where all values leave it.
use Rattle.std.proofs.Common.{ℕ, ◌≤◌, ◌<◌, ◌-◌}
use Rattle.std.specs.Prelude.{map}
use Rattle.std.specs.Option.{MatchOption, option_map_or}
use Rattle.layout.specs.View.{view_of}
use Rattle.model.specs.Preconditions.{shape_in}
use Rattle.model.specs.Versions.{values_in}
use Rattle.crossing.specs.Steps.{Stands, told}
use Rattle.crossing.proofs.list_first.Given as goal

abbrev pub invariant-loop-next : goal.invariant-loop-next
invariant-loop-next l =
    let values = λ (k : ℕ). map (told l.q.mark) (values_in (shape_in l.s) (view_of l.s l.mem) l.who l.q.row.0 l.q.column k) in
    let stands = λ (k : ℕ). Stands l.q.from.0 l.limit (values k) l.fn.stamps l.p l.stamps in
    MatchOption l.next ((l.p.found ≤ l.used) × stands l.used) (λ k. (k < l.used) × (l.p.found ≤ k) × stands k)

abbrev pub decreases-loop-next : goal.decreases-loop-next
decreases-loop-next l = option_map_or (λ k. l.used - k) l.next 0
