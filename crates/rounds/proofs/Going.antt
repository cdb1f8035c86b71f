-- The loop over the commands: what holds before each, and what is answered where it stops.
use Prim.Native.Nat.{ℕ, ◌+◌, ◌*◌, ◌≤◌, ◌<◌}
use mathlib.Core.Path.{◌≡◌, ap, ◌∙◌}
use mathlib.Core.Bool.{Bool, true, false, not}
use mathlib.Core.List.{List, []}
use native.Mathlib.Omega.{arith}
use native.Mathlib.Nat.{add-zero}
use lib.ListN.{length, get_or, take, drop, length-drop}
use lib.Seq.{get_or-drop}
use Rattle.promise.specs.Promise.{Lent}
use Rattle.turns.specs.Turns.{first_step, columns_from}
use Rattle.rounds.specs.declared.Progress.{Progress}
use Rattle.decimal.specs.Written.{line_bytes}
use Rattle.rounds.specs.Due.{room_for, Flow, flow, Moved, wanted, step_at, NoCommand, Found, Answered, ShapeIn, Walked, Begun, Took}
use Rattle.rounds.proofs.Due.{never, moved_then, step_moved, shape_moved, stop_moved}

-- From p to q commands are answered, and the lines have room for as many more as there are bytes.
pub record Going (last : Bool) (p q : Progress) (x y : Lent) (bs old new : List ℕ) : Type 0 where
  pub moved : Moved last (flow p) x (drop p.taken bs) (take p.written old) (flow q) y (drop q.taken bs) (take q.written new)
  pub started : q.started ≡ true
  pub inside : q.taken ≤ length bs
  pub room : q.written + line_bytes * length bs ≤ length new + line_bytes * q.taken

-- where no command is left, the program goes on only if more can come
abbrev stopped : Bool → Progress → Progress
stopped last q = record q { on = not last }

module _ {last : Bool} {p q : Progress} {x y : Lent} {bs old new : List ℕ} (g : Going last p q x y bs old new) where
  pub going_next : (r : Progress) (z : Lent) (new' : List ℕ) (end : ℕ) → q.on ≡ true → Found last q.columns bs q.taken end → (end ≡ q.taken → ⊥)
      → Answered (step_at q.columns y bs q.taken end) q.columns end z new new' q r → length new' ≡ length new → Going last p r x z bs old new'
  going_next r z new' end on f n a same =
      let there = f.order in
      let less : q.taken < end = omega arith in
      let one : Moved last (flow q) y (drop q.taken bs) (take q.written new) (flow r) z (drop end bs) (take r.written new')
      = step_moved last (flow q) (flow r) y z bs (take q.written new) (take r.written new') q.taken end on g.started (f.command less)
      (a.goes, a.left, a.kept) a.started a.counted in
      record {
        moved = rw a.taken (moved_then g.moved one);
        started = a.started;
        inside = rw a.taken f.inside;
        room = omega (arith, a.grown, a.taken, g.room);
      }

  pub walked_stop : q.on ≡ true → NoCommand last q.columns bs q.taken → Walked last p (stopped last q) x y bs old new
  unfolding wanted
  walked_stop on c =
      let size = length-drop q.taken bs in
      let byte : get_or (drop q.taken bs) 0 0 ≡ get_or bs q.taken 0 = get_or-drop q.taken bs 0 0 ∙ ap (λ (n : ℕ). get_or bs n 0) (add-zero q.taken) in
      record {
        moved = moved_then g.moved (stop_moved last (flow q) y bs (take q.written new) q.taken on g.started c);
        ends = λ l. ap not l;
        waits = λ t. rw (g.started, byte) (omega (arith, c.short, g.inside));
        few = λ t. omega (arith, c.few);
        inside = g.inside;
        fits = omega (arith, g.inside, g.room);
      }

-- ---- the shape, and then the commands
pub begun_shape : (last : Bool) (p q : Progress) (x y : Lent) (bs old new : List ℕ) (end : ℕ) → p.written ≡ 0 → room_for (length bs) ≤ length old
    → length new ≡ length old → p.on ≡ true → p.started ≡ false → ShapeIn last bs end
    → Answered (first_step x (take end bs)) (columns_from (take end bs)) end y old new p q → end ≤ length bs → Begun last (flow p) q x y bs new
begun_shape last p q x y bs old new end z h same on off s a l =
    let none : take p.written old ≡ [] = rw z in
    record {
      moved = rw a.taken (shape_moved last (flow p) (flow q) x y bs (take q.written new) end on off s (a.goes, a.left, rw none at a.kept) a.started a.counted);
      inside = omega (arith, a.taken);
      room = omega (arith, a.grown);
      ends = λ e. absurd (never a.started e);
      few = λ e. absurd (never a.started e);
    }

module _ {last : Bool} {f : Flow} {q : Progress} {x y : Lent} {bs old : List ℕ} (b : Begun last f q x y bs old) (h : room_for (length bs) ≤ length old) where
  pub took_none : q.started ≡ false → Took last f q x y bs old
  unfolding wanted
  took_none e =
      record {
        round = λ r. record { moved = b.moved; ends = b.ends e; waits = λ t. rw e (b.few e t); few = λ t. omega (arith, b.few e t) };
        full = λ r. absurd (omega arith);
        inside = b.inside;
        fits = omega (arith, b.inside, b.room);
      }
