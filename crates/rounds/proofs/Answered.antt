-- A turn's line behind the others.
use Prim.Native.Nat.{ℕ, ◌+◌, ◌≤◌}
use mathlib.Core.Path.{◌≡◌, refl, ap, ◌∙◌}
use mathlib.Core.List.{List, ◌++◌}
use native.Mathlib.Omega.{arith}
use lib.ListN.{length, take, drop}
use lib.Seq.{take-append_seam, sets, sets-eq}
use Rattle.output.specs.Steps.{Step}
use Rattle.turns.specs.declared.Outcome.{Outcome}
use Rattle.promise.specs.Promise.{Lent}
use Rattle.turns.specs.Turns.{Turned}
use Rattle.rounds.specs.declared.Progress.{Progress}
use Rattle.decimal.specs.Written.{line_bytes}
use Rattle.rounds.specs.Due.{progress_of, Answered}

-- the line is at the front of its buffer
front : (old line : List ℕ) → length line ≤ length old → take (length line) (sets old 0 line) ≡ line
front old line h =
    let fits : 0 + length line ≤ length old = omega arith in
    rw (sets-eq line old 0 fits) (take-append_seam line (drop (0 + length line) old))

module _ {s : Step Lent} {x : Lent} {buffer after : List ℕ} {t : Outcome} (d : Turned s buffer after t x) (size : length buffer ≡ line_bytes) where
  pub answered : (old new : List ℕ) (p : Progress) (columns known end : ℕ) → columns ≡ known → take (p.written + t.length) new ≡ take p.written old ++ take t.length after
      → Answered s known end x old new p (progress_of t columns end p.written)
  answered old new p columns known end e k =
      let count = d.rendered.count in
      let fits = d.rendered.fits in
      let line : take t.length after ≡ s.line = rw (count, d.rendered.bytes) (front buffer s.line (omega arith)) in
      record {
        kept = k ∙ ap (λ (l : List ℕ). take p.written old ++ l) line;
        grown = omega arith;
        goes = d.goes;
        left = d.left;
        started = refl;
        counted = e;
        taken = refl;
      }
