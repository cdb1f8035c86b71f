-- The program's rounds one after another move from the opening on. Once the program has ended, what it has sent is what must be written.
use Prim.Native.Nat.{ℕ}
use mathlib.Core.Path.{◌≡◌, ap, sym, ◌∙◌}
use mathlib.Core.Bool.{true, false}
use mathlib.Core.List.{List, [], ◌++◌, append-nil, append_assoc}
use native.Mathlib.Omega.{arith}
use lib.ListN.{length, take, take-append-drop, length-append, length-drop}
use lib.Seq.{slice, take-take, length-take-le}
use Rattle.promise.specs.Promise.{Lent}
use Rattle.turns.specs.Gatebook.{GatebookWrites}
use Rattle.turns.proofs.Gatebook.{gatebook_writes}
use Rattle.rounds.specs.Due.{due}
use Rattle.rounds.specs.Rounds.{opening}
use Rattle.rounds.proofs.Due.{never, due_off}
use Rattle.gatebook.specs.declared.course.Course.{Course}
use Rattle.gatebook.specs.Course.{flow_of, Received, Rounded, Sent, Ran, RanWrites}

-- ---- all rounds
behind_held : (c d : Course) (old new : List ℕ) → Received c d old new → take d.held new ≡ take c.held old ++ slice c.held d.held new
behind_held c d old new r =
    sym (take-append-drop c.held (take d.held new))
    ∙ ap (λ (l : List ℕ). l ++ slice c.held d.held new) (take-take c.held d.held new r.more ∙ r.held)

pub ran_next : (x₀ x y : Lent) (c r a d : Course) (i j k lines : List ℕ) → Ran x₀ c x i → c.last ≡ false → Received c r i j → Rounded r a x y j k lines → Sent a d
    → Ran x₀ d y k
ran_next x₀ x y c r a d i j k lines n off v w s =
    record { received = n.received ++ piece; lines = n.lines ++ take a.written lines; moved = record { same = go }; read = came; sent = went }
  where
    piece : List ℕ
    piece = slice c.held r.held j

    came : length (n.received ++ piece) ≡ d.read
    came =
        let size = length-drop c.held (take r.held j) in
        let all = length-take-le r.held j v.inside in
        omega (arith, length-append n.received piece, n.read, v.read, v.more, w.read, s.read)

    went : length (n.lines ++ take a.written lines) ≡ d.sent
    went =
        let all = length-take-le a.written lines w.fits in
        omega (arith, length-append n.lines (take a.written lines), n.sent, v.sent, w.sent, s.sent)

    go : (rest : List ℕ) → (d.last ≡ true → rest ≡ [])
        → due opening x₀ ((n.received ++ piece) ++ rest) ≡ (n.lines ++ take a.written lines) ++ due (flow_of d) y (take d.held k ++ rest)
    go rest h =
        let before = n.moved.same (piece ++ rest) (λ e. absurd (never e off)) in
        let after = w.round.moved.same rest (λ e. h (s.last ∙ w.last ∙ e)) in
        let held : take c.held i ++ (piece ++ rest) ≡ take r.held j ++ rest
        = sym (append_assoc (take c.held i) piece rest) ∙ ap (λ (l : List ℕ). l ++ rest) (sym (behind_held c r i j v)) in
        rw (append_assoc n.received piece rest, before, held, ← v.flow, after, s.flow, s.held) (sym (append_assoc n.lines (take a.written lines) _))

pub ran_writes : RanWrites
unfolding RanWrites due GatebookWrites
ran_writes x₀ c x input rest r b h k off last =
    sym (append-nil r.lines)
    ∙ ap (λ (l : List ℕ). r.lines ++ l) (sym (due_off (flow_of c) x (take c.held input ++ rest) off))
    ∙ sym (r.moved.same rest last)
    ∙ gatebook_writes x₀ (r.received ++ rest) b h k
