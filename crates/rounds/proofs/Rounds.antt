-- However an input is cut into pieces, the rounds write what must be written for all of it.
use Prim.Native.Nat.{ℕ}
use mathlib.Core.Path.{◌≡◌, refl, ap, sym, ◌∙◌}
use mathlib.Core.List.{List, [], ◌++◌, append-nil, append_assoc}
use Rattle.promise.specs.Promise.{Lent}
use Rattle.turns.specs.Gatebook.{GatebookWrites}
use Rattle.turns.proofs.Gatebook.{gatebook_writes}
use Rattle.rounds.specs.Due.{Flow, due}
use Rattle.rounds.specs.Rounds.{together, Rounds, RoundsWrite}
use Rattle.rounds.proofs.Due.{never, due_off}

rounds_due : {f : Flow} {x : Lent} {held lines : List ℕ} {ps : List (List ℕ)} → Rounds f x held ps lines → lines ≡ due f x (held ++ together ps)
unfolding together
rounds_due {f} {x} {held} {ps = ps} (Rounds.ended e) = sym (due_off f x (held ++ together ps) e)
rounds_due (Rounds.finish {f} {f'} {x} {x'} {held} {left} {lines} r) =
    sym (r.moved.same [] (λ e. refl) ∙ ap (λ (l : List ℕ). lines ++ l) (due_off f' x' (left ++ []) (r.ends refl)) ∙ append-nil lines)
rounds_due (Rounds.piece {f} {f'} {x} {x'} {held} {p} {left} {lines} {more} {ps} r rs) =
    sym (ap (due f x) (sym (append_assoc held p (together ps))) ∙ r.moved.same (together ps) (λ e. absurd (never e refl)) ∙ ap (λ (l : List ℕ). lines ++ l) (sym (rounds_due rs)))

pub rounds_write : RoundsWrite
unfolding RoundsWrite due GatebookWrites
rounds_write x ps lines b h k r = rounds_due r ∙ gatebook_writes x (together ps) b h k
