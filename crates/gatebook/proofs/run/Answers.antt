-- A read, a round and a write move the program on. If it still goes on, what is left is short and not the last.
use Rattle.std.proofs.Common.{ℕ, ◌≡◌, ◌∙◌, refl, ap, sym, ◌<◌, Bool, true, false, List, arith}
use Rattle.std.specs.Prelude.{not, ◌&&◌, ltb}
use Rattle.loops.proofs.Search.{and_true}
use Rattle.promise.specs.Promise.{Lent}
use Rattle.turns.specs.Turns.{store_in}
use Rattle.commands.specs.Commands.{command_bytes}
use Rattle.rounds.specs.Due.{Flow}
use Rattle.rounds.proofs.Due.{never}
use Rattle.gatebook.specs.declared.course.Course.{Course}
use Rattle.gatebook.specs.Course.{most_bytes, goes, Received, Rounded, Sent}
use Rattle.gatebook.proofs.Ran.{ran_next}
use Rattle.gatebook.proofs.run.Goals as goal

-- another round begins only where the program goes on
going : (c : Course) → goes c ≡ true → c.on ≡ true
going c e = (and_true (not c.failed && ltb c.read most_bytes && ltb c.sent most_bytes) c.on e).1

-- a program that goes on has not read the last
not_last : (last on : Bool) → (last ≡ true → on ≡ false) → on ≡ true → last ≡ false
not_last true on h t = absurd (never t (h refl))
not_last false on h t = refl

goes_with : (c r a d : Course) (x y : Lent) (i j k lines : List ℕ) → Received c r i j → Rounded r a x y j k lines → Sent a d → d.on ≡ true
    → (d.held < command_bytes) × (d.last ≡ false)
goes_with c r a d x y i j k lines v w s on =
    let went_on : a.on ≡ true = sym (ap (λ (f : Flow). f.on) s.flow) ∙ on in
    (omega (arith, s.held, w.room went_on), s.last ∙ w.last ∙ not_last r.last a.on w.round.ends went_on)

pub loop-reader-preserved : goal.loop-reader-preserved
loop-reader-preserved g c =
    let head = c.loop-reader in
    let came = c.receive-r in
    let went = c.round-a in
    let sent = c.send-c in
    let v = came.ensures in
    let w = went.ensures in
    let s = sent.ensures in
    let x = store_in head.mem head.scans in
    let y = store_in went.new.mem went.new.scans in
    let on = going head.c (sym c.goes_on.ensures ∙ c.loop-reader-test.true) in (
      s.written,
      λ e. goes_with head.c came.result went.result sent.result x y head.input came.new.input went.new.input went.new.lines v w s e,
      ran_next (store_in c.args.mem.now c.args.scans.now) x y head.c came.result went.result sent.result head.input came.new.input went.new.input went.new.lines
          head.invariant.2 (head.invariant.1 on).1 v w s,
    )
