-- A refused call leaves every byte, every entry and every place of its slice as it was: of any memory and list, also of those that no call made.
use mathlib.Core.Path.{◌≡◌, refl, ap, sym, ◌∙◌}
use mathlib.Core.Bool.{Bool, true, false, cond, true≢false, ◌&&◌}
use mathlib.Core.List.{List}
use Prim.Native.Nat.{ℕ}
use lib.Dec.{T}
use Rattle.terms.specs.declared.Shape.{Shape}
use Rattle.terms.specs.Refusals.{is_refused, is_accepted}
use Rattle.std.specs.Prelude.{Ok, Err}
use Rattle.terms.specs.Answers.{Answer}
use Rattle.terms.specs.declared.Fields.{Fields}
use Rattle.terms.specs.declared.ScanEntry.{ScanEntry}
use Rattle.terms.specs.declared.Refusal.{Refusal}
use Rattle.words.specs.Words.{words}
use Rattle.layout.specs.declared.Sizes.{Sizes}
use Rattle.layout.specs.View.{View, lay}
use Rattle.layout.proofs.Lay.{lay_view}
use Rattle.history.specs.History.{Call, begin, insert, update, delete, commit, abort, latest, read_at, own_read, open_scan, scan_read, sum, close, merge, release, page_cell, lineage, crossings, begin_as, keeper_at, move, Verdict, accept, refuse, verdict, answer_if, slice_of, lent_to, stamps_if}
use Rattle.history.proofs.Lists.{by_test, is_true, parts}
use Rattle.history.specs.Forms.{FormUse, either, newest, moving, form_use, works_on}
use Rattle.facts.specs.Usable.{stored_shape, stored_form, stored_sizes, usable}
use Rattle.facts.proofs.Usable.{usable_tells}
use Rattle.model.specs.Reading.{shown_in, read_in, read_current, keeper_in, sum_in, visible_in}
use Rattle.model.specs.Calls.{tests_in, reply_in, view_if, entries_if, say, view_next, store_next, entries_next, stamps_next}
use Rattle.promise.specs.Promise.{Lent, lend, store_view, second_of, room_for, admits, laid_into, second_after, answer_of, memory_after, list_after, stamps_left}
use Rattle.promise.specs.Demands.{RefusedKeeps}

-- no accepted call answers a refusal
read_not : (b : Bool) (a : Answer) → is_refused a ≡ false → is_refused (cond b a (Ok Fields.None)) ≡ false
read_not true a e = e
read_not false a e = refl

pub not_refused : (S : Shape) (v : View) (ps : List ScanEntry) (c : Call) → is_refused (reply_in S v ps c) ≡ false
unfolding reply_in read_current read_in shown_in keeper_in sum_in
not_refused S v ps begin = refl
not_refused S v ps (insert t vs) = refl
not_refused S v ps (update t r m vs) = refl
not_refused S v ps (delete t r) = refl
not_refused S v ps (commit t s) = refl
not_refused S v ps (abort t) = refl
not_refused S v ps (latest r c) = read_not (visible_in S v _ r) _ refl
not_refused S v ps (read_at s r c) = read_not (visible_in S v _ r) _ refl
not_refused S v ps (own_read t r c) = read_not (visible_in S v _ r) _ refl
not_refused S v ps (open_scan s) = refl
not_refused S v ps (scan_read k r c) = read_not (visible_in S v _ r) _ refl
not_refused S v ps (sum k c) = refl
not_refused S v ps (close k) = refl
not_refused S v ps (merge g c n) = refl
not_refused S v ps release = refl
not_refused S v ps (page_cell c r) = refl
not_refused S v ps (lineage g c) = refl
not_refused S v ps (crossings r c mark from to stamps) = refl
not_refused S v ps (begin_as k) = refl
not_refused S v ps (move to second) = refl
not_refused S v ps (keeper_at s r c) = read_not (visible_in S v _ r) _ refl

-- so an answer that is a refusal is the verdict's
pub refused_by : (S : Shape) (v : View) (ps : List ScanEntry) (c : Call) (w : Verdict) {n : Refusal} → answer_if w (reply_in S v ps c) ≡ Err n → w ≡ refuse n
unfolding answer_if
refused_by S v ps c accept e = absurd (true≢false (sym (ap is_refused e) ∙ not_refused S v ps c))
refused_by S v ps c (refuse r) e = cc

-- a call that is admitted is lent a usable memory
pub admitted_usable : (x : Lent) (c : Call) → T (admits x c) → usable x.memory x.list ≡ true
unfolding admits
admitted_usable x c t =
    let m = x.memory in
    let f = parts (works_on c (stored_form (words m))) (room_for (form_use c) (stored_shape (words m)) (second_of c) && usable m x.list) t in
    is_true (usable m x.list) (parts (room_for (form_use c) (stored_shape (words m)) (second_of c)) (usable m x.list) f.1).1

-- and lays nothing in a second memory if it is refused
unlaid : (u : FormUse) (S : Shape) (v : View) (l : List ℕ) → laid_into u false S v l ≡ l
unlaid either S v l = refl
unlaid newest S v l = refl
unlaid (moving to) S v l = refl

pub refused_keeps : RefusedKeeps
unfolding RefusedKeeps answer_of memory_after list_after stamps_left second_after say view_next entries_next stamps_next view_if entries_if stamps_if answer_if store_view
refused_keeps m ps c n b =
    by_test (λ u. cond u (say S v ps c) (Err Refusal.Memory) ≡ Err n
    → (cond u (lay s (view_next S v ps c) m) m ≡ m) × (cond u (entries_next S v ps c) ps ≡ ps) × (cond u (stamps_next S v ps c) (lent_to (slice_of c)) ≡ lent_to (slice_of c))
    × (cond u (laid_into (form_use c) (is_accepted (say S v ps c)) S (store_next S v ps c) (second_of c)) (second_of c) ≡ second_of c)) (admits (lend m ps) c)
    (λ t e. rw (refused_by S v ps c (verdict (tests_in S v ps c)) e) (lay_view s m b (usable_tells m ps (admitted_usable (lend m ps) c t)).room, refl, refl, unlaid (form_use c) S (store_next S v ps c) (second_of c))) (λ _ e. (refl, refl, refl, refl))
  where
    S : Shape
    S = stored_shape (words m)

    s : Sizes
    s = stored_sizes (words m)

    v : View
    v = store_view m
