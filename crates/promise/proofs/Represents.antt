-- Every call keeps a lent memory and scan list representing a history of a shape (specs/Represents.antt), and has the outcome that the history has.
use Prim.Native.Nat.{ℕ, ◌+◌, ◌*◌, ◌≤◌, ◌<◌}
use mathlib.Core.Path.{◌≡◌, refl, ap, sym, ◌∙◌, fun_ext}
use mathlib.Core.Bool.{true, false, cond}
use mathlib.Core.List.{List, map}
use native.Mathlib.Omega.{arith}
use native.Mathlib.Nat.{zero-add}
use lib.Dec.{T, leb→le}
use lib.ListN.{length, get_or, drop, length-append, length-drop}
use borrow.Author.Tests.{le-leb}
use Rattle.terms.specs.Measures.{within_limits, most_scans}
use Rattle.terms.specs.declared.Shape.{Shape}
use Rattle.terms.specs.Refusals.{is_accepted}
use Rattle.terms.specs.declared.Form.{Form}
use Rattle.terms.specs.declared.Refusal.{Refusal}
use Rattle.terms.specs.declared.ScanEntry.{ScanEntry}
use Rattle.words.specs.Words.{words, bytes}
use Rattle.words.proofs.Words.{length_bytes}
use Rattle.layout.specs.declared.Sizes.{Sizes}
use Rattle.layout.specs.declared.Region.{Region}
use Rattle.layout.specs.declared.Region.TheVariants.{Header}
use Rattle.layout.specs.Cut.{join, end_from}
use Rattle.layout.specs.Regions.{columns_word, columns_at, all, lens, need, base, header_words}
use Rattle.layout.specs.Sizes.{sizes_of, bytes_needed}
use Rattle.layout.specs.View.{View, lay, Long, view_of, Suffices}
use Rattle.layout.proofs.Cut.{join_length}
use Rattle.layout.proofs.View.{view_at}
use Rattle.layout.proofs.Lay.{view_lay}
use Rattle.layout.proofs.Moved.{columns_said, form_known_lem, form_said_lem}
use Rattle.history.specs.Forms.{FormUse, either, newest, moving, form_use, works_on, form_if, form_next, Suited}
use Rattle.history.proofs.Lists.{is_true}
use Rattle.history.specs.History.{Call, History, Verdict, accept, refuse, verdict, tests, start, answer, answer_if, next_if, outcomes, stamps_after, next}
use Rattle.history.specs.Lists.{All, nil, cons}
use Rattle.history.proofs.Invariants.{invariants_start}
use Rattle.facts.specs.Usable.{measures_bytes, measures_hold, stored_shape, stored_form, stored_sizes, usable}
use Rattle.making.specs.Made.{made_list}
use Rattle.model.specs.Writing.{made_view}
use Rattle.model.specs.Calls.{Typed, tests_in, view_if, entries_if, say, view_next, store_next, entries_next, stamps_next}
use Rattle.model.specs.Represents.{Represents, WellFormed, SameCall}
use Rattle.model.proofs.Calls.{agree_verdict, tests_agree, one_call}
use Rattle.model.proofs.Made.{small_shape, made_represents}
use Rattle.promise.specs.Represents.{MemoryRepresents}
use Rattle.promise.specs.Promise.{store_view, second_of, room_for, admits, answer_of, memory_after, list_after, stamps_left, laid_into, second_after, store_of, left_by, outcomes_of, lend}
use Rattle.promise.proofs.Stored.{represented_facts}
use Rattle.promise.proofs.Refused.{not_refused}

-- ---- what is laid is as long as it was
pub lay_length : (s : Sizes) (v : View) (m : List ℕ) → Long s v → Suffices s m → length (lay s v m) ≡ length m
unfolding lay need
lay_length s v m long room =
    let j : 0 + length (join (map v all)) ≡ end_from 0 (lens s) = join_length 0 (map v all) ∙ ap (λ (f : Region → ℕ). end_from 0 (map f all)) (fun_ext long) in
    length-append (bytes (join (map v all))) (drop (end_from 0 (lens s) * 4) m)
    ∙ omega (arith, length_bytes (join (map v all)), length-drop (end_from 0 (lens s) * 4) m)

-- a view that represents a history, laid over a memory, is that memory's view
pub laid : (F : Form) (S : Shape) (v : View) (m : List ℕ) (ps : List ScanEntry) (h : History) → within_limits S ≡ true → bytes_needed F S ≤ length m → WellFormed S h → Represents F S v ps h
    → MemoryRepresents (lay (sizes_of F S) v m) ps F S h × (view_of (sizes_of F S) (lay (sizes_of F S) v m) ≡ v)
unfolding bytes_needed
laid F S v m ps h w b k o =
    let e = view_lay (sizes_of F S) v m o.whole.long o.whole.fits in
    (record { within = w; room = rw (lay_length (sizes_of F S) v m o.whole.long b) b; well_formed = k; shown = rw e o }, e)

-- ---- making
pub made_starts : (F : Form) (S : Shape) (m : List ℕ) (ps : List ScanEntry) → within_limits S ≡ true → bytes_needed F S ≤ length m → most_scans ≤ length ps
    → MemoryRepresents (lay (sizes_of F S) (made_view F S) m) (made_list ps) F S start
made_starts F S m ps w b n =
    let small = small_shape S (rw w tt) in
    (laid F S (made_view F S) m (made_list ps) start w b record { small = small; invariants = invariants_start S }
    (made_represents F S small (length ps) n)).0

-- ---- a memory that represents a history
module _ {m : List ℕ} {ps : List ScanEntry} {F : Form} {S : Shape} {h : History} (o : MemoryRepresents m ps F S h) where
  header_at : (i : ℕ) → i < header_words → get_or (words m) i 0 ≡ get_or (view_of (sizes_of F S) m Header) i 0
  unfolding base
  header_at i b = sym (rw (zero-add i) at (view_at (sizes_of F S) (words m) Header i b))

  -- the word of the columns: it has them, and the form
  word_said : get_or (words m) columns_at 0 ≡ columns_word F S.columns
  word_said = header_at 0 (omega arith) ∙ o.shown.header.columns

  pub shape_said : stored_shape (words m) ≡ S
  unfolding stored_shape
  shape_said =
      let x = o.shown.header in
      rw (word_said, columns_said F S.columns o.well_formed.small.columns, header_at 1 (omega arith) ∙ x.ranges, header_at 2 (omega arith) ∙ x.capacity, header_at 3 (omega arith) ∙ x.spares)

  pub form_is : stored_form (words m) ≡ F
  unfolding stored_form
  form_is = rw word_said (form_said_lem F S.columns o.well_formed.small.columns)

  measures_there : measures_bytes ≤ length m
  unfolding bytes_needed need
  measures_there = omega (arith, o.room)

  pub represents_usable : usable m ps ≡ true
  unfolding usable measures_hold stored_sizes bytes_needed
  represents_usable =
      rw (
        word_said,
        form_known_lem F S.columns o.well_formed.small.columns,
        form_is,
        shape_said,
        o.within,
        le-leb measures_bytes (length m) measures_there,
        le-leb (need (sizes_of F S) * 4) (length m) o.room,
        le-leb most_scans (length ps) o.shown.scans.room,
      )
      (represented_facts o.shown o.well_formed o.within)

  abbrev seen : View
  seen = view_of (sizes_of F S) m

  pub view_is : store_view m ≡ seen
  unfolding store_view stored_sizes
  view_is = rw (form_is, shape_said)

  -- ---- a call that works on the form, with room in the second memory if it is a move
  module _ (c : Call) (works : T (works_on c F)) (roomy : T (room_for (form_use c) S (second_of c))) where
    admitted : admits (lend m ps) c ≡ true
    unfolding admits
    admitted = rw (form_is, shape_said, is_true (works_on c F) works, is_true (room_for (form_use c) S (second_of c)) roomy, represents_usable)

    -- what is promised of it, by the shape that the memory says and its view
    by_admitted : {A : Type 0} (f : Shape → View → A) (z : A) → cond (admits (lend m ps) c) (f (stored_shape (words m)) (store_view m)) z ≡ f S seen
    by_admitted f z = rw (admitted, shape_said, view_is)

    pub answer_is : answer_of (lend m ps) c ≡ say S seen ps c
    unfolding answer_of
    answer_is = by_admitted (λ p v. say p v ps c) _

    pub memory_is : memory_after (lend m ps) c ≡ lay (sizes_of F S) (view_next S seen ps c) m
    unfolding memory_after stored_sizes
    memory_is = by_admitted (λ p v. lay (sizes_of (stored_form (words m)) p) (view_next p v ps c) m) _ ∙ rw form_is

    pub list_is : list_after (lend m ps) c ≡ entries_next S seen ps c
    unfolding list_after
    list_is = by_admitted (λ p v. entries_next p v ps c) _

    pub stamps_are : stamps_left (lend m ps) c ≡ stamps_next S seen ps c
    unfolding stamps_left
    stamps_are = by_admitted (λ p v. stamps_next p v ps c) _

    pub second_is : second_after (lend m ps) c ≡ laid_into (form_use c) (is_accepted (say S seen ps c)) S (store_next S seen ps c) (second_of c)
    unfolding second_after
    second_is = by_admitted (λ p v. laid_into (form_use c) (is_accepted (say p v ps c)) p (store_next p v ps c) (second_of c)) _

    -- one call: it answers as the history does, fills its slice alike, and the store that it leaves represents the history after it
    module _ (y : Typed c) where
      one : SameCall F S seen ps h c
      one = one_call F S seen ps h c y works o.shown o.well_formed

      same : verdict (tests_in S seen ps c) ≡ verdict (tests S h c)
      same = agree_verdict (tests_agree o.shown o.well_formed c)

      -- what the store is afterwards, by what the call is to the forms
      Kept : List ℕ → Type 0
      Kept l = MemoryRepresents l (entries_next S seen ps c) (form_next S h c F) S (next S h c) × (view_of (sizes_of (form_next S h c F) S) l ≡ store_next S seen ps c)

      refused_move : (to : Form) → form_use c ≡ moving to → (n : Refusal) → verdict (tests S h c) ≡ refuse n → Kept m
      unfolding Kept form_next form_if store_next view_if entries_next entries_if next next_if
      refused_move to e n q = rw (e, q, same, q) (o, refl)

      store_kept : (u : FormUse) → form_use c ≡ u
          → Kept (store_of u (is_accepted (say S seen ps c)) m (lay (sizes_of F S) (view_next S seen ps c) m) (laid_into u (is_accepted (say S seen ps c)) S (store_next S seen ps c) (second_of c)))
      unfolding Kept form_next form_if store_next view_next view_if
      store_kept either e = rw e (laid F S (view_next S seen ps c) m (entries_next S seen ps c) (next S h c) o.within o.room one.well_formed (rw e at one.shown))
      store_kept newest e = rw e (laid F S (view_next S seen ps c) m (entries_next S seen ps c) (next S h c) o.within o.room one.well_formed (rw e at one.shown))
      store_kept (moving to) e = go (verdict (tests S h c)) refl
        where
          go : (w : Verdict) → verdict (tests S h c) ≡ w
              → Kept (cond (is_accepted (say S seen ps c)) (cond (is_accepted (say S seen ps c)) (lay (sizes_of to S) (store_next S seen ps c) (second_of c)) (second_of c)) m)
          go accept q =
              rw (e, q, accepted_say q)
              (laid to S _ (second_of c) (entries_next S seen ps c) (next S h c) o.within (leb→le (bytes_needed to S) (length (second_of c)) (rw e at roomy)) one.well_formed (rw (e, q) at one.shown))
            where
              accepted_say : verdict (tests S h c) ≡ accept → is_accepted (say S seen ps c) ≡ true
              accepted_say q = unfold say answer_if in (rw (same, q, not_refused S seen ps c))
          go (refuse n) q = unfold Kept form_next store_next in (rw (refused_say q) (refused_move to e n q))
            where
              refused_say : verdict (tests S h c) ≡ refuse n → is_accepted (say S seen ps c) ≡ false
              refused_say q = unfold say answer_if in (rw (same, q))

      kept : Kept (left_by (lend m ps) c).memory
      kept = rw (answer_is, memory_is, second_is) (store_kept (form_use c) refl)

      -- what the next call sees is what the model says of it
      pub store_seen : view_of (sizes_of (form_next S h c F) S) (left_by (lend m ps) c).memory ≡ store_next S seen ps c
      unfolding Kept
      store_seen = kept.1

      pub represents_call : (answer_of (lend m ps) c ≡ answer S h c) × MemoryRepresents (left_by (lend m ps) c).memory (left_by (lend m ps) c).list (form_next S h c F) S (next S h c) × (stamps_left (lend m ps) c ≡ stamps_after S h c)
      unfolding Kept
      represents_call = (answer_is ∙ one.answered, rw list_is kept.0, stamps_are ∙ one.filled)

-- every list of calls that lends as it should
pub represents_outcomes : {m : List ℕ} {ps : List ScanEntry} {F : Form} {S : Shape} {h : History} → MemoryRepresents m ps F S h → {cs : List Call} → All Typed cs → Suited S F h cs → All (λ c. T (room_for (form_use c) S (second_of c))) cs
    → outcomes_of (lend m ps) cs ≡ outcomes S h cs
unfolding outcomes_of outcomes Suited
represents_outcomes o nil s r = refl
represents_outcomes {m = m} {ps = ps} {F = F} {S = S} {h = h} o (cons {x = c} {l = l} y ys) s (cons r rs) =
    let one = represents_call o c s.0 r y in
    rw (represents_outcomes {m = (left_by (lend m ps) c).memory} {ps = (left_by (lend m ps) c).list} {F = form_next S h c F} {h = next S h c} one.1 ys s.1 rs, one.0, one.2)
