-- What an accepted move promises of every memory: the second memory has the store in the form moved to, its facts hold again, and there and back is the memory that was.
use Prim.Native.Nat.{ℕ, zero, suc, ◌+◌, ◌*◌, ◌≤◌, ◌<◌}
use mathlib.Core.Path.{◌≡◌, refl, ap, sym, ◌∙◌, subst, fun_ext}
use mathlib.Core.Logic.{◌≢◌}
use mathlib.Core.Bool.{Bool, true, false, not, cond, ◌&&◌, and-false, true≢false}
use mathlib.Core.List.{List, map}
use native.Mathlib.Omega.{arith}
use native.Mathlib.Nat.{zero-add}
use lib.Dec.{T, leb, leb→le, eqb}
use lib.ListN.{length, get_or, take, drop, replicate}
use lib.Seq.{take_at, drop_at}
use borrow.Author.Tests.{le-leb, eqb-true}
use Rattle.terms.specs.Measures.{range_rows, most_columns, most_scans, most_transactions}
use Rattle.terms.specs.declared.Shape.{Shape}
use Rattle.terms.specs.Refusals.{is_refused, is_accepted}
use Rattle.std.specs.Prelude.{Ok, Err}
use Rattle.terms.specs.declared.Fields.{Fields}
use Rattle.terms.specs.declared.Form.{Form}
use Rattle.terms.specs.declared.ScanEntry.{ScanEntry}
use Rattle.terms.specs.declared.Refusal.{Refusal}
use Rattle.words.specs.Words.{words, bytes, Bytes}
use Rattle.words.proofs.Words.{length_words, bytes_words}
use Rattle.loops.proofs.Change.{zeros}
use Rattle.loops.proofs.Search.{and_true}
use Rattle.layout.specs.declared.Sizes.{Sizes}
use Rattle.layout.specs.declared.Region.TheVariants.{Header, Opens}
use Rattle.layout.specs.Cut.{join}
use Rattle.layout.specs.Regions.{all, need, base, columns_at, ranges_at, capacity_at, spares_at, rows_at, transactions_at, scans_at, stamp_at, merges_at, commits_at, columns_word, columns_in, form_said, form_in, header_words}
use Rattle.layout.specs.Sizes.{sizes_of, bytes_needed}
use Rattle.layout.specs.View.{View, put, renew, rows_given, used_in, view_of, lay, Long}
use Rattle.layout.specs.Moved.{later_zero, moved}
use Rattle.layout.proofs.View.{view_at, view_long, view_join}
use Rattle.layout.proofs.Lay.{view_lay, view_fits}
use Rattle.layout.proofs.Limits.{proper}
use Rattle.layout.proofs.Parts.{lay_length, lay_past, laid_long}
use Rattle.layout.proofs.Moved.{moved_columns, moved_header, columns_fit, columns_said, form_known_lem, form_said_lem, moved_long, moved_fits, moved_back}
use Rattle.history.specs.History.{Call, move, Verdict, accept, refuse, verdict, answer_if}
use Rattle.history.specs.Forms.{works_on, is_form, other_form}
use Rattle.history.proofs.Lists.{clash, by_test, is_true, parts}
use Rattle.facts.specs.Facts.{facts_hold, each, counts_within, stored_within, records_name_rows, range_names_rows, row_named, numbers_given, rows_between, range_between, links_hold, row_linked, link_holds, range_linked, record_linked, stamps_within, current_at_most, waiting_at_most, merges_within, commits_within, open_differ, chunks_current, chunk_current, lineages_within, current_lineage, waiting_lineage}
use Rattle.facts.specs.Usable.{measures_bytes, measures_hold, stored_shape, stored_form, stored_sizes, usable}
use Rattle.facts.proofs.Usable.{UsableMemory, usable_tells}
use Rattle.model.specs.Stored.{any_below, row_keeper, record_keeper}
use Rattle.model.proofs.changes.Moved.{moved_from_first}
use Rattle.model.specs.Calls.{tests_in, move_tests_in, bears_keeper, keeper_borne_in, reply_in, view_if, act_in, store_act, say, store_next}
use Rattle.promise.specs.Promise.{Lent, lend, store_view, admits, answer_of, second_after}
use Rattle.promise.specs.Footprint.{MakingWithin, MoveChangesOnly}
use Rattle.promise.specs.Demands.{ThereAndBack}

-- the shape that a memory says
abbrev shape : List ℕ → Shape
shape m = stored_shape (words m)

-- to the form F of a store that a move admits
pub record Moving (F : Form) (m : List ℕ) (ps : List ScanEntry) (second : List ℕ) : Type 0 where
  pub holds : usable m ps ≡ true
  pub tells : UsableMemory m ps
  pub other : T (is_form (other_form F) (stored_form (words m)))
  pub room : bytes_needed F (stored_shape (words m)) ≤ length second

module _ (F : Form) (m : List ℕ) (ps : List ScanEntry) (second : List ℕ) where
  abbrev S : Shape
  S = stored_shape (words m)

  abbrev v : View
  v = view_of (sizes_of (stored_form (words m)) (stored_shape (words m))) m

  pub admits_tells : T (admits (lend m ps) (move F second)) → Moving F m ps second
  unfolding admits
  admits_tells t =
      let a = parts (works_on (move F second) (stored_form (words m))) (leb (bytes_needed F S) (length second) && usable m ps) t in
      let b = parts (leb (bytes_needed F S) (length second)) (usable m ps) a.1 in
      let u = is_true (usable m ps) b.1 in
      record { holds = u; tells = usable_tells m ps u; other = a.0; room = leb→le (bytes_needed F S) (length second) b.0 }

  module _ (t : Moving F m ps second) where
    seen_long : Long (sizes_of (stored_form (words m)) (stored_shape (words m))) v
    unfolding stored_sizes
    seen_long = view_long (sizes_of (stored_form (words m)) S) (words m) (omega (arith, length_words m, t.tells.room))

    pub left_long : Long (sizes_of F S) (moved F S v)
    left_long = moved_long (stored_form (words m)) F S v seen_long

-- ---- no byte past the need
pub move_changes_only : MoveChangesOnly
unfolding MoveChangesOnly MakingWithin second_after store_view stored_sizes bytes_needed say store_next
move_changes_only F m ps second =
    by_test (λ u. MakingWithin F S' second (cond u (cond (is_accepted (say S' w ps c)) (lay (sizes_of F S') (store_next S' w ps c) second) second) second)) (admits (lend m ps) c)
    (λ t. by_verdict (verdict (tests_in S' w ps c)) (admits_tells F m ps second t)) (λ _. same)
  where
    c : Call
    c = move F second

    S' : Shape
    S' = stored_shape (words m)

    w : View
    w = store_view m

    same : MakingWithin F S' second second
    same = (refl, λ i b. refl)

    by_verdict : (z : Verdict) → Moving F m ps second
        → MakingWithin F S' second (cond (is_accepted (answer_if z (reply_in S' w ps (move F second)))) (lay (sizes_of F S') (view_if z w (store_act S' w ps (move F second))) second) second)
    by_verdict accept t = unfold answer_if view_if reply_in act_in in
        (lay_length (sizes_of F S') (moved F S' _) (left_long F m ps second t) second t.room, λ i b. lay_past (sizes_of F S') (moved F S' _) (left_long F m ps second t) second i b)
    by_verdict (refuse n) t = unfold answer_if in same

-- ---- the facts hold in the form moved to as they did: they speak of regions that both forms have, and of counts
module _ (f : Form) (F : Form) (S : Shape) (v : View) (ps : List ScanEntry) where
  names_same : records_name_rows (sizes_of F S) (moved F S v) ≡ records_name_rows (sizes_of f S) v
  unfolding moved later_zero put renew records_name_rows range_names_rows row_named
  names_same = ap (each S.ranges) (fun_ext (λ g. ap (each (used_in v g)) (fun_ext (λ i. rw (moved_header F S v rows_at (λ e. omega arith))))))

  facts_same : facts_hold (sizes_of F S) (moved F S v) ps ≡ facts_hold (sizes_of f S) v ps
  unfolding moved later_zero put renew facts_hold counts_within stored_within numbers_given rows_between range_between links_hold row_linked link_holds range_linked record_linked stamps_within current_at_most waiting_at_most merges_within commits_within open_differ chunks_current chunk_current lineages_within current_lineage waiting_lineage
  facts_same =
      rw (names_same, moved_header F S v rows_at (λ e. omega arith), moved_header F S v transactions_at (λ e. omega arith), moved_header F S v scans_at (λ e. omega arith), moved_header F S v stamp_at (λ e. omega arith), moved_header F S v merges_at (λ e. omega arith), moved_header F S v commits_at (λ e. omega arith))

-- they are part of what makes a memory usable
usable_facts : (m : List ℕ) (ps : List ScanEntry) → usable m ps ≡ true → facts_hold (stored_sizes (words m)) (view_of (stored_sizes (words m)) m) ps ≡ true
unfolding usable
usable_facts m ps e =
    let a = and_true (leb measures_bytes (length m)) _ e in
    let b = and_true (measures_hold (words m)) _ a.1 in
    let c = and_true (leb (need (stored_sizes (words m)) * 4) (length m)) _ b.1 in
    (and_true (leb most_scans (length ps)) _ c.1).1

-- ---- what is laid: the bytes needed are the view's, and the others are as they were
module _ (s : Sizes) (v : View) (long : Long s v) (l : List ℕ) where
  laid_front : take (need s * 4) (lay s v l) ≡ bytes (join (map v all))
  unfolding lay
  laid_front = take_at (bytes (join (map v all))) (drop (need s * 4) l) (need s * 4) (laid_long s v long)

  laid_rest : drop (need s * 4) (lay s v l) ≡ drop (need s * 4) l
  unfolding lay
  laid_rest = drop_at (bytes (join (map v all))) (drop (need s * 4) l) (need s * 4) (laid_long s v long)

-- what was seen of a memory, laid over another: the bytes needed are the memory's
laid_seen : (s : Sizes) (m l : List ℕ) → Bytes m → need s * 4 ≤ length m → take (need s * 4) (lay s (view_of s m) l) ≡ take (need s * 4) m
laid_seen s m l b h =
    laid_front s (view_of s m) (view_long s (words m) (omega (arith, length_words m))) l ∙ ap bytes (view_join s (words m)) ∙ bytes_words (need s) m b h

-- ---- a move that is done was admitted
done_admits : (x : Lent) (c : Call) → answer_of x c ≡ Ok Fields.Done → T (admits x c)
unfolding answer_of
done_admits x c =
    by_test (λ u. cond u (say (shape x.memory) (store_view x.memory) x.list c) (Err Refusal.Memory) ≡ Ok Fields.Done → T u) (admits x c)
    (λ _ _. tt) (λ _ e. absurd (true≢false (ap is_refused e)))

-- and one that is admitted and passes its tests is done, and lays the view moved
module _ (F : Form) (m : List ℕ) (ps : List ScanEntry) (second : List ℕ) (t : T (admits (lend m ps) (move F second))) (passed : verdict (move_tests_in F (shape m) (store_view m)) ≡ accept) where
  move_done : answer_of (lend m ps) (move F second) ≡ Ok Fields.Done
  unfolding answer_of say tests_in answer_if reply_in
  move_done = rw (is_true (admits (lend m ps) (move F second)) t, passed)

  move_lays : second_after (lend m ps) (move F second) ≡ lay (sizes_of F (shape m)) (moved F (shape m) (store_view m)) second
  unfolding second_after say store_next tests_in answer_if reply_in view_if act_in
  move_lays = rw (is_true (admits (lend m ps) (move F second)) t, passed)

-- ---- right after a move to the newest form no keeper is borne: each of their words is 0
none_below : (f : ℕ → Bool) (n : ℕ) → ((i : ℕ) → f i ≡ false) → any_below f n ≡ false
unfolding any_below
none_below f zero e = refl
none_below f (suc n) e = rw (none_below f n e, e n)

no_keeper : (S : Shape) (v : View) → keeper_borne_in S (moved Form.Newest S v) ≡ false
unfolding keeper_borne_in moved later_zero put renew row_keeper record_keeper
no_keeper S v =
    rw (
      none_below (λ r. bears_keeper (get_or (replicate (S.ranges * range_rows) 0) r 0)) (rows_given (moved Form.Newest S v)) (λ r. rw (zeros (S.ranges * range_rows) r)),
      none_below (λ g. any_below (λ i. bears_keeper (get_or (replicate (S.ranges * S.capacity) 0) (g * S.capacity + i) 0)) (used_in v g)) S.ranges
          (λ g. none_below _ (used_in v g) (λ i. rw (zeros (S.ranges * S.capacity) (g * S.capacity + i)))),
    )
    (none_below _ most_transactions (λ j. rw (zeros most_transactions j) (and-false (not (eqb (get_or (v Opens) j 0) 0)))))

-- ---- the memory that a move leaves: of the same shape, in the form moved to, and usable with the same list
-- the header's words are the first ones
header_at : (s : Sizes) (l : List ℕ) (i : ℕ) → i < header_words → get_or (words l) i 0 ≡ get_or (view_of s l Header) i 0
unfolding base
header_at s l i b = sym (rw (zero-add i) at (view_at s (words l) Header i b))

module _ {F : Form} {m : List ℕ} {ps : List ScanEntry} {second : List ℕ} (fits : Bytes m) (t : Moving F m ps second) where
  few : (shape m).columns ≤ most_columns
  few = (proper F (shape m) t.tells.within).columns_to

  here_long : Long (sizes_of (stored_form (words m)) (shape m)) (store_view m)
  unfolding store_view stored_sizes
  here_long = seen_long F m ps second t

  there_long : Long (sizes_of F (shape m)) (moved F (shape m) (store_view m))
  unfolding store_view stored_sizes
  there_long = left_long F m ps second t

  abbrev there : List ℕ
  there = lay (sizes_of F (shape m)) (moved F (shape m) (store_view m)) second

  there_view : view_of (sizes_of F (shape m)) there ≡ moved F (shape m) (store_view m)
  unfolding store_view
  there_view =
      view_lay (sizes_of F (shape m)) _ second there_long (moved_fits F (shape m) (store_view m) (columns_fit F (shape m).columns few) (view_fits (stored_sizes (words m)) m fits))

  -- its columns' word says the form, and the other words of its header are as they were
  there_word : get_or (words there) columns_at 0 ≡ columns_word F (shape m).columns
  there_word =
      header_at (sizes_of F (shape m)) there columns_at (omega arith)
      ∙ ap (λ (w : View). get_or (w Header) columns_at 0) there_view
      ∙ moved_columns F (shape m) (store_view m) (omega (arith, here_long Header))

  there_header : (i : ℕ) → i ≢ columns_at → i < header_words → get_or (words there) i 0 ≡ get_or (words m) i 0
  unfolding store_view
  there_header i n b =
      header_at (sizes_of F (shape m)) there i b
      ∙ ap (λ (w : View). get_or (w Header) i 0) there_view
      ∙ moved_header F (shape m) (store_view m) i n
      ∙ sym (header_at (stored_sizes (words m)) m i b)

  there_shape : shape there ≡ shape m
  unfolding stored_shape
  there_shape =
      rw (there_word, columns_said F (shape m).columns few, there_header ranges_at (λ e. omega arith) (omega arith), there_header capacity_at (λ e. omega arith) (omega arith), there_header spares_at (λ e. omega arith) (omega arith))

  there_form : stored_form (words there) ≡ F
  unfolding stored_form
  there_form = rw there_word (form_said_lem F (shape m).columns few)

  there_seen : store_view there ≡ moved F (shape m) (store_view m)
  unfolding store_view stored_sizes
  there_seen = rw (there_form, there_shape) there_view

  there_room : need (sizes_of F (shape m)) * 4 ≤ length there
  unfolding bytes_needed
  there_room = omega (arith, lay_length (sizes_of F (shape m)) (moved F (shape m) (store_view m)) there_long second t.room, t.room)

  there_facts : facts_hold (sizes_of F (shape m)) (moved F (shape m) (store_view m)) ps ≡ true
  unfolding store_view stored_sizes
  there_facts = facts_same (stored_form (words m)) F (shape m) (store_view m) ps ∙ usable_facts m ps t.holds

  there_usable : usable there ps ≡ true
  unfolding usable measures_hold stored_sizes need
  there_usable =
      rw (
        there_word,
        form_known_lem F (shape m).columns few,
        there_form,
        there_shape,
        t.tells.within,
        le-leb measures_bytes (length there) (omega (arith, there_room)),
        le-leb (need (sizes_of F (shape m)) * 4) (length there) there_room,
        le-leb most_scans (length ps) t.tells.entries,
        there_view,
      )
      there_facts

-- ---- there and back
-- a columns' word that says the first form is the columns alone
first_word : (w : ℕ) → form_in w ≡ Form.First → w ≡ columns_word Form.First (columns_in w)
first_word w =
    by_test (λ b. eqb (form_said w) 1 ≡ b → cond b Form.First Form.Newest ≡ Form.First → w ≡ columns_word Form.First (columns_in w)) (eqb (form_said w) 1)
    (λ _ q _. let e : form_said w ≡ 1 = eqb-true (form_said w) 1 q in omega arith) (λ _ _ e. clash cc) refl

module _ {m second : List ℕ} {ps : List ScanEntry} (fits : Bytes m) (t : Moving Form.Newest m ps second) where
  was_first : stored_form (words m) ≡ Form.First
  was_first = moved_from_first (stored_form (words m)) t.other

  first_sizes : stored_sizes (words m) ≡ sizes_of Form.First (shape m)
  unfolding stored_sizes
  first_sizes = rw was_first

  first_long : Long (sizes_of Form.First (shape m)) (store_view m)
  first_long = rw was_first at (here_long fits t)

  view_back : moved Form.First (shape m) (moved Form.Newest (shape m) (store_view m)) ≡ store_view m
  unfolding store_view stored_form stored_shape
  view_back = moved_back (shape m) (store_view m) first_long (sym (header_at (stored_sizes (words m)) m columns_at (omega arith)) ∙ first_word (get_or (words m) columns_at 0) was_first)

  -- the move back, into a memory of the bytes needed
  module _ (third : List ℕ) (room : bytes_needed Form.First (shape m) ≤ length third) where
    back_admitted : T (admits (lend (there fits t) ps) (move Form.First third))
    unfolding admits
    back_admitted = rw (there_form fits t, there_shape fits t, there_usable fits t, le-leb (bytes_needed Form.First (shape m)) (length third) room) tt

    back_passed : verdict (move_tests_in Form.First (shape (there fits t)) (store_view (there fits t))) ≡ accept
    unfolding verdict move_tests_in
    back_passed = rw (there_shape fits t, there_seen fits t, no_keeper (shape m) (store_view m))

    back_done : answer_of (lend (there fits t) ps) (move Form.First third) ≡ Ok Fields.Done
    back_done = move_done Form.First (there fits t) ps third back_admitted back_passed

    back_lays : second_after (lend (there fits t) ps) (move Form.First third) ≡ lay (sizes_of Form.First (shape m)) (store_view m) third
    back_lays = move_lays Form.First (there fits t) ps third back_admitted back_passed ∙ rw (there_shape fits t, there_seen fits t, view_back)

    back_front : take (bytes_needed Form.First (shape m)) (lay (sizes_of Form.First (shape m)) (store_view m) third) ≡ take (bytes_needed Form.First (shape m)) m
    unfolding bytes_needed store_view
    back_front =
        subst (λ (s : Sizes). take (need s * 4) (lay s (store_view m) third) ≡ take (need s * 4) m) first_sizes (laid_seen (stored_sizes (words m)) m third fits t.tells.room)

    back_rest : drop (bytes_needed Form.First (shape m)) (lay (sizes_of Form.First (shape m)) (store_view m) third) ≡ drop (bytes_needed Form.First (shape m)) third
    unfolding bytes_needed
    back_rest = laid_rest (sizes_of Form.First (shape m)) (store_view m) first_long third

pub there_and_back : ThereAndBack
unfolding ThereAndBack bytes_needed move_tests_in verdict
there_and_back m second third ps fits e =
    let a = done_admits (lend m ps) (move Form.Newest second) e in
    let t = admits_tells Form.Newest m ps second a in
    rw (move_lays Form.Newest m ps second a refl)
    (laid_rest (sizes_of Form.Newest (shape m)) _ (there_long fits t) second, λ room. rw (back_lays fits t third room) (back_done fits t third room, back_front fits t third room, back_rest fits t third room))
