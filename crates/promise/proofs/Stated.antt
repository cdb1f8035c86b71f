-- A call is refused with a number exactly if that number's condition is the first of the call's list that applies, and accepted exactly if none applies. On a
-- usable memory the model's Bools say, test by test, what the conditions say, given that those before do not apply.
use mathlib.Core.Path.{◌≡◌, refl, ap, sym, ◌∙◌, subst}
use mathlib.Core.Logic.Iff
use mathlib.Core.Logic.{◌≢◌, ◌⊎◌, inl, inr, ⊎_elim, ◌↔◌}
use mathlib.Core.Bool.{Bool, true, false, not, cond, ◌&&◌, ◌||◌, and-true, true≢false}
use mathlib.Core.List.{List, [], ◌∷◌}
use Prim.Native.Nat.{ℕ, zero, suc, ◌+◌, ◌*◌, ◌/◌, ◌^◌, ◌≤◌, ◌<◌}
use native.Mathlib.Omega.{arith}
use native.Mathlib.Nat.{div-eq-sub-div}
use native.Mathlib.Decide.{ℕ_discrete}
use lib.Dec.{T, T_not, not_T, leb, ltb, eqb, eqb→eq, leb→le, ltb→lt, nleb→lt, nltb→le}
use lib.ListN.{length, get_or}
use lib.Pow.{pow_pos, shr-shr}
use Rattle.terms.specs.Measures.{most_transactions}
use Rattle.terms.specs.declared.Shape.{Shape}
use Rattle.terms.specs.Entries.{free_entry, bears, first_index}
use Rattle.terms.specs.Refusals.{is_refused}
use Rattle.std.specs.Prelude.{Err}
use Rattle.terms.specs.Answers.{Answer}
use Rattle.terms.specs.declared.ScanEntry.{ScanEntry}
use Rattle.terms.specs.declared.Refusal.{Refusal}
use Rattle.terms.specs.declared.Form.{Form}
use Rattle.history.specs.Forms.{FormUse, either, newest, moving, form_use, works_on}
use Rattle.words.specs.Words.{words}
use Rattle.words.proofs.Words.{length_words}
use Rattle.layout.specs.Sizes.{sizes_of, bytes_needed, Proper}
use Rattle.layout.specs.View.{View, rows_given, last_stamp, used_in, view_of}
use Rattle.layout.proofs.View.{view_long}
use Rattle.layout.proofs.Limits.{proper}
use Rattle.layout.specs.declared.Region.TheVariants.{Opens, OpenKeeper}
use Rattle.history.specs.History.{Call, begin, insert, update, delete, commit, abort, latest, read_at, own_read, open_scan, scan_read, sum, close, merge, release, page_cell, lineage, crossings, begin_as, keeper_at, move, Test, ◌when◌, any, count, Verdict, accept, refuse, verdict, answer_if, bit, range_of, bad_mask, no_column, no_range, outnumber}
use Rattle.history.proofs.Lists.{by_cases, by_test, clash, is_true, is_false, refuted, both, parts, or_left, or_right, or_cases, eqb_equal, any_at, both_test, not_test, le_test, eq_test}
use Rattle.history.proofs.Masks.{bit_low}
use Rattle.facts.specs.Usable.{stored_shape, stored_form, stored_sizes, usable}
use Rattle.facts.proofs.Usable.{Usable, usable_tells}
use Rattle.model.specs.Stored.{RecordWords, row_in, record_in, page_in, pages_of, any_below, committed_state, delete_kind, row_keeper, record_keeper}
use Rattle.layout.specs.Regions.{slot}
use Rattle.model.specs.Preconditions.{ChunksCurrent}
use Rattle.model.specs.Writing.{new_bits_in, records_wanted, free_in}
use Rattle.model.specs.Calls.{begin_tests_in, read_at_tests_in, open_in, open_other, stands_for, any_record, not_open_in, no_scan_in, not_given_in, held_in, gone_in, lacks_in, earlier_in, later_in, no_span_in, out_of_reach_in, open_among_in, bears_keeper, keeper_borne_in, move_tests_in, tests_in, reply_in, say}
use Rattle.model.proofs.Lists.{first_below, first_passes, any_count, count_rest, below_found, below_at}
use Rattle.model.proofs.lookups.Heads.{slot_is}
use Rattle.model.proofs.changes.Insert.{bit_none}
use Rattle.model.proofs.changes.Masks.{bit_new, no_bits, below_bits, below_power}
use Rattle.model.proofs.upkeep.Free.{free_none}
use Rattle.promise.specs.Promise.{store_view, second_of, room_for, admits, answer_of}
use Rattle.promise.specs.Stated.{Open, ScanOpen, Committed, Aborted, RecordUpTo, RecordOf, Touched, WrongMask, Held, Gone, Lacks, LacksWanted, transactions_open, OpenUpTo, NoneFree, Bears, KeeperBorne, Clause, ◌on◌, stated_move, TooShort, stated, conditions, First, NoneApplies}
use Rattle.promise.specs.Demands.{Refuses}
use Rattle.promise.proofs.Refused.{refused_by, not_refused}

-- ---- tests that say what clauses say, as far as they are run
data Meets : List Test → List Clause → Type 1 where
  done : Meets [] []
  test : {n : Refusal} {b : Bool} {P : Type 0} {ts : List Test} {cs : List Clause} → T b ↔ P → (¬ P → Meets ts cs) → Meets (n when b ∷ ts) (n on P ∷ cs)

meets_first : {ts : List Test} {cs : List Clause} → Meets ts cs → (n : Refusal) → (verdict ts ≡ refuse n) ↔ First cs n
unfolding verdict
meets_first done n = (λ e. clash (cc), λ f. absurd f)
meets_first (test {n = x} {b} {P} {ts} {cs} e f) n = go b e (λ p. meets_first (f p) n)
  where
    go : (b : Bool) → T b ↔ P → (¬ P → (verdict ts ≡ refuse n) ↔ First cs n) → (cond b (refuse x) (verdict ts) ≡ refuse n) ↔ First (x on P ∷ cs) n
    go true e ih = (λ q. inl (e.0 tt, cc), ⊎_elim (λ q. ap refuse q.1) (λ q. absurd (q.0 (e.0 tt))))
    go false e ih = (λ q. inr (e.1, (ih e.1).0 q), ⊎_elim (λ q. absurd (e.1 q.0)) (λ q. (ih e.1).1 q.1))

meets_none : {ts : List Test} {cs : List Clause} → Meets ts cs → (verdict ts ≡ accept) ↔ NoneApplies cs
unfolding verdict
meets_none done = (λ e. tt, λ f. refl)
meets_none (test {n = x} {b} {P} {ts} {cs} e f) = go b e (λ p. meets_none (f p))
  where
    go : (b : Bool) → T b ↔ P → (¬ P → (verdict ts ≡ accept) ↔ NoneApplies cs) → (cond b (refuse x) (verdict ts) ≡ accept) ↔ NoneApplies (x on P ∷ cs)
    go true e ih = (λ q. clash (cc), λ q. absurd (q.0 (e.0 tt)))
    go false e ih = (λ q. (e.1, (ih e.1).0 q), λ q. (ih e.1).1 q.1)

-- ---- Bools and what they say
same_test : (b : Bool) → T b ↔ T b
same_test b = (λ t. t, λ t. t)

module _ {P : Type 0} where
  or_test : (a b : Bool) {Q : Type 0} → T a ↔ P → T b ↔ Q → T (a || b) ↔ (P ⊎ Q)
  or_test a b e f = (λ t. or_cases a b t (λ x. inl (e.0 x)) (λ x. inr (f.0 x)), ⊎_elim (λ p. or_left a b (e.1 p)) (λ q. or_right a b (f.1 q)))

  and_test : (a b : Bool) {Q : Type 0} → T a ↔ P → (P → T b ↔ Q) → T (a && b) ↔ (P × Q)
  and_test a b e f = (λ t. let z = parts a b t in (e.0 z.0, (f (e.0 z.0)).0 z.1), λ q. both a b (e.1 q.0) ((f q.0).1 q.1))

below_test : (f : ℕ → Bool) (n : ℕ) → T (any_below f n) ↔ ((i : ℕ) × (i < n) × T (f i))
below_test f n = (below_found f n, λ q. below_at f n q.0 q.1 q.2)

-- one of the numbers below n is as P has it
some_test : (f : ℕ → Bool) (P : ℕ → Type 0) (n : ℕ) → ((i : ℕ) → i < n → T (f i) ↔ P i) → T (any_below f n) ↔ ((i : ℕ) × (i < n) × P i)
some_test f P n e = (
  λ t. let q = below_found f n t in (q.0, q.1, (e q.0 q.1).0 q.2),
  λ q. below_at f n q.0 q.1 ((e q.0 q.1).1 q.2),
)

-- a number in a list of entries
module _ {A : Type 0} (number : A → ℕ) (l : List A) (d : A) where
  list_test : (t : ℕ) → T (any (λ p. bears t (number p)) l) ↔ ((t ≢ 0) × ((j : ℕ) × (j < length l) × (number (get_or l j d) ≡ t)))
  list_test t =
      let f : A → Bool = λ p. bears t (number p) in (
        λ b. let q = simp (both_test, not_test, eq_test) at (first_passes f l d b) in (λ z. q.0 (q.1 ∙ z), (first_index f l, first_below f l b, q.1)),
        λ q. any_at f l d q.1.0 q.1.1 (simp (both_test, not_test, eq_test) (λ z. q.0 (sym q.1.2 ∙ z), q.1.2)),
      )

-- ---- bits
some_bit : (n : ℕ) → n ≢ 0 → (c : ℕ) × T (bit n c)
some_bit n z =
    by_test (λ b. any_below (bit n) n ≡ b → (c : ℕ) × T (bit n c)) (any_below (bit n) n)
    (λ _ e. let q = (below_test (bit n) n).0 (rw e tt) in (q.0, q.2))
    (λ _ e. absurd (z (below_bits n n (below_power n) (λ c b. refuted (bit n c) (λ t. true≢false (sym (is_true _ ((below_test (bit n) n).1 (c, b, t))) ∙ e)))))) refl

mask_test : (S : Shape) (m : ℕ) → T (bad_mask S m) ↔ WrongMask S m
unfolding bad_mask bit
mask_test S m = (
  λ t. or_cases (eqb m 0) (leb (2 ^ S.columns) m) t (λ u. inl (λ c. rw (eqb→eq m 0 u) (bit_none c))) (λ u. inr (high (leb→le (2 ^ S.columns) m u))),
  ⊎_elim (λ f. or_left (eqb m 0) _ (eqb_equal m 0 (no_bits m f)))
      (λ q. by_test (λ b. T b) (bad_mask S m) (λ _. tt) (λ n. absurd (omega (arith, bit_low S m q.0 n q.2, q.1)))),
)
  where
    high : 2 ^ S.columns ≤ m → (c : ℕ) × (S.columns ≤ c) × T (bit m c)
    high h =
        let some : 0 < 2 ^ S.columns = pow_pos S.columns in
        let q = some_bit (m / 2 ^ S.columns) (λ e. omega (arith, div-eq-sub-div {m = 2 ^ S.columns} {n = m} some h)) in
        (S.columns + q.0, omega arith, rw (shr-shr m S.columns q.0) at q.1)

-- ---- the conditions
module _ (S : Shape) (v : View) (ps : List ScanEntry) (long : length (v Opens) ≡ most_transactions) (pool : ChunksCurrent S v) where
  open_test : (t : ℕ) → T (open_in v t) ↔ Open v t
  open_test t = rw long at (list_test (λ k. k) (v Opens) 0 t)

  -- one of the records 1 to n of a range, by where its words lie
  slots_test : (g n : ℕ) (f : ℕ → Bool) (P : ℕ → Type 0) → ((k : ℕ) → 1 ≤ k → k ≤ n → T (f (slot S g k)) ↔ P (slot S g k))
      → T (any_below (λ i. f (g * S.capacity + i)) n) ↔ ((k : ℕ) × (1 ≤ k) × (k ≤ n) × P (slot S g k))
  slots_test g n f P e = (
    λ t.
        let q = below_found (λ i. f (g * S.capacity + i)) n t in
        (suc q.0, omega arith, omega (arith, q.1), (e (suc q.0) (omega arith) (omega (arith, q.1))).0 (rw (slot_is S g q.0) q.2)),
    λ q. (below_test (λ i. f (g * S.capacity + i)) n).1 (back q.0 q.1 q.2 q.3),
  )
    where
      back : (k : ℕ) → 1 ≤ k → k ≤ n → P (slot S g k) → (i : ℕ) × (i < n) × T (f (g * S.capacity + i))
      back zero a b p = absurd (omega arith)
      back (suc i) a b p = (i, omega arith, rw (slot_is S g i) at ((e (suc i) a b).1 p))

  records_test : (g n : ℕ) (f : RecordWords → Bool) (P : RecordWords → Type 0)
      → ((k : ℕ) → 1 ≤ k → k ≤ n → T (f (record_in v (slot S g k))) ↔ P (record_in v (slot S g k)))
      → T (any_below (λ i. f (record_in v (g * S.capacity + i))) n) ↔ RecordUpTo S v g n P
  records_test g n f P e = slots_test g n (λ j. f (record_in v j)) (λ j. P (record_in v j)) e

  row_test : (r : ℕ) (f : RecordWords → Bool) (P : RecordWords → Type 0)
      → ((k : ℕ) → 1 ≤ k → k ≤ used_in v (range_of r) → (record_in v (slot S (range_of r) k)).row ≡ r → T (f (record_in v (slot S (range_of r) k))) ↔ P (record_in v (slot S (range_of r) k)))
      → T (any_record S v r f) ↔ RecordOf S v r P
  row_test r f P e =
      records_test (range_of r) (used_in v (range_of r)) (λ x. eqb x.row r && f x) (λ x. (x.row ≡ r) × P x)
      (λ k a b. and_test (eqb (record_in v (slot S (range_of r) k)).row r) _ (eq_test _ r) (e k a b))

  other_test : (t k : ℕ) → T (open_other v t k) ↔ (Open v k × (k ≢ t))
  unfolding open_other
  other_test t k = simp (both_test, not_test, open_test, eq_test) Iff.rfl

  -- the inserter and the records apart
  abbrev Holds : ℕ → ℕ → Type 0
  Holds t r = (Open v (row_in v r).transaction × ((row_in v r).transaction ≢ t)) ⊎ RecordOf S v r (λ x. Open v x.transaction × (x.transaction ≢ t))

  held_test : (t r : ℕ) → T (held_in S v t r) ↔ Held S v t r
  unfolding held_in
  held_test t r =
      let e = or_test (open_other v t (row_in v r).transaction) (any_record S v r (λ x. open_other v t x.transaction)) (other_test t _)
      (row_test r (λ x. open_other v t x.transaction) (λ x. Open v x.transaction × (x.transaction ≢ t)) (λ k a b q. other_test t _)) in
      (λ b. to (e.0 b), λ q. e.1 (from q.0 q.1 q.2 q.3))
    where
      to : Holds t r → Held S v t r
      to (inl q) = ((row_in v r).transaction, q.0, q.1, inl refl)
      to (inr q) = ((record_in v (slot S (range_of r) q.0)).transaction, q.3.1.0, q.3.1.1, inr (q.0, q.1, q.2, (q.3.0, refl)))

      from : (k : ℕ) → Open v k → k ≢ t → Touched S v k r → Holds t r
      from k o n (inl e) = inl (rw e o, λ z. n (sym e ∙ z))
      from k o n (inr q) = inr (q.0, q.1, q.2, (q.3.0, (subst (Open v) (sym q.3.1) o, λ z. n (sym q.3.1 ∙ z))))

  -- what touches a row that is not held is the caller's or not open
  stands_test : (t k state : ℕ) → (k ≢ t → ¬ Open v k) → T (stands_for t k state) ↔ (Committed v k state ⊎ (k ≡ t))
  stands_test t k state free = (
    λ b. by_cases (ℕ_discrete k t) (λ e. inr e) (λ n. inl (free n, or_cases (eqb k t) (committed_state state) b (λ u. absurd (n (eqb→eq k t u))) (eqb→eq state 1))),
    ⊎_elim (λ q. or_right (eqb k t) (committed_state state) (eqb_equal state 1 q.1)) (λ e. or_left (eqb k t) (committed_state state) (eqb_equal k t e)),
  )

  gone_test : (t r : ℕ) → Open v t → ¬ Held S v t r → T (gone_in S v t r) ↔ Gone S v t r
  unfolding gone_in
  gone_test t r o free =
      let e = or_test (not (stands_for t (row_in v r).transaction (row_in v r).state)) (any_record S v r (λ x. delete_kind x.kind && stands_for t x.transaction x.state))
      (insert_aborted)
      (row_test r (λ x. delete_kind x.kind && stands_for t x.transaction x.state)
      (λ x. T (delete_kind x.kind) × (Committed v x.transaction x.state ⊎ (x.transaction ≡ t)))
      (λ k a b q. and_test (delete_kind (record_in v (slot S (range_of r) k)).kind) _ (same_test (delete_kind (record_in v (slot S (range_of r) k)).kind))
      (λ _. stands_test t _ _ (λ n p. free (_, p, n, inr (k, a, b, (q, refl))))))) in
      (λ b. (free, ⊎_elim (λ q. inr q) (λ q. inl q) (e.0 b)), λ q. e.1 (⊎_elim (λ p. inr p) (λ p. inl p) q.1))
    where
      row_stands : T (stands_for t (row_in v r).transaction (row_in v r).state) ↔ (Committed v (row_in v r).transaction (row_in v r).state ⊎ ((row_in v r).transaction ≡ t))
      row_stands = stands_test t (row_in v r).transaction (row_in v r).state (λ n p. free ((row_in v r).transaction, p, n, inl refl))

      insert_aborted : T (not (stands_for t (row_in v r).transaction (row_in v r).state)) ↔ Aborted v (row_in v r).transaction (row_in v r).state
      insert_aborted =
          let e = simp row_stands at (not_test (stands_for t (row_in v r).transaction (row_in v r).state)) in (
            λ b. let not_open : ¬ Open v (row_in v r).transaction = λ p. free ((row_in v r).transaction, p, (λ z. e.0 b (inr z)), inl refl) in
                (not_open, λ z. e.0 b (inl (not_open, z))),
            λ q. e.1 (⊎_elim (λ p. q.1 p.1) (λ z. q.0 (rw z o))),
          )

  lacks_test : (r n : ℕ) → T (lacks_in S v r n) ↔ Lacks S v r n
  unfolding lacks_in
  lacks_test r n = le_test _ _

  wanted_test : (r m : ℕ) → T (lacks_in S v r (records_wanted v r m)) ↔ LacksWanted S v r m
  unfolding records_wanted new_bits_in
  wanted_test r m =
      by_test (λ b. T (lacks_in S v r (cond b 1 2)) ↔ LacksWanted S v r m) (eqb (new_bits_in v r m) 0)
      (λ b. (λ t. inl ((lacks_test r 1).0 t), ⊎_elim (lacks_test r 1).1 (λ q. absurd (none (eqb→eq (new_bits_in v r m) 0 b) q.0.0 q.0.1 q.0.2))))
      (λ b. (
        λ t. inr (new (λ z. T_not (eqb (new_bits_in v r m) 0) b (eqb_equal (new_bits_in v r m) 0 z)), (lacks_test r 2).0 t),
        ⊎_elim (λ q. (lacks_test r 2).1 (omega arith)) (λ q. (lacks_test r 2).1 q.1),
      ))
    where
      none : new_bits_in v r m ≡ 0 → (c : ℕ) → T (bit m c) → bit (row_in v r).mask c ≡ false → ⊥
      none z c a b = true≢false (sym (bit_new m (row_in v r).mask c ∙ rw (is_true (bit m c) a, b)) ∙ ap (λ (k : ℕ). bit k c) z ∙ bit_none c)

      new : new_bits_in v r m ≢ 0 → (c : ℕ) × T (bit m c) × (bit (row_in v r).mask c ≡ false)
      new z =
          let q = some_bit (new_bits_in v r m) z in
          let p = parts (bit m q.0) (not (bit (row_in v r).mask q.0)) (rw (bit_new m (row_in v r).mask q.0) at q.1) in
          (q.0, p.0, is_false _ p.1)

  busy_test : T (not (any (λ k. eqb k 0) (v Opens))) ↔ (most_transactions ≤ transactions_open v)
  busy_test =
      let none = count (λ k. eqb k 0) (v Opens) in
      let all : none + transactions_open v ≡ length (v Opens) = simp and-true at (count_rest (λ k. eqb k 0) (v Opens)) in
      rw (any_count (λ k. eqb k 0) (v Opens)) (λ t. omega (arith, nltb→le 0 none t), λ b. not_T (ltb 0 none) (λ t. omega (arith, ltb→lt 0 none t)))

  among_test : (g n : ℕ) → T (open_among_in S v g n) ↔ OpenUpTo S v g n
  unfolding open_among_in
  among_test g n = records_test g n (λ x. open_in v x.transaction) (λ x. Open v x.transaction) (λ k a b. open_test _)

  free_test : T (leb (pages_of S) (free_in S v)) ↔ NoneFree S v
  free_test = rw (free_none S v pool) (le_test _ _)

  bears_test : (word : ℕ) → T (bears_keeper word) ↔ Bears word
  bears_test word = simp (not_test, eq_test) Iff.rfl

  borne_test : T (keeper_borne_in S v) ↔ KeeperBorne S v
  unfolding keeper_borne_in
  borne_test =
      or_test (any_below (λ r. bears_keeper (row_keeper v r)) (rows_given v)) _ (some_test (λ r. bears_keeper (row_keeper v r)) (λ r. Bears (row_keeper v r)) (rows_given v) (λ r _. bears_test _))
      (or_test (any_below (λ g. any_below (λ i. bears_keeper (record_keeper v (g * S.capacity + i))) (used_in v g)) S.ranges) _
      (some_test (λ g. any_below (λ i. bears_keeper (record_keeper v (g * S.capacity + i))) (used_in v g)) (λ g. (k : ℕ) × (1 ≤ k) × (k ≤ used_in v g) × Bears (record_keeper v (slot S g k))) S.ranges
      (λ g _. slots_test g (used_in v g) (λ j. bears_keeper (record_keeper v j)) (λ j. Bears (record_keeper v j)) (λ k _ _. bears_test _)))
      (some_test (λ j. not (eqb (get_or (v Opens) j 0) 0) && bears_keeper (get_or (v OpenKeeper) j 0)) (λ j. (get_or (v Opens) j 0 ≢ 0) × Bears (get_or (v OpenKeeper) j 0)) most_transactions
      (λ j _. and_test (not (eqb (get_or (v Opens) j 0) 0)) (bears_keeper (get_or (v OpenKeeper) j 0)) (simp (not_test, eq_test) Iff.rfl) (λ _. bears_test _))))

  move_meets : (to : Form) → Meets (move_tests_in to S v) (stated_move to S v)
  unfolding move_tests_in
  move_meets Form.First = test borne_test (λ _. done)
  move_meets Form.Newest = done

  closed_test : (t : ℕ) → T (not_open_in v t) ↔ (¬ Open v t)
  unfolding not_open_in
  closed_test t = simp (not_test, open_test) Iff.rfl

  no_scan_test : (k : ℕ) → T (no_scan_in ps k) ↔ (¬ ScanOpen ps k)
  unfolding no_scan_in
  no_scan_test k = simp (not_test, list_test (λ (p : ScanEntry). p.number) ps free_entry) Iff.rfl

  -- an open transaction, of one that is not shown to be closed
  is_open : (t : ℕ) → ¬ (¬ Open v t) → Open v t
  is_open t n = (open_test t).0 (by_test (λ b. T b) (open_in v t) (λ _. tt) (λ z. n (λ p. T_not (open_in v t) z ((open_test t).1 p))))

  meets : (c : Call) → Meets (tests_in S v ps c) (stated S v ps c)
  unfolding tests_in begin_tests_in read_at_tests_in stated not_given_in no_column no_range later_in earlier_in no_span_in outnumber out_of_reach_in
  meets begin = test (le_test _ _) (λ _. test busy_test (λ _. done))
  meets (insert t vs) = test (closed_test t) (λ _. test (le_test _ _) (λ _. done))
  meets (update t r m vs) =
      test (closed_test t) (λ o. test (le_test _ _) (λ _. test (mask_test S m) (λ _.
      test (held_test t r) (λ h. test (gone_test t r (is_open t o) h) (λ _. test (wanted_test r m) (λ _. done))))))
  meets (delete t r) =
      test (closed_test t) (λ o. test (le_test _ _) (λ _.
      test (held_test t r) (λ h. test (gone_test t r (is_open t o) h) (λ _. test (lacks_test r 1) (λ _. done)))))
  meets (commit t s) = test (closed_test t) (λ _. test (le_test _ _) (λ _. done))
  meets (abort t) = test (closed_test t) (λ _. done)
  meets (latest r c) = test (le_test _ _) (λ _. test (le_test _ _) (λ _. done))
  meets (read_at s r c) = test (le_test _ _) (λ _. test (le_test _ _) (λ _. test (le_test _ _) (λ _. done)))
  meets (own_read t r c) = test (closed_test t) (λ _. test (le_test _ _) (λ _. test (le_test _ _) (λ _. done)))
  meets (open_scan s) = test (le_test _ _) (λ _. test (le_test _ _) (λ _. test (le_test _ _) (λ _. done)))
  meets (scan_read k r c) = test (no_scan_test k) (λ _. test (le_test _ _) (λ _. test (le_test _ _) (λ _. done)))
  meets (sum k c) = test (no_scan_test k) (λ _. test (le_test _ _) (λ _. done))
  meets (close k) = test (no_scan_test k) (λ _. done)
  meets (merge g c n) =
      test (le_test _ _) (λ _. test (le_test _ _) (λ _. test (or_test (leb n _) (ltb (used_in v g) n) (le_test n _) (le_test _ n)) (λ _. test (among_test g n) (λ _. test free_test (λ _. done)))))
  meets release = done
  meets (page_cell c r) = test (le_test _ _) (λ _. test (le_test _ _) (λ _. done))
  meets (lineage g c) = test (le_test _ _) (λ _. test (le_test _ _) (λ _. done))
  meets (crossings r c mark from to stamps) =
      test (le_test _ _) (λ _. test (le_test _ _) (λ _. test (or_test (ltb to from) (ltb (last_stamp v) to) (le_test _ _) (le_test _ _)) (λ _. test (le_test _ _) (λ _. done))))
  meets (begin_as k) = test (le_test _ _) (λ _. test busy_test (λ _. done))
  meets (keeper_at s r c) = test (le_test _ _) (λ _. test (le_test _ _) (λ _. test (le_test _ _) (λ _. done)))
  meets (move to second) = move_meets to

-- ---- of a usable memory
is_accept : (w : Verdict) (a : Answer) → is_refused (answer_if w a) ≡ false → w ≡ accept
unfolding answer_if
is_accept accept a e = refl
is_accept (refuse n) a e = absurd (true≢false e)

chunks_are_current : (F : Form) (S : Shape) (v : View) (ps : List ScanEntry) → Proper (sizes_of F S) → Usable (sizes_of F S) v ps → ChunksCurrent S v
unfolding page_in
chunks_are_current F S v ps z u = record {
  inside = λ i b. omega (arith, u.current_in i (omega (arith, z.chunks_are)), z.pages_are, z.chunks_are);
  state = λ i b. u.current_state i (omega (arith, z.chunks_are));
  chunk = λ i b. u.current_chunk i (omega (arith, z.chunks_are));
}

on_usable : (m : List ℕ) (ps : List ScanEntry) (c : Call) → usable m ps ≡ true → Meets (tests_in (stored_shape (words m)) (store_view m) ps c) (stated (stored_shape (words m)) (store_view m) ps c)
unfolding stored_sizes store_view
on_usable m ps c u =
    let S : Shape = stored_shape (words m) in
    let F : Form = stored_form (words m) in
    let v : View = view_of (sizes_of F S) m in
    let t = usable_tells m ps u in
    meets S v ps (view_long (sizes_of F S) (words m) (omega (arith, length_words m, t.room)) Opens) (chunks_are_current F S v ps (proper F S t.within) t.facts) c

-- the three conditions of refusal 2
room_test : (u : FormUse) (S : Shape) (l : List ℕ) → T (not (room_for u S l)) ↔ TooShort u S l
room_test either S l = (λ t. t, λ e. absurd e)
room_test newest S l = (λ t. t, λ e. absurd e)
room_test (moving to) S l = (λ t. nleb→lt (bytes_needed to S) (length l) t, λ b. not_T (leb (bytes_needed to S) (length l)) (λ t. omega (arith, leb→le (bytes_needed to S) (length l) t)))

pub refuses : Refuses
unfolding Refuses conditions answer_of admits say
refuses m ps c = go (works_on c (stored_form (words m))) (room_for (form_use c) S (second_of c)) (usable m ps) (room_test (form_use c) S (second_of c)) (on_usable m ps c)
  where
    S : Shape
    S = stored_shape (words m)

    v : View
    v = store_view m

    said : Bool → Answer
    said u = cond u (answer_if (verdict (tests_in S v ps c)) (reply_in S v ps c)) (Err Refusal.Memory)

    short : Type 0
    short = TooShort (form_use c) S (second_of c)

    clauses : Bool → Bool → List Clause
    clauses w u = Refusal.Memory on (u ≡ false) ∷ Refusal.Memory on (w ≡ false) ∷ Refusal.Memory on short ∷ stated S v ps c

    Right : Bool → Bool → Bool → Type 0
    Right w r u = ((n : Refusal) → (said (w && (r && u)) ≡ Err n) ↔ First (clauses w u) n) × ((is_refused (said (w && (r && u))) ≡ false) ↔ NoneApplies (clauses w u))

    two : {n : Refusal} → ◌≡◌ {A = Answer} (Err Refusal.Memory) (Err n) → Refusal.Memory ≡ n
    two e = cc

    go : (w r u : Bool) → T (not r) ↔ short → (u ≡ true → Meets (tests_in S v ps c) (stated S v ps c)) → Right w r u
    go true true true s f =
        let e = f refl in
        let long : ¬ short = λ x. s.1 x in (
          λ n. (
            λ q. inr (true≢false, inr (true≢false, inr (long, (meets_first e n).0 (refused_by S v ps c _ q)))),
            ⊎_elim (λ q. absurd (true≢false q.0)) (λ q. ⊎_elim (λ z. absurd (true≢false z.0)) (λ z. ⊎_elim (λ y. absurd (long y.0)) (λ y. rw ((meets_first e n).1 y.1) (unfold answer_if in refl)) z.1) q.1),
          ),
          (λ q. (true≢false, (true≢false, (long, (meets_none e).0 (is_accept _ _ q)))), λ q. rw ((meets_none e).1 q.1.1.1) (unfold answer_if in (not_refused S v ps c))),
        )
    go true true false s f = (λ n. (λ q. inl (refl, two q), ⊎_elim (λ q. ap Err q.1) (λ q. absurd (q.0 refl))), (λ q. absurd (true≢false q), λ q. absurd (q.0 refl)))
    go true false u s f = (λ n. (λ q. short_first u n (two q), λ q. ap Err (short_only u n q)), (λ q. absurd (true≢false q), λ q. absurd (q.1.1.0 (s.0 tt))))
      where
        short_first : (u : Bool) (n : Refusal) → Refusal.Memory ≡ n → First (clauses true u) n
        short_first true n e = inr (true≢false, inr (true≢false, inl (s.0 tt, e)))
        short_first false n e = inl (refl, e)

        short_only : (u : Bool) (n : Refusal) → First (clauses true u) n → Refusal.Memory ≡ n
        short_only u n = ⊎_elim (λ q. q.1) (λ q. ⊎_elim (λ z. z.1) (λ z. ⊎_elim (λ y. y.1) (λ y. absurd (y.0 (s.0 tt))) z.1) q.1)
    go false r u s f = (λ n. (λ q. other_first u n (two q), λ q. ap Err (other_only u n q)), (λ q. absurd (true≢false q), λ q. absurd (q.1.0 refl)))
      where
        other_first : (u : Bool) (n : Refusal) → Refusal.Memory ≡ n → First (clauses false u) n
        other_first true n e = inr (true≢false, inl (refl, e))
        other_first false n e = inl (refl, e)

        other_only : (u : Bool) (n : Refusal) → First (clauses false u) n → Refusal.Memory ≡ n
        other_only u n = ⊎_elim (λ q. q.1) (λ q. ⊎_elim (λ z. z.1) (λ z. absurd (z.0 refl)) q.1)
