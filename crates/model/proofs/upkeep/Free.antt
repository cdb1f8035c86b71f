-- The free pages are the spares less those that wait, on every memory whose chunks name pages as the stored facts say.
use mathlib.Core.Path.{◌≡◌, refl, sym, ◌∙◌, ap}
use mathlib.Core.Logic.{◌≢◌}
use mathlib.Core.Bool.{Bool, true, false, not, cond, ◌&&◌, and-true}
use Prim.Native.Nat.{ℕ, zero, suc, ◌+◌, ◌≤◌, ◌<◌}
use native.Mathlib.Omega.{arith}
use native.Mathlib.Decide.{ℕ_discrete}
use lib.Dec.{T, not_T, leb, ltb, eqb, eqb→eq, leb→le, le→leb, ltb→lt, nltb→le}
use lib.ListN.{get_or}
use borrow.Author.Tests.{ne_eqb, lt-ltb, lt-leb}
use Rattle.terms.specs.declared.Shape.{Shape}
use Rattle.history.proofs.Lists.{both_test, le_test, eq_test, by_cases, by_test, is_true, refuted, parts, eqb_equal}
use Rattle.layout.specs.View.{View}
use Rattle.layout.specs.declared.Region.TheVariants.{Current}
use Rattle.model.specs.Stored.{page_in, chunks_of, pages_of, free_page, current_page, waiting_page, count_below, first_from}
use Rattle.model.specs.Preconditions.{ChunksCurrent}
use Rattle.model.specs.Writing.{named_in, stray_in, free_in}
use Rattle.model.proofs.Lists.{one, below_none, below_pos, below_change, below_three, below_sum, first_is, first_none, same_truth}

-- a page is free, current or waiting by its state
states_three : (w : ℕ) → one (free_page w) + one (current_page w) + one (waiting_page w) ≡ 1
states_three zero = refl
states_three (suc zero) = refl
states_three (suc (suc w)) =
    rw (ne_eqb (suc (suc w)) 0 (λ e. omega arith), ne_eqb (suc (suc w)) 1 (λ e. omega arith), lt-ltb 1 (suc (suc w)) (omega arith))

module _ (S : Shape) (v : View) (o : ChunksCurrent S v) where
  abbrev cur : ℕ → ℕ
  cur i = get_or (v Current) i 0

  abbrev at : ℕ → ℕ
  at p = (page_in v p).chunk

  -- the page that one of the first k chunks names
  abbrev among : ℕ → ℕ → Bool
  among k p = ltb (at p) k && eqb (cur (at p)) p

  -- the chunks name as many pages as there are chunks
  named_first : (k : ℕ) → k ≤ chunks_of S → count_below (among k) (pages_of S) ≡ k
  named_first zero b = below_none (among 0) (pages_of S) (λ p q. refuted (among 0 p) (λ t. let z = simp (both_test, le_test) at t in omega arith))
  named_first (suc k) b =
      omega (arith, named_first k (omega arith), below_change (among k) (among (suc k)) (pages_of S) (cur k) (o.inside k b) same, ap one old, ap one new)
    where
      same : (p : ℕ) → p < pages_of S → p ≢ cur k → among k p ≡ among (suc k) p
      same p q n = same_truth (among k p) (among (suc k) p)
          (λ t. let z = simp (both_test, le_test, eq_test) at t in simp (both_test, le_test, eq_test) (omega arith, z.1))
          (λ t. let z = simp (both_test, le_test, eq_test) at t in
          simp (both_test, le_test, eq_test) (by_cases (ℕ_discrete (at p) k) (λ e. absurd (n (sym z.1 ∙ ap cur e))) (λ f. omega arith), z.1))

      old : among k (cur k) ≡ false
      old = refuted (among k (cur k)) (λ t. let z = simp (both_test, le_test) at t in omega (arith, o.chunk k b))

      new : among (suc k) (cur k) ≡ true
      new = is_true (among (suc k) (cur k)) (simp (both_test, le_test, eq_test) (omega (arith, o.chunk k b), ap cur (o.chunk k b)))

  pub named_count : count_below (named_in S v) (pages_of S) ≡ chunks_of S
  unfolding named_in
  named_count = named_first (chunks_of S) (omega arith)

  pub named_state : (p : ℕ) → T (named_in S v p) → (page_in v p).state ≡ 1
  unfolding named_in
  named_state p t =
      let z = parts (ltb (at p) (chunks_of S)) _ t in
      ap (λ (q : ℕ). (page_in v q).state) (sym (eqb→eq (cur (at p)) p z.1)) ∙ o.state (at p) (ltb→lt (at p) (chunks_of S) z.0)

  abbrev free : ℕ → Bool
  free p = free_page (page_in v p).state

  abbrev current : ℕ → Bool
  current p = current_page (page_in v p).state

  abbrev waiting : ℕ → Bool
  waiting p = waiting_page (page_in v p).state

  -- a current page is stray or named by its chunk
  current_count : count_below current (pages_of S) ≡ count_below (stray_in S v) (pages_of S) + chunks_of S
  unfolding stray_in
  current_count = below_sum current (stray_in S v) (named_in S v) (pages_of S) each ∙ ap (λ (n : ℕ). count_below (stray_in S v) (pages_of S) + n) named_count
    where
      each : (p : ℕ) → one (current p) ≡ one (current p && not (named_in S v p)) + one (named_in S v p)
      each p = by_test (λ b. one (current p) ≡ one (current p && not b) + one b) (named_in S v p) (λ t. rw (named_state p t)) (λ _. rw (and-true (current p)) (omega arith))

  page_count : count_below free (pages_of S) + count_below (stray_in S v) (pages_of S) + count_below waiting (pages_of S) ≡ S.spares
  page_count = omega (arith, below_three free current waiting (pages_of S) (λ p. states_three (page_in v p).state), current_count)

  -- no page is stray where as many are current as there are chunks
  pub no_stray : count_below current (pages_of S) ≡ chunks_of S → count_below (stray_in S v) (pages_of S) ≡ 0
  no_stray e = omega (arith, current_count)

  -- what the search answers, by its two parts
  abbrev first : ℕ
  first = first_from free (pages_of S) 0

  abbrev second : ℕ
  second = first_from (stray_in S v) (pages_of S) 0

  pub free_cases : (P : ℕ → Type 0) → (first < pages_of S → P first) → (pages_of S ≤ first → P second) → P (free_in S v)
  unfolding free_in
  free_cases P f g = by_test (λ z. P (cond z first second)) (ltb first (pages_of S)) (λ t. f (ltb→lt first (pages_of S) t)) (λ t. g (nltb→le first (pages_of S) t))

  pub free_none : leb (pages_of S) (free_in S v) ≡ leb S.spares (count_below waiting (pages_of S))
  free_none =
      let waits = count_below waiting (pages_of S) in
      let stray = count_below (stray_in S v) (pages_of S) in
      free_cases (λ q. leb (pages_of S) q ≡ leb S.spares waits)
      (λ b. lt-leb (pages_of S) first b ∙ sym (lt-leb S.spares waits (omega (arith, page_count, below_pos free (pages_of S) first b (first_is free (pages_of S) 0 (omega arith))))))
      (λ b.
      let none : count_below free (pages_of S) ≡ 0 = eqb→eq _ 0 (rw (first_none free (pages_of S)) at (le→leb (pages_of S) first b)) in
      first_none (stray_in S v) (pages_of S)
      ∙ same_truth (eqb stray 0) (leb S.spares waits) (λ t. le→leb S.spares waits (omega (arith, page_count, eqb→eq stray 0 t)))
      (λ t. eqb_equal stray 0 (omega (arith, page_count, leb→le S.spares waits t))))

  -- a page that is found is named by no chunk
  pub free_unnamed : free_in S v < pages_of S → T (not (named_in S v (free_in S v)))
  unfolding stray_in
  free_unnamed =
      free_cases (λ q. q < pages_of S → T (not (named_in S v q)))
      (λ b _. not_T (named_in S v first) (λ t. omega (arith, eqb→eq (page_in v first).state 0 (first_is free (pages_of S) 0 (omega arith)), named_state first t)))
      (λ _ b. (parts (current_page (page_in v second).state) _ (first_is (stray_in S v) (pages_of S) 0 (omega arith))).1)

  -- and without stray pages its state is free
  pub found_free : count_below (stray_in S v) (pages_of S) ≡ 0 → free_in S v < pages_of S → (page_in v (free_in S v)).state ≡ 0
  found_free e =
      free_cases (λ q. q < pages_of S → (page_in v q).state ≡ 0)
      (λ b _. eqb→eq _ 0 (first_is free (pages_of S) 0 (omega arith)))
      (λ _ b. absurd (omega (arith, e, below_pos (stray_in S v) (pages_of S) second b (first_is (stray_in S v) (pages_of S) 0 (omega arith)))))
