-- Lists and numbers in general, beyond what the history's proofs have: counts of a list by index, counts and searches over the numbers below a bound, and
-- the index of a part in a region of equal parts. Nothing here speaks of the store.
use mathlib.Core.Path.{subst, ◌≡◌, refl, sym, ◌∙◌, ap, ap₂}
use mathlib.Core.Logic.{◌≢◌}
use mathlib.Core.Bool.{Bool, true, false, not, cond, ◌&&◌, ◌||◌, and-false, and-true, or-false}
use mathlib.Core.List.{List, [], ◌∷◌, ◌++◌}
use Prim.Native.Nat.{ℕ, zero, suc, ◌+◌, ◌*◌, ◌≤◌, ◌<◌, zero-le}
use native.Mathlib.Omega.{arith}
use native.Mathlib.Nat.{le_refl, not-suc-le-zero, add-zero, add-suc, suc-add, mul-le-mul_right, suc-mul}
use native.Mathlib.Decide.{ℕ_discrete, dec_lt}
use lib.Dec.{T, leb, ltb, eqb, eqb→eq, leb→le, le→leb, T_not}
use borrow.Author.Tests.{lt-ltb, ne_eqb, eq-eqb}
use lib.ListN.{length, get_or, set, take}
use lib.Seq.{take-suc}
use Rattle.history.specs.History.{any, count}
pub use Rattle.history.proofs.Lists.{one}
use Rattle.history.proofs.Lists.{by_cases, by_test, cond_suc, any_append, is_true, refuted, or_left, or_right, or_cases, eqb_equal, eqb_same}
use Rattle.terms.specs.Entries.{first_index}
use Rattle.model.specs.Stored.{first_from, any_below, count_below}
use Rattle.model.specs.Represents.{count_from}

pub same_truth : (a b : Bool) → (T a → T b) → (T b → T a) → a ≡ b
same_truth true true f g = refl
same_truth true false f g = absurd (f tt)
same_truth false true f g = absurd (g tt)
same_truth false false f g = refl

-- ---- counts
module _ {A : Type 0} where
  pub any_count : (f : A → Bool) (l : List A) → any f l ≡ ltb 0 (count f l)
  any_count f [] = refl
  any_count f (x ∷ l) = rw (any_count f l)
      (elim (f x) as (λ b. (b || ltb 0 (count f l)) ≡ ltb 0 (cond b (suc (count f l)) (count f l))) [ true ↦ sym (lt-ltb 0 (suc (count f l)) (omega arith)) | false ↦ refl ])

  pub count_rest : (f : A → Bool) (l : List A) → count f l + count (λ x. not (f x) && true) l ≡ length l
  count_rest f [] = refl
  count_rest f (x ∷ l) =
      omega (
        arith,
        cond_suc (f x) (count f l),
        cond_suc (not (f x) && true) (count (λ x. not (f x) && true) l),
        count_rest f l,
        elim (f x) as (λ b. one b + one (not b && true) ≡ 1) [ true ↦ refl | false ↦ refl ],
      )

  pub from_count : (f : A → Bool) (i : ℕ) (l : List A) → count_from (λ k x. f x) i l ≡ count f l
  from_count f i [] = refl
  from_count f i (x ∷ l) = rw (from_count f (suc i) l)

  pub count_from_lem : (f : A → Bool) (i : ℕ) (l : List A) → count f l ≡ count_from (λ k x. f x && true) i l
  count_from_lem f i l = simp and-true (sym (from_count f i l))

  pub from_snoc : (p : ℕ → A → Bool) (i : ℕ) (l : List A) (x : A)
      → count_from p i (l ++ x ∷ []) ≡ count_from p i l + one (p (i + length l) x)
  from_snoc p i [] x = cond_suc (p i x) 0 ∙ ap (λ (k : ℕ). 0 + one (p k x)) (sym (add-zero i))
  from_snoc p i (y ∷ l) x =
      let e : count_from p (suc i) (l ++ x ∷ []) ≡ count_from p (suc i) l + one (p (i + suc (length l)) x) =
      from_snoc p (suc i) l x ∙ ap (λ (k : ℕ). count_from p (suc i) l + one (p k x)) (omega arith) in
      omega (arith, cond_suc (p i y) (count_from p (suc i) (l ++ x ∷ [])), cond_suc (p i y) (count_from p (suc i) l))

  pub from_set : (p : ℕ → A → Bool) (i : ℕ) (l : List A) (k : ℕ) (x d : A) → k < length l
      → count_from p i (set l k x) + one (p (i + k) (get_or l k d)) ≡ count_from p i l + one (p (i + k) x)
  from_set p i [] k x d b = absurd (not-suc-le-zero b)
  from_set p i (y ∷ l) zero x d b =
      rw add-zero (omega (arith, cond_suc (p i x) (count_from p (suc i) l), cond_suc (p i y) (count_from p (suc i) l)))
  from_set p i (y ∷ l) (suc k) x d b =
      let e : count_from p (suc i) (set l k x) + one (p (i + suc k) (get_or l k d)) ≡ count_from p (suc i) l + one (p (i + suc k) x) =
      rw (add-suc, ← suc-add) (from_set p (suc i) l k x d (omega arith)) in
      omega (arith, cond_suc (p i y) (count_from p (suc i) (set l k x)), cond_suc (p i y) (count_from p (suc i) l))

  pub count_set : (f : A → Bool) (l : List A) (i : ℕ) (x d : A) → i < length l
      → count f (set l i x) + one (f (get_or l i d)) ≡ count f l + one (f x)
  count_set f l i x d b = omega (arith, from_set (λ k x. f x) 0 l i x d b, from_count f 0 (set l i x), from_count f 0 l)

  pub from_none : (p : ℕ → A → Bool) (i : ℕ) (l : List A) → ((n : ℕ) (x : A) → i ≤ n → n < i + length l → p n x ≡ false)
      → count_from p i l ≡ 0
  from_none p i [] f = refl
  from_none p i (x ∷ l) f = rw (f i x (le_refl i) (omega arith)) (from_none p (suc i) l (λ n y a b. f n y (omega arith) (omega arith)))

  pub from_at : (g : ℕ → A → Bool) (i : ℕ) (l : List A) (k : ℕ) (d : A) → ((n : ℕ) → g n d ≡ false)
      → count_from (λ n x. g n x && eqb n (i + k)) i l ≡ one (g (i + k) (get_or l k d))
  from_at g i [] k d z = rw (z (i + k))
  from_at g i (x ∷ l) zero d z =
      rw (
        add-zero,
        eqb_same i,
        and-true (g i x),
        from_none (λ n x. g n x && eqb n (i + 0)) (suc i) l (λ n y a b. rw (add-zero, ne_eqb n i (λ e. omega arith), and-false (g n y))),
      )
  from_at g i (x ∷ l) (suc k) d z =
      let e : suc i + k ≡ i + suc k = omega arith in
      rw (ne_eqb i (i + suc k) (λ e. omega arith), and-false (g i x))
      (subst (λ j. count_from (λ n x. g n x && eqb n j) (suc i) l ≡ one (g j (get_or l k d))) e (from_at g (suc i) l k d z))

  pub count_pos : (f : A → Bool) (l : List A) (i : ℕ) (d : A) → i < length l → T (f (get_or l i d)) → 0 < count f l
  count_pos f [] i d b t = absurd (not-suc-le-zero b)
  count_pos f (x ∷ l) zero d b t = rw (is_true (f x) t) (omega arith)
  count_pos f (x ∷ l) (suc i) d b t = omega (arith, cond_suc (f x) (count f l), count_pos f l i d (omega arith) t)

  pub take_next : (l : List A) (n : ℕ) (d : A) → n < length l → (f : A → Bool) → any f (take (suc n) l) ≡ (any f (take n l) || (f (get_or l n d) || false))
  take_next l n d b f = rw (take-suc l n d b, any_append)

  -- a test of the first n by their index
  pub any_below_lem : (l : List A) (d : A) (F : ℕ → Bool) (f : A → Bool) (n : ℕ) → n ≤ length l → ((i : ℕ) → i < n → F i ≡ f (get_or l i d)) → any_below F n ≡ any f (take n l)
  unfolding any_below
  any_below_lem l d F f zero b e = refl
  any_below_lem l d F f (suc n) b e =
      rw (take_next l n d b f, or-false (f (get_or l n d)), any_below_lem l d F f n (omega arith) (λ i u. e i (omega arith)), e n (omega arith))

  -- ---- the index that is found
  pub first_below : (f : A → Bool) (l : List A) → T (any f l) → first_index f l < length l
  first_below f [] = λ t. absurd t
  first_below f (x ∷ l) = by_test (λ b. T (b || any f l) → cond b 0 (suc (first_index f l)) < suc (length l)) (f x) (λ _ u. omega arith) (λ _ u. omega (arith, first_below f l u))

  pub first_passes : (f : A → Bool) (l : List A) (d : A) → T (any f l) → T (f (get_or l (first_index f l) d))
  first_passes f [] d = λ t. absurd t
  first_passes f (x ∷ l) d = by_test (λ b. T (b || any f l) → T (f (get_or (x ∷ l) (cond b 0 (suc (first_index f l))) d))) (f x) (λ t _. t) (λ _ u. first_passes f l d u)

-- ---- the first number that passes
module _ (f : ℕ → Bool) where
  pub first_found : (n i j : ℕ) → i ≤ j → j < i + n → T (f j) → first_from f n i < i + n
  first_found zero i j a b t = absurd (omega arith)
  first_found (suc n) i j a b t = by_test (λ c. cond c i (first_from f n (suc i)) < i + suc n) (f i) (λ _. omega arith) (λ u. by_cases (ℕ_discrete i j)
      (λ q. absurd (T_not (f j) (rw q at u) t))
      (λ q. omega (arith, first_found n (suc i) j (omega arith) (omega arith) t)))

  pub first_is : (n i : ℕ) → first_from f n i < i + n → T (f (first_from f n i))
  first_is zero i = λ b. absurd (omega arith)
  first_is (suc n) i = by_test (λ c. cond c i (first_from f n (suc i)) < i + suc n → T (f (cond c i (first_from f n (suc i))))) (f i) (λ t _. t) (λ _ b. first_is n (suc i) (omega arith))

  pub first_only : (n j : ℕ) → j < n → T (f j) → ((k : ℕ) → k < n → T (f k) → k ≡ j) → first_from f n 0 ≡ j
  first_only n j b t u =
      let c : first_from f n 0 < 0 + n = first_found n 0 j zero-le (omega arith) t in
      u _ (omega arith) (first_is n 0 c)

pub first_ext : (f g : ℕ → Bool) (n i : ℕ) → ((k : ℕ) → i ≤ k → k < i + n → f k ≡ g k) → first_from f n i ≡ first_from g n i
first_ext f g zero i e = refl
first_ext f g (suc n) i e =
    rw (e i (le_refl i) (omega arith), first_ext f g n (suc i) (λ k a b. e k (omega arith) (omega arith)))

-- ---- counts over the numbers below n
pub below_ext : (f g : ℕ → Bool) (n : ℕ) → ((k : ℕ) → k < n → f k ≡ g k) → count_below f n ≡ count_below g n
below_ext f g zero e = refl
below_ext f g (suc n) e = rw (e n (le_refl _), below_ext f g n (λ k b. e k (omega arith)))

pub below_none : (f : ℕ → Bool) (n : ℕ) → ((k : ℕ) → k < n → f k ≡ false) → count_below f n ≡ 0
below_none f zero e = refl
below_none f (suc n) e = rw (e n (le_refl _)) (below_none f n (λ k b. e k (omega arith)))

pub below_pos : (f : ℕ → Bool) (n p : ℕ) → p < n → T (f p) → 0 < count_below f n
below_pos f zero p b t = absurd (not-suc-le-zero b)
below_pos f (suc n) p b t = by_cases (ℕ_discrete p n)
    (λ e. rw (is_true (f n) (rw e at t)) (omega arith))
    (λ q. omega (arith, cond_suc (f n) (count_below f n), below_pos f n p (omega arith) t))

-- the test differs at p alone
pub below_change : (f g : ℕ → Bool) (n p : ℕ) → p < n → ((k : ℕ) → k < n → k ≢ p → f k ≡ g k)
    → count_below g n + one (f p) ≡ count_below f n + one (g p)
below_change f g zero p b e = absurd (not-suc-le-zero b)
below_change f g (suc n) p b e =
    let x = cond_suc (f n) (count_below f n) in
    let y = cond_suc (g n) (count_below g n) in
    by_cases (ℕ_discrete p n)
    (λ q. rw q (omega (arith, below_ext f g n (λ k b. e k (omega arith) (λ z. omega arith)))))
    (λ q. omega (arith, ap one (e n (le_refl _) (λ z. q (sym z))), below_change f g n p (omega arith) (λ k b. e k (omega arith))))

-- the test differs at p and at q alone
pub below_pair : (f g : ℕ → Bool) (n p q : ℕ) → p < n → q < n → q ≢ p → ((k : ℕ) → k ≢ p → k ≢ q → f k ≡ g k)
    → count_below g n + one (f p) + one (f q) ≡ count_below f n + one (g p) + one (g q)
below_pair f g n p q a b d e =
    let mid : ℕ → Bool = λ k. cond (eqb k p) (g k) (f k) in
    let at_p : mid p ≡ g p = rw (eqb_same p) in
    let at-q : mid q ≡ f q = rw (ne_eqb q p d) in
    omega (
      arith,
      below_change f mid n p a (λ k _ z. rw (ne_eqb k p z)),
      below_change mid g n q b (λ k _ z. by_cases (ℕ_discrete k p) (λ y. rw (eq-eqb k p y)) (λ y. rw (ne_eqb k p y) (e k y z))),
      ap one at_p,
      ap one at-q,
    )

-- of three tests exactly one passes
pub below_three : (f g h : ℕ → Bool) (n : ℕ) → ((k : ℕ) → one (f k) + one (g k) + one (h k) ≡ 1)
    → count_below f n + count_below g n + count_below h n ≡ n
below_three f g h zero e = refl
below_three f g h (suc n) e =
    omega
    (arith, cond_suc (f n) (count_below f n), cond_suc (g n) (count_below g n), cond_suc (h n) (count_below h n), e n, below_three f g h n e)

-- a test passes where one of two does, which never pass both
pub below_sum : (f g h : ℕ → Bool) (n : ℕ) → ((k : ℕ) → one (f k) ≡ one (g k) + one (h k)) → count_below f n ≡ count_below g n + count_below h n
below_sum f g h zero e = refl
below_sum f g h (suc n) e = omega (arith, cond_suc (f n) (count_below f n), cond_suc (g n) (count_below g n), cond_suc (h n) (count_below h n), e n, below_sum f g h n e)

-- none passes exactly if none is found
pub first_none : (f : ℕ → Bool) (n : ℕ) → leb n (first_from f n 0) ≡ eqb (count_below f n) 0
first_none f n = same_truth _ _
    (λ t. let a : n ≤ first_from f n 0 = leb→le n _ t in
    eqb_equal (count_below f n) 0 (below_none f n (λ k b. refuted (f k) (λ t. omega (arith, first_found f n 0 k zero-le (omega arith) t)))))
    (λ t. by_cases (dec_lt (first_from f n 0) n) (λ a. absurd (omega (arith, eqb→eq (count_below f n) 0 t, below_pos f n _ a (first_is f n 0 (omega arith))))) (λ b. le→leb n _ (omega arith)))

-- ---- equal parts of length n, one after the other: part a starts at a * n
pub part_in : (m n a i : ℕ) → a < m → i < n → a * n + i < m * n
part_in m n a i b c = omega (arith, mul-le-mul_right n b, suc-mul a n)

pub parts_apart : (n a b i j : ℕ) → i < n → j < n → a < b → a * n + i < b * n + j
parts_apart n a b i j u w c = omega (arith, mul-le-mul_right n c, suc-mul a n)

pub same_part : (n a b i j : ℕ) → i < n → j < n → a * n + i ≡ b * n + j → (a ≡ b) × (i ≡ j)
same_part n a b i j u w e = by_cases (dec_lt a b) (λ p. absurd (omega (arith, parts_apart n a b i j u w p))) (λ p. by_cases (dec_lt b a)
    (λ q. absurd (omega (arith, parts_apart n b a j i w u q)))
    (λ q. let z : a ≡ b = omega arith in (z, omega (arith, ap (λ (k : ℕ). k * n) z))))

-- ---- whether one of the numbers below n passes
pub below_found : (f : ℕ → Bool) (n : ℕ) → T (any_below f n) → (i : ℕ) × (i < n) × T (f i)
unfolding any_below
below_found f (suc n) t = or_cases (any_below f n) (f n) t (λ u. let x = below_found f n u in (x.0, omega (arith, x.1), x.2)) (λ u. (n, omega arith, u))
below_found f zero t = elim t [ ]

pub below_at : (f : ℕ → Bool) (n i : ℕ) → i < n → T (f i) → T (any_below f n)
unfolding any_below
below_at f zero i b t = absurd (omega arith)
below_at f (suc n) i b t = by_cases (ℕ_discrete i n) (λ e. or_right (any_below f n) (f n) (rw e at t)) (λ e. or_left (any_below f n) (f n) (below_at f n i (omega arith) t))

pub below_same : (f g : ℕ → Bool) (n : ℕ) → ((i : ℕ) → i < n → f i ≡ g i) → any_below f n ≡ any_below g n
unfolding any_below
below_same f g zero e = refl
below_same f g (suc n) e = ap₂ ◌||◌ (below_same f g n (λ i b. e i (omega arith))) (e n (omega arith))
