-- Entries that bear the numbers of what is live in a list of the history: the open transactions, the open scans. The relation is one equation of counts for
-- every test q, so that membership, the limits, that numbers differ, and what stands in the entry found are read off by a choice of q.
use mathlib.Core.Path.{◌≡◌, refl, sym, ◌∙◌, ap}
use mathlib.Core.Logic.{◌≢◌}
use mathlib.Core.Bool.{Bool, true, false, not, cond, ◌&&◌, and-false, and-true, and_assoc}
use mathlib.Core.List.{List, [], ◌∷◌, ◌++◌}
use Prim.Native.Nat.{ℕ, zero, suc, ◌+◌, ◌≤◌, ◌<◌}
use native.Mathlib.Omega.{arith}
use native.Mathlib.Decide.{ℕ_discrete}
use lib.Dec.{T, ltb, eqb, eqb-suc-zero}
use lib.ListN.{length, get_or, set}
use borrow.Author.Tests.{ne_eqb}
use Rattle.history.specs.History.{any, count, nth, change}
use Rattle.history.proofs.Lists.{by_cases, by_test, eqb_same, eqb_equal, is_true, any_at, one_few}
use Rattle.terms.specs.Entries.{first_index, bears}
use Rattle.model.proofs.Lists.{one, count_set, any_count, count_rest, count_from_lem, from_snoc, from_set, from_none, from_at, first_below, first_passes, count_pos}
use Rattle.model.specs.Represents.{count_from}

one_pos : (b : Bool) → ltb 0 (one b) ≡ b
one_pos true = refl
one_pos false = refl

-- what is live is inside, and has a number that was given
pub live_inside : {A : Type 0} (live : A → Bool) (l : List A) (k : ℕ) (d : A) → live d ≡ false → T (live (get_or l k d)) → k < length l
live_inside live [] k d e t = absurd (rw e at t)
live_inside live (x ∷ l) zero d e t = omega arith
live_inside live (x ∷ l) (suc k) d e t = omega (arith, live_inside live l k d e t)

pub live_given : {A : Type 0} (live : A → Bool) (l : List A) (k : ℕ) (d : A) → live d ≡ false → T (live (nth l k d)) → (1 ≤ k) × (k ≤ length l)
live_given live l zero d e t = absurd (rw e at t)
live_given live l (suc k) d e t = (omega arith, live_inside live l k d e t)

-- an index that passes is the first that does, where no more than one does
only_index : {A : Type 0} (f : A → Bool) (l : List A) (j : ℕ) (d : A) → j < length l → T (f (get_or l j d)) → count f l ≤ 1 → first_index f l ≡ j
only_index f [] j d b t = λ c. absurd (omega arith)
only_index f (x ∷ l) zero d b t = λ c. rw (is_true (f x) t)
only_index f (x ∷ l) (suc j) d b t =
    by_test (λ q. cond q (suc (count f l)) (count f l) ≤ 1 → cond q 0 (suc (first_index f l)) ≡ suc j) (f x)
    (λ _ c. absurd (omega (arith, count_pos f l j d (omega arith) t))) (λ _ c. ap suc (only_index f l j d (omega arith) t c))

-- How entries of type P stand for what is live among elements of type A: `as' i s` is the entry of number i of what is in state s.
pub record Kind (P A : Type 0) : Type 0 where
  pub number : P → ℕ
  pub live : A → Bool
  pub as' : ℕ → A → P
  pub as_number : (i : ℕ) (s : A) → number (as' i s) ≡ i
  pub free : P
  pub free_number : number free ≡ 0
  pub none : A
  pub none_live : live none ≡ false
  pub tells : (p p' : P) → ((f : P → ℕ) → f p ≡ f p') → p ≡ p'

abbrev pub Book : {P A : Type 0} → Kind P A → List A → List P → Type 0
Book {P} K ts l = (q : P → Bool) → count (λ p. not (eqb (K.number p) 0) && q p) l ≡ count_from (λ i s. K.live s && q (K.as' i s)) 1 ts

module _ {P A : Type 0} (K : Kind P A) (ts : List A) (l : List P) (o : Book K ts l) where
  -- what has number t, the test for it, and the number in entry j
  abbrev entry : ℕ → A
  entry t = nth ts t K.none

  abbrev bearing : ℕ → P → Bool
  bearing t p = bears t (K.number p)

  abbrev number_at : ℕ → ℕ
  number_at j = K.number (get_or l j K.free)

  -- a test beside the number
  book_at : (t : ℕ) (f : P → Bool) → count (λ p. not (eqb (K.number p) 0) && (f p && eqb (K.number p) t)) l ≡ one (K.live (entry t) && f (K.as' t (entry t)))
  book_at zero f =
      o (λ p. f p && eqb (K.number p) 0)
      ∙ from_none _ 1 ts (λ n x a b. rw (K.as_number n x, ne_eqb n 0 (λ e. omega arith), and-false (f (K.as' n x)), and-false (K.live x)))
      ∙ rw K.none_live
  book_at (suc t) f =
      let e : 1 + t ≡ suc t = omega arith in
      o (λ p. f p && eqb (K.number p) (suc t)) ∙ simp (K.as_number, ← and_assoc) (rw e at (from_at (λ n x. K.live x && f (K.as' n x)) 1 ts t K.none (λ n. rw K.none_live)))

  pub book_is : (t : ℕ) → any (bearing t) l ≡ K.live (entry t)
  book_is t = any_count _ l ∙ ap (ltb 0) (book_at t (λ p. true)) ∙ one_pos _ ∙ and-true _

  pub book_count : count (λ p. not (eqb (K.number p) 0) && true) l ≡ count K.live ts
  book_count = o (λ p. true) ∙ sym (count_from_lem K.live 1 ts)

  -- a free entry is there, unless all are taken
  pub book_room : count (λ p. eqb (K.number p) 0) l + count K.live ts ≡ length l
  book_room = rw (← book_count) (count_rest (λ p. eqb (K.number p) 0) l)

  pub book_add : (s : A) → T (K.live s) → T (any (λ p. eqb (K.number p) 0) l) → Book K (ts ++ s ∷ []) (set l (first_index (λ p. eqb (K.number p) 0) l) (K.as' (suc (length ts)) s))
  book_add s v a q =
      let i : ℕ = first_index (λ p. eqb (K.number p) 0) l in
      let x : P = K.as' (suc (length ts)) s in
      let e1 : one (not (eqb (K.number (get_or l i K.free)) 0) && q (get_or l i K.free)) ≡ 0 =
      rw (is_true (eqb (K.number (get_or l i K.free)) 0) (first_passes (λ p. eqb (K.number p) 0) l K.free a)) in
      let e2 : one (not (eqb (K.number x) 0) && q x) ≡ one (q x) = rw (K.as_number (suc (length ts)) s, eqb-suc-zero (length ts)) in
      let e3 : one (K.live s && q (K.as' (1 + length ts) s)) ≡ one (q x) =
      rw (is_true (K.live s) v) (ap (λ (j : ℕ). one (q (K.as' j s))) (omega arith)) in
      omega (
        arith,
        count_set (λ p. not (eqb (K.number p) 0) && q p) l i x K.free (first_below (λ p. eqb (K.number p) 0) l a),
        o q,
        from_snoc (λ i s. K.live s && q (K.as' i s)) 1 ts s,
      )

  -- what was found under a number
  pub book_found : (t : ℕ) → T (K.live (entry t)) → get_or l (first_index (bearing t) l) K.free ≡ K.as' t (entry t)
  book_found t v = K.tells _ _ (λ f. by_cases (ℕ_discrete (f p) (f x)) (λ q. q) (λ n. absurd (other f n)))
    where
      p : P
      p = get_or l (first_index (bearing t) l) K.free

      x : P
      x = K.as' t (entry t)

      found : T (any (bearing t) l)
      found = rw (book_is t) v

      other : (f : P → ℕ) → f p ≢ f x → ⊥
      other f n =
          let g : P → Bool = λ p. not (eqb (K.number p) 0) && (not (eqb (f p) (f x)) && eqb (K.number p) t) in
          let e : count g l ≡ 0 = book_at t (λ p. not (eqb (f p) (f x))) ∙ rw (eqb_same (f x), and-false (K.live (entry t))) in
          omega (arith, count_pos g l (first_index (bearing t) l) K.free (first_below (bearing t) l found) (rw (ne_eqb (f p) (f x) n) (first_passes (bearing t) l K.free found)))

  pub book_drop : (t : ℕ) → T (K.live (entry t)) → (s : A) → K.live s ≡ false → Book K (change ts t s) (set l (first_index (bearing t) l) K.free)
  book_drop zero v s n q = absurd (rw K.none_live at v)
  book_drop (suc t) v s n q =
      let i : ℕ = first_index (bearing (suc t)) l in
      let y : A = get_or ts t K.none in
      let x : P = K.as' (suc t) y in
      let e1 : one (not (eqb (K.number (get_or l i K.free)) 0) && q (get_or l i K.free)) ≡ one (q x) = rw (book_found (suc t) v, K.as_number (suc t) y, eqb-suc-zero t) in
      let e2 : one (not (eqb (K.number K.free) 0) && q K.free) ≡ 0 = rw K.free_number in
      let e3 : one (K.live y && q (K.as' (1 + t) y)) ≡ one (q x) =
      rw (is_true (K.live y) v) (ap (λ (j : ℕ). one (q (K.as' j y))) (omega arith)) in
      let e4 : one (K.live s && q (K.as' (1 + t) s)) ≡ 0 = rw n in
      omega (
        arith,
        count_set (λ p. not (eqb (K.number p) 0) && q p) l i K.free K.free (first_below (bearing (suc t)) l (rw (book_is (suc t)) v)),
        o q,
        from_set (λ i s. K.live s && q (K.as' i s)) 1 ts t s K.none (live_inside K.live ts t K.none K.none_live v),
      )

  -- ---- an entry that is not free
  bears_own : (j : ℕ) → number_at j ≢ 0 → T (bears (number_at j) (number_at j))
  bears_own j n = rw (ne_eqb (number_at j) 0 n) (eqb_equal (number_at j) (number_at j) refl)

  inside : (j : ℕ) → number_at j ≢ 0 → j < length l
  inside j n = live_inside (bearing (number_at j)) l j K.free (rw K.free_number) (bears_own j n)

  -- its number is that of what is live
  pub number_live : (j : ℕ) → number_at j ≢ 0 → T (K.live (entry (number_at j)))
  number_live j n = rw (book_is (number_at j)) at (any_at (bearing (number_at j)) l K.free j (inside j n) (bears_own j n))

  pub number_given : (j : ℕ) → number_at j ≤ length ts
  number_given j = by_cases (ℕ_discrete (number_at j) 0) (λ z. omega arith) (λ n. (live_given K.live ts (number_at j) K.none K.none_live (number_live j n)).1)

  -- no other entry bears it
  pub only_entry : (j : ℕ) → number_at j ≢ 0 → first_index (bearing (number_at j)) l ≡ j
  only_entry j n =
      only_index (bearing (number_at j)) l j K.free (inside j n) (bears_own j n) (omega (arith, book_at (number_at j) (λ p. true), one_few (K.live (entry (number_at j)) && true)))

  pub numbers_apart : (i j : ℕ) → i < j → number_at i ≡ number_at j → number_at i ≡ 0
  numbers_apart i j b e = by_cases (ℕ_discrete (number_at i) 0) (λ z. z) (λ n. absurd (omega (arith, only_entry i n, rw (← e) at (only_entry j (rw (← e) n)))))

  -- and it stands for what is live
  pub entry_stands : (j : ℕ) → number_at j ≢ 0 → get_or l j K.free ≡ K.as' (number_at j) (entry (number_at j))
  entry_stands j n = rw (only_entry j n) at (book_found (number_at j) (number_live j n))
