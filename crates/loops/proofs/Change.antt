-- The laws of `changed`, on which every loop that writes rests: its length, its words, the words and regions outside it, and that it
-- is a change of the one region in which it lies.
use Rattle.std.proofs.Common.{◌≡◌, ℕ, zero, suc, ◌+◌, ◌^◌, ◌<◌, ◌≤◌, cond, eqb, ◌⊎◌, List, [], ◌∷◌, length, get_or, set, replicate, refl, ap, ◌∙◌, inl, inr, ⊎_elim, le_of_suc-le-suc, eq-or-lt_of_le, add-one, arith, length-set, get_or-set_other, get_or-set_same}
use mathlib.Core.Logic.{⊎_map}
use Rattle.loops.specs.Change.{changed, copied, marked}
use Rattle.loops.specs.Search.{region}
use Rattle.words.specs.Words.{Fit}
use Rattle.loops.proofs.Region.{region_at, region_put, region_before, region_after}

module _ (f : ℕ → ℕ → ℕ) (at : ℕ) (l : List ℕ) where
  pub changed_none : l ≡ changed f at 0 l
  unfolding changed
  changed_none = refl

  -- one turn of a loop: x at word at + i
  pub changed_next : (w w' : List ℕ) (i x : ℕ) → w ≡ changed f at i l → x ≡ f i (get_or l (at + i) 0) → w' ≡ set w (at + i) x
      → w' ≡ changed f at (i + 1) l
  unfolding changed
  changed_next w w' i x e q s = rw (s, add-one, e, q)

  pub changed_length : (n : ℕ) → length (changed f at n l) ≡ length l
  unfolding changed
  changed_length zero = refl
  changed_length (suc n) = rw length-set (changed_length n)

  -- a word below or above is as it was
  pub changed_outside : (n j : ℕ) → (j < at) ⊎ (at + n ≤ j) → get_or (changed f at n l) j 0 ≡ get_or l j 0
  unfolding changed
  changed_outside zero j d = refl
  changed_outside (suc n) j (inl h) =
      get_or-set_other (changed f at n l) (at + n) j _ 0 (omega arith) ∙ changed_outside n j (inl h)
  changed_outside (suc n) j (inr h) =
      get_or-set_other (changed f at n l) (at + n) j _ 0 (omega arith) ∙ changed_outside n j (inr (omega arith))

  pub changed_at_lem : (n i : ℕ) → at + n ≤ length l → i < n → get_or (changed f at n l) (at + i) 0 ≡ f i (get_or l (at + i) 0)
  unfolding changed
  changed_at_lem zero i h k = absurd (omega arith)
  changed_at_lem (suc n) i h k =
      ⊎_elim
      (λ e. rw e (get_or-set_same (changed f at n l) (at + n) _ 0 (omega (arith, changed_length n))))
      (λ b. get_or-set_other (changed f at n l) (at + n) (at + i) _ 0 (omega arith) ∙ changed_at_lem n i (omega arith) b)
      (eq-or-lt_of_le (le_of_suc-le-suc k))

  -- a region below or above is as it was
  pub changed_apart : (n b k : ℕ) → (b + k ≤ at) ⊎ (at + n ≤ b) → region (changed f at n l) b k ≡ region l b k
  unfolding changed
  changed_apart zero b k d = refl
  changed_apart (suc n) b k (inl h) = region_after _ b k _ _ (omega arith) ∙ changed_apart n b k (inl h)
  changed_apart (suc n) b k (inr h) = region_before _ b k _ _ (omega arith) ∙ changed_apart n b k (inr (omega arith))

-- a change inside a region is the same change of the region
pub changed_inside : (f : ℕ → ℕ → ℕ) (l : List ℕ) (b k at n : ℕ) → at + n ≤ k
    → region (changed f (b + at) n l) b k ≡ changed f at n (region l b k)
unfolding changed
changed_inside f l b k at zero h = refl
changed_inside f l b k at (suc n) h =
    let e : b + at + n ≡ b + (at + n) = omega arith in
    rw (e, region_put _ b k (at + n) _ (omega arith), region_at l b k (at + n) (omega arith), changed_inside f l b k at n (omega arith))

-- words that fit stay so
pub set_fit : (l : List ℕ) (i v : ℕ) → Fit l → v < 2 ^ 32 → Fit (set l i v)
set_fit [] i v f h k = f k
set_fit (x ∷ l) zero v f h zero = h
set_fit (x ∷ l) zero v f h (suc k) = f (suc k)
set_fit (x ∷ l) (suc i) v f h zero = f 0
set_fit (x ∷ l) (suc i) v f h (suc k) = set_fit l i v (λ j. f (suc j)) h k

pub changed_fit : (f : ℕ → ℕ → ℕ) (at n : ℕ) (l : List ℕ) → ((i x : ℕ) → i < n → x < 2 ^ 32 → f i x < 2 ^ 32) → Fit l
    → Fit (changed f at n l)
unfolding changed
changed_fit f at zero l h g = g
changed_fit f at (suc n) l h g =
    set_fit (changed f at n l) (at + n) _ (changed_fit f at n l (λ i x b. h i x (omega arith)) g) (h n _ (omega arith) (g (at + n)))

-- zeros, and past their end
pub zeros : (n i : ℕ) → ◌≡◌ {A = ℕ} (get_or (replicate n 0) i 0) 0
zeros zero i = refl
zeros (suc n) zero = refl
zeros (suc n) (suc i) = zeros n i

-- only the values of f below n matter
pub changed_same : (f g : ℕ → ℕ → ℕ) (at n : ℕ) (l : List ℕ) → ((i x : ℕ) → i < n → f i x ≡ g i x) → changed f at n l ≡ changed g at n l
unfolding changed
changed_same f g at zero l h = refl
changed_same f g at (suc n) l h = rw (changed_same f g at n l (λ i x b. h i x (omega arith)), h n (get_or l (at + n) 0) (omega arith))

-- ---- one turn of `copy` and of `mark`, which read what an earlier turn may not have written

-- index from + i of a stretch that does not overlap the n words from `to` is below or above what i turns wrote
clear : (from to n i : ℕ) → i < n → (from + n ≤ to) ⊎ (to + n ≤ from) → (from + i < to) ⊎ (to + i ≤ from + i)
clear from to n i b = ⊎_map (λ a. omega arith) (λ a. omega arith)

module _ (ws w w' : List ℕ) (from n to i : ℕ) where
  pub copied_next : (r : ℕ) → w ≡ copied ws from i to ws → r ≡ get_or w (from + i) 0 → w' ≡ set w (to + i) r → i < n
      → (from + n ≤ to) ⊎ (to + n ≤ from) → w' ≡ copied ws from (i + 1) to ws
  copied_next r e q s b d =
      changed_next (λ j x. get_or ws (from + j) 0) to ws w w' i r e
      (q ∙ ap (λ (v : List ℕ). get_or v (from + i) 0) e ∙ changed_outside (λ j x. get_or ws (from + j) 0) to ws i (from + i) (clear from to n i b d)) s

  pub marked_next : (key v k old r : ℕ) → w ≡ marked ws from i key to v ws → k ≡ get_or w (from + i) 0 → old ≡ get_or w (to + i) 0
      → r ≡ cond (eqb k key) v old → w' ≡ set w (to + i) r → i < n → (from + n ≤ to) ⊎ (to + n ≤ from)
      → w' ≡ marked ws from (i + 1) key to v ws
  marked_next key v k old r e p q t s b d =
      let g : ℕ → ℕ → ℕ = λ j x. cond (eqb (get_or ws (from + j) 0) key) v x in
      let a : k ≡ get_or ws (from + i) 0 = p ∙ ap (λ (l : List ℕ). get_or l (from + i) 0) e ∙ changed_outside g to ws i (from + i) (clear from to n i b d) in
      let c : old ≡ get_or ws (to + i) 0 = q ∙ ap (λ (l : List ℕ). get_or l (to + i) 0) e ∙ changed_outside g to ws i (to + i) (inr (omega arith)) in
      changed_next g to ws w w' i r e (rw (t, a, c)) s
