-- Views that differ in some words only: what a put and a renewed region change; and that, laid over a memory, such views differ in the bytes of those words only.
use Prim.Native.Nat.{ℕ, zero, suc, ◌+◌, ◌*◌, ◌-◌, ◌/◌, ◌≤◌, ◌<◌}
use mathlib.Core.Path.{◌≡◌, refl, ap, sym, ◌∙◌}
use mathlib.Core.Logic.{◌⊎◌, inl, inr, ⊎_elim, ⊎_map}
use mathlib.Core.Bool.{Bool, true, false, cond, ◌||◌, or_assoc}
use mathlib.Core.List.{List, [], ◌∷◌, ◌++◌, map, append-nil}
use native.Mathlib.Omega.{arith}
use native.Mathlib.Nat.{zero-add}
use native.Mathlib.Decide.{dec_lt, ℕ_discrete}
use lib.Dec.{T, eqb}
use lib.ListN.{length, get_or, set, drop, replicate, length-set, length-append, length-drop, get_or-append, get_or-map}
use lib.Seq.{get_or-set_other, get_or-append-add, get_or-drop}
use borrow.Author.Tests.{eqb-true}
use Rattle.words.specs.Words.{bytes}
use Rattle.words.proofs.Words.{length_bytes}
use Rattle.loops.specs.Change.{changed, numbered}
use Rattle.loops.proofs.Change.{changed_at_lem}
use Rattle.layout.specs.declared.Sizes.{Sizes}
use Rattle.layout.specs.declared.Region.{Region}
use Rattle.layout.specs.Cut.{end_from, join}
use Rattle.layout.specs.Regions.{index, lens, all, len, base, need}
use Rattle.layout.specs.View.{View, lay, put, renew, Long}
use Rattle.layout.specs.Parts.{Part, has, among, OneOf, ChangedWithin}
use Rattle.layout.proofs.Cut.{join_length, located}
use Rattle.layout.proofs.View.{view_at}
use Rattle.layout.proofs.Lay.{same_region, lengths, view_of_join}

-- ---- parts of two lists
pub among_append : (k : Region) (j : ℕ) (xs ys : List Part) → among k j (xs ++ ys) ≡ (among k j xs || among k j ys)
among_append k j [] ys = refl
among_append k j (x ∷ xs) ys = ap (λ (b : Bool). has k j x || b) (among_append k j xs ys) ∙ sym (or_assoc (has k j x) (among k j xs) (among k j ys))

-- ---- what the functions on views change
pub nothing_changed : {xs : List Part} {v : View} → ChangedWithin xs v v
nothing_changed = record { long = λ k. refl; only = λ k j. inl refl }

-- region k is renewed: each of its words is one of the parts, or as it was
pub renew_within : {xs : List Part} {v v' : View} (k : Region) (l : List ℕ) → length l ≡ length (v' k)
    → ((j : ℕ) → (get_or l j 0 ≡ get_or (v' k) j 0) ⊎ T (among k j xs)) → ChangedWithin xs v v' → ChangedWithin xs v (renew k l v')
unfolding renew
renew_within {xs} {v} {v'} k l e f o = record { long = λ i. long i (eqb (index k) (index i)) refl; only = λ i j. only i j (eqb (index k) (index i)) refl }
  where
    long : (i : Region) (b : Bool) → eqb (index k) (index i) ≡ b → length (cond b l (v' i)) ≡ length (v i)
    long i true q = rw (← same_region k i (eqb-true (index k) (index i) q)) (e ∙ o.long k)
    long i false q = o.long i

    only : (i : Region) (j : ℕ) (b : Bool) → eqb (index k) (index i) ≡ b → (get_or (cond b l (v' i)) j 0 ≡ get_or (v i) j 0) ⊎ T (among i j xs)
    only i j true q =
        rw (← same_region k i (eqb-true (index k) (index i) q)) (⊎_elim (λ a. ⊎_map (λ b. a ∙ b) (λ t. t) (o.only k j)) inr (f j))
    only i j false q = o.only i j

pub put_within : {xs : List Part} {v v' : View} (k : Region) (i w : ℕ) → T (among k i xs) → ChangedWithin xs v v' → ChangedWithin xs v (put k i w v')
unfolding put
put_within {xs} {v' = v'} k i w t o =
    renew_within k (set (v' k) i w) (length-set (v' k) i w)
    (λ j. elim (ℕ_discrete j i) as (λ _. (get_or (set (v' k) i w) j 0 ≡ get_or (v' k) j 0) ⊎ T (among k j xs)) [ yes e ↦ inr (rw e t) | no n ↦ inl (get_or-set_other (v' k) i j w 0 n) ]) o

-- ---- from words to bytes
-- bytes of lists of words that agree on the byte's word
bytes_same : (ws ws' : List ℕ) (i : ℕ) → length ws ≡ length ws' → get_or ws (i / 4) 0 ≡ get_or ws' (i / 4) 0 → get_or (bytes ws) i 0 ≡ get_or (bytes ws') i 0
unfolding bytes
bytes_same [] [] i l e = refl
bytes_same [] (w' ∷ ws') i l e = absurd (omega arith)
bytes_same (w ∷ ws) [] i l e = absurd (omega arith)
bytes_same (w ∷ ws) (w' ∷ ws') zero l e = rw e
bytes_same (w ∷ ws) (w' ∷ ws') (suc zero) l e = rw e
bytes_same (w ∷ ws) (w' ∷ ws') (suc (suc zero)) l e = rw e
bytes_same (w ∷ ws) (w' ∷ ws') (suc (suc (suc zero))) l e = rw e
bytes_same (w ∷ ws) (w' ∷ ws') (suc (suc (suc (suc i)))) l e =
    let q : suc (suc (suc (suc i))) / 4 ≡ suc (i / 4) = omega arith in bytes_same ws ws' i (omega arith) (rw q at e)

-- region i of `all` has the number i
numbered_all : (i : ℕ) → i < length all → index (get_or all i Region.Header) ≡ i
unfolding changed
numbered_all i b =
    sym (get_or-map index all i Region.Header)
    ∙ ap (λ (j : ℕ). get_or (numbered 0 (length all) (replicate (length all) 0)) j 0) (sym (zero-add i))
    ∙ changed_at_lem (λ i x. i) 0 (replicate (length all) 0) (length all) i (omega arith) b

-- every word that the sizes need is one of a region
word_of : (s : Sizes) (w : ℕ) → w < need s → (k : Region) × (j : ℕ) × (j < len s k) × (w ≡ base s k + j)
unfolding base need
word_of s w b =
    let t = located 0 (lens s) w (omega arith) b in
    let n = numbered_all t.0 t.2 in
    (get_or all t.0 Region.Header, t.1, rw n t.3, rw n t.4)

module _ (s : Sizes) (v : View) (h : Long s v) where
  word_at : (k : Region) (j : ℕ) → j < len s k → get_or (join (map v all)) (base s k + j) 0 ≡ get_or (v k) j 0
  word_at k j b =
      ap (λ (l : List ℕ). get_or l (base s k + j) 0) (sym (append-nil (join (map v all))))
      ∙ sym (view_at s (join (map v all) ++ []) k j b)
      ∙ ap (λ (u : View). get_or (u k) j 0) (view_of_join s v [] h)

  words_long : length (join (map v all)) ≡ need s
  unfolding need
  words_long = sym (zero-add _) ∙ join_length 0 (map v all) ∙ ap (end_from 0) (lengths s v h)

  pub laid_long : length (bytes (join (map v all))) ≡ need s * 4
  laid_long = length_bytes (join (map v all)) ∙ rw words_long

  pub lay_length : (m : List ℕ) → need s * 4 ≤ length m → length (lay s v m) ≡ length m
  unfolding lay
  lay_length m b = length-append (bytes (join (map v all))) (drop (need s * 4) m) ∙ omega (arith, laid_long, length-drop (need s * 4) m)

  -- a byte past those that the sizes need
  pub lay_past : (m : List ℕ) (i : ℕ) → need s * 4 ≤ i → get_or (lay s v m) i 0 ≡ get_or m i 0
  unfolding lay
  lay_past m i b =
      let e : i ≡ length (bytes (join (map v all))) + (i - need s * 4) = omega (arith, laid_long) in
      let q : need s * 4 + (i - need s * 4) ≡ i = omega arith in
      ap (λ (j : ℕ). get_or (lay s v m) j 0) e
      ∙ get_or-append-add (bytes (join (map v all))) (drop (need s * 4) m) (i - need s * 4) 0
      ∙ get_or-drop (need s * 4) m (i - need s * 4) 0 ∙ ap (λ (j : ℕ). get_or m j 0) q

-- Each byte is as it was, or is one of the parts.
pub within_bytes : (s : Sizes) (v v' : View) (m : List ℕ) {xs : List Part} → Long s v → ChangedWithin xs v v' → (i : ℕ) → (get_or (lay s v' m) i 0 ≡ get_or (lay s v m) i 0) ⊎ OneOf s xs i
unfolding lay
within_bytes s v v' m {xs} h o i = go (dec_lt i (need s * 4))
  where
    h' : Long s v'
    h' k = o.long k ∙ h k

    ws : List ℕ
    ws = join (map v all)

    ws' : List ℕ
    ws' = join (map v' all)

    -- a byte of a word that is as it was
    byte_same : i < need s * 4 → get_or ws' (i / 4) 0 ≡ get_or ws (i / 4) 0 → get_or (lay s v' m) i 0 ≡ get_or (lay s v m) i 0
    byte_same b e =
        get_or-append (bytes ws') _ 0 i (omega (arith, laid_long s v' h'))
        ∙ bytes_same ws' ws i (words_long s v' h' ∙ sym (words_long s v h)) e
        ∙ sym (get_or-append (bytes ws) _ 0 i (omega (arith, laid_long s v h)))

    go : Dec (i < need s * 4) → (get_or (lay s v' m) i 0 ≡ get_or (lay s v m) i 0) ⊎ OneOf s xs i
    go (yes b) =
        let t = word_of s (i / 4) (omega arith) in
        let k = t.0 in
        let j = t.1 in
        let e : i / 4 ≡ base s k + j = t.3 in
        ⊎_map (λ a. byte_same b (rw e (word_at s v' h' k j t.2 ∙ a ∙ sym (word_at s v h k j t.2)))) (λ a. (k, j, (t.2, e), a)) (o.only k j)
    go (no b) = inl (lay_past s v' h' m i (omega arith) ∙ sym (lay_past s v h m i (omega arith)))
