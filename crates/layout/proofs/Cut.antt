-- The laws of a cut: pieces do not overlap, words that change inside one piece leave every other, and the pieces together are the words.
-- Nothing here is said for each region, and nothing for each pair of regions.
use Prim.Native.Nat.{ℕ, zero, suc, ◌+◌, ◌-◌, ◌≤◌, ◌<◌}
use mathlib.Core.Path.{◌≡◌, refl, ap, sym, ◌∙◌}
use mathlib.Core.Bool.{true, false, cond}
use mathlib.Core.Logic.{◌≢◌, ◌⊎◌, inl, inr, ⊎_swap}
use mathlib.Core.List.{List, [], ◌∷◌, ◌++◌, map, append_assoc}
use native.Mathlib.Omega.{arith}
use native.Mathlib.Nat.{add-zero}
use native.Mathlib.Decide.{dec_lt}
use lib.Dec.{eqb}
use lib.ListN.{length, get_or, take, take-append-drop, length-append}
use lib.Seq.{slice, slice_empty, take-take, take-append_seam, drop-append_seam, take-append-add}
use borrow.Author.Tests.{eqb-true, eqb-false}
use Rattle.loops.specs.Search.{region}
use Rattle.layout.specs.Cut.{start_from, end_from, join}

abbrev pub piece : List ℕ → List ℕ → ℕ → List ℕ
piece ns ws i = region ws (start_from 0 ns i) (get_or ns i 0)

start_least : (b : ℕ) (ns : List ℕ) (i : ℕ) → b ≤ start_from b ns i
start_least b [] i = omega arith
start_least b (n ∷ ns) zero = omega arith
start_least b (n ∷ ns) (suc i) = omega (arith, start_least (b + n) ns i)

end_least : (b : ℕ) (ns : List ℕ) → b ≤ end_from b ns
end_least b [] = omega arith
end_least b (n ∷ ns) = omega (arith, end_least (b + n) ns)

-- a piece ends before a later one starts, and before the end
pub apart : (b : ℕ) (ns : List ℕ) (i j : ℕ) → i < j → start_from b ns i + get_or ns i 0 ≤ start_from b ns j
apart b [] i j h = omega arith
apart b (n ∷ ns) zero zero h = absurd (omega arith)
apart b (n ∷ ns) zero (suc j) h = start_least (b + n) ns j
apart b (n ∷ ns) (suc i) zero h = absurd (omega arith)
apart b (n ∷ ns) (suc i) (suc j) h = apart (b + n) ns i j (omega arith)

pub within : (b : ℕ) (ns : List ℕ) (i : ℕ) → start_from b ns i + get_or ns i 0 ≤ end_from b ns
within b [] i = omega arith
within b (n ∷ ns) zero = end_least (b + n) ns
within b (n ∷ ns) (suc i) = within (b + n) ns i

-- two pieces lie side by side
pub sides : (b : ℕ) (ns : List ℕ) (i j : ℕ) → i ≢ j
    → (start_from b ns i + get_or ns i 0 ≤ start_from b ns j) ⊎ (start_from b ns j + get_or ns j 0 ≤ start_from b ns i)
sides b ns i j h =
    elim (dec_lt i j) as (λ _. (start_from b ns i + get_or ns i 0 ≤ start_from b ns j) ⊎ (start_from b ns j + get_or ns j 0 ≤ start_from b ns i))
    [ yes f ↦ inl (apart b ns i j f) | no f ↦ inr (apart b ns j i (omega arith)) ]

-- every word is one of a piece
pub located : (b : ℕ) (ns : List ℕ) (w : ℕ) → b ≤ w → w < end_from b ns
    → (i : ℕ) × (j : ℕ) × (i < length ns) × (j < get_or ns i 0) × (w ≡ start_from b ns i + j)
located b [] w p q = absurd (omega arith)
located b (n ∷ ns) w p q =
    elim (dec_lt w (b + n)) as (λ _. (i : ℕ) × (j : ℕ) × (i < suc (length ns)) × (j < get_or (n ∷ ns) i 0) × (w ≡ start_from b (n ∷ ns) i + j)) [
      | yes h ↦ (0, w - b, omega arith, omega arith, omega arith)
      | no h ↦ let t = located (b + n) ns w (omega arith) q in (suc t.0, t.1, omega (arith, t.2), t.3, t.4)
    ]

-- where a piece starts depends on those before it alone
start_none : (b : ℕ) (ns : List ℕ) → start_from b ns 0 ≡ b
start_none b [] = refl
start_none b (n ∷ ns) = refl

pub start_agree : (b : ℕ) (xs ys zs : List ℕ) (i : ℕ) → i ≤ length xs → start_from b (xs ++ ys) i ≡ start_from b (xs ++ zs) i
start_agree b [] ys zs zero h = start_none b ys ∙ sym (start_none b zs)
start_agree b [] ys zs (suc i) h = absurd (omega arith)
start_agree b (x ∷ xs) ys zs zero h = refl
start_agree b (x ∷ xs) ys zs (suc i) h = start_agree (b + x) xs ys zs i (omega arith)

-- words that changed inside piece k only: every other piece is as it was
pub inside : (ns ws ws' : List ℕ) (k l : ℕ)
    → ((b n : ℕ) → (b + n ≤ start_from 0 ns k) ⊎ (start_from 0 ns k + get_or ns k 0 ≤ b) → region ws' b n ≡ region ws b n)
    → piece ns ws' l ≡ cond (eqb k l) (piece ns ws' k) (piece ns ws l)
inside ns ws ws' k l same =
    elim (eqb k l) as (λ b. eqb k l ≡ b → piece ns ws' l ≡ cond b (piece ns ws' k) (piece ns ws l))
    [ true ↦ λ e. let q : k ≡ l = eqb-true k l e in rw (← q) | false ↦ λ e. same (start_from 0 ns l) (get_or ns l 0) (⊎_swap (sides 0 ns k l (eqb-false k l e))) ] refl

-- ---- all the pieces, and the words again

slice_join : (a b c : ℕ) (l : List ℕ) → a ≤ b → b ≤ c → slice a b l ++ slice b c l ≡ slice a c l
slice_join zero b c l h k = rw (← take-take b c l k) (take-append-drop b (take c l))
slice_join (suc a) zero c l h k = absurd (omega arith)
slice_join (suc a) (suc b) zero l h k = absurd (omega arith)
slice_join (suc a) (suc b) (suc c) [] h k = refl
slice_join (suc a) (suc b) (suc c) (x ∷ l) h k = slice_join a b c l (omega arith) (omega arith)

abbrev pub pieces_from : ℕ → List ℕ → List ℕ → List (List ℕ)
pieces_from b [] ws = []
pieces_from b (n ∷ ns) ws = region ws b n ∷ pieces_from (b + n) ns ws

pub join_pieces : (b : ℕ) (ns ws : List ℕ) → join (pieces_from b ns ws) ≡ slice b (end_from b ns) ws
join_pieces b [] ws = sym (slice_empty b ws)
join_pieces b (n ∷ ns) ws =
    ap (λ (l : List ℕ). region ws b n ++ l) (join_pieces (b + n) ns ws)
    ∙ slice_join b (b + n) (end_from (b + n) ns) ws (omega arith) (end_least (b + n) ns)

-- ---- lists put together, and a piece taken out again

pub join_length : (b : ℕ) (ls : List (List ℕ)) → b + length (join ls) ≡ end_from b (map length ls)
join_length b [] = add-zero b
join_length b (x ∷ ls) = omega (arith, length-append x (join ls), join_length (b + length x) ls)

-- piece i of what follows p
piece_after : (ls : List (List ℕ)) (p r : List ℕ) (i : ℕ)
    → region (p ++ (join ls ++ r)) (start_from (length p) (map length ls) i) (get_or (map length ls) i 0) ≡ get_or ls i []
piece_after [] p r i = rw (add-zero (length p)) (slice_empty (length p) (p ++ r))
piece_after (x ∷ ls) p r zero =
    rw (append_assoc x (join ls) r, take-append-add p (x ++ (join ls ++ r)) (length x), drop-append_seam, take-append_seam)
piece_after (x ∷ ls) p r (suc i) =
    rw (append_assoc x (join ls) r, ← append_assoc p x (join ls ++ r))
    (ap (λ (b : ℕ). region (p ++ x ++ (join ls ++ r)) (start_from b (map length ls) i) (get_or (map length ls) i 0)) (sym (length-append p x)) ∙ piece_after ls (p ++ x) r i)

pub piece_join : (ls : List (List ℕ)) (r : List ℕ) (i : ℕ) → piece (map length ls) (join ls ++ r) i ≡ get_or ls i []
piece_join ls r i = piece_after ls [] r i
