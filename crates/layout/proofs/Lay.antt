-- The way back: a view laid over the bytes that the sizes need. Laying what was seen changes nothing, what was laid is seen again,
-- and what a function does to the lent part of a memory is a laying over the whole of it.
use Prim.Native.Nat.{ℕ, ◌+◌, ◌*◌, ◌≤◌}
use mathlib.Core.Path.{◌≡◌, refl, ap, sym, ◌∙◌, fun_ext}
use mathlib.Core.List.{List, [], ◌∷◌, map, ◌++◌}
use native.Mathlib.Omega.{arith}
use lib.ListN.{length, get_or, take, drop, take-append-drop}
use lib.Seq.{take_all, take-take, length-take-le}
use Rattle.words.specs.Words.{words, Bytes, Fit}
use Rattle.words.proofs.Words.{words_bytes, bytes_words, words_take, words_fit, front_bytes, append_fit, take_fit, drop_fit}
use Rattle.layout.specs.declared.Sizes.{Sizes}
use Rattle.layout.specs.declared.Region.{Region}
use Rattle.layout.specs.Cut.{join}
use Rattle.layout.specs.Regions.{index, lens, all, len, base, need}
use Rattle.layout.specs.View.{View, view, lay, Long, Fits}
use Rattle.layout.proofs.Cut.{piece, piece_join}
use Rattle.layout.proofs.View.{base_in, view_join}

-- ---- laying what was seen

pub lay_view : (s : Sizes) (m : List ℕ) → Bytes m → need s * 4 ≤ length m → lay s (view s (words m)) m ≡ m
unfolding lay
lay_view s m b h = rw (view_join s (words m), bytes_words (need s) m b h) (take-append-drop (need s * 4) m)

-- a part p of just the needed length, with the rest of m behind it
pub lay_part : (s : Sizes) (m p : List ℕ) (v : View) → Bytes p → length p ≡ need s * 4 → view s (words p) ≡ v
    → p ++ drop (need s * 4) m ≡ lay s v m
unfolding lay
lay_part s m p v b h e =
    let k : need s * 4 ≤ length p = omega arith in
    rw (← e, view_join s (words p), bytes_words (need s) p b k, take_all (need s * 4) p (omega arith))

-- ---- seeing what was laid

-- `index` and `all` have the same order
pub named : {A : Type 0} (m : Region → A) (d : A) (k : Region) → get_or (map m all) (index k) d ≡ m k
named m d Region.Header = refl
named m d Region.Opens = refl
named m d Region.RowTransaction = refl
named m d Region.RowState = refl
named m d Region.RowStamp = refl
named m d Region.RowLink = refl
named m d Region.RowMask = refl
named m d Region.TailTransaction = refl
named m d Region.TailRow = refl
named m d Region.TailKind = refl
named m d Region.TailMask = refl
named m d Region.TailLink = refl
named m d Region.TailState = refl
named m d Region.TailStamp = refl
named m d Region.TailValues = refl
named m d Region.Used = refl
named m d Region.Current = refl
named m d Region.PageState = refl
named m d Region.PageChunk = refl
named m d Region.PageMade = refl
named m d Region.PageReplaced = refl
named m d Region.PageLineage = refl
named m d Region.PageNewest = refl
named m d Region.Cells = refl
named m d Region.Changes = refl
named m d Region.RowOrdinal = refl
named m d Region.TailOrdinal = refl
named m d Region.RowKeeper = refl
named m d Region.TailKeeper = refl
named m d Region.OpenKeeper = refl

-- no two regions have one number
pub same_region : (k l : Region) → index k ≡ index l → k ≡ l
same_region k l e =
    sym (named (λ r. r) Region.Header k) ∙ ap (λ (i : ℕ). get_or (map (λ r. r) all) i Region.Header) e ∙ named (λ r. r) Region.Header l

pub lengths : (s : Sizes) (m : View) → Long s m → map length (map m all) ≡ lens s
lengths s m h = ap (λ (f : Region → ℕ). map f all) (fun_ext h)

pub view_of_join : (s : Sizes) (m : View) (r : List ℕ) → Long s m → view s (join (map m all) ++ r) ≡ m
unfolding view base
view_of_join s m r h =
    fun_ext
    (λ k.
    ap (λ (ns : List ℕ). piece ns (join (map m all) ++ r) (index k)) (sym (lengths s m h))
    ∙ piece_join (map m all) r (index k)
    ∙ named m [] k)

join_fit : (m : View) → Fits m → (ks : List Region) → Fit (join (map m ks))
join_fit m f [] i = omega arith
join_fit m f (k ∷ ks) i = append_fit (m k) (join (map m ks)) (f k) (join_fit m f ks) i

pub view_lay : (s : Sizes) (v : View) (m : List ℕ) → Long s v → Fits v → view s (words (lay s v m)) ≡ v
unfolding lay
view_lay s v m h f =
    ap (view s) (words_bytes (join (map v all)) (drop (need s * 4) m) (join_fit v f all))
    ∙ view_of_join s v (words (drop (need s * 4) m)) h

-- ---- the part that is lent

-- the view of the needed words, and of the needed bytes, is the view of all
view_take : (s : Sizes) (ws : List ℕ) → view s (take (need s) ws) ≡ view s ws
unfolding view
view_take s ws =
    fun_ext (λ k. ap (drop (base s k)) (take-take (base s k + len s k) (need s) ws (base_in s k)))

pub view_part : (s : Sizes) (m : List ℕ) → need s * 4 ≤ length m → view s (words (take (need s * 4) m)) ≡ view s (words m)
view_part s m h = rw (words_take (need s) m h) (view_take s (words m))

-- A function was lent the first n bytes of m, which are those needed, and left p there: it laid its view over m. The premises are what is known
-- after the call `g(&mut mem[..n], ..)`: of p, the callee's `.last`, that it is bytes with the rest of m behind it (`.slice-known .given`), as long as
-- the part was (`.kept`), and what the callee ensures of the view.
pub lent : (s : Sizes) (n : ℕ) (m p : List ℕ) (f : View → View) → view s (words p) ≡ f (view s (words (take n m)))
    → length p ≡ length (take n m) → Bytes (p ++ drop n m) → n ≡ need s * 4 → need s * 4 ≤ length m
    → p ++ drop n m ≡ lay s (f (view s (words m))) m
lent s n m p f e l b q h =
    rw q (lay_part s m p (f (view s (words m))) (front_bytes p _ (rw q at b)) ((rw q at l) ∙ length-take-le (need s * 4) m h) ((rw q at e) ∙ ap f (view_part s m h)))

-- the view of a memory fits
pub view_fits : (s : Sizes) (m : List ℕ) → Bytes m → Fits (view s (words m))
unfolding view
view_fits s m b k = drop_fit (base s k) _ (take_fit (base s k + len s k) (words m) (words_fit m b))
