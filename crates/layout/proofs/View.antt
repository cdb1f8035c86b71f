-- The laws of the view: what each store into the words does to it, for every region at once.
use Prim.Native.Nat.{ℕ, ◌+◌, ◌≤◌, ◌<◌}
use mathlib.Core.Path.{◌≡◌, refl, ap, sym, ◌∙◌, fun_ext}
use mathlib.Core.Bool.{true, false, cond}
use mathlib.Core.Logic.{◌≢◌, ◌⊎◌, ⊎_elim, ⊎_map}
use mathlib.Core.List.{List, map}
use native.Mathlib.Omega.{arith}
use lib.Dec.{eqb}
use lib.ListN.{length, get_or, set, take}
use borrow.Author.Tests.{eq-eqb, ne_eqb, eqb-true}
use Rattle.loops.specs.Search.{region}
use Rattle.loops.specs.Change.{changed, copied, marked}
use Rattle.loops.proofs.Region.{region_at, region_length, region_put, region_before, region_after, region_region}
use Rattle.loops.proofs.Change.{changed_apart, changed_inside, changed_same}
use Rattle.layout.specs.declared.Sizes.{Sizes}
use Rattle.layout.specs.declared.Region.{Region}
use Rattle.layout.specs.Cut.{join}
use Rattle.layout.specs.Regions.{index, lens, all, len, base, need}
use Rattle.layout.specs.View.{View, view, renew, put, fill, number, copy, mark, Long}
use Rattle.layout.proofs.Cut.{within, sides, inside, join_pieces}

pub base_in : (s : Sizes) (k : Region) → base s k + len s k ≤ need s
unfolding base need
base_in s k = within 0 (lens s) (index k)

pub in_need : (s : Sizes) (k : Region) (i : ℕ) → i < len s k → base s k + i < need s
in_need s k i h = omega (arith, base_in s k)

-- two regions lie side by side
pub base_sides : (s : Sizes) (k l : Region) → index k ≢ index l
    → (base s k + len s k ≤ base s l) ⊎ (base s l + len s l ≤ base s k)
unfolding base
base_sides s k l h = sides 0 (lens s) (index k) (index l) h

-- and so do one stretch of each
pub stretches_apart : (s : Sizes) (k l : Region) (at n : ℕ) → at + n ≤ len s k → at + n ≤ len s l → index k ≢ index l
    → (base s k + at + n ≤ base s l + at) ⊎ (base s l + at + n ≤ base s k + at)
stretches_apart s k l at n h g d = ⊎_map (λ a. omega arith) (λ a. omega arith) (base_sides s k l d)

-- a stretch of a region ends within the words needed
pub stretch_in : (s : Sizes) (k : Region) (at n : ℕ) → at + n ≤ len s k → base s k + at + n ≤ need s
stretch_in s k at n h = omega (arith, base_in s k)

-- ---- what is read

pub view_at : (s : Sizes) (ws : List ℕ) (k : Region) (i : ℕ) → i < len s k → get_or (view s ws k) i 0 ≡ get_or ws (base s k + i) 0
unfolding view
view_at s ws k i h = region_at ws (base s k) (len s k) i h

pub view_region : (s : Sizes) (ws : List ℕ) (k : Region) (at n : ℕ) → at + n ≤ len s k
    → region (view s ws k) at n ≡ region ws (base s k + at) n
unfolding view
view_region s ws k at n h = region_region ws (base s k) (len s k) at n h

-- ---- what is written

-- words that changed inside region k only: the one law of every store
view_inside : (s : Sizes) (ws ws' : List ℕ) (k : Region)
    → ((b n : ℕ) → (b + n ≤ base s k) ⊎ (base s k + len s k ≤ b) → region ws' b n ≡ region ws b n)
    → view s ws' ≡ renew k (view s ws' k) (view s ws)
unfolding base view renew
view_inside s ws ws' k same = fun_ext (λ l. inside (lens s) ws ws' (index k) (index l) same)

pub view_put : (s : Sizes) (ws : List ℕ) (k : Region) (i v : ℕ) → i < len s k
    → view s (set ws (base s k + i) v) ≡ put k i v (view s ws)
unfolding view put
view_put s ws k i v h =
    view_inside s ws _ k (λ b n. ⊎_elim (λ a. region_after ws b n _ v (omega arith)) (λ a. region_before ws b n _ v (omega arith)))
    ∙ ap (λ (l : List ℕ). renew k l (view s ws)) (region_put ws (base s k) (len s k) i v h)

-- a change of a stretch, which is what every loop that writes does
pub view_changed : (s : Sizes) (ws : List ℕ) (k : Region) (f : ℕ → ℕ → ℕ) (at n : ℕ) → at + n ≤ len s k
    → view s (changed f (base s k + at) n ws) ≡ renew k (changed f at n (view s ws k)) (view s ws)
unfolding view
view_changed s ws k f at n h =
    view_inside s ws _ k (λ b m c. changed_apart f (base s k + at) ws n b m (⊎_map (λ a. omega arith) (λ a. omega arith) c))
    ∙ ap (λ (l : List ℕ). renew k l (view s ws)) (changed_inside f ws (base s k) (len s k) at n h)

module _ (s : Sizes) (ws : List ℕ) (k : Region) (at n : ℕ) (h : at + n ≤ len s k) where
  pub view_fill : (v : ℕ) → view s (changed (λ i x. v) (base s k + at) n ws) ≡ fill k at n v (view s ws)
  unfolding fill
  view_fill v = view_changed s ws k (λ i x. v) at n h

  pub view_number : view s (changed (λ i x. i) (base s k + at) n ws) ≡ number k at n (view s ws)
  unfolding number
  view_number = view_changed s ws k (λ i x. i) at n h

  -- word from + i of a region, as the words have it and as the view has it
  from_view : (j : Region) (from i : ℕ) → from + n ≤ len s j → i < n
      → get_or ws (base s j + from + i) 0 ≡ get_or (view s ws j) (from + i) 0
  from_view j from i g b =
      let e : base s j + from + i ≡ base s j + (from + i) = omega arith in
      rw e (sym (view_at s ws j (from + i) (omega arith)))

  pub view_copy : (from : ℕ) → from + n ≤ len s k
      → view s (copied ws (base s k + from) n (base s k + at) ws) ≡ copy k from n at (view s ws)
  unfolding copy
  view_copy from g =
      ap (view s) (changed_same _ _ (base s k + at) n ws (λ i x b. from_view k from i g b))
      ∙ view_changed s ws k (λ i x. get_or (view s ws k) (from + i) 0) at n h

  pub view_mark : (keys : Region) (key v : ℕ) → at + n ≤ len s keys
      → view s (marked ws (base s keys + at) n key (base s k + at) v ws) ≡ mark keys key k at n v (view s ws)
  unfolding mark
  view_mark keys key v g =
      ap (view s) (changed_same _ _ (base s k + at) n ws (λ i x b. ap (λ (w : ℕ). cond (eqb w key) v x) (from_view keys at i g b)))
      ∙ view_changed s ws k (λ i x. cond (eqb (get_or (view s ws keys) (at + i) 0) key) v x) at n h

-- ---- what a reader of a view sees of a store, for regions that are not known by name (for named ones it computes)

pub renew_here : (k : Region) (l : List ℕ) (m : View) → renew k l m k ≡ l
unfolding renew
renew_here k l m = rw (eq-eqb (index k) (index k) refl)

pub renew_there : (k j : Region) (l : List ℕ) (m : View) → index k ≢ index j → renew k l m j ≡ m j
unfolding renew
renew_there k j l m h = rw (ne_eqb (index k) (index j) h)

-- ---- the lists of the view are the words that the sizes need

pub view_join : (s : Sizes) (ws : List ℕ) → join (map (view s ws) all) ≡ take (need s) ws
unfolding base view need
view_join s ws = join_pieces 0 (lens s) ws

pub view_long : (s : Sizes) (ws : List ℕ) → need s ≤ length ws → Long s (view s ws)
unfolding view
view_long s ws h k = region_length ws (base s k) (len s k) (omega (arith, base_in s k))

pub renew_long : (s : Sizes) (k : Region) (l : List ℕ) (m : View) → length l ≡ len s k → Long s m → Long s (renew k l m)
unfolding renew
renew_long s k l m e h j =
    elim (eqb (index k) (index j)) as (λ b. eqb (index k) (index j) ≡ b → length (cond b l (m j)) ≡ len s j)
    [ true ↦ λ q. e ∙ ap (λ (i : ℕ). get_or (lens s) i 0) (eqb-true (index k) (index j) q) | false ↦ λ q. h j ] refl
