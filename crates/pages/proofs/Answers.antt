-- The answers of the test of the measures, and what is known of a memory whose measures passed.
use Prim.Native.Nat.{ℕ, ◌*◌, ◌≤◌}
use mathlib.Core.Path.{◌≡◌, refl, sym, ◌∙◌}
use mathlib.Core.Bool.{Bool, true, false, cond}
use mathlib.Core.List.{List}
use native.Mathlib.Omega.{arith}
use lib.Dec.{leb}
use lib.ListN.{length, get_or}
use borrow.Author.Tests.{leb-true, le-leb}
use Rattle.std.specs.Prelude.{Some, None}
use Rattle.terms.specs.Measures.{within_limits}
use Rattle.terms.specs.declared.Shape.{Shape}
use Rattle.words.specs.Words.{words}
use Rattle.loops.proofs.Search.{and_true}
use Rattle.layout.specs.declared.Sizes.{Sizes}
use Rattle.layout.specs.Regions.{need, form_known, columns_in, columns_at, ranges_at, capacity_at, spares_at}
use Rattle.layout.specs.Sizes.{shape_of}
use Rattle.layout.specs.View.{Suffices}
use Rattle.facts.specs.Usable.{measures_bytes, stored_shape, stored_sizes, measures_hold}
use Rattle.pages.specs.Checked.{roomy, measured}

-- ---- the measures
-- w was read as the word of the columns, and its form tested: in an unknown form the memory is not measured
pub other_form_lem : (m : List ℕ) (w : ℕ) (known : Bool) → w ≡ get_or (words m) columns_at 0 → known ≡ form_known w → measures_bytes ≤ length m → known ≡ false → None ≡ measured m
unfolding measured roomy measures_hold
other_form_lem m w known e k h f = rw (le-leb measures_bytes (length m) h, ← e, ← k, f)

-- a flag that tells the limits, and is up, says that they are kept
pub limits_passed : (S : Shape) (ok : Bool) → ok ≡ within_limits S → ok ≡ true → within_limits S ≡ true
limits_passed S ok within t = sym within ∙ t

-- the other measures were read, and all tested
module _ (m : List ℕ) (w b c d : ℕ) (ew : w ≡ get_or (words m) columns_at 0) (eb : b ≡ get_or (words m) ranges_at 0) (ec : c ≡ get_or (words m) capacity_at 0) (ed : d ≡ get_or (words m) spares_at 0)
    (known : Bool) (said : known ≡ form_known w) (form : known ≡ true) (ok : Bool) (within : ok ≡ within_limits (shape_of (columns_in w) b c d)) where
  shape_read : shape_of (columns_in w) b c d ≡ stored_shape (words m)
  unfolding stored_shape
  shape_read = rw (← ew, ← eb, ← ec, ← ed)

  -- the test of form and measures is that of the measures
  limits_read : measures_hold (words m) ≡ ok
  unfolding measures_hold
  limits_read = rw (← ew, ← said, form, ← shape_read, ← within)

  -- outside their limits the memory is not measured
  pub out_of_limits : measures_bytes ≤ length m → ok ≡ false → None ≡ measured m
  unfolding measured roomy
  out_of_limits h t = rw (le-leb measures_bytes (length m) h, limits_read, t)

  -- within them the shape that was read is one that there is
  module _ (t : ok ≡ true) where
    within_limits_lem : within_limits (shape_of (columns_in w) b c d) ≡ true
    within_limits_lem = limits_passed (shape_of (columns_in w) b c d) ok within t

-- ---- what is known of a memory whose measures passed: its sizes, that its shape is within the limits, and that it has room
pub record Measured (m : List ℕ) (s : Sizes) : Type 0 where
  pub sizes_are : s ≡ stored_sizes (words m)
  pub within : within_limits (stored_shape (words m)) ≡ true
  pub room : Suffices s m

is_fit : (m : List ℕ) (s : Sizes) → measured m ≡ Some s → (roomy m ≡ true) × (s ≡ stored_sizes (words m))
unfolding measured
is_fit m s = go (roomy m)
  where
    go : (b : Bool) → cond b (Some (stored_sizes (words m))) None ≡ Some s → (b ≡ true) × (s ≡ stored_sizes (words m))
    go true e = (refl, cc)
    go false e = let z : ◌≡◌ {A = ℕ} 0 1 = cc in absurd (omega arith)

-- all that follows from its being measured
pub measured_tells : (m : List ℕ) (s : Sizes) → measured m ≡ Some s → Measured m s
unfolding roomy measures_hold
measured_tells m s e =
    let f = is_fit m s e in
    let a = and_true (leb measures_bytes (length m)) _ f.0 in
    let b = and_true (measures_hold (words m)) _ a.1 in
    record { sizes_are = f.1; within = (and_true (form_known (get_or (words m) columns_at 0)) _ b.0).1; room = rw f.1 (leb-true (need (stored_sizes (words m)) * 4) (length m) b.1) }
