-- The given rows of a range are neighbours: a record names one of them exactly if its word lies between the range's first row and its last given one.
use Prim.Native.Nat.{ℕ, ◌+◌, ◌*◌, ◌/◌, ◌≤◌, ◌<◌, min}
use mathlib.Core.Path.{◌≡◌, refl}
use mathlib.Core.Bool.{Bool, true, false, ◌&&◌}
use native.Mathlib.Omega.{arith}
use lib.Dec.{eqb, ltb}
use lib.ListN.{length}
use borrow.Author.Tests.{ltb-true, lt-ltb, leb-true, le-leb, eqb-true, eq-eqb, ne_eqb}
use Rattle.layout.specs.Regions.{first_slot}
use Rattle.terms.specs.Measures.{range_rows, between}
use Rattle.loops.specs.Search.{region, all_between}
use Rattle.loops.proofs.Search.{and_true}
use Rattle.layout.specs.declared.Sizes.{Sizes}
use Rattle.layout.specs.declared.Region.TheVariants.{TailRow}
use Rattle.layout.specs.View.{View, rows_given, used_in}
use Rattle.facts.specs.Facts.{row_named, range_names_rows}
use Rattle.facts.proofs.Each.{same, each_between, each_nothing}

-- whether row r is given and of range g
abbrev is_named : ℕ → ℕ → ℕ → Bool
is_named given g r = ltb r given && eqb (r / range_rows) g

named_between : (given g last r : ℕ) → g * range_rows < given → last + 1 ≡ min given (g * range_rows + range_rows) → is_named given g r ≡ between (g * range_rows) last r
named_between given g last r h e =
    same (is_named given g r) (between (g * range_rows) last r)
    (λ q.
    let a = and_true (ltb r given) (eqb (r / range_rows) g) q in
    let b = ltb-true r given a.0 in
    let c = eqb-true (r / range_rows) g a.1 in
    rw (le-leb (g * range_rows) r (omega arith), le-leb r last (omega arith)))
    (λ q.
    let a = and_true _ _ q in
    let b = leb-true (g * range_rows) r a.0 in
    let c = leb-true r last a.1 in
    rw (lt-ltb r given (omega arith), eq-eqb (r / range_rows) g (omega arith)))

named_none : (given g r : ℕ) → given ≤ g * range_rows → is_named given g r ≡ false
named_none given g r h = go (ltb r given) refl
  where
    go : (b : Bool) → ltb r given ≡ b → (b && eqb (r / range_rows) g) ≡ false
    go true q = let k = ltb-true r given q in ne_eqb (r / range_rows) g (λ e. omega arith)
    go false q = refl

module _ (s : Sizes) (v : View) (g : ℕ) where
  pub names_between : (last : ℕ) → g * range_rows < rows_given v → last + 1 ≡ min (rows_given v) (g * range_rows + range_rows) → first_slot s.capacity g + used_in v g ≤ length (v TailRow)
      → range_names_rows s v g ≡ all_between (g * range_rows) last (region (v TailRow) (first_slot s.capacity g) (used_in v g))
  unfolding range_names_rows row_named
  names_between last h e k =
      each_between (v TailRow) (first_slot s.capacity g) (used_in v g) (g * range_rows) last (row_named s v g) k (λ i l. named_between (rows_given v) g last _ h e)

  pub names_none : rows_given v ≤ g * range_rows → range_names_rows s v g ≡ eqb (used_in v g) 0
  unfolding range_names_rows row_named
  names_none h = each_nothing (row_named s v g) (used_in v g) (λ i l. named_none (rows_given v) g _ h)
