-- The ways through the tests of a page, and how the first page that passes gives a scan's page.
use Prim.Native.Nat.{ℕ, ◌%◌, ◌≤◌, ◌<◌}
use mathlib.Core.Path.{◌≡◌, refl}
use mathlib.Core.Bool.{Bool, true, false, cond}
use native.Mathlib.Omega.{arith}
use lib.Dec.{leb, ltb}
use lib.ListN.{get_or}
use borrow.Author.Tests.{eq-eqb, ne_eqb, lt-ltb, le-ltb, le-leb, lt-leb}
use Rattle.terms.specs.declared.Shape.{Shape}
use Rattle.std.specs.Prelude.{Option, Some, None}
use Rattle.std.specs.Option.{unwrap_or}
use Rattle.layout.specs.declared.Sizes.{Sizes}
use Rattle.layout.specs.declared.Region.TheVariants.{PageState, PageChunk, PageMade, PageReplaced}
use Rattle.layout.specs.Codes.{as_waiting}
use Rattle.layout.specs.View.{View}
use Rattle.model.specs.Stored.{page_in, first_from, pages_of, chunk_of, current_in}
use Rattle.model.specs.Reading.{was_current, scan_page}
use Rattle.layout.specs.Sizes.{Proper}
use Rattle.model.specs.Preconditions.{shape_in}
use Rattle.reading.specs.ScanPages.{old_page}

-- ---- one page
module _ (s : Sizes) (proper : Proper s) where
  pub pages_are : pages_of (shape_in s) ≡ s.pages
  pages_are = omega (arith, proper.chunks_are, proper.pages_are)

  module _ (v : View) (m chunk p state : ℕ) (e : state ≡ get_or (v PageState) p 0) where
    pub not_waiting : state < as_waiting → false ≡ was_current (shape_in s) v m chunk p
    unfolding was_current page_in
    not_waiting h = rw (← e, le-ltb 1 state (omega arith))

    module _ (at : ℕ) (h : 2 ≤ state) (q : at ≡ get_or (v PageChunk) p 0) where
      pub elsewhere : (at % s.chunks ≡ chunk → ⊥) → false ≡ was_current (shape_in s) v m chunk p
      unfolding was_current page_in
      elsewhere n = rw (← e, lt-ltb 1 state h, ← q, ← proper.chunks_are, ne_eqb (at % s.chunks) chunk n)

      module _ (made : ℕ) (i : at % s.chunks ≡ chunk) (b : made ≡ get_or (v PageMade) p 0) where
        pub made_later : m < made → leb made m ≡ was_current (shape_in s) v m chunk p
        unfolding was_current page_in
        made_later l = rw (← e, lt-ltb 1 state h, ← q, ← proper.chunks_are, eq-eqb (at % s.chunks) chunk i, ← b, lt-leb made m l)

        pub made_before : (replaced : ℕ) → made ≤ m → replaced ≡ get_or (v PageReplaced) p 0 → ltb m replaced ≡ was_current (shape_in s) v m chunk p
        unfolding was_current page_in
        made_before replaced l r =
            rw (← e, lt-ltb 1 state h, ← q, ← proper.chunks_are, eq-eqb (at % s.chunks) chunk i, ← b, le-leb made m l, ← r)

-- what the search for the page of a range and column gives
abbrev old : Shape → View → ℕ → ℕ → ℕ → ℕ
old S v m g c = first_from (was_current S v m (chunk_of S g c)) (pages_of S) 0

module _ (S : Shape) (v : View) (m g c current made : ℕ) (e : current ≡ current_in S v g c) (b : made ≡ get_or (v PageMade) current 0) where
  pub scan_current : made ≤ m → current ≡ scan_page S v m g c
  unfolding scan_page page_in
  scan_current l = rw (← e, ← b, le-leb made m l)

  pub scan_old : (found : Option ℕ) → m < made → found ≡ old_page S v m (chunk_of S g c) → unwrap_or found current ≡ scan_page S v m g c
  unfolding scan_page page_in old_page
  scan_old found l f = rw (f, ← e, ← b, lt-leb made m l) (go (ltb (old S v m g c) (pages_of S)))
    where
      go : (x : Bool) → unwrap_or (cond x (Some (old S v m g c)) None) current ≡ cond x (old S v m g c) current
      go true = refl
      go false = refl
