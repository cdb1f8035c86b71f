-- The answers of `make`, test by test.
use Prim.Native.Nat.{ℕ, ◌*◌, ◌≤◌, ◌<◌}
use mathlib.Core.Path.{◌≡◌, sym, ◌∙◌}
use mathlib.Core.Bool.{Bool, true, false}
use mathlib.Core.List.{List}
use lib.ListN.{length, take}
use lib.Seq.{length-take-le}
use borrow.Author.Tests.{le-leb, lt-leb}
use Rattle.model.specs.Writing.{made_view}
use Rattle.terms.specs.Measures.{within_limits, most_scans}
use Rattle.terms.specs.declared.Shape.{Shape}
use Rattle.std.specs.Prelude.{Ok, Err}
use Rattle.terms.specs.declared.Fields.{Fields}
use Rattle.terms.specs.declared.Form.{Form}
use Rattle.terms.specs.declared.Refusal.{Refusal}
use Rattle.layout.specs.Regions.{need}
use Rattle.layout.specs.declared.Sizes.{Sizes}
use Rattle.layout.specs.Sizes.{sizes_of, bytes_needed, Proper, too_many_words}
use Rattle.layout.specs.View.{lay, Suffices}
use native.Mathlib.Omega.{arith}
use Rattle.layout.proofs.Limits.{need_small, proper}
use Rattle.making.specs.Made.{made}

-- a store is made where the shape is within the limits, and memory and list suffice
pub made_done : (f : Form) (p : Shape) (entries : ℕ) (m : List ℕ) → within_limits p ≡ true → Suffices (sizes_of f p) m → most_scans ≤ entries
    → (Ok Fields.Done, lay (sizes_of f p) (made_view f p) m) ≡ made f p entries m
unfolding made bytes_needed
made_done f p entries m e h k = rw (e, le-leb (need (sizes_of f p) * 4) (length m) h, le-leb most_scans entries k)

-- The premises are what the points of the code know: the flag b of the limits, the sizes s, the words w that they need, and which way the tests went.
module _ (p : Shape) (entries : ℕ) (m : List ℕ) (b : Bool) (e : b ≡ within_limits p) where
  pub out_of_limits : b ≡ false → (Err Refusal.Shape, m) ≡ made Form.Newest p entries m
  unfolding made
  out_of_limits h = rw (← e, h)

  module _ (h : b ≡ true) where
    pub within : within_limits p ≡ true
    within = sym e ∙ h

    module _ (s : Sizes) (q : s ≡ sizes_of Form.Newest p) where
      pub small : need s < too_many_words
      small = rw q (need_small Form.Newest p within)

      pub proper_sizes : Proper s
      proper_sizes = rw q (proper Form.Newest p within)

      module _ (w : ℕ) (z : w ≡ need s) where
        -- the bytes needed
        bytes : w * 4 ≡ need (sizes_of Form.Newest p) * 4
        bytes = rw (z, q)

        pub no_room : length m < w * 4 → (Err Refusal.Memory, m) ≡ made Form.Newest p entries m
        unfolding made bytes_needed
        no_room l = rw (within, lt-leb (need (sizes_of Form.Newest p) * 4) (length m) (rw bytes at l))

        module _ (l : w * 4 ≤ length m) where
          pub few_entries : entries < most_scans → (Err Refusal.Memory, m) ≡ made Form.Newest p entries m
          unfolding made bytes_needed
          few_entries k = rw (within, le-leb (need (sizes_of Form.Newest p) * 4) (length m) (rw bytes at l), lt-leb most_scans entries k)

          -- the part that is lent is as long as it is to be
          pub part_long : w * 4 ≡ length (take (w * 4) m)
          part_long = sym (length-take-le (w * 4) m l)

          pub part_room : Suffices s (take (w * 4) m)
          part_room = omega (arith, part_long, z)

          pub laid : most_scans ≤ entries → (m' : List ℕ) → m' ≡ lay s (made_view Form.Newest p) m → (Ok Fields.Done, m') ≡ made Form.Newest p entries m
          laid k m' d = rw (d, q) (made_done Form.Newest p entries m within (rw bytes at l) k)
