-- Zeros in every word that is needed are zeros in every region.
use Prim.Native.Nat.{ℕ, ◌+◌, ◌≤◌, ◌<◌}
use mathlib.Core.Path.{◌≡◌, sym, ◌∙◌, fun_ext}
use mathlib.Core.List.{List}
use native.Mathlib.Omega.{arith}
use native.Mathlib.Nat.{zero-add}
use lib.ListN.{length, get_or, replicate, length-replicate, get_or-replicate}
use lib.Seq.{ext_get_or}
use Rattle.loops.specs.Change.{filled}
use Rattle.loops.proofs.Change.{changed_length, changed_at_lem}
use Rattle.layout.specs.declared.Sizes.{Sizes}
use Rattle.layout.specs.Regions.{len, base, need}
use Rattle.layout.specs.View.{view, blank}
use Rattle.layout.proofs.View.{view_long, view_at, in_need}

module _ (s : Sizes) (ws : List ℕ) (room : need s ≤ length ws) where
  zeroed : (j : ℕ) → j < need s → get_or (filled 0 (need s) 0 ws) j 0 ≡ 0
  zeroed j h = rw (zero-add j) at (changed_at_lem (λ i x. 0) 0 ws (need s) j (omega arith) h)

  pub blank_filled : view s (filled 0 (need s) 0 ws) ≡ blank s
  unfolding blank
  blank_filled =
      fun_ext
      (λ k.
      let l : length (view s (filled 0 (need s) 0 ws) k) ≡ len s k =
      view_long s (filled 0 (need s) 0 ws) (omega (arith, changed_length (λ i x. 0) 0 ws (need s))) k in
      ext_get_or 0 (view s (filled 0 (need s) 0 ws) k) (replicate (len s k) 0) (l ∙ sym (length-replicate (len s k) 0))
      (λ i h.
      let b : i < len s k = omega arith in
      view_at s (filled 0 (need s) 0 ws) k i b ∙ zeroed (base s k + i) (in_need s k i b) ∙ sym (get_or-replicate (len s k) i 0 0 b)))
