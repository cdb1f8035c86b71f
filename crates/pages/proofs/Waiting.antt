-- Where no page waits, every fact of the waiting pages holds.
use Prim.Native.Nat.{ℕ}
use mathlib.Core.Path.{◌≡◌, sym, ◌∙◌}
use mathlib.Core.Bool.{Bool, true}
use mathlib.Core.List.{List}
use native.Mathlib.Omega.{arith}
use native.Mathlib.Nat.{zero-add}
use lib.ListN.{get_or}
use borrow.Author.Tests.{lt-ltb}
use Rattle.layout.specs.Codes.{as_waiting}
use Rattle.words.specs.Words.{words}
use Rattle.words.proofs.Words.{length_words}
use Rattle.loops.specs.Search.{region, all_between}
use Rattle.layout.specs.declared.Sizes.{Sizes}
use Rattle.layout.specs.declared.Region.{Region}
use Rattle.layout.specs.declared.Region.TheVariants.{PageState, PageNewest, PageReplaced, PageLineage}
use Rattle.layout.specs.View.{last_stamp, merges_made, used_in, view_of, Suffices}
use Rattle.layout.proofs.View.{view_long}
use Rattle.facts.specs.Facts.{each, waiting_at_most, waiting_lineage, page_range}
use Rattle.facts.specs.Tests.{waiting_hold}
use Rattle.facts.proofs.Each.{each_true}
use Rattle.facts.proofs.Usable.{stretch_tells}

module _ (s : Sizes) (m : List ℕ) (room : Suffices s m) (flag : Bool) (q : flag ≡ all_between 0 1 (region (view_of s m PageState) 0 s.pages)) (up : flag ≡ true) where
  none_waits : (k : Region) (most : ℕ → ℕ) → each s.pages (λ p. waiting_at_most (view_of s m) k (most p) p) ≡ true
  unfolding waiting_at_most
  none_waits k most =
      let v = view_of s m in
      each_true (λ p. waiting_at_most v k (most p) p) s.pages
      (λ p b.
      let t = stretch_tells s v (view_long s (words m) (omega (arith, length_words m))) PageState 0 s.pages 0 1 (omega arith) (sym q ∙ up) p b in
      rw (lt-ltb (get_or (v PageState) p 0) as_waiting (omega (arith, rw (zero-add p) at t.1))))

  pub none_waiting : true ≡ waiting_hold s (view_of s m)
  unfolding waiting_hold waiting_lineage
  none_waiting =
      let v = view_of s m in
      rw (none_waits PageNewest (λ p. last_stamp v), none_waits PageReplaced (λ p. merges_made v), none_waits PageLineage (λ p. used_in v (page_range s v p)))
