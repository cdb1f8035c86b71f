-- What the test of memory and list found: the memory is not usable, or it is fitted, and every list that the table stands for passed with it.
use Prim.Native.Nat.{ℕ, ◌-◌, ◌<◌}
use mathlib.Core.Path.{◌≡◌, refl, sym, subst, ◌∙◌}
use mathlib.Core.Bool.{Bool, true, false, cond}
use mathlib.Core.List.{List}
use native.Mathlib.Omega.{arith}
use lib.ListN.{get_or}
use Rattle.terms.specs.declared.ScanEntry.{ScanEntry}
use Rattle.words.specs.Words.{words}
use Rattle.layout.specs.declared.Sizes.{Sizes}
use Rattle.layout.specs.declared.Region.TheVariants.{Current, PageState, PageChunk}
use Rattle.layout.specs.Regions.{need, slot}
use Rattle.layout.specs.Sizes.{sizes_of, Proper, too_many_words}
use Rattle.layout.specs.View.{View, rows_given, used_in, view_of}
use Rattle.layout.proofs.Limits.{need_small, proper as proper_of}
use Rattle.loops.proofs.Search.{and_true}
use Rattle.history.specs.History.{range_of}
use Rattle.facts.specs.Facts.{links_hold, row_linked, range_linked, record_linked, chunks_current, chunk_current}
use Rattle.facts.specs.Usable.{stored_shape, stored_form, stored_sizes, usable}
use Rattle.facts.specs.Tests.{MemoryFacts, Passed}
use Rattle.facts.proofs.Each.{each_tells}
use Rattle.facts.proofs.Ready.{stored}
use Rattle.facts.proofs.Usable.{usable_tells, link_tells, chunk_current_tells}
use Rattle.std.specs.Prelude.{Option, Some, None}
use Rattle.pages.specs.Checked.{checked, Safe}
use Rattle.model.specs.Stored.{page_in, chunks_of}
use Rattle.model.specs.Preconditions.{shape_in, Linked, ChunksCurrent}
use Rattle.admission.specs.Admitted.{Fitted, PassedWith}

module _ (s : Sizes) (v : View) (proper : Proper s) (facts : MemoryFacts s v) where
  linked_of : Linked s v
  unfolding links_hold row_linked range_linked record_linked range_of slot
  linked_of =
      let k = stored s v facts.counts in
      let l = and_true _ _ facts.links in
      record {
        rows_few = k.rows_to;
        used_few = λ g h. k.records_to g;
        rows_linked = λ r h. (link_tells s v _ _ r _ (each_tells (row_linked s v) (rows_given v) l.0 r h)).low;
        links_lower = λ g n h low high.
            let i : n - 1 < used_in v g = omega arith in
            let t = link_tells s v g (n - 1) _ _ (each_tells (record_linked s v g) (used_in v g) (each_tells (range_linked s v) s.ranges l.1 g h) (n - 1) i) in
            omega (arith, t.low);
      }

  -- what chunk i names
  at_chunk : (i : ℕ) → i < s.chunks
      → (get_or (v Current) i 0 < s.pages) × (get_or (v PageState) (get_or (v Current) i 0) 0 ≡ 1) × (get_or (v PageChunk) (get_or (v Current) i 0) 0 ≡ i)
  unfolding chunks_current
  at_chunk i h = chunk_current_tells s v i (each_tells (chunk_current s v) s.chunks facts.chunks_are_current i h)

  chunks_current_of : ChunksCurrent (shape_in s) v
  unfolding page_in
  chunks_current_of =
      let here : (i : ℕ) → i < chunks_of (shape_in s) → i < s.chunks = λ i b. omega (arith, proper.chunks_are) in
      record {
        inside = λ i b. omega (arith, proper.pages_are, proper.chunks_are, (at_chunk i (here i b)).0);
        state = λ i b. (at_chunk i (here i b)).1;
        chunk = λ i b. (at_chunk i (here i b)).2;
      }

-- ---- what the test of memory and list found
module _ (r : Option Sizes) (m : List ℕ) where
  pub not_usable : (ps : List ScanEntry) → r ≡ None → r ≡ checked m ps → usable m ps ≡ false
  unfolding checked
  not_usable ps e f = go (usable m ps) (sym e ∙ f)
    where
      go : (b : Bool) → None ≡ cond b (Some (stored_sizes (words m))) None → b ≡ false
      go true q = let z : ◌≡◌ {A = ℕ} 0 1 = cc in absurd (omega arith)
      go false q = refl

  module _ (s : Sizes) (e : r ≡ Some s) where
    pub list_known : (ps : List ScanEntry) → r ≡ checked m ps → PassedWith s m ps
    unfolding checked
    list_known ps f = go (usable m ps) refl (sym e ∙ f)
      where
        go : (b : Bool) → usable m ps ≡ b → Some s ≡ cond b (Some (stored_sizes (words m))) None → PassedWith s m ps
        go true u q = record { passed = u; sizes_are = cc; few = (usable_tells m ps u).facts.open_few }
        go false u q = let z : ◌≡◌ {A = ℕ} 0 1 = cc in absurd (omega arith)

    pub fit_tells : Safe r m → Fitted s m
    unfolding stored_sizes
    fit_tells h =
        let x : Passed s m = rw e at h in
        let v = view_of s m in
        let proper : Proper s = subst Proper (sym x.sizes_are) (proper_of (stored_form (words m)) (stored_shape (words m)) x.within) in
        let k = stored s v x.facts.counts in
        record {
          room = x.room;
          small = subst (λ z. need z < too_many_words) (sym x.sizes_are) (need_small (stored_form (words m)) (stored_shape (words m)) x.within);
          sizes_are = subst (λ z. z ≡ sizes_of z.form (shape_in z)) (sym x.sizes_are) refl;
          proper = proper;
          linked = linked_of s v proper x.facts;
          pooled = λ i h. (at_chunk s v proper x.facts i h).0;
          chunks_are_current = chunks_current_of s v proper x.facts;
          transactions_to = k.transactions_to;
          scans_to = k.scans_to;
        }
