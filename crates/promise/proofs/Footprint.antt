-- No call changes a byte or an entry outside of its footprint: what the model says of words, laid over the bytes.
use Prim.Native.Nat.{ℕ, ◌*◌, ◌≤◌}
use mathlib.Core.Path.{refl, ap, ◌∙◌}
use mathlib.Core.Logic.{◌⊎◌, inl, inr, ⊎_elim, ⊎_map}
use mathlib.Core.Bool.{Bool, cond, ◌&&◌}
use mathlib.Core.List.{List, ◌++◌}
use native.Mathlib.Omega.{arith}
use lib.Dec.{T, leb}
use lib.ListN.{length, get_or}
use lib.Seq.{ext_get_or}
use Rattle.terms.specs.Measures.{within_limits, most_scans}
use Rattle.terms.specs.declared.Shape.{Shape}
use Rattle.terms.specs.Entries.{free_entry}
use Rattle.terms.specs.declared.ScanEntry.{ScanEntry}
use Rattle.std.specs.Prelude.{Ok, Err}
use Rattle.terms.specs.Answers.{Answer}
use Rattle.terms.specs.declared.Fields.{Fields}
use Rattle.terms.specs.declared.Refusal.{Refusal}
use Rattle.words.specs.Words.{words}
use Rattle.words.proofs.Words.{length_words}
use Rattle.layout.specs.declared.Sizes.{Sizes}
use Rattle.layout.specs.Regions.{need}
use Rattle.layout.specs.Sizes.{sizes_of, bytes_needed}
use Rattle.layout.specs.View.{View, lay, Long}
use Rattle.layout.specs.Parts.{Part, among, OneOf, ChangedWithin}
use Rattle.layout.proofs.View.{view_long}
use Rattle.layout.proofs.Lay.{lay_view}
use Rattle.layout.proofs.Parts.{among_append, nothing_changed, lay_length, lay_past, within_bytes}
use Rattle.history.specs.History.{Call, merge, accept, refuse, verdict}
use Rattle.history.proofs.Lists.{by_test, or_cases, both_test, le_test}
use Rattle.facts.specs.Usable.{stored_shape, stored_sizes}
use Rattle.facts.proofs.Usable.{usable_tells}
use Rattle.making.specs.Made.{made}
use Rattle.model.specs.Calls.{tests_in, act_in, entries_after, view_if, entries_if, view_next, entries_next}
use Rattle.model.specs.Footprint.{footprint, page_written, standing_written, lineage_written, merges_written, merge_footprint, entries_written, EntriesWithin}
use Rattle.model.specs.Stored.{current_in, chunk_of}
use Rattle.model.specs.Writing.{free_in, made_view}
use Rattle.model.proofs.Footprint.{act_within, entries_within}
use Rattle.model.proofs.Made.{small_shape, made_represents}
use Rattle.promise.proofs.Refused.{admitted_usable}
use Rattle.promise.specs.Promise.{store_view, lend, admits, memory_after, list_after}
use Rattle.promise.specs.Footprint.{BytesWithin, WithinFootprint, ChangesOnly, MergeWithin, MergeChangesOnly, MakingWithin, MakingChangesOnly}

-- a call, accepted or not
next_within : (S : Shape) (v : View) (ps : List ScanEntry) (c : Call) → ChangedWithin (footprint S v ps c) v (view_next S v ps c) × EntriesWithin (entries_written ps c) ps (entries_next S v ps c)
unfolding view_next entries_next view_if entries_if
next_within S v ps c =
    elim (verdict (tests_in S v ps c)) as (λ w. ChangedWithin (footprint S v ps c) v (view_if w v (act_in S v ps c)) × EntriesWithin (entries_written ps c) ps (entries_if w ps (entries_after v ps c))) [
      | accept ↦ (act_within S v ps c, entries_within v ps c)
      | refuse n ↦ (nothing_changed, (refl, λ i. inl refl))
    ]

pub changes_only : ChangesOnly
unfolding ChangesOnly WithinFootprint memory_after list_after store_view
changes_only m ps c b =
    by_test (λ u. BytesWithin s (footprint S v ps c) m (cond u (lay s (view_next S v ps c) m) m) × EntriesWithin (entries_written ps c) ps (cond u (entries_next S v ps c) ps)) (admits (lend m ps) c)
    (λ t. good (usable_tells m ps (admitted_usable (lend m ps) c t)).room) (λ t. ((refl, λ i. inl refl), (refl, λ i. inl refl)))
  where
    S : Shape
    S = stored_shape (words m)

    s : Sizes
    s = stored_sizes (words m)

    v : View
    v = store_view m

    good : need s * 4 ≤ length m → BytesWithin s (footprint S v ps c) m (lay s (view_next S v ps c) m) × EntriesWithin (entries_written ps c) ps (entries_next S v ps c)
    good room =
        let o = next_within S v ps c in
        let long : Long s v = view_long s (words m) (omega (arith, length_words m)) in
        let same = lay_view s m b room in (
          (
            lay_length s (view_next S v ps c) (λ k. o.0.long k ∙ long k) m room,
            λ i. ⊎_map (λ e. e ∙ ap (λ (l : List ℕ). get_or l i 0) same) (λ e. e) (within_bytes s v (view_next S v ps c) m long o.0 i),
          ),
          o.1,
        )

-- ---- merge
one_of_either : (s : Sizes) (i : ℕ) (xs ys : List Part) → OneOf s (xs ++ ys) i → OneOf s xs i ⊎ OneOf s ys i
one_of_either s i xs ys o =
    let k = o.0 in
    let j = o.1 in
    or_cases (among k j xs) (among k j ys) (rw (among_append k j xs ys) at o.3) (λ t. inl (k, j, o.2, t)) (λ t. inr (k, j, o.2, t))

pub merge_changes_only : MergeChangesOnly
unfolding MergeChangesOnly MergeWithin ChangesOnly WithinFootprint footprint merge_footprint entries_written
merge_changes_only m ps g c n b =
    let o = changes_only m ps (merge g c n) b in (
      ext_get_or free_entry (list_after (lend m ps) (merge g c n)) ps o.1.0 (λ i _. ⊎_elim (λ e. e) (λ z. absurd z) (o.1.1 i)),
      o.0.0,
      λ i. ⊎_map (λ e. e) (λ x. ⊎_map (λ y. y) (λ x. ⊎_map (λ y. y) (one_of_either s i lineage merges_written) (one_of_either s i standing (lineage ++ merges_written) x)) (one_of_either s i page (standing ++ (lineage ++ merges_written)) x)) (o.0.1 i),
    )
  where
    S : Shape
    S = stored_shape (words m)

    s : Sizes
    s = stored_sizes (words m)

    v : View
    v = store_view m

    page : List Part
    page = page_written (free_in S v)

    standing : List Part
    standing = standing_written (chunk_of S g c) (current_in S v g c) (free_in S v)

    lineage : List Part
    lineage = lineage_written (free_in S v)

-- ---- a making
pub making_changes_only : MakingChangesOnly
unfolding MakingChangesOnly MakingWithin made bytes_needed
making_changes_only F S m ps =
    by_test (λ u. MakingWithin F S m (cond {A = Answer × List ℕ} u (cond enough (Ok Fields.Done, lay (sizes_of F S) (made_view F S) m) (Err Refusal.Memory, m)) (Err Refusal.Shape, m)).1) (within_limits S)
    (λ w. by_test (λ u. MakingWithin F S m (cond {A = Answer × List ℕ} u (Ok Fields.Done, lay (sizes_of F S) (made_view F S) m) (Err Refusal.Memory, m)).1) enough (λ t. laid w (simp (both_test, le_test) at t)) (λ _. same)) (λ _. same)
  where
    enough : Bool
    enough = leb (bytes_needed F S) (length m) && leb most_scans (length ps)

    same : MakingWithin F S m m
    same = (refl, λ i b. refl)

    laid : T (within_limits S) → (bytes_needed F S ≤ length m) × (most_scans ≤ length ps) → MakingWithin F S m (lay (sizes_of F S) (made_view F S) m)
    laid w f =
        let whole = (made_represents F S (small_shape S w) (length ps) f.1).whole in
        (lay_length (sizes_of F S) (made_view F S) whole.long m f.0, λ i b. lay_past (sizes_of F S) (made_view F S) whole.long m i b)
