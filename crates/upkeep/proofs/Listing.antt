-- The scan list in the model's terms: what the table tells of it, and what a call on it leaves.
use Prim.Native.Nat.{ℕ, suc, ◌≤◌, ◌<◌}
use mathlib.Core.Path.{◌≡◌, refl, ap, sym, ◌∙◌}
use mathlib.Core.Bool.{Bool, true, false, not, cond}
use mathlib.Core.List.{List, [], ◌∷◌}
use lib.Dec.{eqb, leb}
use lib.ListN.{length, get_or, set, take}
use borrow.Author.Tests.{le-leb, lt-leb}
use Rattle.terms.specs.declared.Form.{Form}
use Rattle.terms.specs.Measures.{most_numbers, most_scans}
use Rattle.terms.specs.declared.ScanEntry.{ScanEntry}
use Rattle.std.specs.Prelude.{Ok, Some}
use Rattle.terms.specs.Entries.{first_index, free_entry, is_scan}
use Rattle.layout.specs.declared.Sizes.{Sizes}
use Rattle.layout.specs.View.{View, scans_given, view_of}
use Rattle.history.specs.History.{Call, count}
use Rattle.scans.specs.declared.Scans.{Scans}
use Rattle.scans.specs.Entries.{open_count, opened}
use Rattle.scans.specs.Table.{table_of}
use Rattle.scans.proofs.Answers.{table_count}
use Rattle.model.specs.Calls.{new_entry, entries_after}
use Rattle.admission.specs.Admitted.{Admits}
use Rattle.admission.specs.Given.{ScanAt}
use Rattle.admission.specs.Tested.{Finds, IfPassed}
use Rattle.admission.proofs.Served.{admitted, part_seen, found, if_passed, scan_below}
use Rattle.admission.proofs.Scans.{in_table, scan_at_lem}

-- ---- the list
-- the open entries, counted
open_count_lem : (ps : List ScanEntry) → count (λ p. not (eqb p.number 0)) ps ≡ open_count ps
open_count_lem [] = refl
open_count_lem (p ∷ ps) = go (not (eqb p.number 0)) (open_count_lem ps)
  where
    go : (b : Bool) → count (λ q. not (eqb q.number 0)) ps ≡ length (opened ps)
        → cond b (suc (count (λ q. not (eqb q.number 0)) ps)) (count (λ q. not (eqb q.number 0)) ps) ≡ length (cond b (p ∷ opened ps) (opened ps))
    go true ih = ap suc ih
    go false ih = ih

module _ (t : Scans) (ps : List ScanEntry) (q : t ≡ table_of ps) where
  counted : open_count ps ≤ most_scans → t.count ≡ count (λ p. not (eqb p.number 0)) ps
  counted few = ap (λ (x : Scans). x.count) q ∙ table_count ps few ∙ sym (open_count_lem ps)

  pub all_open : open_count ps ≤ most_scans → most_scans ≤ t.count → leb most_scans (count (λ p. not (eqb p.number 0)) ps) ≡ true
  all_open few h = rw (← counted few) (le-leb most_scans t.count h)

  pub some_free : open_count ps ≤ most_scans → t.count < most_scans → leb most_scans (count (λ p. not (eqb p.number 0)) ps) ≡ false
  some_free few h = rw (← counted few) (lt-leb most_scans t.count h)

  pub free_is : t.free ≡ first_index (λ p. eqb p.number 0) ps
  unfolding table_of
  free_is = ap (λ (x : Scans). x.free) q

-- ---- what a call leaves
-- an opened scan stands in the first free entry
pub opened_list : (t : Scans) (ps : List ScanEntry) (v : View) (stamp i : ℕ) (p : ScanEntry) → t ≡ table_of ps → i ≡ t.free
    → p ≡ new_entry v stamp → set ps i p ≡ entries_after v ps (Call.open_scan stamp)
unfolding entries_after
opened_list t ps v stamp i p q e y = rw (e ∙ free_is t ps q, y)

-- a number is left for it
pub number_left : (s : Sizes) (m : List ℕ) (i : ℕ) → IfPassed (Ok i) (scans_given (view_of s m) < most_numbers) → scans_given (view_of s m) < most_numbers
number_left s m i h = if_passed _ i h

pub number_in_part : (on : Form → Bool) (s : Sizes) (n : ℕ) (m : List ℕ) (t : Scans) (i : ℕ) → Admits on (Ok (s, n)) m t
    → IfPassed (Ok i) (scans_given (view_of s m) < most_numbers) → scans_given (view_of s (take n m)) < most_numbers
number_in_part on s n m t i b h = rw (part_seen (admitted on s n m t b).0) (number_left s m i h)

-- a closed one leaves its entry free
pub closed_list : (t : Scans) (ps : List ScanEntry) (v : View) (k j : ℕ) (p : ScanEntry) → t ≡ table_of ps → open_count ps ≤ most_scans
    → Finds (Ok j) (ScanAt t k) → p ≡ free_entry → set ps (get_or t.indices j 0) p ≡ entries_after v ps (Call.close k)
unfolding entries_after
closed_list t ps v k j p q few f e =
    let g = (found (ScanAt t k) j f).found in
    let i : get_or t.indices j 0 ≡ first_index (is_scan k) ps = ap (λ (x : Scans). get_or x.indices j 0) q ∙ sym (scan_at_lem k ps few j (in_table t ps q k (Some j) g)) in
    rw (i, e)

pub ruleset listing = (all_open, some_free, number_left, number_in_part, scan_below)
