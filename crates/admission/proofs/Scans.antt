-- The search of a scan in the table, in the model's terms: whether the scan is open, where it stands in the list, and its entry.
use Prim.Native.Nat.{ℕ, suc, ◌≤◌, ◌<◌}
use mathlib.Core.Path.{◌≡◌, refl, ap, sym, ◌∙◌}
use mathlib.Core.Bool.{Bool, true, false, cond, ◌||◌}
use mathlib.Core.List.{List, [], ◌∷◌}
use native.Mathlib.Omega.{arith}
use lib.Dec.{eqb}
use lib.ListN.{length, get_or}
use borrow.Author.Tests.{eq-eqb}
use Rattle.terms.specs.Measures.{most_scans}
use Rattle.terms.specs.declared.ScanEntry.{ScanEntry}
use Rattle.std.specs.Prelude.{Option, Some, None}
use Rattle.loops.specs.Search.{first_at}
use Rattle.loops.proofs.Search.{first_at_lem}
use Rattle.history.specs.History.{any}
use Rattle.scans.specs.declared.Scans.{Scans}
use Rattle.scans.specs.Entries.{open_count}
use Rattle.scans.specs.Table.{table_of, find_in}
use Rattle.scans.proofs.Answers.{table_finds, table_lacks}
use Rattle.terms.specs.Entries.{free_entry, first_index, bears, is_scan}
use Rattle.model.specs.Stored.{scan_entry}
use Rattle.model.specs.Calls.{no_scan_in}
use Rattle.admission.specs.Given.{ScanAt}

-- ---- the first that passes

module _ (f : ScanEntry → Bool) where
  none_passes : (ps : List ScanEntry) → first_index f ps ≡ length ps → any f ps ≡ false
  none_passes [] e = refl
  none_passes (p ∷ ps) e = go (f p) (none_passes ps) e
    where
      go : (b : Bool) → (first_index f ps ≡ length ps → any f ps ≡ false) → cond b 0 (suc (first_index f ps)) ≡ suc (length ps) → (b || any f ps) ≡ false
      go true ih q = absurd (omega (arith, q))
      go false ih q = ih (omega (arith, q))

  one_passes : (ps : List ScanEntry) → f free_entry ≡ false → f (get_or ps (first_index f ps) free_entry) ≡ true → any f ps ≡ true
  one_passes [] e q = sym e ∙ q
  one_passes (p ∷ ps) e q = go (f p) refl (one_passes ps e) q
    where
      go : (b : Bool) → f p ≡ b → (f (get_or ps (first_index f ps) free_entry) ≡ true → any f ps ≡ true)
          → f (get_or (p ∷ ps) (cond b 0 (suc (first_index f ps))) free_entry) ≡ true → (b || any f ps) ≡ true
      go true h ih r = refl
      go false h ih r = ih r

-- ---- the scan that bears k

module _ (k : ℕ) where
  -- what is found has a number
  numbered : (ps : List ScanEntry) (j : ℕ) → find_in (table_of ps) k ≡ Some j → eqb k 0 ≡ false
  unfolding find_in
  numbered ps j e = go (eqb k 0) e
    where
      clash : None ≡ Some j → ⊥
      clash q = let z : ◌≡◌ {A = ℕ} 0 1 = cc in omega arith

      go : (b : Bool) → cond b None (first_at k 0 (table_of ps).numbers) ≡ Some j → b ≡ false
      go true q = absurd (clash q)
      go false q = refl

  module _ (ps : List ScanEntry) (few : open_count ps ≤ most_scans) where
    pub scan_lacks : find_in (table_of ps) k ≡ None → no_scan_in ps k ≡ true
    unfolding no_scan_in
    scan_lacks e = rw (none_passes (is_scan k) ps (table_lacks ps few k e))

    pub scan_open : (j : ℕ) → find_in (table_of ps) k ≡ Some j → no_scan_in ps k ≡ false
    unfolding no_scan_in
    scan_open j e =
        let t = table_finds ps few k j e in
        let b : is_scan k (get_or ps (first_index (is_scan k) ps) free_entry) ≡ true = ap (bears k) t.number_is ∙ rw (numbered ps j e, eq-eqb k k refl) in
        rw (one_passes (is_scan k) ps refl b)

    pub scan_at_lem : (j : ℕ) → find_in (table_of ps) k ≡ Some j → first_index (is_scan k) ps ≡ get_or (table_of ps).indices j 0
    scan_at_lem j e = sym (table_finds ps few k j e).index_is

    -- the scan's stamp, merges and commits, as the table has them
    pub scan_stamp : (j : ℕ) → find_in (table_of ps) k ≡ Some j → get_or (table_of ps).stamps j 0 ≡ (scan_entry ps k).stamp
    unfolding scan_entry
    scan_stamp j e = (table_finds ps few k j e).stamp_is

    pub scan_merges : (j : ℕ) → find_in (table_of ps) k ≡ Some j → get_or (table_of ps).merges j 0 ≡ (scan_entry ps k).merges
    unfolding scan_entry
    scan_merges j e = (table_finds ps few k j e).merges_is

    pub scan_commits : (j : ℕ) → find_in (table_of ps) k ≡ Some j → get_or (table_of ps).commits j 0 ≡ (scan_entry ps k).commits
    unfolding scan_entry
    scan_commits j e = (table_finds ps few k j e).commits_is

    pub scan_number : (j : ℕ) → find_in (table_of ps) k ≡ Some j → k ≡ (scan_entry ps k).number
    unfolding scan_entry
    scan_number j e = sym (table_finds ps few k j e).number_is

-- ---- a table and the list that it stands for

module _ (t : Scans) where
  -- a scan is found in the one as in the other
  pub in_table : (ps : List ScanEntry) → t ≡ table_of ps → (k : ℕ) (f : Option ℕ) → find_in t k ≡ f → find_in (table_of ps) k ≡ f
  in_table ps q k f g = ap (λ (x : Scans). find_in x k) (sym q) ∙ g

  -- a scan that was found is an entry of the table
  pub entry_in : (k j : ℕ) → find_in t k ≡ Some j → j < length t.numbers
  unfolding find_in
  entry_in k j e = go (eqb k 0) e
    where
      go : (b : Bool) → cond b None (first_at k 0 t.numbers) ≡ Some j → j < length t.numbers
      go true q = let z : ◌≡◌ {A = ℕ} 0 1 = cc in absurd (omega arith)
      go false q = (first_at_lem k j t.numbers q).0

  pub found_scan : (k j : ℕ) → length t.numbers ≡ most_scans → find_in t k ≡ Some j → ScanAt t k j
  found_scan k j n e = record { below = omega (arith, entry_in k j e); found = e }
