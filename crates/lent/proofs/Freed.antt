-- Freeing the list entry by entry: which entries are free by then.
use mathlib.Core.Path.{◌≡◌, sym, ◌∙◌}
use mathlib.Core.List.{List}
use Prim.Native.Nat.{ℕ, ◌≤◌, ◌<◌}
use native.Mathlib.Omega.{arith}
use lib.ListN.{length, get_or, length-replicate, get_or-replicate}
use lib.Seq.{ext_get_or}
use Rattle.terms.specs.declared.ScanEntry.{ScanEntry}
use Rattle.terms.specs.Entries.{free_entry}
use Rattle.scans.specs.Entries.{all_freed}

-- the first i entries of l, which was k, are free
pub record Freed (k l : List ScanEntry) (n i : ℕ) : Type 0 where
  pub within : i ≤ n
  pub whole : n ≡ length k
  pub same : length l ≡ n
  pub free : (j : ℕ) → j < i → get_or l j free_entry ≡ free_entry

-- once all n are, the list is what it is when every entry is freed
pub all_freed_lem : (k l : List ScanEntry) (n i : ℕ) → Freed k l n i → n ≤ i → l ≡ all_freed k
all_freed_lem k l n i f h =
    ext_get_or free_entry l (all_freed k) (f.same ∙ f.whole ∙ sym (length-replicate (length k) free_entry))
    (λ j b. f.free j (omega (arith, f.same, f.within)) ∙ sym (get_or-replicate (length k) j free_entry free_entry (omega (arith, f.same, f.whole))))
