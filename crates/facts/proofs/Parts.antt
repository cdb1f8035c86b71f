-- The parts of a fact as the code has them, and as the fact says them: a whole region, the entries of the table of open scans, the open transactions.
use Prim.Native.Nat.{ℕ, ◌≤◌}
use mathlib.Core.Path.{◌≡◌, refl}
use mathlib.Core.Bool.{Bool, true, false, not}
use mathlib.Core.List.{List, map}
use native.Mathlib.Omega.{arith}
use native.Mathlib.Nat.{zero-add}
use lib.Dec.{leb, ltb}
use lib.ListN.{length, take}
use lib.Seq.{take_all}
use borrow.Author.Tests.{lt-ltb, le-ltb, leb-true, leb-false}
use Rattle.terms.specs.Measures.{most_scans, most_transactions}
use Rattle.terms.specs.declared.ScanEntry.{ScanEntry}
use Rattle.words.specs.Words.{words}
use Rattle.words.proofs.Words.{length_words}
use Rattle.loops.specs.Search.{region, all_between}
use Rattle.layout.specs.declared.Sizes.{Sizes}
use Rattle.layout.specs.declared.Region.{Region}
use Rattle.layout.specs.declared.Region.TheVariants.{Opens}
use Rattle.layout.specs.Regions.{len}
use Rattle.layout.specs.View.{view_of, Suffices}
use Rattle.layout.proofs.View.{view_long}
use Rattle.scans.specs.declared.Scans.{Scans}
use Rattle.scans.specs.Entries.{open_count, every_open, differ}
use Rattle.scans.specs.Table.{table_of}
use Rattle.scans.proofs.Answers.{table_at_most, table_differ}

-- a region from its first word to its last is the region
pub whole : (s : Sizes) (m : List ℕ) (k : Region) (n : ℕ) → Suffices s m → len s k ≡ n → region (view_of s m k) 0 n ≡ view_of s m k
whole s m k n h e =
    let l : length (view_of s m k) ≡ len s k = view_long s (words m) (omega (arith, length_words m)) k in
    rw (zero-add n) (take_all n (view_of s m k) (omega arith))

pub opens_length : (s : Sizes) (m : List ℕ) → Suffices s m → length (view_of s m Opens) ≡ most_transactions
opens_length s m h = view_long s (words m) (omega (arith, length_words m)) Opens

-- ---- what the table's entries say of the list

pub few_open : (ps : List ScanEntry) → not (ltb most_scans (open_count ps)) ≡ leb (open_count ps) most_scans
few_open ps = go (leb (open_count ps) most_scans) refl
  where
    go : (b : Bool) → leb (open_count ps) most_scans ≡ b → not (ltb most_scans (open_count ps)) ≡ b
    go true e = rw (le-ltb most_scans (open_count ps) (leb-true (open_count ps) most_scans e))
    go false e = rw (lt-ltb most_scans (open_count ps) (leb-false (open_count ps) most_scans e))

module _ (t : Scans) (ps : List ScanEntry) (same : t ≡ table_of ps) where
  pub more_open : not t.more ≡ leb (open_count ps) most_scans
  unfolding table_of
  more_open = rw same (few_open ps)

  pub count_few : t.count ≤ most_scans
  unfolding table_of
  count_few = rw same (omega arith)

  pub numbers_between : (b : ℕ) → open_count ps ≤ most_scans → all_between 0 b t.numbers ≡ every_open (λ p. leb p.number b) ps
  unfolding table_of
  numbers_between b few = rw same (table_at_most ps few (λ p. p.number) b)

  pub stamps_between : (b : ℕ) → open_count ps ≤ most_scans → all_between 0 b t.stamps ≡ every_open (λ p. leb p.stamp b) ps
  unfolding table_of
  stamps_between b few = rw same (table_at_most ps few (λ p. p.stamp) b)

  pub merges_between : (b : ℕ) → open_count ps ≤ most_scans → all_between 0 b t.merges ≡ every_open (λ p. leb p.merges b) ps
  unfolding table_of
  merges_between b few = rw same (table_at_most ps few (λ p. p.merges) b)

  pub commits_between : (b : ℕ) → open_count ps ≤ most_scans → all_between 0 b t.commits ≡ every_open (λ p. leb p.commits b) ps
  unfolding table_of
  commits_between b few = rw same (table_at_most ps few (λ p. p.commits) b)

  pub numbers_differ : open_count ps ≤ most_scans → differ (take t.count t.numbers) ≡ differ (map (λ p. p.number) ps)
  numbers_differ few = rw same (table_differ ps few)
