-- What the table of a list tells, where at most `most_scans` are open: each question has the answer that the list itself gives.
use Prim.Native.Nat.{ℕ, zero, suc, ◌+◌, ◌-◌, ◌≤◌, ◌<◌}
use mathlib.Core.Path.{◌≡◌, refl, ap, sym, ◌∙◌}
use mathlib.Core.Bool.{Bool, true, false, not, cond, ◌&&◌, ◌||◌}
use mathlib.Core.List.{List, [], ◌∷◌, ◌++◌, map}
use native.Mathlib.Omega.{arith}
use lib.Dec.{eqb, ltb, leb, leb-zero}
use lib.ListN.{length, get_or, take, replicate, length-replicate, length-map, get_or-map, get_or-append, replicate-append-replicate}
use lib.Seq.{take-append-add, take_at}
use borrow.Author.Tests.{ne_eqb, eqb-true, eqb-false}
use Rattle.terms.specs.Measures.{most_scans}
use Rattle.terms.specs.declared.ScanEntry.{ScanEntry}
use Rattle.std.specs.Prelude.{Option, Some, None}
use Rattle.loops.specs.Search.{all_between, first_at}
use Rattle.loops.proofs.Search.{first_in, first_at_lem}
use Rattle.terms.specs.Entries.{free_entry, is_scan, first_index}
use Rattle.scans.specs.Entries.{opened, opened_at, open_count, every_open, some_open, among, differ}
use Rattle.scans.specs.Table.{column, table_of, find_in, some_less}
use Rattle.scans.proofs.Table.{at_length}

-- ---- a short list's entries are its numbers and then zeros

column_are : (l : List ℕ) → length l ≤ most_scans → column l ≡ l ++ replicate (most_scans - length l) 0
column_are l h =
    let n : ℕ = most_scans - length l in
    let e : most_scans ≡ length l + n = omega arith in
    let e' : most_scans ≡ n + length l = omega arith in
    ap (λ (k : ℕ). take k (l ++ replicate most_scans 0)) e
    ∙ take-append-add l (replicate most_scans 0) n
    ∙ ap (λ (z : List ℕ). l ++ z)
    (ap (take n) (ap (λ (k : ℕ). replicate k 0) e' ∙ sym (replicate-append-replicate n (length l) 0))
    ∙ take_at (replicate n 0) (replicate (length l) 0) n (length-replicate n 0))

-- what follows the open scans is zeros, so a test that zeros pass sees the open scans alone
between_zeros : (b n : ℕ) (l : List ℕ) → all_between 0 b (l ++ replicate n 0) ≡ all_between 0 b l
between_zeros b zero [] = refl
between_zeros b (suc n) [] = rw (leb-zero b) (between_zeros b n [])
between_zeros b n (x ∷ l) = rw (between_zeros b n l)

-- ---- and the list itself has its open scans, with free entries among them

every_opened : (f : ScanEntry → ℕ) (b : ℕ) (ps : List ScanEntry) → all_between 0 b (map f (opened ps)) ≡ every_open (λ p. leb (f p) b) ps
every_opened f b [] = refl
every_opened f b (p ∷ ps) =
    elim (eqb p.number 0) as (λ o. all_between 0 b (map f (cond (not o) (p ∷ opened ps) (opened ps))) ≡ ((not (not o) || leb (f p) b) && every_open (λ p. leb (f p) b) ps))
    [ true ↦ every_opened f b ps | false ↦ rw (leb-zero (f p), every_opened f b ps) ]

some_opened : (m : ℕ) (ps : List ScanEntry) → some_less m (map (λ p. p.merges) (opened ps)) ≡ some_open (λ p. ltb p.merges m) ps
some_opened m [] = refl
some_opened m (p ∷ ps) =
    elim (eqb p.number 0) as (λ o. some_less m (map (λ p. p.merges) (cond (not o) (p ∷ opened ps) (opened ps))) ≡ ((not o && ltb p.merges m) || some_open (λ p. ltb p.merges m) ps))
    [ true ↦ some_opened m ps | false ↦ rw (some_opened m ps) ]

among_opened : (x : ℕ) (ps : List ScanEntry) → eqb x 0 ≡ false → among x (map (λ p. p.number) (opened ps)) ≡ among x (map (λ p. p.number) ps)
among_opened x [] e = refl
among_opened x (p ∷ ps) e =
    elim (eqb p.number 0) as (λ o. eqb p.number 0 ≡ o → among x (map (λ p. p.number) (cond (not o) (p ∷ opened ps) (opened ps))) ≡ (eqb p.number x || among x (map (λ p. p.number) ps)))
    [ true ↦ λ q. rw (ne_eqb p.number x (λ r. eqb-false x 0 e (sym r ∙ eqb-true p.number 0 q))) (among_opened x ps e) | false ↦ λ q. rw (among_opened x ps e) ] refl

differ_opened : (ps : List ScanEntry) → differ (map (λ p. p.number) (opened ps)) ≡ differ (map (λ p. p.number) ps)
differ_opened [] = refl
differ_opened (p ∷ ps) =
    elim (eqb p.number 0) as (λ o. eqb p.number 0 ≡ o → differ (map (λ p. p.number) (cond (not o) (p ∷ opened ps) (opened ps))) ≡ ((o || not (among p.number (map (λ p. p.number) ps))) && differ (map (λ p. p.number) ps)))
    [ true ↦ λ q. differ_opened ps | false ↦ λ q. rw (q, among_opened p.number ps q, differ_opened ps) ] refl

-- ---- the scan that bears a number

zeros_none : (k c n : ℕ) → eqb k 0 ≡ false → first_at k c (replicate n 0) ≡ None
zeros_none k c zero e = refl
zeros_none k c (suc n) e = rw (ne_eqb 0 k (λ q. eqb-false k 0 e (sym q))) (zeros_none k (c + 1) n e)

-- entry j of the open scans is the first of the list that bears k
module _ (k n : ℕ) (nonzero : eqb k 0 ≡ false) where
  abbrev searched : ℕ → List ScanEntry → Option ℕ
  searched c ps = first_at k c (map (λ p. p.number) (opened ps) ++ replicate n 0)

  -- the index of k in a list that starts at index d, and its entry j
  abbrev Entry : ℕ → List ScanEntry → ℕ → Type 0
  Entry d ps j = (first_index (is_scan k) ps + d ≡ get_or (opened_at d ps) j 0) × (get_or ps (first_index (is_scan k) ps) free_entry ≡ get_or (opened ps) j free_entry) × (j < open_count ps)

  found_index : (ps : List ScanEntry) (c d j : ℕ) → searched c ps ≡ Some (c + j) → Entry d ps j
  found_index [] c d j e = let z : ◌≡◌ {A = ℕ} 0 1 = cc (zeros_none k c n nonzero) in absurd (omega arith)
  found_index (p ∷ ps) c d j e = go (eqb p.number 0) refl (eqb p.number k) refl (found_index ps) j e
    where
      at : (i : ℕ) → Some c ≡ Some i → c ≡ i
      at i q = cc

      go : (o : Bool) → eqb p.number 0 ≡ o → (b : Bool) → eqb p.number k ≡ b → ((c d j : ℕ) → searched c ps ≡ Some (c + j) → Entry d ps j)
          → (i : ℕ) → searched c (p ∷ ps) ≡ Some (c + i) → Entry d (p ∷ ps) i
      go true o b q later i f = rw o (let t = later c (suc d) i (rw o at f) in (omega (arith, t.0), t.1, t.2))
      go false o true q later zero f = rw (o, q) (omega arith, refl, omega arith)
      go false o true q later (suc i) f = absurd (omega (arith, at (c + suc i) (rw (o, q) at f)))
      go false o false q later zero f = absurd (omega (arith, (first_in k (c + 1) (c + 0) (map (λ p. p.number) (opened ps) ++ replicate n 0) (rw (o, q) at f)).0))
      go false o false q later (suc i) f =
          rw (o, q) (let t = later (c + 1) (suc d) i ((rw (o, q) at f) ∙ ap Some (omega arith)) in (omega (arith, t.0), t.1, omega (arith, t.2)))

  -- and where none is found no entry of the list bears k
  found_none : (ps : List ScanEntry) (c : ℕ) → searched c ps ≡ None → first_index (is_scan k) ps ≡ length ps
  found_none [] c e = refl
  found_none (p ∷ ps) c e = go (eqb p.number 0) refl (eqb p.number k) refl (found_none ps)
    where
      go : (o : Bool) → eqb p.number 0 ≡ o → (b : Bool) → eqb p.number k ≡ b → ((c : ℕ) → searched c ps ≡ None → first_index (is_scan k) ps ≡ length ps)
          → first_index (is_scan k) (p ∷ ps) ≡ suc (length ps)
      go true o b q later = rw o (ap suc (later c (rw o at e)))
      go false o true q later = let f = rw (o, q) at e in let z : ◌≡◌ {A = ℕ} 0 1 = cc in absurd (omega arith)
      go false o false q later = rw (o, q) (ap suc (later (c + 1) (rw (o, q) at e)))

-- no entry bears 0
none_zero : (ps : List ScanEntry) → first_index (is_scan 0) ps ≡ length ps
none_zero [] = refl
none_zero (p ∷ ps) =
    elim (eqb p.number 0) as (λ b. cond (not b && b) 0 (suc (first_index (is_scan 0) ps)) ≡ suc (length ps)) [ true ↦ ap suc (none_zero ps) | false ↦ ap suc (none_zero ps) ]

-- ---- the answers of a table

-- scan k stands at entry j of the table
pub record Located (ps : List ScanEntry) (k j : ℕ) : Type 0 where
  pub entry : j < open_count ps
  pub number_is : (get_or ps (first_index (is_scan k) ps) free_entry).number ≡ k
  pub index_is : get_or (table_of ps).indices j 0 ≡ first_index (is_scan k) ps
  pub stamp_is : get_or (table_of ps).stamps j 0 ≡ (get_or ps (first_index (is_scan k) ps) free_entry).stamp
  pub merges_is : get_or (table_of ps).merges j 0 ≡ (get_or ps (first_index (is_scan k) ps) free_entry).merges
  pub commits_is : get_or (table_of ps).commits j 0 ≡ (get_or ps (first_index (is_scan k) ps) free_entry).commits

module _ (ps : List ScanEntry) (few : open_count ps ≤ most_scans) where
  field_column : (f : ScanEntry → ℕ) → column (map f (opened ps)) ≡ map f (opened ps) ++ replicate (most_scans - open_count ps) 0
  field_column f = let e : length (map f (opened ps)) ≡ open_count ps = length-map (opened ps) f in rw (← e) (column_are (map f (opened ps)) (omega arith))

  field_at : (f : ScanEntry → ℕ) (j : ℕ) → f free_entry ≡ 0 → j < open_count ps → get_or (column (map f (opened ps))) j 0 ≡ f (get_or (opened ps) j free_entry)
  field_at f j z h =
      let e : length (map f (opened ps)) ≡ open_count ps = length-map (opened ps) f in
      rw (field_column f) (get_or-append (map f (opened ps)) _ 0 j (omega arith) ∙ ap (λ (d : ℕ). get_or (map f (opened ps)) j d) (sym z) ∙ get_or-map f (opened ps) j free_entry)

  indices_at : (j : ℕ) → j < open_count ps → get_or (column (opened_at 0 ps)) j 0 ≡ get_or (opened_at 0 ps) j 0
  indices_at j h =
      let e = at_length 0 ps in
      rw (column_are (opened_at 0 ps) (omega arith)) (get_or-append (opened_at 0 ps) _ 0 j (omega arith))

  pub table_count : (table_of ps).count ≡ open_count ps
  unfolding table_of
  table_count = omega arith

  pub table_at_most : (f : ScanEntry → ℕ) (b : ℕ) → all_between 0 b (column (map f (opened ps))) ≡ every_open (λ p. leb (f p) b) ps
  table_at_most f b = rw (field_column f) (between_zeros b (most_scans - open_count ps) (map f (opened ps)) ∙ every_opened f b ps)

  field_taken : (f : ScanEntry → ℕ) → take (table_of ps).count (column (map f (opened ps))) ≡ map f (opened ps)
  field_taken f = rw (table_count, field_column f) (take_at (map f (opened ps)) _ (open_count ps) (length-map (opened ps) f))

  pub table_differ : differ (take (table_of ps).count (table_of ps).numbers) ≡ differ (map (λ p. p.number) ps)
  unfolding table_of
  table_differ = rw (field_taken (λ p. p.number)) (differ_opened ps)

  pub table_before : (m : ℕ) → some_less m (take (table_of ps).count (table_of ps).merges) ≡ some_open (λ p. ltb p.merges m) ps
  unfolding table_of
  table_before m = rw (field_taken (λ p. p.merges)) (some_opened m ps)

  pub table_finds : (k j : ℕ) → find_in (table_of ps) k ≡ Some j → Located ps k j
  unfolding find_in table_of
  table_finds k j e =
      elim (eqb k 0) as (λ b. eqb k 0 ≡ b → cond b None (first_at k 0 (table_of ps).numbers) ≡ Some j → Located ps k j) [
        | true ↦ λ q f. let z : ◌≡◌ {A = ℕ} 0 1 = cc in absurd (omega arith)
        | false ↦ λ q f.
            let t = found_index k (most_scans - open_count ps) q ps 0 0 j ((rw (field_column (λ p. p.number)) at f) ∙ ap Some (omega arith)) in
            record {
              entry = t.2;
              number_is = ap (λ (p : ScanEntry). p.number) t.1 ∙ sym (field_at (λ p. p.number) j refl t.2) ∙ (first_at_lem k j (table_of ps).numbers f).1;
              index_is = indices_at j t.2 ∙ omega (arith, t.0);
              stamp_is = field_at (λ p. p.stamp) j refl t.2 ∙ ap (λ (p : ScanEntry). p.stamp) (sym t.1);
              merges_is = field_at (λ p. p.merges) j refl t.2 ∙ ap (λ (p : ScanEntry). p.merges) (sym t.1);
              commits_is = field_at (λ p. p.commits) j refl t.2 ∙ ap (λ (p : ScanEntry). p.commits) (sym t.1);
            }
      ] refl e

  pub table_lacks : (k : ℕ) → find_in (table_of ps) k ≡ None → first_index (is_scan k) ps ≡ length ps
  unfolding find_in table_of
  table_lacks k e =
      elim (eqb k 0) as (λ b. eqb k 0 ≡ b → cond b None (first_at k 0 (table_of ps).numbers) ≡ None → first_index (is_scan k) ps ≡ length ps) [
        | true ↦ λ q f. let z : k ≡ 0 = eqb-true k 0 q in rw z (none_zero ps)
        | false ↦ λ q f. found_none k (most_scans - open_count ps) q ps 0 (rw (field_column (λ p. p.number)) at f)
      ] refl e
