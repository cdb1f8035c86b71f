-- The table of a list of entries: it grows entry by entry as the list does, and for a list with at most `most_scans` open scans it answers as the list does.
use Prim.Native.Nat.{ℕ, suc, ◌+◌, ◌-◌, ◌≤◌, ◌<◌, min}
use mathlib.Core.Path.{◌≡◌, refl, ap, sym, ◌∙◌}
use mathlib.Core.Bool.{Bool, true, false, cond}
use mathlib.Core.List.{List, [], ◌∷◌, ◌++◌, map, append_assoc, append-nil, map-append}
use native.Mathlib.Omega.{arith}
use native.Mathlib.Nat.{add-zero, zero-add}
use native.Mathlib.Numerals.{add-one}
use lib.Dec.{eqb, ltb, eqb-suc-suc}
use lib.ListN.{length, get_or, set, take, replicate, length-append, length-map}
use lib.Seq.{take-append-le, take-set-lt, set-append_seam, take-suc, length-take-le}
use borrow.Author.Tests.{not-false, lt-ltb, le-ltb, ne_eqb, ltb-true, ltb-false, eqb-true}
use Rattle.terms.specs.Measures.{most_scans}
use Rattle.terms.specs.declared.ScanEntry.{ScanEntry}
use Rattle.scans.specs.declared.Scans.{Scans}
use Rattle.terms.specs.Entries.{free_entry}
use Rattle.scans.specs.Entries.{is_open, opened, opened_at, open_count, first_free}
use Rattle.scans.specs.Table.{column, table_of, with_entry, of_length}

-- ---- one entry more

opened_snoc : (ps : List ScanEntry) (p : ScanEntry) → opened (ps ++ p ∷ []) ≡ opened ps ++ cond (is_open p) (p ∷ []) []
opened_snoc [] p = refl
opened_snoc (q ∷ ps) p =
    elim (is_open q) as (λ b. cond b (q ∷ opened (ps ++ p ∷ [])) (opened (ps ++ p ∷ [])) ≡ cond b (q ∷ opened ps) (opened ps) ++ cond (is_open p) (p ∷ []) [])
    [ true ↦ rw (opened_snoc ps p) | false ↦ opened_snoc ps p ]

opened_at_snoc_lem : (k : ℕ) (ps : List ScanEntry) (p : ScanEntry) → opened_at k (ps ++ p ∷ []) ≡ opened_at k ps ++ cond (is_open p) ((k + length ps) ∷ []) []
opened_at_snoc_lem k [] p = rw (add-zero k)
opened_at_snoc_lem k (q ∷ ps) p =
    let e : suc k + length ps ≡ k + suc (length ps) = omega arith in
    rw (opened_at_snoc_lem (suc k) ps p, e)
    (elim (is_open q) as (λ b. let l = opened_at (suc k) ps in let m = cond (is_open p) ((k + suc (length ps)) ∷ []) [] in cond b (k ∷ l ++ m) (l ++ m) ≡ cond b (k ∷ l) l ++ m)
    [ true ↦ refl | false ↦ refl ])

free_snoc : (ps : List ScanEntry) (p : ScanEntry) → first_free (ps ++ p ∷ []) ≡ cond (eqb (first_free ps) (length ps)) (cond (eqb p.number 0) (length ps) (length ps + 1)) (first_free ps)
free_snoc [] p = refl
free_snoc (q ∷ ps) p =
    let n = length ps in
    let z = first_free ps in
    let e : suc n + 1 ≡ suc (n + 1) = omega arith in
    rw (free_snoc ps p, e)
    (elim (eqb q.number 0) as (λ b. cond b 0 (suc (cond (eqb z n) (cond (eqb p.number 0) n (n + 1)) z)) ≡ cond (eqb (cond b 0 (suc z)) (suc n)) (cond (eqb p.number 0) (suc n) (suc (n + 1))) (cond b 0 (suc z)))
    [ true ↦ rw (ne_eqb 0 (suc n) (λ h. omega arith)) | false ↦ rw (eqb-suc-suc z n) (under (eqb z n) (eqb p.number 0) n (n + 1) z) ])
  where
    under : (b c : Bool) (x y z : ℕ) → suc (cond b (cond c x y) z) ≡ cond b (cond c (suc x) (suc y)) (suc z)
    under true true x y z = refl
    under true false x y z = refl
    under false c x y z = refl

-- entries of a list that grows: it has room, or it has none
column_snoc : (l : List ℕ) (x : ℕ) → length l < most_scans → column (l ++ x ∷ []) ≡ set (column l) (length l) x
column_snoc l x h =
    let zs : List ℕ = replicate (most_scans - 1) 0 in
    let m : List ℕ = l ++ x ∷ zs in
    let e : (l ++ x ∷ []) ++ replicate most_scans 0 ≡ m ++ 0 ∷ [] = append_assoc l (x ∷ []) (replicate most_scans 0) ∙ sym (append_assoc l (x ∷ zs) (0 ∷ [])) in
    let k : most_scans ≤ length m = omega (arith, length-append l (x ∷ zs)) in
    ap (take most_scans) e
    ∙ take-append-le most_scans m (0 ∷ []) k
    ∙ ap (take most_scans) (sym (set-append_seam l 0 zs x))
    ∙ take-set-lt most_scans (l ++ replicate most_scans 0) (length l) x h

column_full : (l : List ℕ) (x : ℕ) → most_scans ≤ length l → column (l ++ x ∷ []) ≡ column l
column_full l x h =
    ap (take most_scans) (append_assoc l (x ∷ []) (replicate most_scans 0))
    ∙ take-append-le most_scans l (x ∷ replicate most_scans 0) h
    ∙ sym (take-append-le most_scans l (replicate most_scans 0) h)

-- ---- the table grows as the list does

pub at_length : (k : ℕ) (qs : List ScanEntry) → length (opened_at k qs) ≡ open_count qs
at_length k [] = refl
at_length k (q ∷ qs) =
    elim (is_open q) as (λ b. length (cond b (k ∷ opened_at (suc k) qs) (opened_at (suc k) qs)) ≡ length (cond b (q ∷ opened qs) (opened qs)))
    [ true ↦ ap suc (at_length (suc k) qs) | false ↦ at_length (suc k) qs ]

pub with_entry_table : (ps : List ScanEntry) (p : ScanEntry) → with_entry (table_of ps) p ≡ table_of (ps ++ p ∷ [])
unfolding with_entry table_of
with_entry_table ps p = go (eqb p.number 0) refl (ltb n most_scans) refl
  where
    n : ℕ
    n = open_count ps

    as_free_lem : cond (eqb (first_free ps) (length ps)) (length ps) (first_free ps) ≡ first_free ps
    as_free_lem =
        elim (eqb (first_free ps) (length ps)) as (λ b. eqb (first_free ps) (length ps) ≡ b → cond b (length ps) (first_free ps) ≡ first_free ps)
        [ true ↦ λ e. sym (eqb-true (first_free ps) (length ps) e) | false ↦ λ e. refl ] refl

    -- an entry list after an open scan: with room for it, and without
    room : (l : List ℕ) (x : ℕ) → length l ≡ n → n < most_scans → column (l ++ x ∷ []) ≡ set (column l) n x
    room l x e h = column_snoc l x (omega arith) ∙ ap (λ (k : ℕ). set (column l) k x) e

    full : (l : List ℕ) (x : ℕ) → length l ≡ n → most_scans ≤ n → column (l ++ x ∷ []) ≡ column l
    full l x e h = column_full l x (omega arith)

    go : (b : Bool) → eqb p.number 0 ≡ b → (r : Bool) → ltb n most_scans ≡ r → with_entry (table_of ps) p ≡ table_of (ps ++ p ∷ [])
    go true e r f = rw (e, length-append ps (p ∷ []), opened_snoc ps p, opened_at_snoc_lem 0 ps p, free_snoc ps p, e, append-nil (opened ps), append-nil (opened_at 0 ps), as_free_lem)
    go false e true f =
        let h : n < most_scans = ltb-true n most_scans f in
        let m : min most_scans n ≡ n = omega arith in
        let m' : min most_scans (n + 1) ≡ n + 1 = omega arith in
        rw (e, m, f, length-append ps (p ∷ []), opened_snoc ps p, opened_at_snoc_lem 0 ps p, free_snoc ps p, e, zero-add (length ps), length-append (opened ps) (p ∷ []), m')
        (simp map-append
        (rw (room (map (λ q. q.number) (opened ps)) p.number (length-map (opened ps) _) h, room (map (λ q. q.stamp) (opened ps)) p.stamp (length-map (opened ps) _) h, room (map (λ q. q.merges) (opened ps)) p.merges (length-map (opened ps) _) h, room (map (λ q. q.commits) (opened ps)) p.commits (length-map (opened ps) _) h, room (opened_at 0 ps) (length ps) (at_length 0 ps) h, le-ltb most_scans n (omega arith), le-ltb most_scans (n + 1) (omega arith))))
    go false e false f =
        let h : most_scans ≤ n = ltb-false n most_scans f in
        let m : min most_scans n ≡ most_scans = omega arith in
        let m' : min most_scans (n + 1) ≡ most_scans = omega arith in
        rw (e, m, length-append ps (p ∷ []), opened_snoc ps p, opened_at_snoc_lem 0 ps p, free_snoc ps p, e, zero-add (length ps), length-append (opened ps) (p ∷ []), m')
        (simp map-append
        (rw (full (map (λ q. q.number) (opened ps)) p.number (length-map (opened ps) _) h, full (map (λ q. q.stamp) (opened ps)) p.stamp (length-map (opened ps) _) h, full (map (λ q. q.merges) (opened ps)) p.merges (length-map (opened ps) _) h, full (map (λ q. q.commits) (opened ps)) p.commits (length-map (opened ps) _) h, full (opened_at 0 ps) (length ps) (at_length 0 ps) h, lt-ltb most_scans (n + 1) (omega arith))))

pub table_length : (t : Scans) (ps : List ScanEntry) → t ≡ table_of ps → t.length ≡ length ps
unfolding table_of
table_length t ps e = ap (λ (u : Scans). u.length) e

-- one turn of the loop that makes a table
table_next : (ps : List ScanEntry) (t r : Scans) (p : ScanEntry) (i : ℕ) → t ≡ table_of (take i ps) → p ≡ get_or ps i free_entry → r ≡ with_entry t p → i < length ps
    → r ≡ table_of (take (i + 1) ps)
table_next ps t r p i e q n h = n ∙ rw (e, q, add-one) (with_entry_table (take i ps) (get_or ps i free_entry) ∙ ap table_of (sym (take-suc ps i free_entry h)))

-- ---- a loop that makes a table entry by entry

-- t has the first i of the n entries of l: but for its length it is their table
pub record Entered (l : List ScanEntry) (n : ℕ) (t : Scans) (i : ℕ) : Type 0 where
  pub within : i ≤ n
  pub whole : n ≡ length l
  pub table : of_length i t ≡ table_of (take i l)

pub none_entered : (l : List ScanEntry) (n : ℕ) (t : Scans) → n ≡ length l → t ≡ table_of [] → Entered l n t 0
unfolding table_of
none_entered l n t e f = record { within = omega arith; whole = e; table = ap (of_length 0) f }

own_length : (l : List ScanEntry) (t : Scans) (i : ℕ) → i ≤ length l → t ≡ table_of (take i l) → of_length i t ≡ t
own_length l t i k e = ap (λ n. of_length n t) (sym (table_length t (take i l) e ∙ length-take-le i l k))

pub open_entered : (l : List ScanEntry) (n : ℕ) (t r : Scans) (i : ℕ) (p : ScanEntry) → Entered l n t i → i < n → p ≡ get_or l i free_entry → r ≡ with_entry (of_length i t) p → Entered l n r (i + 1)
open_entered l n t r i p g k e f =
    let e = table_next l (of_length i t) r p i g.table e f (omega (arith, g.whole)) in
    record { within = omega arith; whole = g.whole; table = own_length l r (i + 1) (omega (arith, g.whole)) e ∙ e }

pub free_entered : (l : List ScanEntry) (n : ℕ) (t : Scans) (i : ℕ) (p : ScanEntry) → Entered l n t i → i < n → p ≡ get_or l i free_entry → is_open p ≡ false → Entered l n t (i + 1)
unfolding with_entry
free_entered l n t i p g k e f =
    record {
      within = omega arith;
      whole = g.whole;
      table = table_next l (of_length i t) (of_length (i + 1) t) p i g.table e (sym (rw (not-false (eqb p.number 0) f))) (omega (arith, g.whole));
    }
