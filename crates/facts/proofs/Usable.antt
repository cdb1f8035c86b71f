-- What a usable memory tells, clause by clause, for the proofs of the calls: every later access and walk rests on one of these.
use Prim.Native.Nat.{ℕ, zero, suc, ◌+◌, ◌*◌, ◌-◌, ◌/◌, ◌≤◌, ◌<◌}
use mathlib.Core.Path.{◌≡◌, refl, sym, ◌∙◌}
use mathlib.Core.Bool.{Bool, true, false, not, ◌||◌}
use mathlib.Core.Logic.{◌≢◌}
use mathlib.Core.List.{List, [], ◌∷◌, map}
use native.Mathlib.Omega.{arith}
use native.Mathlib.Nat.{zero-add}
use lib.Dec.{leb, ltb, eqb}
use lib.ListN.{length, get_or, get_or-map}
use borrow.Author.Tests.{leb-true, ltb-true, eqb-true, eqb-false, ne_eqb, le-ltb}
use Rattle.layout.specs.Codes.{as_waiting}
use Rattle.terms.specs.Measures.{within_limits, most_scans, range_rows}
use Rattle.terms.specs.declared.ScanEntry.{ScanEntry}
use Rattle.words.specs.Words.{words}
use Rattle.words.proofs.Words.{length_words}
use Rattle.loops.specs.Search.{region, all_between}
use Rattle.loops.proofs.Search.{and_true, all_tells}
use Rattle.loops.proofs.Region.{region_at, region_length}
use Rattle.layout.specs.declared.Sizes.{Sizes}
use Rattle.layout.specs.declared.Region.{Region}
use Rattle.layout.specs.declared.Region.TheVariants.{Opens, RowTransaction, RowStamp, RowLink, TailTransaction, TailRow, TailLink, TailStamp, Current, PageState, PageChunk, PageReplaced, PageLineage, PageNewest}
use Rattle.layout.specs.Regions.{form_known, columns_at, len, need, first_slot}
use Rattle.layout.specs.View.{View, rows_given, transactions_given, scans_given, last_stamp, merges_made, commits_made, used_in, Long, view_of, Suffices}
use Rattle.layout.proofs.View.{view_long}
use Rattle.terms.specs.Entries.{free_entry}
use Rattle.scans.specs.Entries.{open_count, every_open, among, differ}
use Rattle.facts.specs.Facts.{each, rows_between, range_between, current_at_most, waiting_at_most, counts_within, row_named, range_names_rows, records_name_rows, numbers_given, link_holds, row_linked, record_linked, range_linked, links_hold, stamps_within, merges_within, commits_within, open_differ, chunk_current, chunks_current, page_range, current_lineage, waiting_lineage, lineages_within, facts_hold}
use Rattle.facts.specs.Usable.{stored_shape, stored_form, stored_sizes, measures_bytes, measures_hold, usable}
use Rattle.layout.specs.Sizes.{Proper}
use Rattle.facts.proofs.Each.{each_tells}
use Rattle.layout.proofs.Limits.{proper}
use Rattle.facts.proofs.Ready.{Stored, stored, at_most}
use Rattle.layout.proofs.Indices.{tail_in}

-- a link, in range g, of row r: at most `most`, and if it is not 0 its record is of that row
pub record Linked (s : Sizes) (v : View) (g most r link : ℕ) : Type 0 where
  pub low : link ≤ most
  pub same : link ≢ 0 → get_or (v TailRow) (first_slot s.capacity g + (link - 1)) 0 ≡ r

pub record Usable (s : Sizes) (v : View) (ps : List ScanEntry) : Type 0 where
  pub counts : Stored s v
  pub open_few : open_count ps ≤ most_scans
  pub named : (g i : ℕ) → g < s.ranges → i < used_in v g
      → (get_or (v TailRow) (first_slot s.capacity g + i) 0 < rows_given v) × (get_or (v TailRow) (first_slot s.capacity g + i) 0 / range_rows ≡ g)
  pub row_numbers : (r : ℕ) → r < rows_given v → (1 ≤ get_or (v RowTransaction) r 0) × (get_or (v RowTransaction) r 0 ≤ transactions_given v)
  pub record_numbers : (g i : ℕ) → g < s.ranges → i < used_in v g
      → (1 ≤ get_or (v TailTransaction) (first_slot s.capacity g + i) 0) × (get_or (v TailTransaction) (first_slot s.capacity g + i) 0 ≤ transactions_given v)
  pub open_numbers : (j : ℕ) → get_or (v Opens) j 0 ≤ transactions_given v
  pub scan_numbers : (j : ℕ) → (get_or ps j free_entry).number ≤ scans_given v
  pub row_links : (r : ℕ) → r < rows_given v → Linked s v (r / range_rows) (used_in v (r / range_rows)) r (get_or (v RowLink) r 0)
  pub record_links : (g i : ℕ) → g < s.ranges → i < used_in v g
      → Linked s v g i (get_or (v TailRow) (first_slot s.capacity g + i) 0) (get_or (v TailLink) (first_slot s.capacity g + i) 0)
  pub row_stamps : (r : ℕ) → r < rows_given v → get_or (v RowStamp) r 0 ≤ last_stamp v
  pub record_stamps : (g i : ℕ) → g < s.ranges → i < used_in v g → get_or (v TailStamp) (first_slot s.capacity g + i) 0 ≤ last_stamp v
  pub current_stamps : (i : ℕ) → i < s.chunks → get_or (v PageNewest) (get_or (v Current) i 0) 0 ≤ last_stamp v
  pub waiting_stamps : (p : ℕ) → p < s.pages → as_waiting ≤ get_or (v PageState) p 0 → get_or (v PageNewest) p 0 ≤ last_stamp v
  pub scan_stamps : (j : ℕ) → (get_or ps j free_entry).number ≢ 0 → (get_or ps j free_entry).stamp ≤ last_stamp v
  pub scan_merges : (j : ℕ) → (get_or ps j free_entry).number ≢ 0 → (get_or ps j free_entry).merges ≤ merges_made v
  pub scan_commits : (j : ℕ) → (get_or ps j free_entry).number ≢ 0 → (get_or ps j free_entry).commits ≤ commits_made v
  pub waiting_merges : (p : ℕ) → p < s.pages → as_waiting ≤ get_or (v PageState) p 0 → get_or (v PageReplaced) p 0 ≤ merges_made v
  pub open_differ : (i j : ℕ) → i < j → get_or (v Opens) i 0 ≡ get_or (v Opens) j 0 → get_or (v Opens) i 0 ≡ 0
  pub scans_differ : (i j : ℕ) → i < j → (get_or ps i free_entry).number ≡ (get_or ps j free_entry).number → (get_or ps i free_entry).number ≡ 0
  pub current_in : (i : ℕ) → i < s.chunks → get_or (v Current) i 0 < s.pages
  pub current_state : (i : ℕ) → i < s.chunks → get_or (v PageState) (get_or (v Current) i 0) 0 ≡ 1
  pub current_chunk : (i : ℕ) → i < s.chunks → get_or (v PageChunk) (get_or (v Current) i 0) 0 ≡ i
  pub current_lineages : (i : ℕ) → i < s.chunks → get_or (v PageLineage) (get_or (v Current) i 0) 0 ≤ used_in v (i / s.columns)
  pub waiting_lineages : (p : ℕ) → p < s.pages → as_waiting ≤ get_or (v PageState) p 0 → get_or (v PageLineage) p 0 ≤ used_in v (page_range s v p)

-- ---- the tests of one index, taken apart

pub or_right : (a b : Bool) → a ≡ false → (a || b) ≡ true → b ≡ true
or_right a b e f = rw e at f

pub link_tells : (s : Sizes) (v : View) (g most r link : ℕ) → link_holds s v g most r link ≡ true → Linked s v g most r link
unfolding link_holds
link_tells s v g most r link e = go (eqb link 0) refl
  where
    go : (b : Bool) → eqb link 0 ≡ b → Linked s v g most r link
    go true q = let z : link ≡ 0 = eqb-true link 0 q in record { low = omega arith; same = λ n. absurd (n z) }
    go false q =
        let a = and_true _ _ (or_right (eqb link 0) _ q e) in
        record { low = leb-true link most a.0; same = λ n. eqb-true _ r a.1 }

current_tells : (v : View) (k : Region) (most i : ℕ) → current_at_most v k most i ≡ true → get_or (v k) (get_or (v Current) i 0) 0 ≤ most
unfolding current_at_most
current_tells v k most i e = leb-true _ most e

waiting_tells : (v : View) (k : Region) (most p : ℕ) → waiting_at_most v k most p ≡ true → as_waiting ≤ get_or (v PageState) p 0 → get_or (v k) p 0 ≤ most
unfolding waiting_at_most
waiting_tells v k most p e h = leb-true (get_or (v k) p 0) most (or_right (ltb (get_or (v PageState) p 0) as_waiting) _ (le-ltb _ as_waiting h) e)

pub chunk_current_tells : (s : Sizes) (v : View) (i : ℕ) → chunk_current s v i ≡ true
    → (get_or (v Current) i 0 < s.pages) × (get_or (v PageState) (get_or (v Current) i 0) 0 ≡ 1) × (get_or (v PageChunk) (get_or (v Current) i 0) 0 ≡ i)
unfolding chunk_current
chunk_current_tells s v i e =
    let a = and_true _ _ e in
    let b = and_true _ _ a.1 in (ltb-true _ s.pages a.0, eqb-true _ 1 b.0, eqb-true _ i b.1)

every_tells : (f : ScanEntry → Bool) (ps : List ScanEntry) → every_open f ps ≡ true → (j : ℕ) → (get_or ps j free_entry).number ≢ 0 → f (get_or ps j free_entry) ≡ true
every_tells f [] e j n = absurd (n refl)
every_tells f (p ∷ ps) e zero n =
    let a = and_true (not (not (eqb p.number 0)) || f p) (every_open f ps) e in
    or_right (not (not (eqb p.number 0))) (f p) (rw (ne_eqb p.number 0 n)) a.0
every_tells f (p ∷ ps) e (suc j) n =
    every_tells f ps (and_true (not (not (eqb p.number 0)) || f p) (every_open f ps) e).1 j n

-- a free entry has the number 0, so of the numbers all entries may speak
numbers_tell : (ps : List ScanEntry) (b : ℕ) → every_open (λ p. leb p.number b) ps ≡ true → (j : ℕ) → (get_or ps j free_entry).number ≤ b
numbers_tell ps b e j = go (eqb (get_or ps j free_entry).number 0) refl
  where
    go : (t : Bool) → eqb (get_or ps j free_entry).number 0 ≡ t → (get_or ps j free_entry).number ≤ b
    go true q = let z = eqb-true (get_or ps j free_entry).number 0 q in omega arith
    go false q =
        leb-true (get_or ps j free_entry).number b (every_tells (λ p. leb p.number b) ps e j (eqb-false (get_or ps j free_entry).number 0 q))

-- a number that is not 0 stands once
among_tells : (x : ℕ) (l : List ℕ) (j : ℕ) → not (among x l) ≡ true → x ≡ get_or l j 0 → x ≢ 0 → ⊥
among_tells x [] j e q n = n q
among_tells x (y ∷ l) j e q n = go (eqb y x) refl (λ i f r. among_tells x l i f r n) j e q
  where
    clash : false ≡ true → ⊥
    clash f = let z : ◌≡◌ {A = ℕ} 0 1 = cc in omega arith

    go : (b : Bool) → eqb y x ≡ b → ((i : ℕ) → not (among x l) ≡ true → x ≡ get_or l i 0 → ⊥)
        → (j : ℕ) → not (eqb y x || among x l) ≡ true → x ≡ get_or (y ∷ l) j 0 → ⊥
    go true p later i e q = clash (rw p at e)
    go false p later zero e q = eqb-false y x p (sym q)
    go false p later (suc i) e q = later i (rw p at e) q

differ_tells : (l : List ℕ) → differ l ≡ true → (i j : ℕ) → i < j → get_or l i 0 ≡ get_or l j 0 → get_or l i 0 ≡ 0
differ_tells [] e i j h q = refl
differ_tells (x ∷ l) e i zero h q = absurd (omega arith)
differ_tells (x ∷ l) e (suc i) (suc j) h q = differ_tells l (and_true (eqb x 0 || not (among x l)) (differ l) e).1 i j (omega arith) q
differ_tells (x ∷ l) e zero (suc j) h q = go (eqb x 0) refl
  where
    go : (b : Bool) → eqb x 0 ≡ b → x ≡ 0
    go true p = eqb-true x 0 p
    go false p =
        absurd
        (among_tells x l j (or_right (eqb x 0) (not (among x l)) p (and_true (eqb x 0 || not (among x l)) (differ l) e).0) q (eqb-false x 0 p))

pub numbers_at : (ps : List ScanEntry) (j : ℕ) → get_or (map (λ p. p.number) ps) j 0 ≡ (get_or ps j free_entry).number
numbers_at ps j = get_or-map (λ p. p.number) ps j free_entry

-- a bounded stretch of a region, word by word
module _ (s : Sizes) (v : View) (long : Long s v) (k : Region) (at n low high : ℕ) (inside : at + n ≤ len s k) where
  pub stretch_tells : all_between low high (region (v k) at n) ≡ true → (i : ℕ) → i < n → (low ≤ get_or (v k) (at + i) 0) × (get_or (v k) (at + i) 0 ≤ high)
  stretch_tells e i h =
      let l : at + n ≤ length (v k) = omega (arith, long k) in
      let t = all_tells low high (region (v k) at n) e i (omega (arith, region_length (v k) at n l)) in
      rw region_at at t

-- ---- all clauses

module _ (s : Sizes) (v : View) (ps : List ScanEntry) (z : Proper s) (long : Long s v) where
  -- words of the given rows, and of the used records
  rows_tell : (k : Region) (low high : ℕ) → Stored s v → len s k ≡ s.rows → rows_between v k low high ≡ true
      → (r : ℕ) → r < rows_given v → (low ≤ get_or (v k) r 0) × (get_or (v k) r 0 ≤ high)
  unfolding rows_between
  rows_tell k low high c l e r h = rw (zero-add r) at (stretch_tells s v long k 0 (rows_given v) low high (omega (arith, c.rows_to)) e r h)

  records_tell : (k : Region) (low high : ℕ) → Stored s v → len s k ≡ s.slots → each s.ranges (range_between s v k low high) ≡ true
      → (g i : ℕ) → g < s.ranges → i < used_in v g → (low ≤ get_or (v k) (first_slot s.capacity g + i) 0) × (get_or (v k) (first_slot s.capacity g + i) 0 ≤ high)
  unfolding range_between
  records_tell k low high c l e g i h j =
      stretch_tells s v long k (first_slot s.capacity g) (used_in v g) low high (omega (arith, tail_in s z g h, c.records_to g)) (each_tells (range_between s v k low high) s.ranges e g h) i j

  pub facts_tell : facts_hold s v ps ≡ true → Usable s v ps
  unfolding facts_hold counts_within records_name_rows range_names_rows row_named numbers_given links_hold row_linked range_linked record_linked stamps_within merges_within commits_within open_differ chunks_current lineages_within current_lineage waiting_lineage
  facts_tell e =
      let a1 = and_true _ _ e in
      let a2 = and_true _ _ a1.1 in
      let a3 = and_true _ _ a2.1 in
      let a4 = and_true _ _ a3.1 in
      let a5 = and_true _ _ a4.1 in
      let a6 = and_true _ _ a5.1 in
      let a7 = and_true _ _ a6.1 in
      let a8 = and_true _ _ a7.1 in
      let a9 = and_true _ _ a8.1 in
      let c1 = and_true _ _ a1.0 in
      let c = stored s v c1.0 in
      let n1 = and_true _ _ a3.0 in
      let n2 = and_true _ _ n1.1 in
      let n3 = and_true _ _ n2.1 in
      let l = and_true _ _ a4.0 in
      let t1 = and_true _ _ a5.0 in
      let t2 = and_true _ _ t1.1 in
      let t3 = and_true _ _ t2.1 in
      let t4 = and_true _ _ t3.0 in
      let m = and_true _ _ a6.0 in
      let d = and_true _ _ a8.0 in
      let g = and_true _ _ a9.1 in
      record {
        counts = c;
        open_few = leb-true (open_count ps) most_scans c1.1;
        named = λ g i h j. let t = and_true _ _ (each_tells (row_named s v g) (used_in v g) (each_tells (range_names_rows s v) s.ranges a2.0 g h) i j) in (ltb-true _ _ t.0, eqb-true _ g t.1);
        row_numbers = rows_tell RowTransaction 1 (transactions_given v) c refl n1.0;
        record_numbers = records_tell TailTransaction 1 (transactions_given v) c refl n2.0;
        open_numbers = at_most (v Opens) (transactions_given v) n3.0;
        scan_numbers = numbers_tell ps (scans_given v) n3.1;
        row_links = λ r h. link_tells s v _ _ r _ (each_tells (row_linked s v) (rows_given v) l.0 r h);
        record_links = λ g i h j. link_tells s v g i _ _ (each_tells (record_linked s v g) (used_in v g) (each_tells (range_linked s v) s.ranges l.1 g h) i j);
        row_stamps = λ r h. (rows_tell RowStamp 0 (last_stamp v) c refl t1.0 r h).1;
        record_stamps = λ g i h j. (records_tell TailStamp 0 (last_stamp v) c refl t2.0 g i h j).1;
        current_stamps = λ i h. current_tells v PageNewest (last_stamp v) i (each_tells (current_at_most v PageNewest (last_stamp v)) s.chunks t4.0 i h);
        waiting_stamps = λ p h. waiting_tells v PageNewest (last_stamp v) p (each_tells (waiting_at_most v PageNewest (last_stamp v)) s.pages t4.1 p h);
        scan_stamps = λ j n. leb-true _ (last_stamp v) (every_tells (λ p. leb p.stamp (last_stamp v)) ps t3.1 j n);
        scan_merges = λ j n. leb-true _ (merges_made v) (every_tells (λ p. leb p.merges (merges_made v)) ps m.0 j n);
        scan_commits = λ j n. leb-true _ (commits_made v) (every_tells (λ p. leb p.commits (commits_made v)) ps a7.0 j n);
        waiting_merges = λ p h. waiting_tells v PageReplaced (merges_made v) p (each_tells (waiting_at_most v PageReplaced (merges_made v)) s.pages m.1 p h);
        open_differ = differ_tells (v Opens) d.0;
        scans_differ = λ i j h q. sym (numbers_at ps i) ∙ differ_tells (map (λ p. p.number) ps) d.1 i j h (numbers_at ps i ∙ q ∙ sym (numbers_at ps j));
        current_in = λ i h. (chunk_current_tells s v i (each_tells (chunk_current s v) s.chunks a9.0 i h)).0;
        current_state = λ i h. (chunk_current_tells s v i (each_tells (chunk_current s v) s.chunks a9.0 i h)).1;
        current_chunk = λ i h. (chunk_current_tells s v i (each_tells (chunk_current s v) s.chunks a9.0 i h)).2;
        current_lineages = λ i h. current_tells v PageLineage _ i (each_tells (current_lineage s v) s.chunks g.0 i h);
        waiting_lineages = λ p h. waiting_tells v PageLineage _ p (each_tells (waiting_lineage s v) s.pages g.1 p h);
      }

-- ---- and of a memory

pub record UsableMemory (m : List ℕ) (ps : List ScanEntry) : Type 0 where
  pub within : within_limits (stored_shape (words m)) ≡ true
  pub room : Suffices (stored_sizes (words m)) m
  pub entries : most_scans ≤ length ps
  pub facts : Usable (stored_sizes (words m)) (view_of (stored_sizes (words m)) m) ps

pub usable_tells : (m : List ℕ) (ps : List ScanEntry) → usable m ps ≡ true → UsableMemory m ps
unfolding usable measures_hold stored_sizes
usable_tells m ps e =
    let s = stored_sizes (words m) in
    let a = and_true (leb measures_bytes (length m)) _ e in
    let b = and_true _ _ a.1 in
    let f = and_true (form_known (get_or (words m) columns_at 0)) _ b.0 in
    let c = and_true _ _ b.1 in
    let d = and_true _ _ c.1 in
    let r : Suffices s m = leb-true (need s * 4) (length m) c.0 in
    record {
      within = f.1;
      room = r;
      entries = leb-true most_scans (length ps) d.0;
      facts = facts_tell s (view_of s m) ps (proper (stored_form (words m)) (stored_shape (words m)) f.1) (view_long s (words m) (omega (arith, length_words m))) d.1;
    }
