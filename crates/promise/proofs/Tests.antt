-- The way back from what the stored facts tell, index by index, to the tests of them: whoever has shown each fact of a memory has its tests passed.
use Prim.Native.Nat.{ℕ, suc, ◌+◌, ◌≤◌, ◌<◌}
use mathlib.Core.Path.{◌≡◌, refl, sym, ◌∙◌}
use mathlib.Core.Bool.{Bool, true, false, not, ◌&&◌, ◌||◌}
use mathlib.Core.Logic.{◌≢◌}
use mathlib.Core.List.{List, [], ◌∷◌, map}
use native.Mathlib.Omega.{arith}
use native.Mathlib.Nat.{zero-add}
use lib.Dec.{leb, ltb, eqb}
use lib.ListN.{length, get_or}
use borrow.Author.Tests.{ltb-false, eqb-false, eq-eqb, ne_eqb, le-leb, lt-ltb}
use Rattle.layout.specs.Codes.{as_waiting}
use Rattle.terms.specs.declared.ScanEntry.{ScanEntry}
use Rattle.history.proofs.Lists.{by_test, is_false}
use Rattle.loops.specs.Search.{region, all_between}
use Rattle.loops.proofs.Region.{region_at, region_length}
use Rattle.layout.specs.declared.Sizes.{Sizes}
use Rattle.layout.specs.declared.Region.{Region}
use Rattle.layout.specs.declared.Region.TheVariants.{Opens, RowTransaction, RowStamp, TailTransaction, TailStamp, Used, PageState, PageReplaced, PageLineage, PageNewest}
use Rattle.layout.specs.Regions.{len, first_slot}
use Rattle.layout.specs.View.{View, rows_given, transactions_given, scans_given, last_stamp, merges_made, commits_made, used_in, Long}
use Rattle.terms.specs.Entries.{free_entry}
use Rattle.scans.specs.Entries.{every_open, among, differ}
use Rattle.facts.specs.Facts.{each, rows_between, range_between, current_at_most, waiting_at_most, stored_within, counts_within, row_named, range_names_rows, records_name_rows, numbers_given, link_holds, row_linked, record_linked, range_linked, links_hold, stamps_within, merges_within, commits_within, open_differ, chunk_current, chunks_current, current_lineage, waiting_lineage, lineages_within, facts_hold}
use Rattle.layout.specs.Sizes.{Proper}
use Rattle.facts.proofs.Each.{each_true}
use Rattle.layout.proofs.Indices.{tail_in}
use Rattle.facts.proofs.Usable.{Linked, Usable, numbers_at}

-- ---- one list, one test

both : {a b : Bool} → a ≡ true → b ≡ true → (a && b) ≡ true
both e f = rw (e, f)

either : (a b : Bool) → (a ≡ false → b ≡ true) → (a || b) ≡ true
either true b f = refl
either false b f = f refl

all_between_lem : (low high : ℕ) (l : List ℕ) → ((i : ℕ) → i < length l → (low ≤ get_or l i 0) × (get_or l i 0 ≤ high)) → all_between low high l ≡ true
all_between_lem low high [] f = refl
all_between_lem low high (x ∷ l) f =
    let a = f 0 (omega arith) in
    rw (le-leb low x a.0, le-leb x high a.1) (all_between_lem low high l (λ i h. f (suc i) (omega arith)))

every_open_lem : (f : ScanEntry → Bool) (ps : List ScanEntry) → ((j : ℕ) → (get_or ps j free_entry).number ≢ 0 → f (get_or ps j free_entry) ≡ true) → every_open f ps ≡ true
every_open_lem f [] h = refl
every_open_lem f (p ∷ ps) h =
    both (by_test (λ b. (not (not b) || f p) ≡ true) (eqb p.number 0) (λ _. refl) (λ t. h 0 (eqb-false p.number 0 (is_false _ t)))) (every_open_lem f ps (λ j. h (suc j)))

not_among : (x : ℕ) (l : List ℕ) → ((j : ℕ) → j < length l → x ≢ get_or l j 0) → not (among x l) ≡ true
not_among x [] h = refl
not_among x (y ∷ l) h = rw (ne_eqb y x (λ e. h 0 (omega arith) (sym e))) (not_among x l (λ j b. h (suc j) (omega arith)))

differing : (l : List ℕ) → ((i j : ℕ) → i < j → get_or l i 0 ≡ get_or l j 0 → get_or l i 0 ≡ 0) → differ l ≡ true
differing [] h = refl
differing (x ∷ l) h =
    both
    (either (eqb x 0) (not (among x l)) (λ e. not_among x l (λ j b q. eqb-false x 0 e (h 0 (suc j) (omega arith) q))))
    (differing l (λ i j a e. h (suc i) (suc j) (omega arith) e))

-- ---- the tests of one index

link_holds_lem : (s : Sizes) (v : View) (g most r link : ℕ) → Linked s v g most r link → link_holds s v g most r link ≡ true
unfolding link_holds
link_holds_lem s v g most r link l =
    either (eqb link 0) _ (λ e. both (le-leb link most l.low) (eq-eqb _ r (l.same (eqb-false link 0 e))))

waiting_holds : (v : View) (k : Region) (most p : ℕ) → (as_waiting ≤ get_or (v PageState) p 0 → get_or (v k) p 0 ≤ most) → waiting_at_most v k most p ≡ true
unfolding waiting_at_most
waiting_holds v k most p f =
    either (ltb (get_or (v PageState) p 0) as_waiting) _ (λ e. le-leb (get_or (v k) p 0) most (f (ltb-false (get_or (v PageState) p 0) as_waiting e)))

-- ---- all clauses

module _ (s : Sizes) (v : View) (ps : List ScanEntry) (z : Proper s) (long : Long s v) (u : Usable s v ps) where
  stretch : (k : Region) (at n low high : ℕ) → at + n ≤ len s k → ((i : ℕ) → i < n → (low ≤ get_or (v k) (at + i) 0) × (get_or (v k) (at + i) 0 ≤ high))
      → all_between low high (region (v k) at n) ≡ true
  stretch k at n low high b f =
      let l : at + n ≤ length (v k) = omega (arith, long k) in
      all_between_lem low high (region (v k) at n) (λ i h. let j : i < n = omega (arith, region_length (v k) at n l) in rw (region_at (v k) at n i j) (f i j))

  rows_between_lem : (k : Region) (low high : ℕ) → len s k ≡ s.rows → ((r : ℕ) → r < rows_given v → (low ≤ get_or (v k) r 0) × (get_or (v k) r 0 ≤ high))
      → rows_between v k low high ≡ true
  unfolding rows_between
  rows_between_lem k low high l f = stretch k 0 (rows_given v) low high (omega (arith, u.counts.rows_to)) (λ i h. rw (zero-add i) (f i h))

  records_between : (k : Region) (low high : ℕ) → len s k ≡ s.slots
      → ((g i : ℕ) → g < s.ranges → i < used_in v g → (low ≤ get_or (v k) (first_slot s.capacity g + i) 0) × (get_or (v k) (first_slot s.capacity g + i) 0 ≤ high))
      → each s.ranges (range_between s v k low high) ≡ true
  unfolding range_between
  records_between k low high l f =
      each_true (range_between s v k low high) s.ranges
      (λ g h. stretch k (first_slot s.capacity g) (used_in v g) low high (omega (arith, tail_in s z g h, u.counts.records_to g)) (λ i j. f g i h j))

  counts : counts_within s v ps ≡ true
  unfolding counts_within stored_within
  counts =
      let c = u.counts in
      both
      (both (le-leb _ _ c.rows_to)
      (both (all_between_lem 0 s.capacity (v Used) (λ g h. (omega arith, c.records_to g))) (both (le-leb _ _ c.transactions_to) (le-leb _ _ c.scans_to))))
      (le-leb _ _ u.open_few)

  named : records_name_rows s v ≡ true
  unfolding records_name_rows range_names_rows row_named
  named =
      each_true (range_names_rows s v) s.ranges
      (λ g h. each_true (row_named s v g) (used_in v g) (λ i j. let t = u.named g i h j in both (lt-ltb _ _ t.0) (eq-eqb _ g t.1)))

  numbers : numbers_given s v ps ≡ true
  unfolding numbers_given
  numbers =
      both (rows_between_lem RowTransaction 1 (transactions_given v) refl u.row_numbers)
      (both (records_between TailTransaction 1 (transactions_given v) refl u.record_numbers)
      (both (all_between_lem 0 (transactions_given v) (v Opens) (λ i h. (omega arith, u.open_numbers i)))
      (every_open_lem (λ p. leb p.number (scans_given v)) ps (λ j n. le-leb _ _ (u.scan_numbers j)))))

  links : links_hold s v ≡ true
  unfolding links_hold row_linked range_linked record_linked
  links =
      both (each_true (row_linked s v) (rows_given v) (λ r h. link_holds_lem s v _ _ r _ (u.row_links r h)))
      (each_true (range_linked s v) s.ranges
      (λ g h. each_true (record_linked s v g) (used_in v g) (λ i j. link_holds_lem s v g i _ _ (u.record_links g i h j))))

  stamps : stamps_within s v ps ≡ true
  unfolding stamps_within current_at_most
  stamps =
      both (rows_between_lem RowStamp 0 (last_stamp v) refl (λ r h. (omega arith, u.row_stamps r h)))
      (both (records_between TailStamp 0 (last_stamp v) refl (λ g i h j. (omega arith, u.record_stamps g i h j)))
      (both
      (both (each_true (current_at_most v PageNewest (last_stamp v)) s.chunks (λ i h. le-leb _ _ (u.current_stamps i h)))
      (each_true (waiting_at_most v PageNewest (last_stamp v)) s.pages (λ p h. waiting_holds v PageNewest (last_stamp v) p (u.waiting_stamps p h))))
      (every_open_lem (λ p. leb p.stamp (last_stamp v)) ps (λ j n. le-leb _ _ (u.scan_stamps j n)))))

  merges : merges_within s v ps ≡ true
  unfolding merges_within
  merges =
      both (every_open_lem (λ p. leb p.merges (merges_made v)) ps (λ j n. le-leb _ _ (u.scan_merges j n)))
      (each_true (waiting_at_most v PageReplaced (merges_made v)) s.pages (λ p h. waiting_holds v PageReplaced (merges_made v) p (u.waiting_merges p h)))

  commits : commits_within v ps ≡ true
  unfolding commits_within
  commits = every_open_lem (λ p. leb p.commits (commits_made v)) ps (λ j n. le-leb _ _ (u.scan_commits j n))

  opens_differ : open_differ v ps ≡ true
  unfolding open_differ
  opens_differ =
      both (differing (v Opens) u.open_differ)
      (differing (map (λ p. p.number) ps)
      (λ i j h e. numbers_at ps i ∙ u.scans_differ i j h (sym (numbers_at ps i) ∙ e ∙ numbers_at ps j)))

  chunks_are_current : chunks_current s v ≡ true
  unfolding chunks_current chunk_current
  chunks_are_current =
      each_true (chunk_current s v) s.chunks
      (λ i h. both (lt-ltb _ _ (u.current_in i h)) (both (eq-eqb _ 1 (u.current_state i h)) (eq-eqb _ i (u.current_chunk i h))))

  lineages : lineages_within s v ≡ true
  unfolding lineages_within current_lineage waiting_lineage current_at_most
  lineages =
      both (each_true (current_lineage s v) s.chunks (λ i h. le-leb _ _ (u.current_lineages i h)))
      (each_true (waiting_lineage s v) s.pages (λ p h. waiting_holds v PageLineage _ p (u.waiting_lineages p h)))

  pub facts_hold_lem : facts_hold s v ps ≡ true
  unfolding facts_hold
  facts_hold_lem = rw (counts, named, numbers, links, stamps, merges, commits, opens_differ, chunks_are_current, lineages)
