-- Merge, the whole: the page taken, the page replaced, and what every other part sees of it.
use mathlib.Core.Path.{◌≡◌, refl, sym, ◌∙◌, ap}
use mathlib.Core.Logic.{◌≢◌, ◌⊎◌, inl, inr}
use mathlib.Core.Bool.{Bool, true, false, ◌&&◌, and-true}
use mathlib.Core.List.{List, [], ◌∷◌, ◌++◌}
use Prim.Native.Nat.{ℕ, suc, ◌+◌, ◌*◌, ◌-◌, ◌/◌, ◌%◌, ◌^◌, ◌≤◌, ◌<◌}
use native.Mathlib.Omega.{arith}
use native.Mathlib.Nat.{mul-le-mul, mod-lt, mod-eq_of_lt, div-add-mod', div-lt_iff_lt-mul, mul_comm}
use native.Mathlib.Decide.{ℕ_discrete, dec_lt}
use lib.Dec.{not_T, nleb→lt, T, leb, leb→le, lt→ltb}
use lib.ListN.{length, get_or, take, length-append}
use lib.Seq.{lt-length-set, get_or-set_same, get_or-set_other}
use lib.IntN.{ℤ}
use mir.Syntax.{w32}
use mir.Val.{to_z}
use Rattle.terms.specs.Measures.{range_rows, most_columns, most_ranges, most_records, most_pages}
use Rattle.terms.specs.declared.Shape.{Shape}
use Rattle.terms.specs.declared.Form.{Form}
use Rattle.history.specs.History.{merge, History, Record, Merge, Scan, is_active, is_committed, state_of, keeper_of, row_at, range_of, records_of, merged_through, any_active, waiting_pages, scan_at, inserted, last_setting, with_merges, cell_through}
use Rattle.history.proofs.Lists.{by_cases}
use Rattle.history.specs.Steps.{Mergeable, Step}
use Rattle.history.specs.Invariants.{Timely}
use Rattle.history.specs.Records.{no_record}
use Rattle.history.proofs.Pages.{merge_through, lineage_step, lineage_stays}
use Rattle.history.proofs.Merges.{merges_most, merged_page}
use Rattle.loops.specs.Change.{copied}
use Rattle.loops.proofs.Change.{changed_length, changed_outside, changed_at_lem, changed_fit}
use Rattle.layout.specs.View.{View, renew, put, merges_made}
use Rattle.layout.specs.Regions.{len, merges_at}
use Rattle.layout.specs.Sizes.{sizes_of}
use Rattle.layout.specs.declared.Region.{Region}
use Rattle.layout.specs.declared.Region.TheVariants.{Header, Opens, Current, PageState, PageChunk, PageMade, PageReplaced, PageLineage, PageNewest, Cells, TailValues, TailStamp}
use Rattle.terms.specs.declared.ScanEntry.{ScanEntry}
use Rattle.model.specs.Stored.{PageWords, row_in, record_in, value_in, page_in, cell_in, current_in, chunk_of, chunks_of, pages_of, within, next_word, current_page, waiting_page, count_below}
use Rattle.layout.specs.Codes.{as_current, as_waiting}
use Rattle.model.specs.Reading.{was_current, scan_page}
use Rattle.model.specs.Writing.{applied, newest_of, free_in, merged_in}
use Rattle.model.specs.Preconditions.{ChunksCurrent}
use Rattle.model.specs.Calls.{open_among_in}
use Rattle.model.proofs.Lists.{one, any_below_lem, count_from_lem, from_snoc, first_only, first_ext, below_ext, below_pair, part_in, same_part}
use Rattle.model.specs.Represents.{Holds, every_row, CurrentIs, CurrentOf, CurrentsAre, WaitingIs, WaitingAre, made_in, PoolIs, ScanPageIs, ScanPagesAre, HeaderFor, Represents, WellFormed, Whole, TailOf}
use Rattle.model.proofs.Holding.{holds_step, same_rows}
use Rattle.model.proofs.Steady.{current_step, current_cells, waiting_step, scan_cells, scan_page_step}
use Rattle.model.proofs.Views.{renew_whole, put_whole, header_put, header_same}
use Rattle.model.proofs.changes.Insert.{current_apart}
use Rattle.model.proofs.upkeep.Merge.{applied_length, applied_fit, applied_outside, applied_is, newest_is_lem, newest_fit, newest_last}
use Rattle.model.proofs.Opens.{opens_is}
use Rattle.model.proofs.upkeep.Free.{no_stray, free_none, found_free}
use Rattle.model.proofs.upkeep.Scans.{scan_current}
use Rattle.model.proofs.upkeep.ScanPages.{WasCurrent, was_current_lem, is_current, unfound, unfound_state, search_same, searched, search_is, found_page, Cases, scan_cases, scan_page_same}

-- a chunk is below the number of chunks
pub chunk_in : (S : Shape) (g c : ℕ) → g < S.ranges → c < S.columns → chunk_of S g c < chunks_of S
chunk_in S g c a b = omega (arith, part_in S.ranges S.columns g c a b, mul_comm S.ranges S.columns)

-- a chunk is that of a range and a column
pub chunk_parts : (S : Shape) → 1 ≤ S.columns → (i : ℕ) → i < chunks_of S → (i / S.columns < S.ranges) × (i % S.columns < S.columns) × (chunk_of S (i / S.columns) (i % S.columns) ≡ i)
chunk_parts S some i b =
    let c : i < S.ranges * S.columns = omega (arith, mul_comm S.columns S.ranges) in
    ((div-lt_iff_lt-mul {k = S.columns} {x = i} {y = S.ranges} some).1 c, mod-lt i some, div-add-mod' i S.columns)

module _ {F : Form} {S : Shape} {v : View} {ps : List ScanEntry} {h : History} (o : Represents F S v ps h) (k : WellFormed S h) where
  -- the page that chunk i names
  pub named : (i : ℕ) → i < chunks_of S → CurrentIs S h (i / S.columns) (i % S.columns) (get_or (v Current) i 0) (page_in v (get_or (v Current) i 0)) (cell_in v (get_or (v Current) i 0))
  unfolding current_in
  named i b =
      let t = chunk_parts S k.small.some_column i b in
      rw t.2 at (o.currents (i / S.columns) (i % S.columns) t.0 t.1)

  pub chunks_are_current : ChunksCurrent S v
  chunks_are_current = record {
    inside = λ i b. (named i b).inside;
    state = λ i b. (named i b).state;
    chunk = λ i b. (named i b).chunk ∙ (chunk_parts S k.small.some_column i b).2;
  }

  waiting_is : count_below (λ p. waiting_page (page_in v p).state) (pages_of S) ≡ waiting_pages h.merges
  unfolding waiting_pages
  waiting_is = below_ext _ _ (pages_of S) (λ p b. sym (and-true (waiting_page (page_in v p).state))) ∙ o.pool.waiting (λ i. true) ∙ sym (count_from_lem (λ m. m.waiting) 1 h.merges)

  -- test 18
  pub free_is : leb (pages_of S) (free_in S v) ≡ leb S.spares (waiting_pages h.merges)
  free_is = free_none S v chunks_are_current ∙ ap (leb S.spares) waiting_is

  -- test 17
  pub open_among_is : (g n : ℕ) → g < S.ranges → n ≤ length (records_of h g) → open_among_in S v g n ≡ any_active h g n
  unfolding open_among_in any_active state_of
  open_among_is g n a b =
      any_below_lem (records_of h g) no_record _ (λ (y : Record). is_active (state_of h y.transaction)) n b
      (λ i u. rw ((o.tails g a).each i (omega arith)).transaction (opens_is h.transactions (v Opens) o.opens _))

-- the merges' counter is far from going round
merges_few : {S : Shape} {h : History} → WellFormed S h → suc (length h.merges) < 2 ^ 32
merges_few {S} {h} k =
    let a : S.columns * S.capacity ≤ most_columns * most_records = mul-le-mul k.small.columns k.small.capacity in
    let b : S.ranges * (S.columns * S.capacity) ≤ most_ranges * (most_columns * most_records) = mul-le-mul k.small.ranges a in
    omega (arith, merges_most S h k.invariants.merges k.invariants.pages k.invariants.limits)

module _ {F : Form} {S : Shape} {v : View} {ps : List ScanEntry} {h : History} (o : Represents F S v ps h) (k : WellFormed S h) {g c n : ℕ} (ok : Mergeable S h g c n) where
  room : free_in S v < pages_of S
  room = nleb→lt (pages_of S) (free_in S v)
      (rw (free_is o k) (not_T (leb S.spares (waiting_pages h.merges)) (λ t. omega (arith, leb→le S.spares (waiting_pages h.merges) t, ok.spare))))

  abbrev new : Merge
  new = record { range = g; column = c; through = n; waiting = true }

  abbrev h' : History
  h' = with_merges h (h.merges ++ new ∷ [])

  abbrev v' : View
  v' = merged_in S g c n v

  abbrev old : ℕ
  old = current_in S v g c

  abbrev p : ℕ
  p = free_in S v

  abbrev low : ℕ
  low = (page_in v (current_in S v g c)).lineage

  abbrev m : ℕ
  m = next_word (merges_made v)

  abbrev late : ℕ
  late = newest_of S v g c low (n - low) (page_in v (current_in S v g c)).newest

  now : CurrentOf S h v g c
  now = o.currents g c ok.range_in ok.column_in

  m_is : m ≡ suc (length h.merges)
  m_is = omega (arith, o.header.merges_made, merges_few k)

  tail : TailOf S (state_of h) (records_of h g) v g
  tail = o.tails g ok.range_in

  low_to : low + (n - low) ≡ n
  low_to = omega (arith, now.lineage)

  free_state : (page_in v p).state ≡ 0
  free_state = found_free S v (chunks_are_current o k) (no_stray S v (chunks_are_current o k) o.pool.current) room

  not_free : (q : ℕ) → 0 < (page_in v q).state → q ≢ p
  not_free q b e = omega (arith, free_state, ap (λ (i : ℕ). (page_in v i).state) e)

  old_not_free : old ≢ p
  old_not_free = not_free old (omega (arith, now.state))

  -- a page is the one taken, the one replaced or another
  each_page : (P : ℕ → Type 0) → P p → P old → ((q : ℕ) → q ≢ p → q ≢ old → P q) → (q : ℕ) → P q
  each_page P a b f q = by_cases (ℕ_discrete q p) (λ e. rw e a) (λ z. by_cases (ℕ_discrete q old) (λ e. rw e b) (f q z))

  -- a range and column are those merged or others
  each_chunk : (P : ℕ → ℕ → Type 0) → P g c → ((a b : ℕ) → a < S.ranges → b < S.columns → chunk_of S a b ≢ chunk_of S g c → P a b) → (a b : ℕ) → a < S.ranges → b < S.columns → P a b
  each_chunk P here there a b u w = by_cases (ℕ_discrete (chunk_of S a b) (chunk_of S g c))
      (λ e. let q : (a ≡ g) × (b ≡ c) = same_part S.columns a g b c w ok.column_in e in rw (q.0, q.1) here) (there a b u w)

  -- ---- the pages' words
  in_page : (q : ℕ) → q < pages_of S → (r : Region) → len (sizes_of F S) r ≡ pages_of S → q < length (v r)
  in_page q b r e = omega (arith, o.whole.long r, e)

  page_free : page_in v' p ≡ record { state = as_current; chunk = chunk_of S g c; made = m; replaced = (page_in v p).replaced; lineage = n; newest = late }
  unfolding merged_in put renew page_in
  page_free = let f : p ≢ old = λ e. old_not_free (sym e) in simp (get_or-set_same, get_or-set_other, in_page p room)

  page_old : page_in v' old
      ≡ record {
        state = as_waiting;
        chunk = (page_in v old).chunk;
        made = (page_in v old).made;
        replaced = m;
        lineage = (page_in v old).lineage;
        newest = (page_in v old).newest;
      }
  unfolding merged_in put renew page_in
  page_old = simp (get_or-set_same, get_or-set_other, lt-length-set, old_not_free, in_page old now.inside)

  page_other : (q : ℕ) → q ≢ p → q ≢ old → page_in v' q ≡ page_in v q
  unfolding merged_in put renew page_in
  page_other q a b = simp get_or-set_other

  current_here : current_in S v' g c ≡ p
  unfolding merged_in put renew current_in
  current_here = get_or-set_same (v Current) (chunk_of S g c) p 0 (omega (arith, o.whole.long Current, chunk_in S g c ok.range_in ok.column_in))

  current_there : (a b : ℕ) → chunk_of S a b ≢ chunk_of S g c → current_in S v' a b ≡ current_in S v a b
  unfolding merged_in put renew current_in
  current_there a b f = get_or-set_other (v Current) (chunk_of S g c) (chunk_of S a b) p 0 f

  -- another current page is neither of the two
  current_not_old : (a b : ℕ) → a < S.ranges → b < S.columns → chunk_of S a b ≢ chunk_of S g c → current_in S v a b ≢ old
  current_not_old a b u w f e =
      let q : (a ≡ g) × (b ≡ c) = current_apart S v h o.currents a b g c u w ok.range_in ok.column_in e in
      f (ap (λ (i : ℕ). chunk_of S i b) q.0 ∙ ap (chunk_of S g) q.1)

  current_not_free : (a b : ℕ) → a < S.ranges → b < S.columns → current_in S v a b ≢ p
  current_not_free a b u w = not_free (current_in S v a b) (omega (arith, (o.currents a b u w).state))

  -- ---- cells
  abbrev copy : List ℕ
  copy = copied (v Cells) (old * range_rows) range_rows (p * range_rows) (v Cells)

  copy_at : (i : ℕ) → i < range_rows → get_or copy (p * range_rows + i) 0 ≡ cell_in v old i
  unfolding cell_in
  copy_at i b = changed_at_lem (λ i x. get_or (v Cells) (old * range_rows + i) 0) (p * range_rows) (v Cells) range_rows i (omega (arith, room, o.whole.long Cells)) b

  pub cells_other : (q i : ℕ) → q ≢ p → i < range_rows → cell_in v' q i ≡ cell_in v q i
  unfolding merged_in put renew cell_in
  cells_other q i f b =
      let d : (q * range_rows + i < p * range_rows) ⊎ (p * range_rows + range_rows ≤ q * range_rows + i) = by_cases (dec_lt q p) (λ u. inl (omega arith)) (λ u. inr (omega arith)) in
      applied_outside S v g c p low (n - low) copy (q * range_rows + i) d
      ∙ changed_outside (λ i x. get_or (v Cells) (old * range_rows + i) 0) (p * range_rows) (v Cells) range_rows (q * range_rows + i) d

  -- ---- what the new page holds
  new_holds : Holds h g c every_row record { state = as_current; chunk = chunk_of S g c; made = m; replaced = (page_in v p).replaced; lineage = n; newest = late } (cell_in v' p)
  new_holds =
      record {
        through = merge_through k.invariants.order ok;
        newest = rw low_to at (newest_is_lem S v h g c p low ok.column_in tail (page_in v old).newest now.holds.newest (n - low) (omega (arith, low_to)));
        stamped = newest_last S v h g c p low ok.column_in tail k.invariants.order (page_in v old).newest now.holds.stamped (n - low) (omega (arith, low_to));
        cells = λ r e q. cells r e;
      }
    where
      last : ℕ → ℕ → ℕ → ℤ
      last r a j = (last_setting (λ i. is_committed (state_of h i)) r c (inserted h r c) (take j (records_of h a))).value

      base : (r : ℕ) → range_of r ≡ g → to_z w32 (get_or copy (p * range_rows + within r) 0) ≡ last r g low
      base r e = ap (to_z w32) (copy_at (within r) (omega arith)) ∙ now.holds.cells r e tt ∙ (unfold cell_through in (ap (λ (a : ℕ). last r a low) e))

      cells : (r : ℕ) → range_of r ≡ g → to_z w32 (cell_in v' p (within r)) ≡ cell_through h c r n
      cells r e =
          (unfold merged_in put renew cell_in cell_through in
          (applied_is S v h g c p low ok.column_in tail copy
          (omega (arith, room, changed_length (λ i x. get_or (v Cells) (old * range_rows + i) 0) (p * range_rows) (v Cells) range_rows, o.whole.long Cells)) r e (base r e) (n - low) (omega (arith, low_to))
          ∙ ap (last r g) low_to ∙ ap (λ (a : ℕ). last r a n) (sym e)))

  -- ---- the current pages
  through_there : Step S h (merge g c n) h' → (a b : ℕ) → chunk_of S a b ≢ chunk_of S g c → merged_through h' a b ≡ merged_through h a b
  through_there step a b f = lineage_stays (lineage_step a b step) (λ j e. f (cc))

  more_merges : length h'.merges ≡ suc (length h.merges)
  unfolding with_merges
  more_merges = simp length-append (omega arith)

  rows_same : length h.rows ≡ length h'.rows
  unfolding with_merges
  rows_same = refl

  merge_currents : Step S h (merge g c n) h' → CurrentsAre S h' v'
  merge_currents step = each_chunk (CurrentOf S h' v')
      (rw (current_here, page_free)
      record {
        inside = room;
        state = refl;
        chunk = refl;
        made = omega (arith, m_is, more_merges);
        lineage = sym (merged_page h g c n);
        holds = holds_step k.invariants.order step g c _ (λ r e u. (tt, same_rows (length h.rows) (length h'.rows) r rows_same)) new_holds;
      })
      (λ a b u w f. rw (current_there a b f, page_other (current_in S v a b) (current_not_free a b u w) (current_not_old a b u w f))
      (current_cells (λ r. cells_other (current_in S v a b) (within r) (current_not_free a b u w) (omega arith))
      (current_step k.invariants.order step rows_same (through_there step a b f) (o.currents a b u w))))

  -- ---- the waiting pages
  made_here : made_in S v' g c ≡ m
  made_here = ap (λ (i : ℕ). (page_in v' i).made) current_here ∙ ap (λ (x : PageWords). x.made) page_free

  made_there : (a b : ℕ) → a < S.ranges → b < S.columns → chunk_of S a b ≢ chunk_of S g c → made_in S v' a b ≡ made_in S v a b
  made_there a b u w f =
      ap (λ (i : ℕ). (page_in v' i).made) (current_there a b f) ∙ ap (λ (x : PageWords). x.made) (page_other (current_in S v a b) (current_not_free a b u w) (current_not_old a b u w f))

  made_later : (a b : ℕ) → a < S.ranges → b < S.columns → made_in S v a b ≤ made_in S v' a b
  made_later = each_chunk (λ a b. made_in S v a b ≤ made_in S v' a b) (omega (arith, now.made, m_is, made_here)) (λ a b u w f. omega (arith, made_there a b u w f))

  merge_waits : Step S h (merge g c n) h' → WaitingAre S h' v'
  merge_waits step = each_page (λ q. q < pages_of S → T (waiting_page (page_in v' q).state) → WaitingIs S h' (made_in S v') (page_in v' q))
      (λ _ t. absurd (rw page_free at t))
      (λ _ _. rw page_old
      record {
        chunk = rw now.chunk (chunk_in S g c ok.range_in ok.column_in);
        rises = omega (arith, now.made, m_is);
        replaced_by = omega (arith, m_is, more_merges);
        early = λ a b u w z. let s : (a ≡ g) × (b ≡ c) = same_part S.columns a g b c w ok.column_in (sym z ∙ now.chunk) in rw (s.0, s.1) (omega (arith, made_here));
        reach = λ a b u w z. rw (same_part S.columns a g b c w ok.column_in (sym z ∙ now.chunk)).0 (unfold records_of with_merges in now.holds.through.within);
        stamped = unfold with_merges in now.holds.stamped;
      })
      (λ q f e b t. rw (page_other q f e) (waiting_step step made_later (o.waits q b (rw (page_other q f e) at t))))

  -- ---- the pool
  -- a test of a page's words, before and after: it changes at the two pages alone
  pool_change : (f : PageWords → Bool)
      → count_below (λ q. f (page_in v' q)) (pages_of S) + one (f (page_in v p)) + one (f (page_in v old)) ≡ count_below (λ q. f (page_in v q)) (pages_of S) + one (f (page_in v' p)) + one (f (page_in v' old))
  pool_change f = below_pair (λ q. f (page_in v q)) (λ q. f (page_in v' q)) (pages_of S) p old room now.inside old_not_free (λ q y z. ap f (sym (page_other q y z)))

  merge_pool : PoolIs S (h.merges ++ new ∷ []) (page_in v')
  merge_pool =
      record {
        current = omega (arith, rw (page_free, page_old, free_state, now.state) at (pool_change (λ x. current_page x.state)), o.pool.current);
        waiting = λ q.
            let number : 1 + length h.merges ≡ m = omega (arith, m_is) in
            omega (
              arith,
              rw (page_free, page_old, free_state, now.state) at (pool_change (λ x. waiting_page x.state && q x.replaced)),
              o.pool.waiting q,
              rw number at (from_snoc (λ i x. x.waiting && q i) 1 h.merges new),
            );
      }

  -- ---- the scans' pages
  new_unfound : (b pl : ℕ) → was_current S v' b pl p ≡ false
  new_unfound b pl = unfound_state S v' b pl p (omega (arith, ap (λ (z : PageWords). z.state) page_free))

  old_chunk : (page_in v' old).chunk % chunks_of S ≡ chunk_of S g c
  old_chunk = ap (λ (z : PageWords). z.chunk % chunks_of S) page_old ∙ ap (λ (i : ℕ). i % chunks_of S) now.chunk ∙ mod-eq_of_lt (chunk_in S g c ok.range_in ok.column_in)

  -- where the replaced page does not pass, the search is as it was
  search_stays : (b a d : ℕ) → was_current S v' b (chunk_of S a d) old ≡ false → searched S v' b a d ≡ searched S v b a d
  search_stays b a d e = first_ext _ _ (pages_of S) 0 (λ q _ _. each_page (λ q. was_current S v' b (chunk_of S a d) q ≡ was_current S v b (chunk_of S a d) q)
      (new_unfound b (chunk_of S a d) ∙ sym (unfound_state S v b (chunk_of S a d) p (omega (arith, free_state))))
      (e ∙ sym (unfound_state S v b (chunk_of S a d) old (omega (arith, now.state))))
      (λ q z y. search_same S v v' b (chunk_of S a d) q (page_other q z y)) q)

  -- the page was current when the scan was opened: the search finds it now
  search_finds : (b : ℕ) → b ≤ length h.merges → (page_in v old).made ≤ b → searched S v' b g c ≡ old
  search_finds b early before =
      first_only (was_current S v' b (chunk_of S g c)) (pages_of S) old now.inside
      (is_current S v' b (chunk_of S g c) old
      record {
        waits = omega (arith, ap (λ (z : PageWords). z.state) page_old);
        chunk_is = old_chunk;
        made_before = omega (arith, ap (λ (z : PageWords). z.made) page_old);
        after = omega (arith, ap (λ (z : PageWords). z.replaced) page_old, m_is);
      })
      (each_page (λ q. q < pages_of S → T (was_current S v' b (chunk_of S g c) q) → q ≡ old)
      (λ _ t. absurd (rw (new_unfound b (chunk_of S g c)) at t))
      (λ _ _. refl)
      (λ q z y u t. let x : WasCurrent S b (chunk_of S g c) (page_in v q) = was_current_lem S v b (chunk_of S g c) q (rw (search_same S v v' b (chunk_of S g c) q (page_other q z y)) at t) in
      let w : WaitingIs S h (made_in S v) (page_in v q) = o.waits q u (lt→ltb 1 _ x.waits) in
      absurd (omega (arith, x.after, w.early g c ok.range_in ok.column_in (sym (mod-eq_of_lt w.chunk) ∙ x.chunk_is)))))

  -- the page of a scan, of this chunk
  scan_here : (b : ℕ) → b ≤ length h.merges → Cases S v b g c → scan_page S v' b g c ≡ scan_page S v b g c
  scan_here b early (inl x) =
      let z = search_finds b early x in
      found_page S v' b g c (omega (arith, made_here, m_is)) (omega (arith, now.inside)) ∙ z ∙ sym (scan_current S v b g c x)
  scan_here b early (inr x) =
      let z = search_stays b g c (unfound S v' b (chunk_of S g c) old (λ t. omega (arith, t.made_before, ap (λ (z : PageWords). z.made) page_old, x.0))) in
      found_page S v' b g c (omega (arith, made_here, m_is)) (omega (arith, x.1)) ∙ z ∙ sym (found_page S v b g c x.0 x.1)

  pub scan_same : (b a d : ℕ) → a < S.ranges → d < S.columns → b ≤ length h.merges → (page_in v (scan_page S v b a d)).made ≤ b → scan_page S v' b a d ≡ scan_page S v b a d
  scan_same b a d u w early = each_chunk (λ a d. (page_in v (scan_page S v b a d)).made ≤ b → scan_page S v' b a d ≡ scan_page S v b a d)
      (λ before. scan_here b early (scan_cases S v b g c before))
      (λ a d u w f _. scan_page_same S v v' b a d (current_there a d f) (made_there a d u w f)
      (search_stays b a d (unfound S v' b (chunk_of S a d) old (λ t. f (sym (sym old_chunk ∙ t.chunk_is))))))
      a d u w

  -- a running scan's page is not the page taken
  pub scan_not_free : (b a d : ℕ) → a < S.ranges → d < S.columns → (page_in v (scan_page S v b a d)).made ≤ b → scan_page S v b a d ≢ p
  scan_not_free b a d u w before = go (scan_cases S v b a d before)
    where
      go : Cases S v b a d → scan_page S v b a d ≢ p
      go (inl x) e = current_not_free a d u w (sym (scan_current S v b a d x) ∙ e)
      go (inr x) e =
          not_free (searched S v b a d) (omega (arith, (search_is S v b a d x.1).waits)) (sym (found_page S v b a d x.0 x.1) ∙ e)

  merge_scans : Step S h (merge g c n) h' → ScanPagesAre S h' v'
  unfolding scan_at with_merges Timely
  merge_scans step i t a d u w =
      let q : ℕ = scan_page S v (scan_at h i).merges a d in
      let x : ScanPageIs S h (scan_at h i) a d q (page_in v q) (cell_in v q) = o.scan_pages i t a d u w in
      let y : ScanPageIs S h' (scan_at h i) a d q (page_in v q) (cell_in v q) = scan_page_step k.invariants.order step (k.invariants.timely i).commits x in
      rw (scan_same (scan_at h i).merges a d u w x.early x.made) (kept (scan_at h i) a d q (scan_not_free (scan_at h i).merges a d u w x.made) y)
    where
      kept : (s : Scan) (a d q : ℕ) → q ≢ p → ScanPageIs S h' s a d q (page_in v q) (cell_in v q) → ScanPageIs S h' s a d q (page_in v' q) (cell_in v' q)
      kept s a d = each_page (λ q. q ≢ p → ScanPageIs S h' s a d q (page_in v q) (cell_in v q) → ScanPageIs S h' s a d q (page_in v' q) (cell_in v' q))
          (λ f. absurd (f refl))
          (λ f y. rw page_old (search (scan_cells {cell' = cell_in v' old} (λ r e t. cells_other old (within r) f (omega arith)) y)))
          (λ q f z _ y. rw (page_other q f z) (scan_cells (λ r e t. cells_other q (within r) f (omega arith)) y))

  -- ---- the whole
  merge_whole : Whole F S v'
  unfolding merged_in
  merge_whole =
      let fit : m < 2 ^ 32 = omega (arith, m_is, merges_few k) in
      let pages : pages_of S ≤ most_pages = omega (arith, mul-le-mul k.small.columns k.small.ranges, k.small.spares) in
      let spot : chunk_of S g c < 2 ^ 32 = omega (arith, chunk_in S g c ok.range_in ok.column_in) in
      put_whole Header merges_at m fit
      (put_whole Current (chunk_of S g c) p (omega (arith, room))
      (put_whole PageReplaced old m fit
      (put_whole PageState old as_waiting (omega arith)
      (put_whole PageNewest p late (newest_fit S v h g c p low ok.column_in tail (page_in v old).newest newest_fits (o.whole.fits TailStamp) (n - low))
      (put_whole PageLineage p n (omega (arith, k.invariants.limits.records g, k.small.capacity))
      (put_whole PageMade p m fit
      (put_whole PageChunk p (chunk_of S g c) spot
      (put_whole PageState p as_current (omega arith)
      (renew_whole Cells (applied S v g c p low (n - low) copy)
      (applied_length S v g c p low (n - low) copy ∙ changed_length (λ i x. get_or (v Cells) (old * range_rows + i) 0) (p * range_rows) (v Cells) range_rows ∙ o.whole.long Cells)
      (applied_fit S v g c p low (o.whole.fits TailValues) (n - low) copy
      (changed_fit (λ i x. get_or (v Cells) (old * range_rows + i) 0) (p * range_rows) range_rows (v Cells) (λ i x _ _. o.whole.fits Cells (old * range_rows + i)) (o.whole.fits Cells)))
      o.whole)))))))))
    where
      newest_fits : (page_in v old).newest < 2 ^ 32
      newest_fits = unfold page_in in (o.whole.fits PageNewest old)

  pub merge_kept : Step S h (merge g c n) h' → Represents F S (merged_in S g c n v) ps h'
  unfolding with_merges state_of keeper_of row_at records_of merged_in put renew row_in record_in value_in
  merge_kept step =
      let header : HeaderFor F S h' v' = header_same refl refl refl (m_is ∙ sym more_merges) (header_put (v Header) 8 m (omega (arith, o.whole.long Header)) (omega arith) o.header) in
      search (header, merge_currents step, merge_waits step, merge_pool, merge_scans step, merge_whole)
