-- Every stored fact holds of a memory and a list that represent a history: so no call on a store that calls alone have worked on is answered 2.
use Prim.Native.Nat.{ℕ, zero, suc, ◌+◌, ◌*◌, ◌-◌, ◌/◌, ◌%◌, ◌≤◌, ◌<◌}
use mathlib.Core.Path.{◌≡◌, refl, ap, sym, ◌∙◌}
use mathlib.Core.Logic.{◌≢◌}
use mathlib.Core.Bool.{true, not}
use mathlib.Core.List.{List, [], ◌∷◌}
use native.Mathlib.Omega.{arith}
use native.Mathlib.Nat.{le_refl, mod-eq_of_lt}
use native.Mathlib.Decide.{dec_lt}
use lib.Dec.{T, eqb, lt→ltb}
use lib.ListN.{length, get_or, get_or-eq_default}
use Rattle.layout.specs.Codes.{as_waiting}
use Rattle.terms.specs.Measures.{range_rows, within_limits}
use Rattle.terms.specs.declared.Shape.{Shape}
use Rattle.terms.specs.declared.Form.{Form}
use Rattle.terms.specs.declared.ScanEntry.{ScanEntry}
use Rattle.layout.specs.declared.Region.TheVariants.{Opens, TailRow, Used}
use Rattle.layout.specs.View.{View, rows_given, transactions_given, last_stamp, merges_made, commits_made, used_in}
use Rattle.layout.specs.Sizes.{sizes_of}
use Rattle.layout.proofs.Limits.{proper}
use Rattle.history.specs.History.{History, unknown, count, state_of, row_at, range_of, records_of, scan_at, commit_of}
use Rattle.history.proofs.Lists.{all_at, by_cases, cond_ap}
use Rattle.history.specs.Invariants.{is_given, RecordSound, Timely}
use Rattle.history.proofs.States.{commit_last}
use Rattle.history.proofs.Order.{sound_at}
use Rattle.history.proofs.Ranges.{records_range}
use Rattle.history.proofs.Links.{last_of_row}
use Rattle.history.specs.Records.{no_record, last_of}
use Rattle.scans.specs.Entries.{opened, open_count}
use Rattle.facts.specs.Facts.{facts_hold}
use Rattle.facts.proofs.Ready.{Stored}
use Rattle.facts.proofs.Usable.{Linked, Usable}
use Rattle.terms.specs.Entries.{free_entry}
use Rattle.model.specs.Stored.{row_in, record_in, value_in, page_in, chunks_of, pages_of}
use Rattle.model.proofs.Book.{live_given, number_live, number_given, numbers_apart, entry_stands}
use Rattle.model.proofs.upkeep.Merged.{chunk_parts, named, chunks_are_current}
use Rattle.model.proofs.lookups.Heads.{in_range}
use Rattle.model.proofs.upkeep.Scans.{scan_kind, scan_count}
use Rattle.model.proofs.Opens.{open_kind}
use Rattle.model.specs.Represents.{RecordIs, WaitingIs, made_in, Represents, WellFormed}
use Rattle.promise.proofs.Tests.{facts_hold_lem}

opened_count : (ps : List ScanEntry) → open_count ps ≡ count (λ p. not (eqb p.number 0)) ps
opened_count [] = refl
opened_count (p ∷ ps) = cond_ap length (not (eqb p.number 0)) (p ∷ opened ps) (opened ps) ∙ rw (opened_count ps)

-- ---- the facts, part by part

module _ {F : Form} {S : Shape} {v : View} {ps : List ScanEntry} {h : History} (o : Represents F S v ps h) (k : WellFormed S h) where
  -- used records are those of the history
  used_few : (g i : ℕ) → g < S.ranges → i < used_in v g → i < length (records_of h g)
  used_few g i a b = omega (arith, (o.tails g a).used_all)

  record_is : (g i : ℕ) → (a : g < S.ranges) → i < used_in v g → RecordIs S.columns (state_of h) (get_or (records_of h g) i no_record) (record_in v (g * S.capacity + i)) (value_in S v (g * S.capacity + i))
  record_is g i a b = (o.tails g a).each i (used_few g i a b)

  record_row : (g i : ℕ) → g < S.ranges → i < used_in v g → get_or (v TailRow) (g * S.capacity + i) 0 ≡ (get_or (records_of h g) i no_record).row
  unfolding record_in
  record_row g i a b = (record_is g i a b).row

  record_sound : (g i : ℕ) → g < S.ranges → i < used_in v g → RecordSound (state_of h) (row_at h) (length h.rows) (get_or (records_of h g) i no_record)
  record_sound g i a b = sound_at h g k.invariants.order i no_record (used_few g i a b)

  -- a row that is given, as the store counts and as the history does
  row_is : (r : ℕ) → r < rows_given v → r < length h.rows
  row_is r b = omega (arith, o.header.rows_given)

  transaction_given : (t : ℕ) → T (is_given (state_of h t)) → (1 ≤ t) × (t ≤ transactions_given v)
  unfolding state_of
  transaction_given t g = let r = live_given is_given h.transactions t unknown refl g in (r.0, omega (arith, r.1, o.header.transactions_given))

  stamp_within : (t : ℕ) → (commit_of (state_of h t)).stamp ≤ last_stamp v
  stamp_within t = omega (arith, (commit_last h k.invariants.order.stamps t).stamps, o.header.last_stamp)

  stored : Stored (sizes_of F S) v
  stored =
      record {
        rows_to = omega (arith, o.header.rows_given, k.invariants.limits.rows);
        records_to = λ g. by_cases (dec_lt g S.ranges) (λ a. omega (arith, (o.tails g a).used_all, k.invariants.limits.records g))
            (λ a. let z : used_in v g ≡ 0 = get_or-eq_default (v Used) 0 (omega (arith, o.whole.long Used)) in omega arith);
        transactions_to = omega (arith, o.header.transactions_given, k.invariants.limits.transactions);
        scans_to = omega (arith, o.header.scans_given, k.invariants.limits.scans);
      }

  -- a link is the row's last record among the first n
  linked : (g r n link : ℕ) → g < S.ranges → n ≤ used_in v g → link ≡ last_of (records_of h g) r n → Linked (sizes_of F S) v g n r link
  linked g r n zero a b e = record { low = omega arith; same = λ f. absurd (f refl) }
  linked g r n (suc i) a b e =
      let t = last_of_row (records_of h g) r n i (sym e) in
      let q : suc i - 1 ≡ i = omega arith in
      record { low = omega (arith, t.0); same = λ f. rw q (record_row g i a (omega (arith, t.0)) ∙ t.1) }

  -- ---- open scans
  scan_stamps : (j : ℕ) → (get_or ps j free_entry).number ≢ 0 → (get_or ps j free_entry).stamp ≤ last_stamp v
  unfolding Timely scan_at
  scan_stamps j n =
      omega (arith, ap (λ (p : ScanEntry). p.stamp) (entry_stands scan_kind h.scans ps o.scans.same j n), (k.invariants.timely (get_or ps j free_entry).number).stamp, o.header.last_stamp)

  scan_merges : (j : ℕ) → (get_or ps j free_entry).number ≢ 0 → (get_or ps j free_entry).merges ≤ merges_made v
  unfolding scan_at
  scan_merges j n =
      omega (
        arith,
        ap (λ (p : ScanEntry). p.merges) (entry_stands scan_kind h.scans ps o.scans.same j n),
        (o.scan_pages (get_or ps j free_entry).number (number_live scan_kind h.scans ps o.scans.same j n) 0 0 k.small.some_range k.small.some_column).early,
        o.header.merges_made,
      )

  scan_commits : (j : ℕ) → (get_or ps j free_entry).number ≢ 0 → (get_or ps j free_entry).commits ≤ commits_made v
  unfolding Timely scan_at
  scan_commits j n =
      omega (arith, ap (λ (p : ScanEntry). p.commits) (entry_stands scan_kind h.scans ps o.scans.same j n), (k.invariants.timely (get_or ps j free_entry).number).commits, o.header.commits_made)

  -- ---- pages
  waits_at : (p : ℕ) → p < pages_of S → as_waiting ≤ (page_in v p).state → WaitingIs S h (made_in S v) (page_in v p)
  waits_at p b u = o.waits p b (lt→ltb 1 (page_in v p).state u)

  -- a lineage within the records of range g is within those used
  lineage_used : (n g : ℕ) → g < S.ranges → n ≤ length (records_of h g) → n ≤ used_in v g
  lineage_used n g b l = omega (arith, (o.tails g b).used_all)

  waiting_lineages : (p : ℕ) → p < pages_of S → as_waiting ≤ (page_in v p).state → (page_in v p).lineage ≤ used_in v ((page_in v p).chunk % chunks_of S / S.columns)
  waiting_lineages p b u =
      let w = waits_at p b u in
      let t = chunk_parts S k.small.some_column (page_in v p).chunk w.chunk in
      rw (mod-eq_of_lt w.chunk) (lineage_used _ _ t.0 (w.reach _ _ t.0 t.1 (sym t.2)))

  -- ---- all together
  pub represented_usable : Usable (sizes_of F S) v ps
  unfolding row_in record_in page_in range_of
  represented_usable =
      record {
        counts = stored;
        open_few = omega (arith, opened_count ps, scan_count h.scans ps o.scans, k.invariants.limits.runnings);
        named = λ g i a b. rw (record_row g i a b) (omega (arith, (record_sound g i a b).inside, o.header.rows_given), all_at (records_range h g) i no_record (used_few g i a b));
        row_numbers = λ r b. rw (o.rows r (row_is r b)).transaction (transaction_given _ (k.invariants.order.inserters r (row_is r b)));
        record_numbers = λ g i a b. rw (record_is g i a b).transaction (transaction_given _ (record_sound g i a b).giver);
        open_numbers = λ j. omega (arith, number_given open_kind h.transactions (v Opens) o.opens j, o.header.transactions_given);
        scan_numbers = λ j. omega (arith, number_given scan_kind h.scans ps o.scans.same j, o.header.scans_given);
        row_links = λ r b. linked (r / range_rows) r (used_in v (r / range_rows)) _ (in_range k r (row_is r b)) (le_refl _) ((o.rows r (row_is r b)).link ∙ ap (last_of (records_of h (r / range_rows)) r) (sym (o.tails (r / range_rows) (in_range k r (row_is r b))).used_all));
        record_links = λ g i a b. linked g _ i _ a (omega arith) ((o.tails g a).links i (used_few g i a b) ∙ ap (λ (r : ℕ). last_of (records_of h g) r i) (sym (record_row g i a b)));
        row_stamps = λ r b. rw (o.rows r (row_is r b)).stamp (stamp_within _);
        record_stamps = λ g i a b. rw (record_is g i a b).stamp (stamp_within _);
        current_stamps = λ i b. omega (arith, (named o k i b).holds.stamped, o.header.last_stamp);
        waiting_stamps = λ p b u. omega (arith, (waits_at p b u).stamped, o.header.last_stamp);
        scan_stamps = scan_stamps;
        scan_merges = scan_merges;
        scan_commits = scan_commits;
        waiting_merges = λ p b u. omega (arith, (waits_at p b u).replaced_by, o.header.merges_made);
        open_differ = numbers_apart open_kind h.transactions (v Opens) o.opens;
        scans_differ = numbers_apart scan_kind h.scans ps o.scans.same;
        current_in = λ i b. (named o k i b).inside;
        current_state = λ i b. (named o k i b).state;
        current_chunk = (chunks_are_current o k).chunk;
        current_lineages = λ i b. lineage_used _ _ (chunk_parts S k.small.some_column i b).0 (named o k i b).holds.through.within;
        waiting_lineages = waiting_lineages;
      }

  pub represented_facts : within_limits S ≡ true → facts_hold (sizes_of F S) v ps ≡ true
  represented_facts w = facts_hold_lem (sizes_of F S) v ps (proper F S w) o.whole.long represented_usable
