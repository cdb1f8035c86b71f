-- Open scan and close keep the relation: a scan takes an entry of the list with the merges and the commits made before it, so that its pages are the current ones; a closed scan
-- leaves a free entry.
use mathlib.Core.Path.{◌≡◌, refl, sym, ◌∙◌}
use mathlib.Core.Bool.{true, false, not, and-true}
use mathlib.Core.List.{List, [], ◌∷◌, ◌++◌}
use Prim.Native.Nat.{ℕ, suc, ◌+◌, ◌≤◌, ◌<◌}
use native.Mathlib.Omega.{arith}
use native.Mathlib.Nat.{le_refl}
use native.Mathlib.Decide.{ℕ_discrete}
use lib.Dec.{T, eqb, lt→ltb}
use lib.ListN.{length, set, length-append, length-set}
use borrow.Author.Tests.{le-leb}
use Rattle.terms.specs.Measures.{most_scans, most_numbers}
use Rattle.terms.specs.declared.Shape.{Shape}
use Rattle.terms.specs.declared.Form.{Form}
use Rattle.history.specs.History.{open_scan, close, History, Scan, no_scan, snapshot_at, any, count, nth, change, state_of, keeper_of, row_at, records_of, scan_at, stopped, with_scans}
use Rattle.history.proofs.Lists.{by_cases, all_map, length_change, nth_last, nth_before}
use Rattle.history.specs.Steps.{Step}
use Rattle.history.specs.Invariants.{Stamped}
use Rattle.layout.specs.View.{View, renew, put, scans_given}
use Rattle.layout.specs.declared.Region.TheVariants.{Header}
use Rattle.terms.specs.declared.ScanEntry.{ScanEntry}
use Rattle.terms.specs.Entries.{first_index, free_entry, is_scan}
use Rattle.layout.specs.Regions.{scans_at}
use Rattle.model.specs.Stored.{row_in, record_in, value_in, page_in, cell_in, current_in, scan_entry}
use Rattle.model.specs.Reading.{scan_page, was_current}
use Rattle.model.specs.Calls.{new_entry}
use Rattle.model.proofs.Lists.{any_count}
use Rattle.model.proofs.Book.{Kind, book_is, book_room, book_count, book_add, book_drop, book_found}
use Rattle.model.specs.Represents.{CurrentOf, ScanPageOf, ScanPagesAre, ScansAre, scan_as, HeaderFor, Represents, WellFormed}
use Rattle.model.proofs.Holding.{holds_step, same_rows}
use Rattle.model.proofs.Steady.{still_running, currents_stay, waits_stay, scan_stays}
use Rattle.model.proofs.Views.{put_whole, header_put, header_same}

-- ---- the entries of scans are a book
pub same_entry : (p q : ScanEntry) → ((f : ScanEntry → ℕ) → f p ≡ f q) → p ≡ q
same_entry p q f = λ i. record { number = f (λ z. z.number) i; stamp = f (λ z. z.stamp) i; merges = f (λ z. z.merges) i; commits = f (λ z. z.commits) i }

abbrev pub scan_kind : Kind ScanEntry Scan
scan_kind =
    record { number = λ p. p.number; live = λ s. s.running; as' = scan_as; as_number = λ i s. refl; free = free_entry; free_number = refl; none = no_scan; none_live = refl; tells = same_entry }

pub scan_is : (ss : List Scan) (l : List ScanEntry) → ScansAre ss l → (k : ℕ) → any (is_scan k) l ≡ (nth ss k no_scan).running
scan_is ss l o k = book_is scan_kind ss l o.same k

pub scan_count : (ss : List Scan) (l : List ScanEntry) → ScansAre ss l → count (λ p. not (eqb p.number 0)) l ≡ count (λ s. s.running) ss
scan_count ss l o = simp and-true at (book_count scan_kind ss l o.same)

pub scan_found : (ss : List Scan) (l : List ScanEntry) → ScansAre ss l → (k : ℕ) → T (nth ss k no_scan).running → scan_entry l k ≡ scan_as k (nth ss k no_scan)
unfolding scan_entry
scan_found ss l o k t =
    book_found scan_kind ss l o.same k t

scans_add : (ss : List Scan) (l : List ScanEntry) (s : Scan) → ScansAre ss l → T s.running → count (λ s. s.running) ss < most_scans
    → ScansAre (ss ++ s ∷ []) (set l (first_index (λ p. eqb p.number 0) l) (scan_as (suc (length ss)) s))
scans_add ss l s o t b =
    record {
      room = rw length-set o.room;
      same = book_add scan_kind ss l o.same s t
          (rw (any_count (λ p. eqb p.number 0) l)
          (lt→ltb 0 (count (λ p. eqb p.number 0) l)
          (omega (arith, o.room, book_room scan_kind ss l o.same))));
    }

scans_drop : (ss : List Scan) (l : List ScanEntry) (k : ℕ) (s : Scan) → ScansAre ss l → T (nth ss k no_scan).running → s.running ≡ false
    → ScansAre (change ss k s) (set l (first_index (is_scan k) l) free_entry)
scans_drop ss l k s o t n =
    record {
      room = rw length-set o.room;
      same = book_drop scan_kind ss l o.same k t s n;
    }

-- ---- a page that was made before: the scan's page is the current one
pub scan_current : (S : Shape) (v : View) (m g c : ℕ) → (page_in v (current_in S v g c)).made ≤ m → scan_page S v m g c ≡ current_in S v g c
unfolding scan_page
scan_current S v m g c b = rw (le-leb (page_in v (current_in S v g c)).made m b)

-- ---- open scan
module _ {F : Form} {S : Shape} {v : View} {ps : List ScanEntry} {h : History} (o : Represents F S v ps h) (k : WellFormed S h) (s : ℕ) (room : count (λ s. s.running) h.scans < most_scans)
    (few : length h.scans < most_numbers) where
  abbrev new : Scan
  new = record { running = true; snapshot = snapshot_at h s; merges = length h.merges }

  abbrev after : History
  after = with_scans h (h.scans ++ new ∷ [])

  new_page : Step S h (open_scan s) after → (g c : ℕ) → g < S.ranges → c < S.columns → ScanPageOf S after v new g c
  unfolding with_scans state_of records_of Stamped
  new_page step g c p q =
      let x : CurrentOf S h v g c = o.currents g c p q in
      rw (scan_current S v (length h.merges) g c x.made)
      record {
        inside = x.inside;
        early = le_refl _;
        chunk = x.chunk;
        made = x.made;
        taken_before = all_map (λ y _ z e. (k.invariants.order.stamps y.transaction z e).ordinals) x.holds.through.closed_all;
        holds = holds_step k.invariants.order step g c (page_in v (current_in S v g c)) (λ r e u. (tt, same_rows (length h.rows) (length h.rows) r refl)) x.holds;
      }

  open_pages : Step S h (open_scan s) after → ScanPagesAre S after v
  unfolding scan_at with_scans
  open_pages step i t g c p q = by_cases (ℕ_discrete i (suc (length h.scans)))
      (λ e. rw (e, nth_last no_scan h.scans new) (new_page step g c p q))
      (λ f. scan_stays o k step refl i (nth_before no_scan h.scans new i f) t g c p q)

  pub open_kept : Step S h (open_scan s) after
      → Represents F S (put Header scans_at (scans_given v + 1) v)
      (set ps (first_index (λ p. eqb p.number 0) ps) (new_entry v s)) after
  unfolding put renew with_scans row_in record_in value_in page_in cell_in current_in scan_page was_current state_of keeper_of row_at records_of
  open_kept step =
      search (header, currents_stay o k step refl refl, waits_stay o k step refl, scans, open_pages step, put_whole Header 6 n (omega (arith, e)) o.whole)
    where
      n : ℕ
      n = scans_given v + 1

      e : n ≡ suc (length h.scans)
      e = omega (arith, o.header.scans_given)

      header : HeaderFor F S after (put Header scans_at n v)
      header = unfold put renew with_scans in
          (header_same refl refl (e ∙ sym (simp length-append (omega arith))) refl (header_put (v Header) 6 n (omega (arith, o.whole.long Header)) (omega arith) o.header))

      scans : ScansAre (h.scans ++ new ∷ []) (set ps (first_index (λ p. eqb p.number 0) ps) (new_entry v s))
      scans = rw (e, o.header.merges_made, o.header.commits_made) (scans_add h.scans ps new o.scans tt room)

-- ---- close
module _ {F : Form} {S : Shape} {v : View} {ps : List ScanEntry} {h : History} (o : Represents F S v ps h) (k : WellFormed S h) (i : ℕ) (run : T (scan_at h i).running) where
  abbrev ended : List Scan
  ended = change h.scans i (stopped (scan_at h i))

  close_pages : Step S h (close i) (with_scans h ended) → ScanPagesAre S (with_scans h ended) v
  unfolding scan_at with_scans
  close_pages step j t = scan_stays o k step refl j (still_running h.scans i j run t) t

  pub close_kept : Step S h (close i) (with_scans h ended) → Represents F S v (set ps (first_index (is_scan i) ps) free_entry) (with_scans h ended)
  unfolding with_scans row_in record_in value_in state_of keeper_of row_at records_of
  close_kept step =
      let header : HeaderFor F S (with_scans h ended) v = header_same refl refl (sym (length_change h.scans i (stopped (scan_at h i)))) refl o.header in
      let scans : ScansAre ended (set ps (first_index (is_scan i) ps) free_entry) = scans_drop h.scans ps i (stopped (scan_at h i)) o.scans (unfold scan_at in run) (unfold stopped in refl) in
      search (header, scans, currents_stay o k step refl refl, waits_stay o k step refl, close_pages step)
