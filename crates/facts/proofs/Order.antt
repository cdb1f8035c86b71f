-- The facts in the order in which the memory is gone through are the facts in the order of their rules.
use mathlib.Core.Path.{◌≡◌, refl, ap, sym, ◌∙◌}
use mathlib.Core.Bool.{Bool, true, false, ◌&&◌}
use mathlib.Core.List.{List, map}
use lib.Dec.{leb}
use Rattle.terms.specs.declared.ScanEntry.{ScanEntry}
use Rattle.loops.specs.Search.{all_between}
use Rattle.loops.proofs.Search.{and_true, and_false}
use Rattle.scans.specs.Entries.{every_open, differ}
use Rattle.layout.specs.declared.Sizes.{Sizes}
use Rattle.layout.specs.declared.Region.TheVariants.{Opens, RowTransaction, RowStamp, TailTransaction, TailStamp, PageReplaced, PageNewest}
use Rattle.layout.specs.View.{View, rows_given, transactions_given, scans_given, last_stamp, merges_made}
use Rattle.facts.specs.Facts.{each, rows_between, row_linked, range_names_rows, range_between, range_linked, current_at_most, waiting_at_most, current_lineage, waiting_lineage, chunk_current, stored_within, counts_within, records_name_rows, numbers_given, links_hold, stamps_within, merges_within, commits_within, open_differ, chunks_current, lineages_within, facts_hold}
use Rattle.facts.specs.Tests.{MemoryFacts, range_holds, rows_hold, current_holds, waiting_hold, pages_hold, opens_hold, scan_counts_hold, scans_hold}
use Rattle.facts.proofs.Each.{each_both}

regroup : (k n rt tt op sn rl tl rs ts cn wn ss sm pr sc od sd pl cl wl : Bool)
    → (k && (n && ((rt && (tt && (op && sn))) && ((rl && tl) && ((rs && (ts && ((cn && wn) && ss))) && ((sm && pr) && (sc && ((od && sd) && (pl && (cl && wl))))))))))
    ≡ (k && ((n && (tt && (tl && ts))) && ((rt && (rl && rs)) && (((pl && (cn && cl)) && (wn && (pr && wl))) && ((op && od) && (sn && (ss && ((sm && sc) && sd))))))))
regroup false n rt tt op sn rl tl rs ts cn wn ss sm pr sc od sd pl cl wl = refl
regroup true false rt tt op sn rl tl rs ts cn wn ss sm pr sc od sd pl cl wl = refl
regroup true true false tt op sn rl tl rs ts cn wn ss sm pr sc od sd pl cl wl = simp and_false
regroup true true true false op sn rl tl rs ts cn wn ss sm pr sc od sd pl cl wl = simp and_false
regroup true true true true false sn rl tl rs ts cn wn ss sm pr sc od sd pl cl wl = simp and_false
regroup true true true true true false rl tl rs ts cn wn ss sm pr sc od sd pl cl wl = simp and_false
regroup true true true true true true false tl rs ts cn wn ss sm pr sc od sd pl cl wl = simp and_false
regroup true true true true true true true false rs ts cn wn ss sm pr sc od sd pl cl wl = simp and_false
regroup true true true true true true true true false ts cn wn ss sm pr sc od sd pl cl wl = simp and_false
regroup true true true true true true true true true false cn wn ss sm pr sc od sd pl cl wl = simp and_false
regroup true true true true true true true true true true false wn ss sm pr sc od sd pl cl wl = simp and_false
regroup true true true true true true true true true true true false ss sm pr sc od sd pl cl wl = simp and_false
regroup true true true true true true true true true true true true false sm pr sc od sd pl cl wl = simp and_false
regroup true true true true true true true true true true true true true false pr sc od sd pl cl wl = simp and_false
regroup true true true true true true true true true true true true true true false sc od sd pl cl wl = simp and_false
regroup true true true true true true true true true true true true true true true false od sd pl cl wl = simp and_false
regroup true true true true true true true true true true true true true true true true false sd pl cl wl = simp and_false
regroup true true true true true true true true true true true true true true true true true false pl cl wl = simp and_false
regroup true true true true true true true true true true true true true true true true true true false cl wl = simp and_false
regroup true true true true true true true true true true true true true true true true true true true false wl = simp and_false
regroup true true true true true true true true true true true true true true true true true true true true false = simp and_false
regroup true true true true true true true true true true true true true true true true true true true true true = refl

-- the records of all ranges, fact by fact
pub ranges_are : (s : Sizes) (v : View) → each s.ranges (range_holds s v)
    ≡ (records_name_rows s v
    && (each s.ranges (range_between s v TailTransaction 1 (transactions_given v))
    && (each s.ranges (range_linked s v) && each s.ranges (range_between s v TailStamp 0 (last_stamp v)))))
unfolding range_holds records_name_rows
ranges_are s v =
    let n = s.ranges in
    let a = range_names_rows s v in
    let b = range_between s v TailTransaction 1 (transactions_given v) in
    let c = range_linked s v in
    let d = range_between s v TailStamp 0 (last_stamp v) in
    each_both a (λ g. b g && (c g && d g)) n
    ∙ ap (λ (x : Bool). each n a && x) (each_both b (λ g. c g && d g) n ∙ ap (λ (x : Bool). each n b && x) (each_both c d n))

-- the current pages, fact by fact
currents_are : (s : Sizes) (v : View) → each s.chunks (current_holds s v)
    ≡ (chunks_current s v && (each s.chunks (current_at_most v PageNewest (last_stamp v)) && each s.chunks (current_lineage s v)))
unfolding current_holds chunks_current
currents_are s v =
    let stamp = current_at_most v PageNewest (last_stamp v) in
    let line = current_lineage s v in
    each_both (chunk_current s v) (λ i. stamp i && line i) s.chunks ∙ ap (λ (x : Bool). each s.chunks (chunk_current s v) && x) (each_both stamp line s.chunks)

pub facts_are : (s : Sizes) (v : View) (ps : List ScanEntry)
    → facts_hold s v ps ≡ (counts_within s v ps && (each s.ranges (range_holds s v) && (rows_hold s v && (pages_hold s v && (opens_hold v && scans_hold v ps)))))
unfolding facts_hold numbers_given links_hold stamps_within merges_within open_differ lineages_within rows_hold waiting_hold pages_hold opens_hold scan_counts_hold scans_hold
facts_are s v ps =
    rw (ranges_are s v, currents_are s v)
    (regroup
    (counts_within s v ps)
    (records_name_rows s v)
    (rows_between v RowTransaction 1 (transactions_given v))
    (each s.ranges (range_between s v TailTransaction 1 (transactions_given v)))
    (all_between 0 (transactions_given v) (v Opens))
    (every_open (λ p. leb p.number (scans_given v)) ps)
    (each (rows_given v) (row_linked s v))
    (each s.ranges (range_linked s v))
    (rows_between v RowStamp 0 (last_stamp v))
    (each s.ranges (range_between s v TailStamp 0 (last_stamp v)))
    (each s.chunks (current_at_most v PageNewest (last_stamp v)))
    (each s.pages (waiting_at_most v PageNewest (last_stamp v)))
    (every_open (λ p. leb p.stamp (last_stamp v)) ps)
    (every_open (λ p. leb p.merges (merges_made v)) ps)
    (each s.pages (waiting_at_most v PageReplaced (merges_made v)))
    (commits_within v ps)
    (differ (v Opens))
    (differ (map (λ p. p.number) ps))
    (chunks_current s v)
    (each s.chunks (current_lineage s v))
    (each s.pages (waiting_lineage s v)))

-- the facts that speak of the memory alone
pub memory_facts : (s : Sizes) (v : View) → stored_within s v ≡ true → each s.ranges (range_holds s v) ≡ true → rows_hold s v ≡ true → pages_hold s v ≡ true
    → MemoryFacts s v
unfolding rows_hold pages_hold links_hold
memory_facts s v counts records rows pages =
    let names = records_name_rows s v in
    let numbers = each s.ranges (range_between s v TailTransaction 1 (transactions_given v)) in
    let linked = each s.ranges (range_linked s v) in
    let stamps = each s.ranges (range_between s v TailStamp 0 (last_stamp v)) in
    let a = and_true names (numbers && (linked && stamps)) (sym (ranges_are s v) ∙ records) in
    let b = and_true linked stamps (and_true numbers (linked && stamps) a.1).1 in
    let row_links = each (rows_given v) (row_linked s v) in
    let row_stamps = rows_between v RowStamp 0 (last_stamp v) in
    let c = and_true row_links row_stamps (and_true (rows_between v RowTransaction 1 (transactions_given v)) (row_links && row_stamps) rows).1 in
    let d = and_true (each s.chunks (current_holds s v)) _ pages in
    let e = and_true (chunks_current s v) _ (sym (currents_are s v) ∙ d.0) in
    record { counts = counts; links = rw (c.0, b.0); chunks_are_current = e.0 }
