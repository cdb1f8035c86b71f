-- What the pages of a store hold follows from the relation with the history, which every list of calls keeps.
use mathlib.Core.Path.{◌≡◌, refl, sym, ◌∙◌, ap}
use mathlib.Core.List.{List, ◌∷◌}
use Prim.Native.Nat.{ℕ, suc, ◌+◌, ◌*◌, ◌^◌, ◌≤◌, ◌<◌}
use native.Mathlib.Omega.{arith}
use lib.Dec.{T}
use lib.ListN.{length, length-append}
use lib.IntN.{pos}
use mir.Syntax.{w32}
use mir.Val.{to_z, of_z}
use mir.ValLaws.{of_z-to_z}
use Rattle.terms.specs.Measures.{range_rows}
use Rattle.terms.specs.declared.Shape.{Shape}
use Rattle.terms.specs.declared.Form.{Form}
use Rattle.history.specs.History.{Call, open_scan, effect, next_if, tests, verdict, Verdict, accept, refuse, Scan, no_scan, with_scans, History, next, run, range_of, merged_through, scan_at, cell_through}
use Rattle.history.specs.Lists.{All}
use Rattle.history.specs.Forms.{Suited, form_next}
use Rattle.history.proofs.Lists.{nth_last}
use Rattle.history.proofs.Latest.{cell_taken}
use Rattle.layout.specs.View.{View, put, renew}
use Rattle.layout.specs.declared.Region.TheVariants.{Cells}
use Rattle.terms.specs.declared.ScanEntry.{ScanEntry}
use Rattle.model.specs.Stored.{page_in, cell_in, current_in, within}
use Rattle.model.specs.Reading.{scan_page, was_current}
use Rattle.model.specs.Calls.{tests_in, act_in, store_act, view_if, Typed, store_next, entries_next, view_after}
use Rattle.model.specs.Claims.{PageHolds, PageKept}
use Rattle.model.specs.Represents.{CurrentOf, Represents, WellFormed}
use Rattle.model.proofs.Holding.{cell_absent}
use Rattle.model.proofs.Calls.{one_call}
use Rattle.model.proofs.upkeep.Scans.{scan_current}
use Rattle.model.proofs.Openings.{SamePage, same_after, scan_later}

-- ---- pages
zero_word : (w : ℕ) → w < 2 ^ 32 → to_z w32 w ≡ pos 0 → w ≡ 0
zero_word w b e = sym (of_z-to_z w32 w record { fits = b }) ∙ ap (of_z w32) e

row_of : (g i : ℕ) → i < range_rows → (range_of (g * range_rows + i) ≡ g) × (within (g * range_rows + i) ≡ i)
unfolding range_of
row_of g i b = (omega arith, omega arith)

pub page_holds : {F : Form} {S : Shape} {v : View} {ps : List ScanEntry} {h : History} → Represents F S v ps h → WellFormed S h → (g c : ℕ) → g < S.ranges → c < S.columns → PageHolds S v h g c
page_holds {F} {S} {v} {ps} {h} o k g c a b = record {
  taken = x.lineage;
  every_row = λ i u. held i u ∙ cell_taken h k.invariants.order c (g * range_rows + i) (merged_through h g c);
  never_inserted = λ i u n. zero_word (cell_in v (current_in S v g c) i) (fits i) (held i u ∙ cell_absent h c (g * range_rows + i) (merged_through h g c) k.invariants.order n);
}
  where
    x : CurrentOf S h v g c
    x = o.currents g c a b

    fits : (i : ℕ) → cell_in v (current_in S v g c) i < 2 ^ 32
    fits i = unfold cell_in in (o.whole.fits Cells (current_in S v g c * range_rows + i))

    held : (i : ℕ) → i < range_rows → to_z w32 (cell_in v (current_in S v g c) i) ≡ cell_through h c (g * range_rows + i) (merged_through h g c)
    held i u =
        ap (λ (j : ℕ). to_z w32 (cell_in v (current_in S v g c) j)) (sym (row_of g i u).1) ∙ x.holds.cells (g * range_rows + i) (row_of g i u).0 tt
        ∙ ap (cell_through h c (g * range_rows + i)) x.lineage

-- ---- the pages of open scans
-- the scan that has the next number, and what stays
abbrev Opened : History → History → Type 0
Opened h h' =
    ((scan_at h' (suc (length h.scans))).merges ≡ length h.merges) × (suc (length h.scans) ≤ length h'.scans) × (length h'.rows ≡ length h.rows)

scan_opened_lem : (S : Shape) (h : History) (s : ℕ) → verdict (tests S h (open_scan s)) ≡ accept
    → Opened h (next S h (open_scan s))
unfolding next next_if effect with_scans scan_at
scan_opened_lem S h s e = rw e (ap (λ (x : Scan). x.merges) (nth_last no_scan h.scans _), simp length-append (omega arith), refl)

-- opening a scan changes no page
opened_same : (S : Shape) (v : View) (ps : List ScanEntry) (s m g c : ℕ) → (scan_page S (store_next S v ps (open_scan s)) m g c ≡ scan_page S v m g c) × ((q i : ℕ) → cell_in (store_next S v ps (open_scan s)) q i ≡ cell_in v q i)
unfolding store_next
opened_same S v ps s m g c = go (verdict (tests_in S v ps (open_scan s)))
  where
    go : (w : Verdict) → (scan_page S (view_if w v (store_act S v ps (open_scan s))) m g c ≡ scan_page S v m g c) × ((q i : ℕ) → cell_in (view_if w v (store_act S v ps (open_scan s))) q i ≡ cell_in v q i)
    go accept = unfold view_if act_in put renew scan_page was_current current_in page_in cell_in in (refl, λ q i. refl)
    go (refuse n) = unfold view_if in (refl, λ q i. refl)

pub pages_kept : {F : Form} {S : Shape} {v : View} {ps : List ScanEntry} {h : History} → Represents F S v ps h → WellFormed S h → (s : ℕ) (cs : List Call) → Typed (open_scan s) → All Typed cs → Suited S F h (open_scan s ∷ cs) → verdict (tests S h (open_scan s)) ≡ accept
    → T (scan_at (run S (next S h (open_scan s)) cs) (suc (length h.scans))).running → (g c : ℕ) → g < S.ranges → c < S.columns
    → PageKept S v (view_after S (store_next S v ps (open_scan s)) (entries_next S v ps (open_scan s)) cs) (run S (next S h (open_scan s)) cs) (suc (length h.scans)) g c (length h.rows)
pages_kept {F} {S} {v} {ps} {h} o k s cs y ys suited e t g c bg bc =
    record {
      page = ap (λ (j : ℕ). scan_page S v₂ j g c) merges_are ∙ (rw new.0 at same.page) ∙ first;
      cells = λ r u f.
          (rw (new.0, first) at (same.cells r (omega (arith, new.2)) f))
          ∙ (opened_same S v ps s (length h.merges) g c).1 (current_in S v g c) (within r);
    }
  where
    suited_on : Suited S F h (open_scan s ∷ cs) → Suited S (form_next S h (open_scan s) F) (next S h (open_scan s)) cs
    suited_on = unfold Suited in (λ x. x.1)

    i : ℕ
    i = suc (length h.scans)

    h₁ : History
    h₁ = next S h (open_scan s)

    v₁ : View
    v₁ = store_next S v ps (open_scan s)

    v₂ : View
    v₂ = view_after S (store_next S v ps (open_scan s)) (entries_next S v ps (open_scan s)) cs

    new : Opened h (next S h (open_scan s))
    new = scan_opened_lem S h s e

    same : SamePage S v₁ v₂ (scan_at h₁ i).merges (length h₁.rows) g c
    same = let one = one_call F S v ps h (open_scan s) y tt o k in same_after one.shown one.well_formed i new.1 ys (suited_on suited) t g c bg bc

    merges_are : (scan_at (run S h₁ cs) i).merges ≡ length h.merges
    merges_are = ap (λ (x : Scan). x.merges) (scan_later S h₁ cs i new.1 t) ∙ new.0

    first : scan_page S v₁ (length h.merges) g c ≡ current_in S v g c
    first = (opened_same S v ps s (length h.merges) g c).0 ∙ scan_current S v (length h.merges) g c (o.currents g c bg bc).made
