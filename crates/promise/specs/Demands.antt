-- The three demands (section 11 of docs/SPECIFICATION.md), stated of the bytes that the calls leave, of the answers that they give and of what they write into a slice of stamps; the conditions of the refusals are in Stated.
-- proofs/Refused.antt and proofs/Stated.antt prove those of demand 1, proofs/Moves.antt that there and back is as it was, proofs/Demands.antt the others.
-- What a call answers and leaves is in Promise, which the contracts of the calls cite, and what a making answers and leaves is `made`, which the contract of
-- `make` cites. The plain history is History; what is committed is said in the history's Latest, and what a page holds in the model's Claims.
-- A memory is any list of numbers here, so that every list of bytes is one.
use Rattle.std.specs.Prelude.{◌≡◌, ◌↔◌, false, not, List, ◌∷◌, ℕ, suc, ◌≤◌, ◌<◌, T, length, get_or, take, drop}
use Rattle.terms.specs.Measures.{within_limits, most_scans}
use Rattle.terms.specs.declared.Shape.{Shape}
use Rattle.std.specs.Prelude.{Ok, Err}
use Rattle.terms.specs.Answers.{Answer}
use Rattle.terms.specs.declared.Fields.{Fields}
use Rattle.terms.specs.declared.ScanEntry.{ScanEntry}
use Rattle.terms.specs.declared.Refusal.{Refusal}
use Rattle.words.specs.Words.{words, Bytes}
use Rattle.terms.specs.declared.Form.{Form}
use Rattle.layout.specs.Sizes.{bytes_needed}
use Rattle.history.specs.Forms.{Suited, form_run, form_use}
use Rattle.facts.specs.Usable.{stored_shape}
use Rattle.history.specs.History.{Call, open_scan, move, History, Snapshot, Outcome, alone, slice_of, lent_to, start, outcomes, run, tests, verdict, accept, scan_at}
use Rattle.terms.specs.Refusals.{is_refused}
use Rattle.history.specs.Claims.{strike, plain_outcomes, Shows, AsksMinutes, AsksScan, history_before, call_at}
use Rattle.history.specs.Lists.{All}
use Rattle.history.specs.Latest.{ValueAt, last_committed}
use Rattle.making.specs.Made.{made, made_list}
use Rattle.model.specs.Calls.{Typed}
use Rattle.model.specs.Claims.{history_after, PageHolds, PageKept}
use Rattle.promise.specs.Promise.{store_view, Lent, answer_of, memory_after, list_after, stamps_left, second_of, room_for, second_after, outcomes_of, lend, left}
use Rattle.promise.specs.Stated.{First, NoneApplies, conditions}

-- ---- 11.1: a run begins with an accepted making, in either form: F is the form, m and ps are what memory and list held before it
abbrev pub Accepted : Form → Shape → List ℕ → List ScanEntry → Type 0
Accepted F S m ps = (made F S (length ps) m).0 ≡ Ok Fields.Done

abbrev pub memory_made : Form → Shape → List ℕ → List ScanEntry → List ℕ
memory_made F S m ps = (made F S (length ps) m).1

-- Every shape within the limits, memory of the bytes needed and list of `most_scans` entries or more is accepted, so that the claims below speak of all of them.
unfoldable pub MakingAccepted : Type 0
MakingAccepted = (F : Form) (S : Shape) (m : List ℕ) (ps : List ScanEntry) → T (within_limits S) → bytes_needed F S ≤ length m → most_scans ≤ length ps → Accepted F S m ps

-- The numbers of each call fit the types of the operands, no call is lent a form that it does not work on, and no move too short a second memory; F and h are form and history before the calls.
pub record Lends (F : Form) (S : Shape) (h : History) (cs : List Call) : Type 0 where
  pub typed : All Typed cs
  pub suited : Suited S F h cs
  pub roomy : All (λ c. T (room_for (form_use c) S (second_of c))) cs

-- a claim for every accepted making and every such list of calls
abbrev pub Every : (Form → Shape → List ℕ → List ScanEntry → List Call → Type 0) → Type 0
Every P = (F : Form) (S : Shape) (m : List ℕ) (ps : List ScanEntry) → Accepted F S m ps → (cs : List Call) → Lends F S start cs → P F S m ps cs

-- the outcomes of a list of calls on the store, and what it leaves of memory and list
unfoldable pub store_outcomes : Form → Shape → List ℕ → List ScanEntry → List Call → List (Outcome Answer)
store_outcomes F S m ps cs = outcomes_of (lend (memory_made F S m ps) (made_list ps)) cs

unfoldable pub store_left : Form → Shape → List ℕ → List ScanEntry → List Call → Lent
store_left F S m ps cs = left (lend (memory_made F S m ps) (made_list ps)) cs

-- ---- demand 1, for any numbers over any memory and any list
-- 11.8: a call answers n exactly if n's condition is the first of the call's that applies,
-- and is accepted exactly if none does
unfoldable pub Refuses : Type 0
Refuses =
    (m : List ℕ) (ps : List ScanEntry) (c : Call)
    → ((n : Refusal) → (answer_of (lend m ps) c ≡ Err n) ↔ First (conditions m ps c) n)
    × ((is_refused (answer_of (lend m ps) c) ≡ false) ↔ NoneApplies (conditions m ps c))

-- 11.9: a refused call changes nothing: no byte, no entry, no place of its slice, no byte of a second memory
unfoldable pub RefusedKeeps : Type 0
RefusedKeeps =
    (m : List ℕ) (ps : List ScanEntry) (c : Call) (n : Refusal) → Bytes m → answer_of (lend m ps) c ≡ Err n
    → (memory_after (lend m ps) c ≡ m) × (list_after (lend m ps) c ≡ ps) × (stamps_left (lend m ps) c ≡ lent_to (slice_of c)) × (second_after (lend m ps) c ≡ second_of c)

-- ---- demand 2
-- 11.3: a latest read, a read at, a scan read or a keeper at that is not refused, after any calls
unfoldable pub ReadsCommitted : Type 0
ReadsCommitted =
    Every
    (λ F S m ps cs.
    (x : Call) (show : ValueAt → Answer) (t : Snapshot) (r c : ℕ) → Typed x → Shows (history_after S cs) x show t r c → T (not (is_refused (answer_of (store_left F S m ps cs) x)))
    → answer_of (store_left F S m ps cs) x ≡ last_committed show (history_after S cs) t r c)

-- 11.4: what current pages hold (`PageHolds`)
unfoldable pub PagesCommitted : Type 0
PagesCommitted =
    Every
    (λ F S m ps cs.
    (g c : ℕ) → g < S.ranges → c < S.columns → PageHolds S (store_view (store_left F S m ps cs).memory) (history_after S cs) g c)

-- 11.5: an open scan keeps its pages, whatever is called while it is open
unfoldable pub ScansKept : Type 0
ScansKept =
    Every
    (λ F S m ps cs.
    (s : ℕ) (later : List Call) → Lends (form_run S F start cs) S (history_after S cs) (open_scan s ∷ later) → verdict (tests S (history_after S cs) (open_scan s)) ≡ accept
    → T (scan_at (run S (history_after S cs) (open_scan s ∷ later)) (suc (length (history_after S cs).scans))).running → (g c : ℕ) → g < S.ranges → c < S.columns
    → PageKept S (store_view (store_left F S m ps cs).memory)
    (store_view (left (store_left F S m ps cs) (open_scan s ∷ later)).memory)
    (run S (history_after S cs) (open_scan s ∷ later)) (suc (length (history_after S cs).scans)) g c (length (history_after S cs).rows))

-- ---- demand 3
-- 11.2: every answer is the plain history's, and so is what is written into a lent slice
unfoldable pub Demand3 : Type 0
Demand3 = Every (λ F S m ps cs. store_outcomes F S m ps cs ≡ outcomes S start cs)

-- 11.6: striking, which leaves a list that lends as it should (the history's `StrikingSuited`)
unfoldable pub StrikingStore : Type 0
StrikingStore = Every (λ F S m ps cs. plain_outcomes cs (store_outcomes F S m ps cs) ≡ plain_outcomes (strike cs) (store_outcomes F S m ps (strike cs)))

-- 11.7: stability, of calls in the list that are not refused
unfoldable pub store_outcome_at : Form → Shape → List ℕ → List ScanEntry → List Call → ℕ → Outcome Answer
store_outcome_at F S m ps cs i = get_or (store_outcomes F S m ps cs) i (alone (Ok Fields.Done))

-- call i is x, and is not refused
pub record AcceptsIn (F : Form) (S : Shape) (m : List ℕ) (ps : List ScanEntry) (cs : List Call) (i : ℕ) (x : Call) : Type 0 where
  pub inside : i < length cs
  pub is : call_at cs i ≡ x
  pub accepted : T (not (is_refused (store_outcome_at F S m ps cs i).answer))

-- whatever is asked of minutes before the last commit's has the outcome that it has later
unfoldable pub MinutesStableStore : Type 0
MinutesStableStore =
    Every
    (λ F S m ps cs.
    (i j t : ℕ) (x : Call) → AsksMinutes x t → i ≤ j → t < (history_before S cs i).last.stamp → AcceptsIn F S m ps cs i x → AcceptsIn F S m ps cs j x
    → store_outcome_at F S m ps cs i ≡ store_outcome_at F S m ps cs j)

-- whatever is asked of a scan twice has one outcome
unfoldable pub ScansStableStore : Type 0
ScansStableStore =
    Every
    (λ F S m ps cs.
    (i j : ℕ) (x : Call) → AsksScan x → AcceptsIn F S m ps cs i x → AcceptsIn F S m ps cs j x → store_outcome_at F S m ps cs i ≡ store_outcome_at F S m ps cs j)

-- ---- 11.15: there and back, with no call between, of any memory of the first form that a move accepts: the bytes needed are the first ones, and bytes past the need, of either second memory, are as they were
unfoldable pub ThereAndBack : Type 0
ThereAndBack =
    (m second third : List ℕ) (ps : List ScanEntry) → Bytes m → answer_of (lend m ps) (move Form.Newest second) ≡ Ok Fields.Done
    → let S = stored_shape (words m) in
    let there = second_after (lend m ps) (move Form.Newest second) in
    let back = second_after (lend there ps) (move Form.First third) in
    (drop (bytes_needed Form.Newest S) there ≡ drop (bytes_needed Form.Newest S) second)
    × (bytes_needed Form.First S ≤ length third
    → (answer_of (lend there ps) (move Form.First third) ≡ Ok Fields.Done)
    × (take (bytes_needed Form.First S) back ≡ take (bytes_needed Form.First S) m)
    × (drop (bytes_needed Form.First S) back ≡ drop (bytes_needed Form.First S) third))
