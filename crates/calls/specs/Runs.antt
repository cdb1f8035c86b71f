-- The demands of the lent memory and list themselves: what follows from promises alone, whatever program made the calls. They are said once, of any
-- interface that returns the answer (`Interface`): the calls return it as it is, and the exports as a reply (crates/deskrook/specs/Runs.antt). proofs/Runs.antt proves them.
use Rattle.std.specs.Prelude.{ℕ, ◌≤◌, ◌<◌, ◌≡◌, ◌↔◌, false, T, List, [], ◌∷◌, map, length, get_or}
use Rattle.terms.specs.Measures.{most_scans}
use Rattle.terms.specs.declared.Shape.{Shape}
use Rattle.terms.specs.Refusals.{is_refused}
use Rattle.std.specs.Prelude.{Ok, Err}
use Rattle.terms.specs.Answers.{Answer}
use Rattle.terms.specs.declared.Fields.{Fields}
use Rattle.terms.specs.declared.ScanEntry.{ScanEntry}
use Rattle.terms.specs.declared.Refusal.{Refusal}
use Rattle.terms.specs.declared.Form.{Form}
use Rattle.words.specs.Words.{words, Bytes}
use Rattle.scans.specs.Entries.{all_freed}
use Rattle.history.specs.History.{Call, merge, move, Snapshot, Outcome, alone, slice_of, lent_to, start, outcomes}
use Rattle.history.specs.Claims.{strike, plain_outcomes, Shows, AsksMinutes, AsksScan, history_before, call_at}
use Rattle.history.specs.Latest.{ValueAt, last_committed}
use Rattle.history.specs.Forms.{form_use, in_place}
use Rattle.facts.specs.Usable.{stored_shape}
use Rattle.model.specs.Calls.{Typed}
use Rattle.model.specs.Claims.{history_after, PageHolds}
use Rattle.promise.specs.Promise.{store_view, Gives, Serves, Moves, Makes}
use Rattle.promise.specs.Demands.{Accepted, memory_made, Lends}
use Rattle.promise.specs.Footprint.{WithinFootprint, MergeWithin, MakingWithin}
use Rattle.promise.specs.Stated.{conditions, First, NoneApplies}

-- an interface: what it returns for an answer, when that is a refusal and when none, and what a call, a move and a making promise
pub record Interface : Type 1 where
  pub Returned : Type 0
  pub returns : Answer → Returned
  pub Refuses : Returned → Refusal → Type 0
  pub Accepts : Returned → Type 0
  pub gives : List ℕ → List ScanEntry → Call → Outcome Returned → List ℕ → List ScanEntry → Type 0
  pub moves : List ℕ → List ScanEntry → (to : Form) (second : List ℕ) → Returned → List ℕ → Type 0
  pub makes : List ℕ → List ScanEntry → Shape → Returned → List ℕ → List ScanEntry → Type 0

-- what it returns for the outcome of a call
abbrev pub returned_for : (F : Interface) → Outcome Answer → Outcome F.Returned
returned_for F o = record { answer = F.returns o.answer; stamps = o.stamps }

-- A run (rule 11.1 of docs/SPECIFICATION.md): calls over one store, each lent what the call before left, with their outcomes, which are what they returned and what they
-- left in a slice that they were lent to write, and with what the last one left. After an accepted move the second memory is the store, with the list; after a refused one the first still is.
pub data Run (F : Interface) : List ℕ → List ScanEntry → List Call → List (Outcome F.Returned) → List ℕ → List ScanEntry → Type 0 where
  ends : {m : List ℕ} {ps : List ScanEntry} → Run F m ps [] [] m ps
  goes : {m m' m'' : List ℕ} {ps ps' ps'' : List ScanEntry} {c : Call} {o : Outcome F.Returned} {cs : List Call} {os : List (Outcome F.Returned)}
      → T (in_place (form_use c)) → F.gives m ps c o m' ps' → Run F m' ps' cs os m'' ps'' → Run F m ps (c ∷ cs) (o ∷ os) m'' ps''
  moves_on : {m second second' m'' : List ℕ} {ps ps'' : List ScanEntry} {to : Form} {r : F.Returned} {cs : List Call} {os : List (Outcome F.Returned)}
      → F.moves m ps to second r second' → F.Accepts r → Run F second' ps cs os m'' ps'' → Run F m ps (move to second ∷ cs) (alone r ∷ os) m'' ps''
  stays : {m second second' m'' : List ℕ} {ps ps'' : List ScanEntry} {to : Form} {r : F.Returned} {n : Refusal} {cs : List Call} {os : List (Outcome F.Returned)}
      → F.moves m ps to second r second' → F.Refuses r n → Run F m ps cs os m'' ps'' → Run F m ps (move to second ∷ cs) (alone r ∷ os) m'' ps''

-- It begins with an accepted making, which gives the newest form, or with what a making of the first form left.
pub data Begun (F : Interface) : Form → Shape → List ℕ → List ScanEntry → Type 0 where
  by_making : {S : Shape} {m₀ m : List ℕ} {ps₀ ps : List ScanEntry} {z : F.Returned} → F.makes m₀ ps₀ S z m ps → F.Accepts z → Begun F Form.Newest S m ps
  of_first : {S : Shape} (m₀ : List ℕ) (ps₀ : List ScanEntry) → Accepted Form.First S m₀ ps₀ → Begun F Form.First S (memory_made Form.First S m₀ ps₀) (all_freed ps₀)

module _ (F : Interface) where
  -- a claim for every run, whatever memory and list held before: of form and shape, the memory and list that it begins with, the calls, their outcomes, and the
  -- memory and list left
  abbrev pub EveryRun : (Form → Shape → List ℕ → List ScanEntry → List Call → List (Outcome F.Returned) → List ℕ → List ScanEntry → Type 0) → Type 0
  EveryRun P =
      (X : Form) (S : Shape) (m m' : List ℕ) (ps ps' : List ScanEntry) (cs : List Call) (os : List (Outcome F.Returned))
      → Begun F X S m ps → Lends X S start cs → Run F m ps cs os m' ps' → P X S m ps cs os m' ps'

  -- ---- demand 1
  -- a call is refused on the stated condition only
  unfoldable pub RefusedSo : Type 0
  RefusedSo =
      (m m' : List ℕ) (ps ps' : List ScanEntry) (c : Call) (o : Outcome F.Returned) → F.gives m ps c o m' ps'
      → ((n : Refusal) → F.Refuses o.answer n ↔ First (conditions m ps c) n) × (F.Accepts o.answer ↔ NoneApplies (conditions m ps c))

  -- a refused call changes no byte of the memory, no entry of the list and no place of its slice, and a refused making no byte and no entry
  unfoldable pub RefusedKept : Type 0
  RefusedKept =
      (m m' : List ℕ) (ps ps' : List ScanEntry) (c : Call) (o : Outcome F.Returned) (n : Refusal)
      → Bytes m → F.gives m ps c o m' ps' → F.Refuses o.answer n → (m' ≡ m) × (ps' ≡ ps) × (o.stamps ≡ lent_to (slice_of c))

  unfoldable pub UnmadeKept : Type 0
  UnmadeKept = (S : Shape) (m m' : List ℕ) (ps ps' : List ScanEntry) (r : F.Returned) (n : Refusal) → F.makes m ps S r m' ps' → F.Refuses r n → (m' ≡ m) × (ps' ≡ ps)

  -- ---- what is changed: by a call its footprint at most, by a merge what Item 5 of document 02 names, by a making the bytes that its shape needs
  unfoldable pub ChangedSo : Type 0
  ChangedSo = (m m' : List ℕ) (ps ps' : List ScanEntry) (c : Call) (o : Outcome F.Returned) → Bytes m → F.gives m ps c o m' ps' → WithinFootprint m ps c m' ps'

  unfoldable pub MergedSo : Type 0
  MergedSo = (m m' : List ℕ) (ps ps' : List ScanEntry) (g c n : ℕ) (o : Outcome F.Returned) → Bytes m → F.gives m ps (merge g c n) o m' ps' → MergeWithin m ps g c m' ps'

  unfoldable pub MadeSo : Type 0
  MadeSo = (S : Shape) (m m' : List ℕ) (ps ps' : List ScanEntry) (r : F.Returned) → F.makes m ps S r m' ps' → MakingWithin Form.Newest S m m'

  -- a refused move changes no byte of the second memory, and an accepted one none past those that the form moved to needs
  unfoldable pub UnmovedKept : Type 0
  UnmovedKept =
      (m second second' : List ℕ) (ps : List ScanEntry) (to : Form) (r : F.Returned) (n : Refusal) → Bytes m → F.moves m ps to second r second' → F.Refuses r n → second' ≡ second

  unfoldable pub MovedSo : Type 0
  MovedSo = (m second second' : List ℕ) (ps : List ScanEntry) (to : Form) (r : F.Returned) → F.moves m ps to second r second' → MakingWithin to (stored_shape (words m)) second second'

  -- and a move is refused on the stated condition only
  unfoldable pub UnmovedSo : Type 0
  UnmovedSo =
      (m second second' : List ℕ) (ps : List ScanEntry) (to : Form) (r : F.Returned) → F.moves m ps to second r second'
      → ((n : Refusal) → F.Refuses r n ↔ First (conditions m ps (move to second)) n) × (F.Accepts r ↔ NoneApplies (conditions m ps (move to second)))

  -- ---- demand 2
  -- a read after a run that is not refused answers the value last committed by the commits of its snapshot, and keeper at that one's keeper
  unfoldable pub ReadsSo : Type 0
  ReadsSo =
      EveryRun
      (λ X S m ps cs os m' ps'.
      (x : Call) (show : ValueAt → Answer) (t : Snapshot) (r c : ℕ) (o : Outcome F.Returned) (m'' : List ℕ) (ps'' : List ScanEntry) → Typed x → Shows (history_after S cs) x show t r c → F.gives m' ps' x o m'' ps''
      → F.Accepts o.answer → o.answer ≡ F.returns (last_committed show (history_after S cs) t r c))

  -- each current page of the memory that a run leaves holds what was committed last
  unfoldable pub PagesSo : Type 0
  PagesSo = EveryRun (λ X S m ps cs os m' ps'. (g c : ℕ) → g < S.ranges → c < S.columns → PageHolds S (store_view m') (history_after S cs) g c)

  -- ---- demand 3
  -- a run has the outcomes that the plain history has
  unfoldable pub OutcomesSo : Type 0
  OutcomesSo = EveryRun (λ X S m ps cs os m' ps'. os ≡ map (returned_for F) (outcomes S start cs))

  -- a run of the calls without merges and releases, from the same making, gives the plain calls the same outcomes
  unfoldable pub StruckSame : Type 0
  StruckSame =
      EveryRun
      (λ X S m ps cs os m' ps'.
      (os' : List (Outcome F.Returned)) (m'' : List ℕ) (ps'' : List ScanEntry) → Run F m ps (strike cs) os' m'' ps'' → plain_outcomes cs os ≡ plain_outcomes (strike cs) os')

  -- the outcome of call i of a run; and that it is x, and is not refused
  abbrev pub returned_at : List (Outcome F.Returned) → ℕ → Outcome F.Returned
  returned_at os i = get_or os i (alone (F.returns (Ok Fields.Done)))

  abbrev pub AcceptsAmong : List Call → List (Outcome F.Returned) → ℕ → Call → Type 0
  AcceptsAmong cs os i x = (i < length cs) × (call_at cs i ≡ x) × F.Accepts (returned_at os i).answer

  -- whatever is asked of minutes before the last commit's has the outcome that it has later
  unfoldable pub MinutesSo : Type 0
  MinutesSo =
      EveryRun
      (λ X S m ps cs os m' ps'.
      (i j t : ℕ) (x : Call) → AsksMinutes x t → i ≤ j → t < (history_before S cs i).last.stamp → AcceptsAmong cs os i x → AcceptsAmong cs os j x → returned_at os i ≡ returned_at os j)

  -- whatever is asked of a scan twice has one outcome
  unfoldable pub ScansSo : Type 0
  ScansSo = EveryRun (λ X S m ps cs os m' ps'. (i j : ℕ) (x : Call) → AsksScan x → AcceptsAmong cs os i x → AcceptsAmong cs os j x → returned_at os i ≡ returned_at os j)

-- ---- of the calls
abbrev pub calls : Interface
calls = record { Returned = Answer; returns = λ a. a; Refuses = λ r n. r ≡ Err n; Accepts = λ r. is_refused r ≡ false; gives = Gives; moves = λ m ps to second r second'. Moves m ps (move to second) r second'; makes = Makes }

abbrev pub LentRefused : Type 0
LentRefused = RefusedSo calls

abbrev pub LentKept : Type 0
LentKept = RefusedKept calls

abbrev pub MakingKept : Type 0
MakingKept = UnmadeKept calls

abbrev pub LentChanged : Type 0
LentChanged = ChangedSo calls

abbrev pub LentMerged : Type 0
LentMerged = MergedSo calls

abbrev pub MakingChanged : Type 0
MakingChanged = MadeSo calls

abbrev pub MoveKept : Type 0
MoveKept = UnmovedKept calls

abbrev pub MoveChanged : Type 0
MoveChanged = MovedSo calls

abbrev pub MoveRefused : Type 0
MoveRefused = UnmovedSo calls

abbrev pub LentReads : Type 0
LentReads = ReadsSo calls

abbrev pub LentPages : Type 0
LentPages = PagesSo calls

abbrev pub LentOutcomes : Type 0
LentOutcomes = OutcomesSo calls

abbrev pub LentStriking : Type 0
LentStriking = StruckSame calls

abbrev pub LentMinutes : Type 0
LentMinutes = MinutesSo calls

abbrev pub LentScans : Type 0
LentScans = ScansSo calls

-- ---- the list
-- an accepted making frees every entry
unfoldable pub MakingFrees : Type 0
MakingFrees = (S : Shape) (m m' : List ℕ) (ps ps' : List ScanEntry) → Makes m ps S (Ok Fields.Done) m' ps' → ps' ≡ all_freed ps

-- a list of fewer than `most_scans` entries is refused with 2, whatever the memory
unfoldable pub ShortRefused : Type 0
ShortRefused =
    (m m' : List ℕ) (ps ps' : List ScanEntry) (c : Call) (r : Answer) → length ps < most_scans → Serves m ps c r m' ps' → r ≡ Err Refusal.Memory
