-- Whether a row is held or gone, told by its records, and whether it is ended, told by its newest one, are as in the history; so a reader sees a row as there.
use mathlib.Core.Path.{◌≡◌, refl, sym, ◌∙◌, ap, ap₂}
use mathlib.Core.Logic.{◌≢◌}
use mathlib.Core.Bool.{Bool, true, false, not, ◌&&◌, ◌||◌, or-false}
use mathlib.Core.List.{List}
use Prim.Native.Nat.{ℕ, zero, suc, ◌+◌, ◌*◌, ◌≤◌, ◌<◌}
use native.Mathlib.Omega.{arith}
use native.Mathlib.Nat.{le_refl, le_trans}
use lib.Dec.{leb, eqb, eqb-suc-zero}
use borrow.Author.Tests.{le-leb, ne_eqb}
use lib.ListN.{length, get_or}
use lib.Seq.{take-length}
use Rattle.terms.specs.declared.Shape.{Shape}
use Rattle.terms.specs.declared.Form.{Form}
use Rattle.history.specs.History.{History, Record, Commit, Snapshot, snapshot_at, latest_snapshot, State, unknown, active, aborted, committed, Content, original, setting, ending, committed_by, state_of, row_at, ends, range_of, records_of, seen_at, seen_by, ended, visible, active_other, held, gone, commit_of}
use Rattle.history.proofs.Lists.{clash}
use Rattle.history.specs.Invariants.{UpTo, Stamped}
use Rattle.history.specs.Records.{any_of_row, no_record, last_of}
use Rattle.history.proofs.Ranges.{any_range}
use Rattle.history.proofs.Links.{last_of_row}
use Rattle.history.proofs.Newest.{record_is, newest_is, ended_newest}
use Rattle.layout.specs.View.{View}
use Rattle.layout.specs.declared.Region.TheVariants.{Opens}
use Rattle.terms.specs.declared.ScanEntry.{ScanEntry}
use Rattle.model.specs.declared.Reader.{Reader}
use Rattle.model.specs.Stored.{RecordWords, row_in, record_in, committed_state, delete_kind, any_below}
use Rattle.model.specs.Reading.{reader, sees, sees_record, head_in, has_record, visible_in}
use Rattle.layout.specs.Regions.{slot}
use Rattle.model.specs.Calls.{open_other, stands_for, any_record, held_in, gone_in}
use Rattle.model.proofs.Lists.{any_below_lem}
use Rattle.model.proofs.Opens.{opens_is}
use Rattle.model.specs.Represents.{state_word, RowIs, ContentIs, TailOf, Represents, WellFormed}

pub slot_is : (S : Shape) (g k : ℕ) → slot S g (suc k) ≡ g * S.capacity + k
unfolding slot
slot_is S g k = omega arith

pub in_range : {S : Shape} {h : History} → WellFormed S h → (r : ℕ) → r < length h.rows → range_of r < S.ranges
unfolding range_of
in_range k r b = omega (arith, k.invariants.limits.rows)

-- ---- words of states and kinds
delete_word : (C : ℕ) (y : Content) (kind mask : ℕ) (value : ℕ → ℕ) → ContentIs C y kind mask value → delete_kind kind ≡ ends y
unfolding ends
delete_word C (original cs vs) kind mask value o = rw o.0
delete_word C (setting m vs) kind mask value o = rw o.0
delete_word C ending kind mask value o = rw o

not_and_not : (a b : Bool) → not (a && not b) ≡ (not a || b)
not_and_not true true = refl
not_and_not true false = refl
not_and_not false b = refl

-- ---- a reader, by the words and by the history
unfoldable pub SeesAs : History → Reader → (ℕ → Bool) → Type 0
SeesAs h who f = (k : ℕ) → sees who (state_word (state_of h k)) (commit_of (state_of h k)).stamp (commit_of (state_of h k)).ordinal k ≡ f k

pub sees_at : (h : History) (t : Snapshot) → SeesAs h (reader t 0) (seen_at h t)
unfolding SeesAs sees seen_at committed_by
sees_at h t k = elim (state_of h k) as (λ x. sees (reader t 0) (state_word x) (commit_of x).stamp (commit_of x).ordinal k ≡ committed_by t x)
    [ unknown ↦ refl | active ↦ refl | aborted ↦ refl | committed s ↦ or-false (leb s.stamp t.stamp && leb s.ordinal t.commits) ]

pub sees_own : (h : History) (me : ℕ) → state_of h me ≡ active → SeesAs h (reader (latest_snapshot h) me) (seen_by h me)
unfolding SeesAs sees seen_by seen_at committed_by state_of
sees_own h zero a k = clash (cc)
sees_own h (suc me) a k = go (state_of h k) refl
  where
    not_me : (s : State) → state_of h k ≡ s → s ≢ active → eqb k (suc me) ≡ false
    not_me s e f = ne_eqb k (suc me) (λ q. f (sym e ∙ ap (state_of h) q ∙ a))

    go : (s : State) → state_of h k ≡ s → sees (reader (latest_snapshot h) (suc me)) (state_word s) (commit_of s).stamp (commit_of s).ordinal k ≡ (eqb k (suc me) || committed_by (latest_snapshot h) s)
    go unknown e = rw (not_me unknown e (λ z. clash (cc)))
    go active e = rw (eqb-suc-zero me) (sym (or-false (eqb k (suc me))))
    go aborted e = rw (not_me aborted e (λ z. clash (cc)))
    go (committed s) e = rw (not_me (committed s) e (λ z. clash (cc))) (or-false (leb s.stamp h.last.stamp && leb s.ordinal h.last.ordinal))

-- a reader with all commits made sees no more with more
pub sees_all : (h : History) (s me n : ℕ) (f : ℕ → Bool) → Stamped h → h.last.ordinal ≤ n → SeesAs h (reader (snapshot_at h s) me) f → SeesAs h (reader record { stamp = s; commits = n } me) f
unfolding SeesAs sees Stamped
sees_all h s me n f i b w k = go (state_of h k) refl ∙ w k
  where
    go : (x : State) → state_of h k ≡ x → sees (reader record { stamp = s; commits = n } me) (state_word x) (commit_of x).stamp (commit_of x).ordinal k
        ≡ sees (reader (snapshot_at h s) me) (state_word x) (commit_of x).stamp (commit_of x).ordinal k
    go unknown e = refl
    go active e = refl
    go aborted e = refl
    go (committed a) e = let u = (i k a e).ordinals in rw (le-leb a.ordinal n (le_trans u b), le-leb a.ordinal h.last.ordinal u)

pub sees_not_aborted : (h : History) (who : Reader) (f : ℕ → Bool) → SeesAs h who f → (k : ℕ) → state_of h k ≡ aborted → f k ≡ false
unfolding SeesAs sees
sees_not_aborted h who f w k e = sym (w k) ∙ rw e

module _ {F : Form} {S : Shape} {v : View} {ps : List ScanEntry} {h : History} (o : Represents F S v ps h) (k : WellFormed S h) (r : ℕ) (b : r < length h.rows) where
  abbrev recs : List Record
  recs = records_of h (range_of r)

  -- record i of the row's range, and its words; two tests that say the same of them
  abbrev rec : ℕ → Record
  rec i = get_or (records_of h (range_of r)) i no_record

  abbrev words : ℕ → RecordWords
  words i = record_in v (range_of r * S.capacity + i)

  abbrev Alike : (RecordWords → Bool) → (Record → Bool) → Type 0
  Alike F f = (i : ℕ) → i < length recs → F (words i) ≡ f (rec i)

  tail : TailOf S (state_of h) (records_of h (range_of r)) v (range_of r)
  tail = o.tails (range_of r) (in_range k r b)

  row : RowIs (state_of h) (row_at h r) (records_of h (range_of r)) r (row_in v r)
  row = o.rows r b

  delete_is : (i : ℕ) → i < length recs → delete_kind (words i).kind ≡ ends (rec i).content
  delete_is i u = delete_word S.columns (rec i).content _ _ _ (tail.each i u).content

  -- a test of the newest record
  head_is : (F : RecordWords → Bool) (f : Record → Bool) → Alike F f → (has_record v r && F (head_in S v r)) ≡ newest_is f h r
  unfolding head_in newest_is
  head_is F f same =
      ap (λ (l : ℕ). not (eqb l 0) && F (record_in v (slot S (range_of r) l))) row.link ∙ go (last_of recs r (length recs)) refl
    where
      go : (l : ℕ) → last_of recs r (length recs) ≡ l → (not (eqb l 0) && F (record_in v (slot S (range_of r) l))) ≡ record_is f recs l
      go zero e = refl
      go (suc i) e = rw (eqb-suc-zero i, slot_is S (range_of r) i) (same i (last_of_row recs r (length recs) i e).0)

  -- a test of all used records of the row
  records_are : (F : RecordWords → Bool) (f : Record → Bool) → Alike F f → any_record S v r F ≡ any_of_row r f h.tail
  records_are F f same =
      ap (any_below (λ i. eqb (words i).row r && F (words i))) tail.used_all
      ∙ any_below_lem recs no_record _ (λ x. eqb x.row r && f x) (length recs) (le_refl _) (λ i u. ap₂ (λ (n : ℕ) (b : Bool). eqb n r && b) (tail.each i u).row (same i u))
      ∙ ap (any_of_row r f) (take-length recs)
      ∙ any_range h r f

  other_is : (t n : ℕ) → open_other v t n ≡ active_other h t n
  unfolding open_other active_other state_of
  other_is t n = ap (λ (b : Bool). b && not (eqb n t)) (opens_is h.transactions (v Opens) o.opens n)

  pub held_is : (t : ℕ) → held_in S v t r ≡ held h t r
  unfolding held_in held
  held_is t = rw (row.transaction, other_is t (row_at h r).inserter, records_are (λ y. open_other v t y.transaction) (λ x. active_other h t x.transaction) same)
    where
      same : Alike (λ y. open_other v t y.transaction) (λ x. active_other h t x.transaction)
      same i u = rw (tail.each i u).transaction (other_is t _)

  -- who stands for the caller: itself and what is committed
  stands_is : (t n : ℕ) → stands_for t n (state_word (state_of h n)) ≡ seen_by h t n
  unfolding seen_by seen_at committed_by Stamped
  stands_is t n = ap (λ (b : Bool). eqb n t || b)
      (elim (state_of h n) as (λ x. state_of h n ≡ x → committed_state (state_word x) ≡ committed_by (latest_snapshot h) x)
      [ unknown ↦ λ e. refl | active ↦ λ e. refl | aborted ↦ λ e. refl | committed s ↦ λ e. made s (k.invariants.order.stamps n s e) ] refl)
    where
      made : (s : Commit) → UpTo s h.last → true ≡ (leb s.stamp h.last.stamp && leb s.ordinal h.last.ordinal)
      made s u = rw (le-leb s.stamp h.last.stamp u.stamps, le-leb s.ordinal h.last.ordinal u.ordinals)

  pub gone_is : (t : ℕ) → gone_in S v t r ≡ gone h t r
  unfolding gone_in gone visible ended
  gone_is t =
      rw (
        row.state,
        row.transaction,
        stands_is t (row_at h r).inserter,
        records_are (λ y. delete_kind y.kind && stands_for t y.transaction y.state) (λ x. ends x.content && seen_by h t x.transaction) same,
      )
      (sym (not_and_not (seen_by h t (row_at h r).inserter) _))
    where
      same : Alike (λ y. delete_kind y.kind && stands_for t y.transaction y.state) (λ x. ends x.content && seen_by h t x.transaction)
      same i u = let x = tail.each i u in rw (delete_is i u, x.state, x.transaction, stands_is t (rec i).transaction)

  pub visible_is : (who : Reader) (f : ℕ → Bool) → SeesAs h who f → visible_in S v who r ≡ visible f h r
  unfolding visible_in visible SeesAs
  visible_is who f w =
      rw (row.state, row.stamp, row.ordinal, row.transaction, w (row_at h r).inserter, head_is (λ y. delete_kind y.kind && sees_record who y) (λ x. ends x.content && f x.transaction) same)
      (rw (ended_newest h f r k.invariants.order (sees_not_aborted h who f w)))
    where
      same : Alike (λ y. delete_kind y.kind && sees_record who y) (λ x. ends x.content && f x.transaction)
      same i u = let x = tail.each i u in rw (delete_is i u, x.state, x.stamp, x.ordinal, x.transaction, w (rec i).transaction)
