-- What a reader does not see changes nothing for it: a row that a snapshot does not see it never will, records of transactions that it does not see leave every read
-- as it was, and neither change a sum. Stability wants it, and so does the store's proof, where an open scan's pages hold the rows that the scan may see.
use mathlib.Core.Path.{◌≡◌, refl, ◌∙◌, ap, fun_ext}
use mathlib.Core.Bool.{Bool, false, not, ◌&&◌, and-false, or-false}
use mathlib.Core.List.{List, [], ◌∷◌, ◌++◌, append-nil}
use Prim.Native.Nat.{ℕ, zero, suc, ◌≤◌, ◌<◌}
use native.Mathlib.Omega.{arith}
use native.Mathlib.Nat.{le_refl, le_trans}
use native.Mathlib.Decide.{ℕ_discrete, dec_lt}
use lib.Dec.{eqb}
use lib.ListN.{length, length-append, get_or-append, get_or-eq_default}
use lib.Seq.{get_or-append_seam}
use lib.IntN.{ℤ}
use Rattle.terms.specs.declared.Shape.{Shape}
use Rattle.std.specs.Prelude.{Ok}
use Rattle.terms.specs.Answers.{Answer}
use Rattle.terms.specs.declared.Fields.{Fields}
use Rattle.history.specs.History.{Call, History, Row, Record, Snapshot, Version, filterb, up_to, total, rows_seen, sum_of, visible, version_of, inserted, inserted_value, row_at, seen_at, committed_by, state_of, ends, ended, last_setting, with_rows, with_tail, with_transactions, with_scans, with_merges}
use Rattle.history.specs.Lists.{All, nil, cons}
use Rattle.history.proofs.Lists.{by_cases, all_map, all_append, all_filterb, any_append, any_none, filterb_append}
use Rattle.history.specs.Steps.{Step, nothing, new_states, row_given, records_made, new_scans, new_merges}
use Rattle.history.proofs.Steps.{made_new}
use Rattle.history.proofs.States.{states_last, active_unseen, seen_moved}
use Rattle.history.proofs.Ranges.{last_append, last_unfound}

-- ---- records that are not seen change no read
module _ (sees : ℕ → Bool) (r : ℕ) (l : List Record) {m : List Record} (unseen : All (λ (x : Record). sees x.transaction ≡ false) m) where
  pub ended_same : ended sees r (l ++ m) ≡ ended sees r l
  unfolding ended
  ended_same =
      any_append _ l m
      ∙ rw (any_none (λ x. eqb x.row r && (ends x.content && sees x.transaction)) (all_map (λ x (e : sees x.transaction ≡ false). simp (e, and-false) tt) unseen)) (or-false _)

  pub last_same : (c : ℕ) (v : Version) → last_setting sees r c v (l ++ m) ≡ last_setting sees r c v l
  last_same c v = last_append sees r c v l m ∙ last_unfound sees r c _ (all_map (λ x (e : sees x.transaction ≡ false). simp (e, and-false)) unseen)

-- ---- a sum for snapshot t, which has no more commits than were made
pub record SumStays (t : Snapshot) (c : ℕ) (a : Answer) (h : History) : Type 0 where
  pub same : sum_of (seen_at h t) h c ≡ a
  pub made : t.commits ≤ h.last.ordinal

-- a sum by which rows are seen and what each gives
summed : (ℕ → Bool) → (ℕ → ℤ) → List ℕ → Answer
summed f g l = Ok (Fields.Sum (length (filterb f l)) (total g (filterb f l)))

total_agree : {f g : ℕ → ℤ} {l : List ℕ} → All (λ r. f r ≡ g r) l → total f l ≡ total g l
unfolding total
total_agree nil = refl
total_agree (cons e es) = rw (e, total_agree es)

filter_agree : {f g : ℕ → Bool} {l : List ℕ} → All (λ r. f r ≡ g r) l → filterb f l ≡ filterb g l
filter_agree nil = refl
filter_agree (cons e es) = rw (e, filter_agree es)

summed_agree : {f f' : ℕ → Bool} {g g' : ℕ → ℤ} {l : List ℕ} → All (λ r. f r ≡ f' r) l → All (λ r. g r ≡ g' r) l → summed f g l ≡ summed f' g' l
unfolding summed
summed_agree {f' = f'} a b = rw (filter_agree a, total_agree (all_filterb f' b))

-- a last row that is not seen
summed_unseen : (f : ℕ → Bool) (g : ℕ → ℤ) (l : List ℕ) (r : ℕ) → f r ≡ false → summed f g (l ++ r ∷ []) ≡ summed f g l
unfolding summed
summed_unseen f g l r e = rw (filterb_append, e, append-nil)

up_to_below : (n : ℕ) → All (λ r. r < n) (up_to n)
up_to_below zero = nil
up_to_below (suc n) = all_append (all_map (λ r b. omega arith) (up_to_below n)) (cons (le_refl _) nil)

module _ {t : Snapshot} {c : ℕ} {a : Answer} {h : History} (s : SumStays t c a h) where
  sum_tail : {m : List Record} → All (λ (x : Record). seen_at h t x.transaction ≡ false) m → SumStays t c a (with_tail h (h.tail ++ m))
  unfolding sum_of rows_seen summed visible version_of inserted seen_at state_of row_at inserted_value with_tail
  sum_tail u =
      record {
        same = summed_agree {l = up_to (length h.rows)}
            (all_map (λ r _. ap (λ (b : Bool). seen_at h t (row_at h r).inserter && not b) (ended_same (seen_at h t) r h.tail u)) (up_to_below (length h.rows)))
            (all_map (λ r _. ap (λ (v : Version). v.value) (last_same (seen_at h t) r h.tail u c (inserted h r c))) (up_to_below (length h.rows)))
            ∙ s.same;
        made = s.made;
      }

  -- one row more, of a transaction that is not seen
  sum_row : (x : Row) → seen_at h t x.inserter ≡ false → SumStays t c a (with_rows h (h.rows ++ x ∷ []))
  unfolding sum_of rows_seen summed visible version_of inserted seen_at state_of row_at inserted_value with_rows
  sum_row x u =
      let n : ℕ = length h.rows in
      let e : length (h.rows ++ x ∷ []) ≡ suc n = simp length-append (omega arith) in
      record {
        same = rw e
            (summed_unseen _ _ (up_to n) n (rw (get_or-append_seam h.rows x [] record { inserter = 0; values = [] }, u))
            ∙ summed_agree {l = up_to n} (all_map (λ r b. rw (get_or-append h.rows (x ∷ []) record { inserter = 0; values = [] } r b)) (up_to_below n))
            (all_map (λ r b. rw (get_or-append h.rows (x ∷ []) record { inserter = 0; values = [] } r b)) (up_to_below n))
            ∙ s.same);
        made = s.made;
      }

pub sum_step : {S : Shape} {t : Snapshot} {c : ℕ} {a : Answer} {h h' : History} {x : Call} → SumStays t c a h → Step S h x h' → SumStays t c a h'
unfolding sum_of rows_seen visible version_of inserted seen_at state_of row_at inserted_value with_transactions with_scans with_merges
sum_step s nothing = s
sum_step {t = t} {c = c} {h = h} s (new_states n) =
    record {
      same = ap (λ (sees : ℕ → Bool). sum_of sees h c) (fun_ext (λ j. seen_moved n t j s.made)) ∙ s.same;
      made = le_trans s.made (states_last n).ordinals;
    }
sum_step {t = t} {h = h} s (row_given k vs o _) = sum_row s _ (active_unseen h t k o)
sum_step {t = t} {h = h} s (records_made k r w m _) =
    sum_tail s (all_map (λ x n. ap (seen_at h t) n.transaction ∙ active_unseen h t k w.active_own) (made_new m))
sum_step s (new_scans _) = record { same = s.same; made = s.made }
sum_step s (new_merges _) = record { same = s.same; made = s.made }

-- ---- a row that snapshot t does not see
pub no_row : (h : History) (t : Snapshot) (r : ℕ) → length h.rows ≤ r → seen_at h t (row_at h r).inserter ≡ false
unfolding seen_at state_of committed_by row_at
no_row h t r b = rw (get_or-eq_default h.rows record { inserter = 0; values = [] } b)

pub unseen_step : {S : Shape} {x : Call} {h h' : History} → Step S h x h' → (t : Snapshot) (r : ℕ) → t.commits ≤ h.last.ordinal → seen_at h t (row_at h r).inserter ≡ false
    → seen_at h' t (row_at h' r).inserter ≡ false
unfolding seen_at state_of row_at with_transactions with_rows with_tail with_scans with_merges
unseen_step nothing t r b u = u
unseen_step {h = h} (new_states n) t r b u = seen_moved n t (row_at h r).inserter b ∙ u
unseen_step {h = h} (row_given k vs o _) t r b u = by_cases (ℕ_discrete r (length h.rows))
    (λ e. rw (e, get_or-append_seam h.rows record { inserter = k; values = vs } [] record { inserter = 0; values = [] }) (active_unseen h t k o))
    (λ f. by_cases (dec_lt r (length h.rows))
    (λ l. rw (get_or-append h.rows (record { inserter = k; values = vs } ∷ []) record { inserter = 0; values = [] } r l) u)
    (λ l. no_row (with_rows h (h.rows ++ record { inserter = k; values = vs } ∷ [])) t r (simp length-append (omega arith))))
unseen_step (records_made _ _ _ _ _) t r b u = u
unseen_step (new_scans _) t r b u = u
unseen_step (new_merges _) t r b u = u
