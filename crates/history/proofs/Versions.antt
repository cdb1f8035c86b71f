-- A row and column's values in their order (`versions`): the last is what a reader reads, and they stay as long as what the reader sees does. The crossings up to a minute
-- are told by them.
use mathlib.Core.Path.{◌≡◌, refl, sym, subst, ◌∙◌, ap}
use mathlib.Core.Bool.{Bool, true, false, cond, ◌&&◌, ◌||◌, and-false}
use mathlib.Core.List.{List, [], ◌∷◌, ◌++◌, append_assoc}
use Prim.Native.Nat.{ℕ, ◌≤◌, ◌<◌}
use native.Mathlib.Omega.{arith}
use native.Mathlib.Nat.{le_trans}
use lib.Dec.{T, eqb, eqb→eq}
use lib.ListN.{length, length-append, get_or-append}
use lib.IntN.{ℤ}
use Rattle.terms.specs.Measures.{most_columns}
use Rattle.terms.specs.declared.Shape.{Shape}
use Rattle.history.specs.History.{Call, History, Row, Record, Content, original, any, filterb, range_of, records_of, crossings_from, Snapshot, State, Commit, Version, Dated, dated, inserted, inserted_value, row_at, version_in, sets, last_setting, version_of, visible, shown, read, settings_seen, values_seen, last_of_each, versions, seen_at, state_of, with_rows, with_tail, with_transactions, with_scans, with_merges, setting, ending}
use Rattle.history.specs.Claims.{last_shown, VersionsRead}
use Rattle.history.specs.Lists.{All, nil, cons, Pairs, empty, ahead}
use Rattle.history.specs.Records.{is_original, was_set, has_original}
use Rattle.history.specs.Invariants.{RowFollows, InOrder}
use Rattle.history.proofs.Lists.{by_test, parts, all_map, is_true, is_false, refuted, clash}
use Rattle.history.specs.Steps.{NewStates, Step, nothing, new_states, row_given, records_made, new_scans, new_merges}
use Rattle.history.proofs.Steps.{made_new}
use Rattle.history.proofs.States.{states_last, active_unseen, seen_moved, seen_stays}
use Rattle.history.proofs.Ranges.{found, elsewhere}

-- ---- the last value is the one read
last_behind : (v w : Dated) (l : List Dated) → last_shown (v ∷ last_of_each (w ∷ l)) ≡ last_shown (last_of_each (w ∷ l))
unfolding last_of_each
last_behind v w [] = refl
last_behind v w (x ∷ l) = by_test (λ b. last_shown (v ∷ cond b (last_of_each (x ∷ l)) (w ∷ last_of_each (x ∷ l))) ≡ last_shown (cond b (last_of_each (x ∷ l)) (w ∷ last_of_each (x ∷ l))))
    (eqb w.setter x.setter) (λ _. last_behind v x l) (λ _. refl)

last_of_each_lem : (l : List Dated) → last_shown (last_of_each l) ≡ last_shown l
unfolding last_of_each
last_of_each_lem [] = refl
last_of_each_lem (v ∷ []) = refl
last_of_each_lem (v ∷ w ∷ l) = by_test (λ b. last_shown (cond b (last_of_each (w ∷ l)) (v ∷ last_of_each (w ∷ l))) ≡ last_shown (w ∷ l)) (eqb v.setter w.setter)
    (λ _. last_of_each_lem (w ∷ l)) (λ _. last_behind v w l ∙ last_of_each_lem (w ∷ l))

last_seen : (sees : ℕ → Bool) (h : History) (r c : ℕ) (v : Version) (l : List Record)
    → shown h (last_setting sees r c v l) ≡ last_shown (dated (state_of h) v ∷ settings_seen sees (state_of h) r c l)
unfolding shown last_setting settings_seen dated
last_seen sees h r c v [] = refl
last_seen sees h r c v (x ∷ l) =
    by_test (λ b. shown h (last_setting sees r c (cond b (version_in c x) v) l)
    ≡ last_shown (dated (state_of h) v ∷ cond b (dated (state_of h) (version_in c x) ∷ settings_seen sees (state_of h) r c l) (settings_seen sees (state_of h) r c l)))
    (found sees r c x) (λ _. last_seen sees h r c (version_in c x) l) (λ _. last_seen sees h r c v l)

pub versions_read : VersionsRead
unfolding VersionsRead read visible version_of versions values_seen
versions_read sees h r c t =
    let seen : T (sees (row_at h r).inserter) = (parts (sees (row_at h r).inserter) _ t).0 in
    rw (is_true (visible sees h r) t, is_true (sees (row_at h r).inserter) seen) (last_seen sees h r c (inserted h r c) h.tail ∙ sym (last_of_each_lem _))

-- ---- what a reader sees of a row and column
-- is told by whom it sees and by their states
settings_agree : (f f' : ℕ → Bool) (st st' : ℕ → State) (r c : ℕ) (l : List Record) → ((k : ℕ) → f' k ≡ f k) → ((k : ℕ) → T (f k) → st' k ≡ st k)
    → settings_seen f' st' r c l ≡ settings_seen f st r c l
unfolding settings_seen dated version_in
settings_agree f f' st st' r c [] e s = refl
settings_agree f f' st st' r c (x ∷ l) e s =
    rw (e x.transaction, settings_agree f f' st st' r c l e s)
    (by_test (λ b. cond b (dated st' (version_in c x) ∷ settings_seen f st r c l) (settings_seen f st r c l) ≡ cond b (dated st (version_in c x) ∷ settings_seen f st r c l) (settings_seen f st r c l))
    (found f r c x)
    (λ b. rw (s x.transaction (parts (sets c x.content) _ (parts (eqb x.row r) _ b).1).1))
    (λ _. refl))

-- and not by records of those whom it does not see
settings_same : (f : ℕ → Bool) (st : ℕ → State) (r c : ℕ) (l : List Record) {m : List Record} → All (λ (x : Record). f x.transaction ≡ false) m
    → settings_seen f st r c (l ++ m) ≡ settings_seen f st r c l
unfolding settings_seen
settings_same f st r c [] nil = refl
settings_same f st r c [] (cons e es) = simp (e, and-false) (settings_same f st r c [] es)
settings_same f st r c (x ∷ l) u = rw (settings_same f st r c l u)

-- what stays: the values of row r and column c for snapshot t, which has no more commits than were made
pub record ValuesStay (t : Snapshot) (r c : ℕ) (l : List Dated) (h : History) : Type 0 where
  pub same : values_seen (seen_at h t) h r c ≡ l
  pub made : t.commits ≤ h.last.ordinal
  pub given : r < length h.rows

module _ {t : Snapshot} {r c : ℕ} {l : List Dated} {h : History} (s : ValuesStay t r c l h) where
  states_stay : {ts : List State} {ks : List ℕ} {last : Commit} → NewStates h ts ks last → ValuesStay t r c l (with_transactions h ts ks last)
  unfolding values_seen seen_at state_of row_at inserted inserted_value with_transactions dated
  states_stay {ts} {ks} {last} n =
      let h' : History = with_transactions h ts ks last in
      let k : ℕ = (row_at h r).inserter in
      record {
        same = rw (
          seen_moved n t k s.made,
          settings_agree (seen_at h t) (seen_at h' t) (state_of h) (state_of h') r c h.tail (λ j. seen_moved n t j s.made) (λ j u. seen_stays n t j s.made u),
        )
            (by_test (λ b. cond b (dated (state_of h') (inserted h r c) ∷ []) [] ++ settings_seen (seen_at h t) (state_of h) r c h.tail ≡ l) (seen_at h t k)
            (λ u. rw (seen_stays n t k s.made u) (rw (is_true (seen_at h t k) u) at s.same))
            (λ u. rw (is_false (seen_at h t k) u) at s.same));
        made = le_trans s.made (states_last n).ordinals;
        given = s.given;
      }

  tail_stays : {m : List Record} → All (λ (x : Record). seen_at h t x.transaction ≡ false) m → ValuesStay t r c l (with_tail h (h.tail ++ m))
  unfolding values_seen seen_at state_of row_at inserted inserted_value with_tail dated
  tail_stays u = record { same = rw (settings_same (seen_at h t) (state_of h) r c h.tail u) s.same; made = s.made; given = s.given }

  rows_stay : (x : Row) → ValuesStay t r c l (with_rows h (h.rows ++ x ∷ []))
  unfolding values_seen seen_at state_of row_at inserted inserted_value with_rows dated
  rows_stay x =
      let g = s.given in
      record { same = rw get_or-append s.same; made = s.made; given = simp length-append (omega arith) }

pub values_step : {S : Shape} {t : Snapshot} {r c : ℕ} {l : List Dated} {h h' : History} {x : Call} → ValuesStay t r c l h → Step S h x h' → ValuesStay t r c l h'
unfolding values_seen seen_at state_of row_at inserted inserted_value with_scans with_merges dated
values_step s nothing = s
values_step s (new_states n) = states_stay s n
values_step s (row_given k vs _ _) = rows_stay s _
values_step {t = t} {h = h} s (records_made k r' w m _) =
    tail_stays s (all_map (λ x n. ap (seen_at h t) n.transaction ∙ active_unseen h t k w.active_own) (made_new m))
values_step s (new_scans _) = search
values_step s (new_merges _) = search

-- ---- as the records tell them
-- A store has the inserted value of a column in the tail, once an update has set the column: a record of original values tells it there, whoever's update made it.
sets_original : (c : ℕ) (y : Content) → T (is_original c y) → sets c y ≡ false
unfolding sets is_original
sets_original c (original cs vs) t = refl
sets_original c (setting mask values) t = elim t [ ]
sets_original c ending t = elim t [ ]

none_true : (a b : Bool) → (a || b) ≡ false → (a ≡ false) × (b ≡ false)
none_true true b e = clash (cc)
none_true false b e = (refl, e)

-- a fact that all elements give of each that passes, where one does
from_any : {A : Type 0} {P : A → Type 0} {l : List A} (q : A → Bool) (X : Type 0) → All P l → any q l ≡ true → ((y : A) → P y → T (q y) → X) → X
from_any q X nil e f = clash (cc)
from_any q X (cons {x = x} {l = l} p ps) e f =
    by_test (λ b. (b || any q l) ≡ true → X) (q x) (λ t _. f x p t) (λ _ e. from_any q X ps e f) e

module _ (f : ℕ → Bool) (st : ℕ → State) (insert : Version) (r c : ℕ) where
  abbrev inserts : List Dated
  inserts = cond (f insert.setter) (dated st insert ∷ []) []

  -- what one record tells a reader of row r and column c
  abbrev pub told : Record → List Dated
  told x = cond (eqb x.row r) (cond (sets c x.content && f x.transaction) (dated st (version_in c x) ∷ []) (cond (is_original c x.content) inserts [])) []

  abbrev pub all_told : List Record → List Dated
  all_told [] = []
  all_told (x ∷ l) = told x ++ all_told l

  pub told_append : (l m : List Record) → all_told (l ++ m) ≡ all_told l ++ all_told m
  told_append [] m = refl
  told_append (x ∷ l) m = rw (told_append l m) (sym (append_assoc (told x) (all_told l) (all_told m)))

  abbrev settings : List Record → List Dated
  settings l = settings_seen f st r c l

  abbrev original_here : Record → Bool
  original_here x = eqb x.row r && is_original c x.content

  abbrev setting_here : Record → Bool
  setting_here x = eqb x.row r && sets c x.content

  -- a record that holds no original tells what it sets
  told_setting : (x : Record) → original_here x ≡ false → (l : List Record) → told x ++ settings l ≡ settings (x ∷ l)
  unfolding settings_seen
  told_setting x e l = go (eqb x.row r) (sets c x.content && f x.transaction) (is_original c x.content) e
    where
      go : (a s o : Bool) → (a && o) ≡ false
          → cond a (cond s (dated st (version_in c x) ∷ []) (cond o inserts [])) [] ++ settings l ≡ cond (a && s) (dated st (version_in c x) ∷ settings l) (settings l)
      go true true o e = refl
      go true false o e = rw e
      go false s o e = refl

  -- and one that holds the original tells that, and sets nothing
  told_original : (x : Record) → T (original_here x) → (l : List Record) → (told x ≡ inserts) × (settings (x ∷ l) ≡ settings l)
  unfolding settings_seen
  told_original x t l =
      let p = parts (eqb x.row r) _ t in
      rw (is_true (eqb x.row r) p.0, sets_original c x.content p.1, is_true (is_original c x.content) p.1) (refl, refl)

  no_original : {l : List Record} → All (λ x. original_here x ≡ false) l → all_told l ≡ settings l
  unfolding settings_seen
  no_original nil = refl
  no_original (cons {x = x} {l = l} e es) = rw (no_original es) (told_setting x e l)

  -- a record that sets nothing of it tells nothing behind the original
  silent : (x : Record) → original_here x ≡ false → setting_here x ≡ false → (l : List Record) → (told x ≡ []) × (settings (x ∷ l) ≡ settings l)
  unfolding settings_seen
  silent x e q l = go (eqb x.row r) (sets c x.content) (is_original c x.content) e q
    where
      go : (a s o : Bool) → (a && o) ≡ false → (a && s) ≡ false
          → (cond a (cond (s && f x.transaction) (dated st (version_in c x) ∷ []) (cond o inserts [])) [] ≡ [])
          × (cond (a && (s && f x.transaction)) (dated st (version_in c x) ∷ settings l) (settings l) ≡ settings l)
      go true s o e q = rw (e, q) (refl, refl)
      go false s o e q = (refl, refl)

  -- the original comes before every setting of the column
  pub original_told : {l : List Record} → Pairs (RowFollows st) l → has_original l r c ≡ true → all_told l ≡ inserts ++ settings l
  unfolding has_original
  original_told empty e = clash (cc)
  original_told (ahead {x = x} {l = l} p ps) e =
      by_cases_on (original_here x) (λ t. first t) (λ q. later (rw q at e) (original_told ps (rw q at e)) q)
    where
      by_cases_on : (b : Bool) → (T b → all_told (x ∷ l) ≡ inserts ++ settings (x ∷ l)) → (b ≡ false → all_told (x ∷ l) ≡ inserts ++ settings (x ∷ l)) → all_told (x ∷ l) ≡ inserts ++ settings (x ∷ l)
      by_cases_on true g k = g tt
      by_cases_on false g k = k refl

      -- both records of row r
      one_row_lem : (y : Record) → T (eqb x.row r) → T (original_here y) → x.row ≡ y.row
      one_row_lem y t u = eqb→eq x.row r t ∙ sym (eqb→eq y.row r (parts (eqb y.row r) _ u).0)

      first : T (original_here x) → all_told (x ∷ l) ≡ inserts ++ settings (x ∷ l)
      first t =
          let o = told_original x t l in
          let none : All (λ y. original_here y ≡ false) l = all_map (λ y (g : RowFollows st x y). refuted (original_here y)
          (λ u. subst T ((g (one_row_lem y (parts (eqb x.row r) _ t).0 u)).original_first c (parts (eqb y.row r) _ u).1).1 (parts (eqb x.row r) _ t).1)) p in
          rw (o.0, o.1, no_original none)

      later : any original_here l ≡ true → all_told l ≡ inserts ++ settings l → original_here x ≡ false → all_told (x ∷ l) ≡ inserts ++ settings (x ∷ l)
      later u rest q =
          let unset : setting_here x ≡ false = from_any original_here (setting_here x ≡ false) p u
          (λ y (g : RowFollows st x y) w. refuted (setting_here x) (λ t. subst T ((g (one_row_lem y (parts (eqb x.row r) _ t).0 w)).original_first c (parts (eqb y.row r) _ w).1).0 (parts (eqb x.row r) _ t).1)) in
          let o = silent x q unset l in
          rw (o.0, o.1) rest

  -- a column that was never set has no original, and no setting
  pub unset_told : (l : List Record) → has_original l r c ≡ false → was_set l r c ≡ false → (all_told l ≡ []) × (settings l ≡ [])
  unfolding has_original was_set settings_seen
  unset_told [] e q = (refl, refl)
  unset_told (x ∷ l) e q =
      let a = none_true (original_here x) _ e in
      let b = none_true (setting_here x) _ q in
      let o = silent x a.0 b.0 l in
      let rest = unset_told l a.1 b.1 in
      rw (o.0, o.1) rest

  -- the records of the row's range tell all
  near_told : (l : List Record) → all_told (filterb (λ x. eqb (range_of x.row) (range_of r)) l) ≡ all_told l
  near_told [] = refl
  near_told (x ∷ l) = by_test (λ b. all_told (cond b (x ∷ filterb (λ x. eqb (range_of x.row) (range_of r)) l) (filterb (λ x. eqb (range_of x.row) (range_of r)) l)) ≡ told x ++ all_told l)
      (eqb (range_of x.row) (range_of r)) (λ _. rw (near_told l)) (λ n. rw (elsewhere r x n, near_told l))

-- the crossings of what the records of row r's range tell
pub crossings_told : (h : History) → InOrder h → (f : ℕ → Bool) (r c : ℕ) → c < most_columns → (mark : ℤ) (from : ℕ)
    → crossings_from mark from (last_of_each (all_told f (state_of h) (inserted h r c) r c (records_of h (range_of r)))) ≡ crossings_from mark from (versions f h r c)
unfolding versions values_seen records_of inserted
crossings_told h i f r c b mark from =
    rw (near_told f (state_of h) (inserted h r c) r c h.tail) (go (has_original h.tail r c) refl)
  where
    go : (o : Bool) → has_original h.tail r c ≡ o
        → crossings_from mark from (last_of_each (all_told f (state_of h) (inserted h r c) r c h.tail)) ≡ crossings_from mark from (last_of_each (values_seen f h r c))
    go true e = ap (λ (l : List Dated). crossings_from mark from (last_of_each l)) (original_told f (state_of h) (inserted h r c) r c i.follow e)
    go false e =
        let none = unset_told f (state_of h) (inserted h r c) r c h.tail e (i.originals r c b ∙ e) in
        rw (none.0, none.1) (by_test (λ s. crossings_from mark from (last_of_each []) ≡ (crossings_from mark from (last_of_each (cond s (dated (state_of h) (inserted h r c) ∷ []) [] ++ []))))
        (f (row_at h r).inserter) (λ _. unfold crossings_from last_of_each in refl) (λ _. unfold crossings_from last_of_each in refl))
