-- The pass, value by value: what it has listed and where it stands give the crossings of all values, whatever comes.
use Prim.Native.Nat.{ℕ, zero, suc, ◌+◌, ◌*◌, ◌≤◌, ◌<◌}
use Rattle.std.specs.Prelude.{Option, Some, None}
use Rattle.std.specs.Option.{option_map, option_map_or, option_to_list, MatchOption}
use mathlib.Core.Path.{◌≡◌, refl, sym, ap, ◌∙◌}
use mathlib.Core.Bool.{Bool, true, false, cond}
use mathlib.Core.List.{List, [], ◌∷◌, ◌++◌, map, map-append, append_assoc, append-nil}
use native.Mathlib.Omega.{arith}
use native.Mathlib.Nat.{zero-add}
use native.Mathlib.Numerals.{add-one}
use lib.Dec.{ltb, eqb, ltb→lt, nltb→le}
use lib.ListN.{length, get_or, set, take, length-append}
use borrow.Author.Tests.{lt-ltb, le-ltb}
use lib.Seq.{sets, length-sets, take_all, take-length, take-append-le}
use lib.IntN.{ℤ}
use Rattle.words.proofs.Sets.{sets_append}
use Rattle.terms.specs.declared.Shape.{Shape}
use Rattle.layout.specs.declared.Region.{Region}
use Rattle.layout.specs.View.{View, used_in}
use Rattle.std.specs.Prelude.{Ok, Err}
use Rattle.terms.specs.declared.Fields.{Fields}
use Rattle.terms.specs.declared.Refusal.{Refusal}
use Rattle.history.specs.History.{outnumber, Dated, above, last_of_each, crossings_from, range_of}
use Rattle.history.proofs.Lists.{by_test, clash}
use Rattle.model.specs.declared.Reader.{Reader}
use Rattle.model.specs.Stored.{record_in}
use Rattle.model.specs.Versions.{tells, values_in}
use Rattle.model.proofs.lookups.Heads.{slot_is}
use Rattle.crossing.proofs.Records.{other_row}
use Rattle.crossing.specs.declared.Query.{Query}
use Rattle.crossing.specs.declared.Told.{Told}
use Rattle.crossing.specs.declared.Pass.{Pass}
use Rattle.crossing.specs.Steps.{told, same_setter, counted, noted, placed, lasts, behind, Stands, told_at, Continues, NoneTold, listed_in, Lists, ListsAll}

-- ---- the crossings, by what the code holds of values
lasts_map : (mark : ℤ) (l : List Dated) → lasts (map (told mark) l) ≡ map (told mark) (last_of_each l)
unfolding last_of_each
lasts_map mark [] = refl
lasts_map mark (v ∷ []) = refl
lasts_map mark (v ∷ w ∷ l) =
    rw (lasts_map mark (w ∷ l))
    (by_test (λ b. cond b (map (told mark) (last_of_each (w ∷ l))) (told mark v ∷ map (told mark) (last_of_each (w ∷ l))) ≡ map (told mark) (cond b (last_of_each (w ∷ l)) (v ∷ last_of_each (w ∷ l))))
    (eqb v.setter w.setter) (λ _. refl) (λ _. refl))

one_more : {A : Type 0} (b : Bool) (x : A) (l : List A) → cond b (x ∷ l) l ≡ cond b (x ∷ []) [] ++ l
one_more true x l = refl
one_more false x l = refl

behind_value : (mark : ℤ) (from : ℕ) (v : Dated) (l : List Dated) → behind from (Some (above mark v)) (map (told mark) l) ≡ crossings_from mark from (v ∷ l)
unfolding crossings_from
behind_value mark from v [] = refl
behind_value mark from v (w ∷ l) = rw (behind_value mark from w l)

pub crossings_behind : (mark : ℤ) (from : ℕ) (l : List Dated) → crossings_from mark from (last_of_each l) ≡ behind from None (lasts (map (told mark) l))
crossings_behind mark from l = go (last_of_each l) ∙ ap (behind from None) (sym (lasts_map mark l))
  where
    go : (m : List Dated) → crossings_from mark from m ≡ behind from None (map (told mark) m)
    go [] = unfold crossings_from in refl
    go (v ∷ m) = sym (behind_value mark from v m)

-- ---- what is written
pub noted_few : (from : ℕ) (p : Pass) → length (noted from p) ≤ 1
noted_few from p = go p.last
  where
    go : (o : Option Told) → length (behind from p.before (option_to_list o)) ≤ 1
    go None = omega arith
    go (Some x) = by_test (λ b. length (cond b (x.stamp ∷ []) []) ≤ 1) (counted from p.before x) (λ _. omega arith) (λ _. omega arith)

-- one stamp more, or none
placed_more : (limit : ℕ) (out f m : List ℕ) → length m ≤ 1 → placed limit (length f) m (sets out 0 (take limit f)) ≡ sets out 0 (take limit (f ++ m))
placed_more limit out f [] few =
    rw (append-nil f) (by_test (λ w. cond w (sets out 0 (take limit f)) (sets out 0 (take limit f)) ≡ sets out 0 (take limit f)) (ltb (length f) limit) (λ _. refl) (λ _. refl))
placed_more limit out f (s ∷ []) few =
    by_test (λ w. cond w (sets (sets out 0 (take limit f)) (length f) (s ∷ [])) (sets out 0 (take limit f)) ≡ sets out 0 (take limit (f ++ s ∷ []))) (ltb (length f) limit)
    (λ t.
    let k : length f < limit = ltb→lt (length f) limit t in
    rw (take_all limit f (omega arith), take_all limit (f ++ s ∷ []) (omega (arith, length-append f (s ∷ [])))) (rw zero-add at (sets_append f (s ∷ []) out 0)))
    (λ t. ap (sets out 0) (sym (take-append-le limit f (s ∷ []) (nltb→le (length f) limit t))))
placed_more limit out f (s ∷ t ∷ m) few = absurd (omega arith)

-- ---- where the pass stands
pub stands_first : (from limit : ℕ) (out : List ℕ) → Stands from limit [] out record { last = None; before = None; found = 0 } out
stands_first from limit out = record { listed = []; found_is = refl; written = go limit; fresh = λ e. refl; further = λ more. refl }
  where
    go : (n : ℕ) → out ≡ sets out 0 (take n [])
    go zero = refl
    go (suc n) = refl

module _ (from limit : ℕ) (l : List Told) (out : List ℕ) (p : Pass) (old : List ℕ) (s : Stands from limit l out p old) where
  -- the last value counts once one by another transaction follows, or none any more
  last_counts : (o : Option Told) (x : Told) (more : List Told) → (o ≡ None → p.before ≡ None) → option_map_or (λ y. eqb y.setter x.setter) o false ≡ false
      → behind from p.before (lasts (option_to_list o ++ x ∷ more)) ≡ behind from p.before (option_to_list o) ++ behind from (option_map (λ (y : Told). y.above) o) (lasts (x ∷ more))
  last_counts (Some y) x more fresh f = rw f (one_more (counted from p.before y) y.stamp (behind from (Some y.above) (lasts (x ∷ more))))
  last_counts None x more fresh f = rw (fresh refl)

  module _ (x : Told) where
    pub stands_replaced : same_setter p x ≡ true → Stands from limit (l ++ x ∷ []) out record { last = Some x; before = p.before; found = p.found } old
    stands_replaced same =
        record {
          listed = s.listed;
          found_is = s.found_is;
          written = s.written;
          fresh = λ f. clash (cc);
          further = λ more. rw (append_assoc l (x ∷ []) more, s.further (x ∷ more)) (ap (λ (m : List Told). s.listed ++ behind from p.before m) (go p.last more same));
        }
      where
        go : (o : Option Told) (more : List Told) → option_map_or (λ y. eqb y.setter x.setter) o false ≡ true → lasts (option_to_list o ++ x ∷ more) ≡ lasts (x ∷ more)
        go (Some y) more f = rw f
        go None more f = clash (cc)

    -- the first value, which has none before it
    pub stands_begun : p.last ≡ None → Stands from limit (l ++ x ∷ []) out record { last = Some x; before = p.before; found = p.found } old
    stands_begun none =
        record {
          listed = s.listed;
          found_is = s.found_is;
          written = s.written;
          fresh = λ f. clash (cc);
          further = λ more. rw (append_assoc l (x ∷ []) more, s.further (x ∷ more), none);
        }

    pub stands_followed : same_setter p x ≡ false → (found : ℕ) (before : Option Bool) (new : List ℕ) → before ≡ option_map (λ (y : Told). y.above) p.last
        → found ≡ p.found + length (noted from p) → new ≡ placed limit p.found (noted from p) old → Stands from limit (l ++ x ∷ []) out record { last = Some x; before = before; found = found } new
    stands_followed other found before new b n w =
        record {
          listed = s.listed ++ noted from p;
          found_is = n ∙ rw s.found_is (sym (length-append s.listed (noted from p)));
          written = w ∙ rw (s.found_is, s.written) (placed_more limit out s.listed (noted from p) (noted_few from p));
          fresh = λ f. clash (cc);
          further = λ more. rw (append_assoc l (x ∷ []) more, s.further (x ∷ more), last_counts p.last x more s.fresh other, b)
              (sym (append_assoc s.listed (noted from p) (behind from (option_map (λ (y : Told). y.above) p.last) (lasts (x ∷ more)))));
        }

  -- at the end the last value counts too
  pub stands_last : (n : ℕ) (new : List ℕ) → n ≡ p.found + length (noted from p) → new ≡ placed limit p.found (noted from p) old → Lists (behind from None (lasts l)) limit n out new
  stands_last n new e w =
      record {
        count = e ∙ rw s.found_is (sym (length-append s.listed (noted from p)) ∙ ap length (sym all));
        written = w ∙ rw (s.found_is, s.written) (placed_more limit out s.listed (noted from p) (noted_few from p)) ∙ ap (λ (f : List ℕ). sets out 0 (take limit f)) (sym all);
      }
    where
      alone : (o : Option Told) → behind from p.before (lasts (option_to_list o ++ [])) ≡ behind from p.before (option_to_list o)
      alone (Some y) = refl
      alone None = refl

      all : behind from None (lasts l) ≡ s.listed ++ noted from p
      all = ap (λ (m : List Told). behind from None (lasts m)) (sym (append-nil l)) ∙ s.further [] ∙ ap (λ (m : List ℕ). s.listed ++ m) (alone p.last)

-- ---- what is noted, by whether the last value counts
module _ (p : Pass) (from limit : ℕ) (old : List ℕ) (b : Bool) (e : b ≡ option_map_or (λ x. counted from p.before x) p.last false) where
  -- what is written from place n on, which no stamp is
  pub not_noted : b ≡ false → (p.found ≡ p.found + length (noted from p)) × (old ≡ placed limit p.found (noted from p) old)
  not_noted n = rw (none p.last (sym e ∙ n)) (omega arith, by_test (λ w. old ≡ cond w old old) (ltb p.found limit) (λ _. refl) (λ _. refl))
    where
      none : (o : Option Told) → option_map_or (λ x. counted from p.before x) o false ≡ false → behind from p.before (option_to_list o) ≡ []
      none None f = refl
      none (Some x) f = rw f

  module _ (t : b ≡ true) where
    counts : option_map_or (λ x. counted from p.before x) p.last false ≡ true
    counts = sym e ∙ t

    module _ (x : Told) (last : p.last ≡ Some x) where
      counted_last : counted from p.before x ≡ true
      counted_last = rw last at counts

      pub noted_below : p.found < limit → (p.found + 1 ≡ p.found + length (noted from p)) × (set old p.found x.stamp ≡ placed limit p.found (noted from p) old)
      noted_below l = rw (last, counted_last, lt-ltb p.found limit l) (refl, refl)

      pub noted_past : limit ≤ p.found → (p.found + 1 ≡ p.found + length (noted from p)) × (old ≡ placed limit p.found (noted from p) old)
      noted_past l = rw (last, counted_last, le-ltb p.found limit l) (refl, refl)

-- the slice keeps its length
pub stands_length : {from limit : ℕ} {l : List Told} {out : List ℕ} {p : Pass} {old : List ℕ} → Stands from limit l out p old → length old ≡ length out
stands_length {limit = limit} {out = out} s = ap length s.written ∙ length-sets out 0 (take limit s.listed)

pub placed_length : (limit n : ℕ) (l out new : List ℕ) → new ≡ placed limit n l out → length new ≡ length out
placed_length limit n l out new e = ap length e ∙ by_test (λ b. length (cond b (sets out n l) out) ≡ length out) (ltb n limit) (λ _. length-sets out n l) (λ _. refl)

-- ---- the values of one record more
module _ (S : Shape) (v : View) (who : Reader) (q : Query) where
  abbrev values : ℕ → List Told
  values i = map (told q.mark) (values_in S v who q.row.0 q.column i)

  pub values_next : (i : ℕ) → values (i + 1) ≡ values i ++ option_to_list (told_at S v who q (range_of q.row.0 * S.capacity + i))
  unfolding values_in told_at
  values_next i = rw (add-one i, slot_is S (range_of q.row.0) i) (go (tells v who q.row.0 q.column (record_in v (range_of q.row.0 * S.capacity + i))) (values_in S v who q.row.0 q.column i) _)
    where
      go : (t : Bool) (l : List Dated) (d : Dated) → map (told q.mark) (cond t (l ++ d ∷ []) l) ≡ map (told q.mark) l ++ option_to_list (cond t (Some (told q.mark d)) None)
      go true l d = map-append (told q.mark) l (d ∷ [])
      go false l d = sym (append-nil (map (told q.mark) l))

  module _ (limit : ℕ) (out : List ℕ) (p : Pass) (old : List ℕ) where
    -- over records that tell nothing the pass stands as it stood
    pub stands_on : (i j : ℕ) → NoneTold S v q.row.0 i j → Stands q.from.0 limit (values i) out p old → Stands q.from.0 limit (values j) out p old
    unfolding NoneTold
    stands_on i j n s = rw (n who q.column) s

    -- so up to the next record of the row, or to the end where none is left
    pub stands_at_next : (i used : ℕ) (next : Option ℕ) → p.found ≤ i → i ≤ used → MatchOption next (NoneTold S v q.row.0 i used) (λ k. (i ≤ k) × (k < used) × NoneTold S v q.row.0 i k)
        → Stands q.from.0 limit (values i) out p old
        → MatchOption next ((p.found ≤ used) × Stands q.from.0 limit (values used) out p old) (λ k. (k < used) × (p.found ≤ k) × Stands q.from.0 limit (values k) out p old)
    stands_at_next i used None few low n s = (omega arith, stands_on i used n s)
    stands_at_next i used (Some k) few low n s = (n.1, omega (arith, n.0), stands_on i k n.2 s)

    -- past a record that told nothing, or a value
    module _ (g i : ℕ) (e : g ≡ range_of q.row.0) (s : Stands q.from.0 limit (values i) out p old) (o : Option Told) (t : o ≡ told_at S v who q (g * S.capacity + i)) where
      pub stands_still : o ≡ None → Stands q.from.0 limit (values (i + 1)) out p old
      stands_still n = rw (values_next i, ← e, ← t, n, append-nil (values i)) s

      pub stands_next : (x : Told) → o ≡ Some x → (p' : Pass) (new : List ℕ) → Continues q.from.0 limit x p old p' new → Stands q.from.0 limit (values (i + 1)) out p' new
      unfolding Continues
      stands_next x n p' new k = rw (values_next i, ← e, ← t, n) (k (values i) out s)

    pub stands_listed : (i n : ℕ) (new : List ℕ) → Stands q.from.0 limit (values i) out p old → i ≡ used_in v (range_of q.row.0)
        → n ≡ p.found + length (noted q.from.0 p) → new ≡ placed limit p.found (noted q.from.0 p) old → Lists (listed_in S v who q) limit n out new
    unfolding listed_in
    stands_listed i n new s all e w = rw (← all, crossings_behind q.mark q.from.0) (stands_last q.from.0 limit (values i) out p old s n new e w)

-- ---- records of other rows
module _ (S : Shape) (v : View) (r i : ℕ) where
  pub none_yet : NoneTold S v r i i
  unfolding NoneTold
  none_yet who c = refl

  pub none_told : (first k row : ℕ) → first ≡ range_of r * S.capacity → row ≡ get_or (v Region.TailRow) (first + k) 0 → (row ≡ r → ⊥) → NoneTold S v r i k → NoneTold S v r i (k + 1)
  unfolding NoneTold values_in
  none_told first k row e w n t who c =
      rw (add-one k, slot_is S (range_of r) k, ← other_row v who r c (range_of r * S.capacity + k) row (rw e at w) n) (t who c)

-- ---- two passes: the first counts, the second writes
module _ (l : List ℕ) (n : ℕ) (old out : List ℕ) (first : Lists l 0 n old out) where
  pub too_many : length out < n → ListsAll l (Err Refusal.List) old out
  unfolding outnumber
  too_many more =
      let b = lt-ltb (length old) (length l) (omega (arith, first.count, ap length first.written)) in
      record { answer = rw b; written = rw b first.written }

  pub all_listed : (k : ℕ) (new : List ℕ) → n ≤ length out → Lists l n k out new → ListsAll l (Ok (Fields.Listed k)) old new
  unfolding outnumber
  all_listed k new few second =
      let b = le-ltb (length old) (length l) (omega (arith, first.count, ap length first.written)) in
      record { answer = rw b (ap (λ x. Ok (Fields.Listed x)) second.count); written = rw b (second.written ∙ rw (first.written, first.count, take-length l)) }
