-- Keepers: what begin, commit, abort and insert leave of the relation of keepers, and one record more in a range. Whoever bears a keeper was given a number, and a number keeps its keeper.
use mathlib.Core.Path.{◌≡◌, refl, sym, ◌∙◌, ap}
use mathlib.Core.Logic.{◌≢◌}
use mathlib.Core.Bool.{cond}
use mathlib.Core.List.{List, [], ◌∷◌, ◌++◌}
use Prim.Native.Nat.{ℕ, suc, ◌+◌, ◌*◌, ◌^◌, ◌≤◌, ◌<◌}
use native.Mathlib.Omega.{arith}
use native.Mathlib.Nat.{le_trans}
use native.Mathlib.Decide.{ℕ_discrete}
use lib.Dec.{T, eqb}
use lib.ListN.{length, get_or, set, length-set, get_or-eq_default}
use lib.Seq.{get_or-set_same, get_or-set_other}
use borrow.Author.Tests.{ne_eqb}
use Rattle.terms.specs.declared.Shape.{Shape}
use Rattle.terms.specs.declared.Form.{Form}
use Rattle.history.specs.History.{History, Row, Record, Content, original, setting, ending, State, active, nth, is_active, unknown_keeper, state_of, keeper_of, borne_by, bearer, row_at, records_of, unknown, aborted, committed}
use Rattle.history.specs.Records.{no_record}
use Rattle.history.specs.Invariants.{is_given, Invariants}
use Rattle.history.proofs.Lists.{at_append, by_cases, eqb_same, nth_last, nth_append}
use Rattle.history.proofs.States.{keeper_began}
use Rattle.history.proofs.Order.{sound_at}
use Rattle.terms.specs.Entries.{bears, first_index}
use Rattle.terms.specs.declared.ScanEntry.{ScanEntry}
use Rattle.layout.specs.Regions.{len}
use Rattle.layout.specs.Sizes.{sizes_of}
use Rattle.layout.specs.View.{View}
use Rattle.layout.specs.declared.Region.TheVariants.{OpenKeeper}
use Rattle.model.specs.Stored.{open_index, open_keeper}
use Rattle.layout.specs.Codes.{keeper_limit}
use Rattle.model.specs.Represents.{OpensAre, KeepersAre, Represents, WellFormed}
use Rattle.model.proofs.Lists.{same_part}
use Rattle.model.proofs.Book.{number_live}
use Rattle.model.proofs.Opens.{open_kind, open_there, active_given}

abbrev is_first : Form → ℕ
is_first Form.First = 0
is_first Form.Newest = 1

newest_later : Form.Newest ≡ Form.First → ⊥
newest_later e = let z : ◌≡◌ {A = ℕ} 1 0 = ap is_first e in omega arith

-- ---- the regions of keepers, which the first form does not have: n has the length of one in each form
pub later_none : (F : Form) (n : Form → ℕ) → n Form.First ≡ 0 → (l : List ℕ) → length l ≡ n F → F ≡ Form.First → (j : ℕ) → get_or l j 0 ≡ 0
later_none Form.First n none l e f j = get_or-eq_default l 0 {n = j} (omega (arith, none, e))
later_none Form.Newest n none l e f j = absurd (newest_later f)

-- What is put into one is there; in the first form 0 is, which is all that is put.
pub later_put : (F : Form) (n : Form → ℕ) → n Form.First ≡ 0 → (l : List ℕ) (j x : ℕ) → length l ≡ n F → j < n Form.Newest → (F ≡ Form.First → x ≡ 0) → get_or (set l j x) j 0 ≡ x
later_put Form.First n none l j x e b zero = get_or-eq_default (set l j x) 0 {n = j} (omega (arith, none, e, length-set l j x)) ∙ sym (zero refl)
later_put Form.Newest n none l j x e b zero = get_or-set_same l j x 0 (omega (arith, e))

-- ---- who bears a keeper has a number that was given
active_known : (x : State) → T (is_active x) → T (is_given x)
unfolding is_active
active_known active t = tt
active_known unknown t = elim t [ ]
active_known aborted t = elim t [ ]
active_known (committed _) t = elim t [ ]

open_given : (h : History) (l : List ℕ) → OpensAre h.transactions l → (j : ℕ) → get_or l j 0 ≢ 0 → T (is_given (state_of h (get_or l j 0)))
unfolding state_of
open_given h l o j n = active_known _ (number_live open_kind h.transactions l o j n)

borne_given : (P : ℕ → Type 0) (c : Content) (inserter own : ℕ) → P inserter → P own → P (borne_by c inserter own)
borne_given P (original cs vs) inserter own p q = p
borne_given P (setting m vs) inserter own p q = q
borne_given P ending inserter own p q = q

bearer_given : {S : Shape} (h : History) → Invariants S h → (g k : ℕ) → k < length (records_of h g) → T (is_given (state_of h (bearer (row_at h) (get_or (records_of h g) k no_record))))
bearer_given h i g k u =
    let y : Record = get_or (records_of h g) k no_record in
    let s = sound_at h g i.order k no_record u in
    borne_given (λ t. T (is_given (state_of h t))) y.content _ _ (i.order.inserters y.row s.inside) s.giver

module _ {S : Shape} {h : History} {row_words tail_words opens open_words : List ℕ} (i : Invariants S h) (entries : OpensAre h.transactions opens)
    (o : KeepersAre S (keeper_of h) (row_at h) (length h.rows) (records_of h) row_words tail_words opens open_words) where
  -- ---- begin: entry j, which was free, takes the next number and its keeper
  pub keepers_begun : (x j : ℕ) → x < keeper_limit → j < length opens → get_or (set open_words j x) j 0 ≡ x
      → KeepersAre S (λ t. nth (h.keepers ++ x ∷ []) t unknown_keeper) (row_at h) (length h.rows) (records_of h) row_words tail_words (set opens j (suc (length h.transactions))) (set open_words j x)
  unfolding keeper_of
  keepers_begun x j fits a b =
      record {
        of_rows = λ r u. o.of_rows r u ∙ sym (stays _ (i.order.inserters r u));
        of_records = λ g k u w. o.of_records g k u w ∙ sym (stays _ (bearer_given h i g k w));
        of_opens = λ k. by_cases (ℕ_discrete k j)
            (λ e. rw (e, get_or-set_same opens j (suc (length h.transactions)) 0 a, b) (λ _. rw (← i.limits.keepers) (sym (nth_last unknown_keeper h.keepers x))))
            (λ f. rw (get_or-set_other opens j k (suc (length h.transactions)) 0 f, get_or-set_other open_words j k x 0 f) (λ n. o.of_opens k n ∙ sym (stays _ (open_given h opens entries k n))));
        small = nth_append unknown_keeper (λ (k : ℕ). k < keeper_limit) h.keepers x fits o.small;
      }
    where
      stays : (t : ℕ) → T (is_given (state_of h t)) → nth (h.keepers ++ x ∷ []) t unknown_keeper ≡ keeper_of h t
      stays t u = keeper_began h x i.limits.keepers t u

  -- ---- commit and abort: entry j is free again
  pub keepers_freed : (j : ℕ) → j < length opens → KeepersAre S (keeper_of h) (row_at h) (length h.rows) (records_of h) row_words tail_words (set opens j 0) (set open_words j 0)
  keepers_freed j a =
      record {
        of_rows = o.of_rows;
        of_records = o.of_records;
        of_opens = λ k. by_cases (ℕ_discrete k j)
            (λ e n. absurd (n (rw (e, get_or-set_same opens j 0 0 a))))
            (λ f. rw (get_or-set_other opens j k 0 0 f, get_or-set_other open_words j k 0 0 f) (o.of_opens k));
        small = o.small;
      }

  -- ---- what an open transaction's entry says
  pub keeper_own : (t : ℕ) → state_of h t ≡ active → get_or open_words (first_index (bears t) opens) 0 ≡ keeper_of h t
  unfolding state_of
  keeper_own t a =
      let e : get_or opens (first_index (bears t) opens) 0 ≡ t = (open_there h.transactions opens entries t a).1 in
      o.of_opens (first_index (bears t) opens) (λ z. omega (arith, e, z, (active_given h.transactions t a).0)) ∙ ap (keeper_of h) e

  -- ---- insert: a row more, by t
  pub keepers_row : (t : ℕ) (w : Row) (keeper : ℕ) → w.inserter ≡ t → keeper ≡ keeper_of h t → get_or (set row_words (length h.rows) keeper) (length h.rows) 0 ≡ keeper → (row : ℕ → Row) → row (length h.rows) ≡ w
      → ((r : ℕ) → r < length h.rows → row r ≡ row_at h r)
      → KeepersAre S (keeper_of h) row (suc (length h.rows)) (records_of h) (set row_words (length h.rows) keeper) tail_words opens open_words
  keepers_row t w keeper e k b row new old =
      record {
        of_rows = λ r u. by_cases (ℕ_discrete r (length h.rows))
            (λ z. rw (z, b, new, e) k)
            (λ f. let d : r < length h.rows = omega arith in rw (get_or-set_other row_words (length h.rows) r keeper 0 f, old r d) (o.of_rows r d));
        of_records = λ g n u z.
            let y : Record = get_or (records_of h g) n no_record in
            o.of_records g n u z ∙ ap (λ (x : Row). keeper_of h (borne_by y.content x.inserter y.transaction)) (sym (old y.row (sound_at h g i.order n no_record z).inside));
        of_opens = o.of_opens;
        small = o.small;
      }

-- ---- one record more in range g, with its keeper in the word at the range's end
-- what holds of the word of each record
abbrev pub WordsBear : Shape → (ℕ → ℕ) → (ℕ → Row) → (ℕ → List Record) → List ℕ → Type 0
WordsBear S keeper row list words = (g k : ℕ) → g < S.ranges → k < length (list g) → get_or words (g * S.capacity + k) 0 ≡ keeper (bearer row (get_or (list g) k no_record))

module _ (S : Shape) (keeper : ℕ → ℕ) (row : ℕ → Row) (list list' : ℕ → List Record) (words : List ℕ) (g : ℕ) (y : Record) (x : ℕ)
    (few : (a : ℕ) → length (list a) ≤ S.capacity) (room : length (list g) < S.capacity) (taken : get_or (set words (g * S.capacity + length (list g)) x) (g * S.capacity + length (list g)) 0 ≡ x)
    (grows : (a : ℕ) → list' a ≡ cond (eqb g a) (list a ++ y ∷ []) (list a)) (own : x ≡ keeper (bearer row y)) where
  abbrev end : ℕ
  end = g * S.capacity + length (list g)

  pub words_more : WordsBear S keeper row list words → WordsBear S keeper row list' (set words (g * S.capacity + length (list g)) x)
  words_more o a k b = by_cases (ℕ_discrete g a)
      (λ e. rw (← e, grows g, eqb_same g)
      (at_append (λ k z. get_or (set words end x) (g * S.capacity + k) 0 ≡ keeper (bearer row z)) (list g) y no_record
      (λ k u. rw (get_or-set_other words end (g * S.capacity + k) x 0 (λ z. omega arith)) (o g k (rw e b) u)) (rw taken own) k))
      (λ n. rw (grows a, ne_eqb g a n)
      (λ u. rw (get_or-set_other words end (a * S.capacity + k) x 0 (λ z. n (sym (same_part S.capacity a g k (length (list g)) (le_trans u (few a)) room z).0))) (o a k b u)))

-- the keeper of an open transaction, as its entry has it
pub own_keeper : {F : Form} {S : Shape} {v : View} {ps : List ScanEntry} {h : History} → Represents F S v ps h → WellFormed S h → (t : ℕ) → state_of h t ≡ active
    → (open_keeper v t ≡ keeper_of h t) × (open_keeper v t < 2 ^ 32) × (F ≡ Form.First → open_keeper v t ≡ 0)
unfolding open_keeper open_index
own_keeper {F} {S} {v = v} {h = h} o k t a =
    let e = keeper_own k.invariants o.opens o.keepers t a in
    (e, omega (arith, e, o.keepers.small t), λ f. later_none F (λ x. len (sizes_of x S) OpenKeeper) refl (v OpenKeeper) (o.whole.long OpenKeeper) f _)
