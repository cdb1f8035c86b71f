-- One tail record more: the records of its range grow by it, and those of the other ranges stay.
use mathlib.Core.Path.{◌≡◌, sym, ◌∙◌, ap}
use mathlib.Core.Logic.{◌≢◌, inl, inr}
use mathlib.Core.Bool.{cond}
use mathlib.Core.List.{List, [], ◌∷◌, ◌++◌}
use Prim.Native.Nat.{ℕ, suc, ◌+◌, ◌*◌, ◌^◌, ◌≤◌, ◌<◌}
use native.Mathlib.Omega.{arith}
use native.Mathlib.Nat.{le_refl, le_trans, mul-le-mul_right, suc-mul}
use native.Mathlib.Decide.{ℕ_discrete, dec_lt}
use lib.Dec.{eqb}
use lib.ListN.{length, get_or, set, length-append}
use lib.Seq.{get_or-set_same, get_or-set_other}
use borrow.Author.Tests.{ne_eqb}
use Rattle.terms.specs.Measures.{range_rows}
use Rattle.terms.specs.declared.Shape.{Shape}
use Rattle.terms.specs.declared.Form.{Form}
use Rattle.history.specs.History.{Record, State, Content, original, setting, ending, range_of}
use Rattle.history.proofs.Lists.{at_append, by_cases, eqb_same}
use Rattle.history.proofs.Links.{last_of_append}
use Rattle.history.specs.Records.{no_record, last_of}
use Rattle.loops.proofs.Change.{changed_length, changed_outside, changed_at_lem, changed_fit}
use Rattle.layout.specs.View.{View, renew, put, used_in}
use Rattle.layout.specs.Regions.{len, slot}
use Rattle.layout.specs.Sizes.{sizes_of}
use Rattle.layout.specs.declared.Region.{Region}
use Rattle.layout.specs.declared.Region.TheVariants.{RowLink, TailTransaction, TailRow, TailKind, TailMask, TailLink, TailState, TailStamp, TailValues, Used, TailOrdinal, TailKeeper}
use Rattle.model.specs.Stored.{RecordWords, row_in, record_in, value_in}
use Rattle.layout.specs.Codes.{as_open}
use Rattle.model.specs.Writing.{next_slot, appended, filled_in}
use Rattle.model.proofs.Lists.{part_in, same_part}
use Rattle.model.specs.Represents.{ContentIs, RecordIs, TailIs, TailsFor, Whole}
use Rattle.model.proofs.Views.{renew_whole, put_whole}
use Rattle.model.proofs.lookups.Heads.{slot_is}

-- ---- one list of records
pub content_values : (C : ℕ) (y : Content) (kind mask : ℕ) (value value' : ℕ → ℕ) → ((c : ℕ) → c < C → value' c ≡ value c) → ContentIs C y kind mask value → ContentIs C y kind mask value'
content_values C (original cs vs) kind mask value value' e o = (o.0, o.1, λ c b t. rw (e c b) (o.2 c b t))
content_values C (setting m vs) kind mask value value' e o = (o.0, o.1, λ c b t. rw (e c b) (o.2 c b t))
content_values C ending kind mask value value' e o = o

record_same : {C : ℕ} {st : ℕ → State} {y : Record} {x x' : RecordWords} {value value' : ℕ → ℕ} → x' ≡ x → ((c : ℕ) → c < C → value' c ≡ value c) → RecordIs C st y x value
    → RecordIs C st y x' value'
record_same {C} {y = y} {value = value} {value' = value'} e f o =
    rw e record { transaction = o.transaction; row = o.row; state = o.state; stamp = o.stamp; ordinal = o.ordinal; content = content_values C y.content _ _ value value' f o.content }

tail_same : {C : ℕ} {st : ℕ → State} {recs : List Record} {used used' : ℕ} {rec rec' : ℕ → RecordWords} {value value' : ℕ → ℕ → ℕ} → used' ≡ used
    → ((k : ℕ) → k < length recs → rec' k ≡ rec k) → ((k c : ℕ) → k < length recs → c < C → value' k c ≡ value k c) → TailIs C st recs used rec value → TailIs C st recs used' rec' value'
tail_same e f g o =
    record {
      used_all = e ∙ o.used_all;
      each = λ k u. record_same (f k u) (λ c b. g k c u b) (o.each k u);
      links = λ k u. rw (f k u) (o.links k u);
    }

tail_more : {C : ℕ} {st : ℕ → State} {recs : List Record} {used used' : ℕ} {rec rec' : ℕ → RecordWords} {value value' : ℕ → ℕ → ℕ} (y : Record) → used' ≡ suc used
    → ((k : ℕ) → k < length recs → rec' k ≡ rec k) → ((k c : ℕ) → k < length recs → c < C → value' k c ≡ value k c)
    → RecordIs C st y (rec' (length recs)) (value' (length recs)) → (rec' (length recs)).link ≡ last_of recs y.row (length recs) → TailIs C st recs used rec value
    → TailIs C st (recs ++ y ∷ []) used' rec' value'
tail_more {C} {st} {recs} {used} {used'} {rec} {rec'} {value} {value'} y e f g new link o =
    record {
      used_all = e ∙ ap suc o.used_all ∙ sym (simp length-append (omega arith));
      each = at_append (λ k z. RecordIs C st z (rec' k) (value' k)) recs y no_record (λ k b. record_same (f k b) (λ c d. g k c b d) (o.each k b)) new;
      links = at_append (λ k z. (rec' k).link ≡ last_of (recs ++ y ∷ []) z.row k) recs y no_record
          (λ k b. rw (last_of_append recs (y ∷ []) (get_or recs k no_record).row k (omega arith), f k b) (o.links k b))
          (rw (last_of_append recs (y ∷ []) y.row (length recs) (le_refl _)) link);
    }

-- ---- every range
module _ (S : Shape) (v w : View) (st : ℕ → State) (list list' : ℕ → List Record) (g : ℕ) (y : Record) (inside : g < S.ranges)
    (few : (a : ℕ) → length (list a) ≤ S.capacity) (room : length (list g) < S.capacity)
    (grows : (a : ℕ) → list' a ≡ cond (eqb g a) (list a ++ y ∷ []) (list a))
    (used_here : used_in w g ≡ suc (used_in v g)) (used_there : (a : ℕ) → a ≢ g → used_in w a ≡ used_in v a)
    (there : (j : ℕ) → j ≢ g * S.capacity + length (list g) → record_in w j ≡ record_in v j)
    (value_there : (j c : ℕ) → j ≢ g * S.capacity + length (list g) → c < S.columns → value_in S w j c ≡ value_in S v j c)
    (new : RecordIs S.columns st y (record_in w (g * S.capacity + length (list g))) (value_in S w (g * S.capacity + length (list g))))
    (link : (record_in w (g * S.capacity + length (list g))).link ≡ last_of (list g) y.row (length (list g))) where
  pub tails_more : TailsFor S st list v → TailsFor S st list' w
  tails_more o a b = by_cases (ℕ_discrete g a)
      (λ e. rw (← e, grows g, eqb_same g)
      (tail_more y used_here (λ k u. there _ (λ z. omega arith)) (λ k c u d. value_there _ c (λ z. omega arith) d) new link (o g inside)))
      (λ n. rw (grows a, ne_eqb g a n)
      (tail_same (used_there a (λ z. n (sym z))) (λ k u. there _ (λ z. n (sym (apart k u z)))) (λ k c u d. value_there _ c (λ z. n (sym (apart k u z))) d) (o a b)))
    where
      apart : (k : ℕ) → k < length (list a) → a * S.capacity + k ≡ g * S.capacity + length (list g) → a ≡ g
      apart k u z = (same_part S.capacity a g k (length (list g)) (le_trans u (few a)) room z).0

-- ---- the words of an appended record
module _ {F : Form} {S : Shape} {v : View} (o : Whole F S v) (t keeper r kind mask : ℕ) (inside : range_of r < S.ranges) (room : used_in v (range_of r) < S.capacity) where
  abbrev slot' : ℕ
  slot' = range_of r * S.capacity + used_in v (range_of r)

  pub slot_next : next_slot S v (range_of r) ≡ slot'
  unfolding next_slot
  slot_next = ap (slot S (range_of r)) (omega arith) ∙ slot_is S (range_of r) (used_in v (range_of r))

  pub slot_in : slot' < S.ranges * S.capacity
  slot_in = part_in S.ranges S.capacity (range_of r) (used_in v (range_of r)) inside room

  here_word : (l : List ℕ) (x : ℕ) → slot' < length l → get_or (set l (next_slot S v (range_of r)) x) slot' 0 ≡ x
  here_word l x e = rw slot_next (get_or-set_same l slot' x 0 e)

  there_word : (l : List ℕ) (x j : ℕ) → j ≢ slot' → get_or (set l (next_slot S v (range_of r)) x) j 0 ≡ get_or l j 0
  there_word l x j n = rw slot_next (get_or-set_other l slot' j x 0 n)

  in_tail : (i : Region) → len (sizes_of F S) i ≡ S.ranges * S.capacity → slot' < length (v i)
  in_tail i e = omega (arith, o.long i, e, slot_in)

  pub appended_here : record_in (appended S t keeper r kind mask v) slot'
      ≡ record { transaction = t; row = r; kind = kind; mask = mask; link = (row_in v r).link; state = as_open; stamp = 0; ordinal = 0 }
  unfolding appended put renew record_in
  appended_here = simp (here_word, in_tail)

  pub appended_there : (j : ℕ) → j ≢ slot' → record_in (appended S t keeper r kind mask v) j ≡ record_in v j
  unfolding appended put renew record_in
  appended_there j n = simp there_word

  pub keeper_here : appended S t keeper r kind mask v TailKeeper ≡ set (v TailKeeper) slot' keeper
  unfolding appended put renew
  keeper_here = rw slot_next

  pub used_here : used_in (appended S t keeper r kind mask v) (range_of r) ≡ suc (used_in v (range_of r))
  unfolding appended put renew
  used_here = get_or-set_same (v Used) (range_of r) _ 0 (omega (arith, o.long Used)) ∙ omega arith

  pub used_there : (a : ℕ) → a ≢ range_of r → used_in (appended S t keeper r kind mask v) a ≡ used_in v a
  unfolding appended put renew
  used_there a n = get_or-set_other (v Used) (range_of r) a _ 0 n

  pub link_here : r < S.ranges * range_rows → get_or (appended S t keeper r kind mask v RowLink) r 0 ≡ suc (used_in v (range_of r))
  unfolding appended put renew
  link_here b = get_or-set_same (v RowLink) r _ 0 (omega (arith, o.long RowLink)) ∙ omega arith

  pub link_there : (i : ℕ) → i ≢ r → get_or (appended S t keeper r kind mask v RowLink) i 0 ≡ get_or (v RowLink) i 0
  unfolding appended put renew
  link_there i n = get_or-set_other (v RowLink) r i _ 0 n

  link_fits : (row_in v r).link < 2 ^ 32
  unfolding row_in
  link_fits = o.fits RowLink r

  pub appended_whole : t < 2 ^ 32 → keeper < 2 ^ 32 → r < 2 ^ 32 → kind < 2 ^ 32 → mask < 2 ^ 32 → S.capacity < 2 ^ 31 → Whole F S (appended S t keeper r kind mask v)
  unfolding appended
  appended_whole a q b c d e =
      put_whole RowLink r _ (omega arith)
      (put_whole Used _ _ (omega arith)
      (put_whole TailKeeper _ keeper q
      (put_whole TailOrdinal _ 0 (omega arith)
      (put_whole TailStamp _ 0 (omega arith)
      (put_whole TailState _ 0 (omega arith)
      (put_whole TailLink _ _ link_fits (put_whole TailMask _ mask d (put_whole TailKind _ kind c (put_whole TailRow _ r b (put_whole TailTransaction _ t a o))))))))))

-- ---- the words of its columns
module _ {F : Form} {S : Shape} {v : View} (o : Whole F S v) (s : ℕ) (f : ℕ → ℕ) (inside : s < S.ranges * S.capacity) where
  pub filled_here : (c : ℕ) → c < S.columns → value_in S (filled_in S s f v) s c ≡ f c
  unfolding filled_in renew value_in
  filled_here c b =
      changed_at_lem (λ c w. f c) (s * S.columns) (v TailValues) S.columns c (omega (arith, o.long TailValues, mul-le-mul_right S.columns inside, suc-mul s S.columns)) b

  pub filled_there : (j c : ℕ) → j ≢ s → c < S.columns → value_in S (filled_in S s f v) j c ≡ value_in S v j c
  unfolding filled_in renew value_in
  filled_there j c n b = changed_outside (λ c w. f c) (s * S.columns) (v TailValues) S.columns (j * S.columns + c) (by_cases (dec_lt j s)
      (λ u. inl (omega (arith, mul-le-mul_right S.columns u, suc-mul j S.columns)))
      (λ u. let d : suc s ≤ j = omega arith in inr (omega (arith, mul-le-mul_right S.columns d, suc-mul s S.columns))))

  pub filled_whole : ((c : ℕ) → f c < 2 ^ 32) → Whole F S (filled_in S s f v)
  unfolding filled_in
  filled_whole fit =
      renew_whole TailValues _ (changed_length (λ c w. f c) (s * S.columns) (v TailValues) S.columns ∙ o.long TailValues)
      (changed_fit (λ c w. f c) (s * S.columns) S.columns (v TailValues) (λ i x b d. fit i) (o.fits TailValues)) o
