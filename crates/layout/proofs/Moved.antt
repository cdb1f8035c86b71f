-- Laws of a move between forms: the regions that both forms have lie at the same words, so that copying these words and clearing the rest moves the view; there and back is the view that was.
use Prim.Native.Nat.{ℕ, ◌+◌, ◌≤◌, ◌<◌, ◌^◌}
use mathlib.Core.Path.{◌≡◌, refl, ap, sym, ◌∙◌, fun_ext}
use mathlib.Core.Logic.{◌≢◌}
use mathlib.Core.Bool.{true, false, cond}
use mathlib.Core.List.{List, [], ◌∷◌, map}
use native.Mathlib.Omega.{arith}
use native.Mathlib.Nat.{zero-add}
use native.Mathlib.Decide.{dec_lt, ℕ_discrete}
use lib.Dec.{eqb}
use lib.ListN.{length, get_or, set, replicate, length-replicate, get_or-replicate, length-set, get_or-append, get_or-eq_default}
use lib.Seq.{ext_get_or, get_or-set_same, get_or-set_other}
use borrow.Author.Tests.{eq-eqb, ne_eqb, eqb-true}
use Rattle.terms.specs.Measures.{most_columns}
use Rattle.terms.specs.declared.Shape.{Shape}
use Rattle.terms.specs.declared.Form.{Form}
use Rattle.words.specs.Words.{Fit}
use Rattle.loops.specs.Change.{filled, copied}
use Rattle.loops.proofs.Change.{changed_length, changed_at_lem, set_fit, zeros}
use Rattle.layout.specs.declared.Sizes.{Sizes}
use Rattle.layout.specs.declared.Region.{Region}
use Rattle.layout.specs.declared.Region.TheVariants.{Header, RowKeeper, TailKeeper, OpenKeeper}
use Rattle.layout.specs.Regions.{index, all, older_lens, later_lens, lens, len, base, need, columns_at, columns_word, columns_in, form_said, form_known, form_in}
use Rattle.layout.specs.Sizes.{sizes_of}
use Rattle.layout.specs.View.{View, view, put, renew, fill, Long, Fits}
use Rattle.layout.specs.Moved.{later_zero, moved}
use Rattle.layout.proofs.Cut.{apart, start_agree}
use Rattle.layout.proofs.View.{view_at, view_long, base_in}
use Rattle.layout.proofs.Lay.{named, same_region}

-- ---- lists
-- a list that is filled with 0 throughout
cleared : (n : ℕ) (l : List ℕ) → length l ≡ n → filled 0 n 0 l ≡ replicate n 0
cleared n l e =
    ext_get_or 0 (filled 0 n 0 l) (replicate n 0) (changed_length (λ i x. 0) 0 l n ∙ e ∙ sym (length-replicate n 0))
    (λ i b.
    let c : i < n = omega (arith, changed_length (λ i x. 0) 0 l n) in
    (rw (zero-add i) at (changed_at_lem (λ i x. 0) 0 l n i (omega arith) c)) ∙ sym (get_or-replicate n i 0 0 c))

empty_of : (l : List ℕ) → length l ≡ 0 → l ≡ []
empty_of [] e = refl
empty_of (x ∷ l) e = absurd (omega arith)

-- the first word is written, and written again as it was
set_twice : (l : List ℕ) (a b : ℕ) → get_or l 0 0 ≡ b → set (set l 0 a) 0 b ≡ l
set_twice [] a b e = refl
set_twice (x ∷ l) a b e = rw e

-- ---- the regions that both forms have, and the others
index_few : (k : Region) → index k < length all
index_few k = go (dec_lt (index k) (length all))
  where
    go : Dec (index k < length all) → index k < length all
    go (yes b) = b
    go (no b) =
        let e : false ≡ true = sym (get_or-eq_default (map (λ r. true) all) false {n = index k} (omega arith)) ∙ named (λ r. true) false k in
        absurd (let z : ◌≡◌ {A = ℕ} 0 1 = cc in omega arith)

pub by_age : (P : Region → Type 0) → ((k : Region) → index k < index RowKeeper → P k) → P RowKeeper → P TailKeeper → P OpenKeeper → (k : Region) → P k
by_age P older a b c k = go (dec_lt (index k) (index RowKeeper)) (ℕ_discrete (index k) (index RowKeeper)) (ℕ_discrete (index k) (index TailKeeper))
  where
    go : Dec (index k < index RowKeeper) → Dec (index k ≡ index RowKeeper) → Dec (index k ≡ index TailKeeper) → P k
    go (yes x) y z = older k x
    go (no x) (yes y) z = rw (same_region k RowKeeper y) a
    go (no x) (no y) (yes z) = rw (same_region k TailKeeper z) b
    go (no x) (no y) (no z) = rw (same_region k OpenKeeper (omega (arith, index_few k))) c

module _ (f f' : Form) (S : Shape) where
  abbrev s : Sizes
  s = sizes_of f S

  abbrev s' : Sizes
  s' = sizes_of f' S

  -- they start at the same words and are as long, before all the others
  older_base : (k : Region) → index k < index RowKeeper → base s' k ≡ base s k
  unfolding base
  older_base k b = start_agree 0 (older_lens s) (later_lens s') (later_lens s) (index k) (omega arith)

  older_len : (k : Region) → index k < index RowKeeper → len s' k ≡ len s k
  older_len k b = get_or-append (older_lens s) (later_lens s') 0 (index k) b ∙ sym (get_or-append (older_lens s) (later_lens s) 0 (index k) b)

  older_before_lem : (k : Region) → index k < index RowKeeper → base s' k + len s' k ≤ base s' RowKeeper
  unfolding base
  older_before_lem k b = apart 0 (lens s') (index k) (index RowKeeper) b

  -- the words before the others are as many in both
  pub older_words : base s' RowKeeper ≡ base s RowKeeper
  unfolding base
  older_words = start_agree 0 (older_lens s) (later_lens s') (later_lens s) (index RowKeeper) (omega arith)

  module _ (ws ws' : List ℕ) (room : need s ≤ length ws) (room' : need s' ≤ length ws') where
    abbrev copy : List ℕ
    copy = copied ws 0 (base s' RowKeeper) 0 ws'

    copy_long : length copy ≡ length ws'
    copy_long = changed_length (λ i x. get_or ws (0 + i) 0) 0 ws' (base s' RowKeeper)

    copy_at : (j : ℕ) → j < base s' RowKeeper → get_or copy j 0 ≡ get_or ws j 0
    copy_at j b =
        rw (zero-add j) at (changed_at_lem (λ i x. get_or ws (0 + i) 0) 0 ws' (base s' RowKeeper) j (omega (arith, base_in s' RowKeeper)) b)

    older_copied : (k : Region) → index k < index RowKeeper → view s' copy k ≡ view s ws k
    older_copied k b =
        let long : length (view s' copy k) ≡ len s' k = view_long s' copy (omega (arith, copy_long)) k in
        let long₀ : length (view s ws k) ≡ len s k = view_long s ws room k in
        ext_get_or 0 (view s' copy k) (view s ws k) (long ∙ older_len k b ∙ sym long₀)
        (λ i h.
        let a : i < len s' k = omega arith in
        view_at s' copy k i a ∙ copy_at (base s' k + i) (omega (arith, older_before_lem k b)) ∙ rw (older_base k b) (sym (view_at s ws k i (omega (arith, older_len k b)))))

    -- what the code does: the copied words, with 0 in the other regions and the form in the columns' word
    pub copied_moved : put Header columns_at (columns_word f' S.columns) (fill OpenKeeper 0 s'.later.opens 0 (fill TailKeeper 0 s'.later.slots 0 (fill RowKeeper 0 s'.later.rows 0 (view s' copy))))
        ≡ moved f' S (view s ws)
    unfolding moved later_zero put fill renew
    copied_moved =
        fun_ext
        (by_age (λ k. put Header columns_at word (fill OpenKeeper 0 s'.later.opens 0 (fill TailKeeper 0 s'.later.slots 0 (fill RowKeeper 0 s'.later.rows 0 (view s' copy)))) k ≡ moved f' S (view s ws) k)
        older (cleared s'.later.rows _ (long RowKeeper)) (cleared s'.later.slots _ (long TailKeeper)) (cleared s'.later.opens _ (long OpenKeeper)))
      where
        word : ℕ
        word = columns_word f' S.columns

        long : Long s' (view s' copy)
        long = view_long s' copy (omega (arith, copy_long))

        older : (k : Region) → index k < index RowKeeper
            → put Header columns_at word (fill OpenKeeper 0 s'.later.opens 0 (fill TailKeeper 0 s'.later.slots 0 (fill RowKeeper 0 s'.later.rows 0 (view s' copy)))) k ≡ moved f' S (view s ws) k
        older k b = rw (ne_eqb (index RowKeeper) (index k) (λ e. omega arith), ne_eqb (index TailKeeper) (index k) (λ e. omega arith), ne_eqb (index OpenKeeper) (index k) (λ e. omega arith), older_copied Header (omega arith), older_copied k b)

  -- ---- the view moved is one that the sizes moved to have
  pub moved_long : (v : View) → Long s v → Long s' (moved f' S v)
  unfolding moved later_zero put renew
  moved_long v long = by_age (λ k. length (moved f' S v k) ≡ len s' k) older (length-replicate s'.later.rows 0) (length-replicate s'.later.slots 0) (length-replicate s'.later.opens 0)
    where
      older : (k : Region) → index k < index RowKeeper → length (moved f' S v k) ≡ len s' k
      older k b =
          rw (ne_eqb (index RowKeeper) (index k) (λ e. omega arith), ne_eqb (index TailKeeper) (index k) (λ e. omega arith), ne_eqb (index OpenKeeper) (index k) (λ e. omega arith))
          (elim (eqb 0 (index k)) as (λ c. eqb 0 (index k) ≡ c → length (cond c (set (v Header) columns_at (columns_word f' S.columns)) (v k)) ≡ len s' k) [
            | true ↦ λ e. length-set (v Header) columns_at (columns_word f' S.columns) ∙ long Header ∙ sym (older_len Header (omega arith)) ∙ ap (λ (i : ℕ). get_or (lens s') i 0) (eqb-true 0 (index k) e)
            | false ↦ λ e. long k ∙ sym (older_len k b)
          ] refl)

-- ---- the header of the view moved: the columns' word says the form, and the others are as they were
pub moved_columns : (f : Form) (S : Shape) (v : View) → columns_at < length (v Header) → get_or (moved f S v Header) columns_at 0 ≡ columns_word f S.columns
unfolding moved later_zero put renew
moved_columns f S v b = get_or-set_same (v Header) columns_at _ 0 b

pub moved_header : (f : Form) (S : Shape) (v : View) (i : ℕ) → i ≢ columns_at → get_or (moved f S v Header) i 0 ≡ get_or (v Header) i 0
unfolding moved later_zero put renew
moved_header f S v i n = get_or-set_other (v Header) columns_at i _ 0 n

-- the columns' word fits, and says its form
pub columns_fit : (f : Form) (c : ℕ) → c ≤ most_columns → columns_word f c < 2 ^ 32
columns_fit Form.First c b = omega arith
columns_fit Form.Newest c b = omega arith

pub columns_said : (f : Form) (c : ℕ) → c ≤ most_columns → columns_in (columns_word f c) ≡ c
columns_said Form.First c b = omega arith
columns_said Form.Newest c b = omega arith

pub form_known_lem : (f : Form) (c : ℕ) → c ≤ most_columns → form_known (columns_word f c) ≡ true
form_known_lem Form.First c b = rw (eq-eqb (form_said (columns_word Form.First c)) 1 (omega arith))
form_known_lem Form.Newest c b = rw (ne_eqb (form_said (columns_word Form.Newest c)) 1 (λ e. omega arith), eq-eqb (form_said (columns_word Form.Newest c)) 2 (omega arith))

pub form_said_lem : (f : Form) (c : ℕ) → c ≤ most_columns → form_in (columns_word f c) ≡ f
form_said_lem Form.First c b = rw (eq-eqb (form_said (columns_word Form.First c)) 1 (omega arith))
form_said_lem Form.Newest c b = rw (ne_eqb (form_said (columns_word Form.Newest c)) 1 (λ e. omega arith))

pub moved_fits : (f : Form) (S : Shape) (v : View) → columns_word f S.columns < 2 ^ 32 → Fits v → Fits (moved f S v)
unfolding moved later_zero put renew
moved_fits f S v b fits = by_age (λ k. Fit (moved f S v k)) older (none (sizes_of f S).later.rows) (none (sizes_of f S).later.slots) (none (sizes_of f S).later.opens)
  where
    none : (n : ℕ) → Fit (replicate n 0)
    none n i = rw (zeros n i) (omega arith)

    older : (k : Region) → index k < index RowKeeper → Fit (moved f S v k)
    older k a =
        rw (ne_eqb (index RowKeeper) (index k) (λ e. omega arith), ne_eqb (index TailKeeper) (index k) (λ e. omega arith), ne_eqb (index OpenKeeper) (index k) (λ e. omega arith))
        (elim (eqb 0 (index k)) as (λ c. Fit (cond c (set (v Header) columns_at (columns_word f S.columns)) (v k))) [ true ↦ set_fit (v Header) columns_at _ (fits Header) b | false ↦ fits k ])

-- ---- there and back
pub moved_back : (S : Shape) (v : View) → Long (sizes_of Form.First S) v → get_or (v Header) columns_at 0 ≡ columns_word Form.First S.columns → moved Form.First S (moved Form.Newest S v) ≡ v
unfolding moved later_zero put renew
moved_back S v long word =
    fun_ext (by_age (λ k. moved Form.First S (moved Form.Newest S v) k ≡ v k) older (gone RowKeeper (long RowKeeper)) (gone TailKeeper (long TailKeeper)) (gone OpenKeeper (long OpenKeeper)))
  where
    gone : (k : Region) → length (v k) ≡ 0 → [] ≡ v k
    gone k e = sym (empty_of (v k) e)

    older : (k : Region) → index k < index RowKeeper → moved Form.First S (moved Form.Newest S v) k ≡ v k
    older k b =
        rw (ne_eqb (index RowKeeper) (index k) (λ e. omega arith), ne_eqb (index TailKeeper) (index k) (λ e. omega arith), ne_eqb (index OpenKeeper) (index k) (λ e. omega arith))
        (elim (eqb 0 (index k)) as (λ c. eqb 0 (index k) ≡ c → cond c (set (set (v Header) columns_at (columns_word Form.Newest S.columns)) columns_at (columns_word Form.First S.columns)) (cond c (set (v Header) columns_at (columns_word Form.Newest S.columns)) (v k)) ≡ v k) [
          | true ↦ λ e. set_twice (v Header) _ _ word ∙ ap v (same_region Header k (eqb-true 0 (index k) e))
          | false ↦ λ e. refl
        ] refl)
