-- Laws of views that the layout leaves open: words that fit stay so; a region after a pass over it; and the header after a count was written.
use mathlib.Core.Path.{◌≡◌, sym, ◌∙◌, ap}
use mathlib.Core.Bool.{true, false, cond}
use mathlib.Core.List.{List}
use Prim.Native.Nat.{ℕ, ◌<◌, ◌≤◌, ◌^◌}
use native.Mathlib.Omega.{arith}
use native.Mathlib.Nat.{zero-add}
use native.Mathlib.Decide.{ℕ_discrete}
use lib.Dec.{eqb}
use lib.ListN.{length, get_or, set, length-set}
use Rattle.terms.specs.declared.Shape.{Shape}
use Rattle.terms.specs.declared.Form.{Form}
use lib.Seq.{get_or-set_same, get_or-set_other}
use borrow.Author.Tests.{ne_eqb}
use Rattle.words.specs.Words.{Fit}
use Rattle.loops.specs.Change.{changed}
use Rattle.loops.proofs.Change.{changed_at_lem, set_fit}
use Rattle.layout.specs.Regions.{index, len}
use Rattle.layout.specs.View.{View, renew, put}
use Rattle.layout.proofs.View.{renew_long}
use Rattle.layout.specs.declared.Region.{Region}
use Rattle.layout.specs.declared.Region.TheVariants.{Changes}
use Rattle.layout.specs.Sizes.{sizes_of}
use Rattle.model.specs.Writing.{noted}
use Rattle.history.specs.History.{Commit}
use Rattle.history.proofs.Lists.{by_cases, eqb_same}
use Rattle.model.specs.Represents.{Whole, HeaderIs}

pub renew_whole : {F : Form} {S : Shape} {v : View} (k : Region) (l : List ℕ) → length l ≡ len (sizes_of F S) k → Fit l → Whole F S v → Whole F S (renew k l v)
renew_whole {F} {S} {v} k l e f o = record {
  long = renew_long (sizes_of F S) k l v e o.long;
  fits = unfold renew in (λ j. elim (eqb (index k) (index j)) as (λ b. Fit (cond b l (v j))) [ true ↦ f | false ↦ o.fits j ]);
}

pub put_whole : {F : Form} {S : Shape} {v : View} (k : Region) (i w : ℕ) → w < 2 ^ 32 → Whole F S v → Whole F S (put k i w v)
unfolding put
put_whole {v = v} k i w b o = renew_whole k (set (v k) i w) (length-set (v k) i w ∙ o.long k) (set_fit (v k) i w (o.fits k) b) o

pub noted_whole : {F : Form} {S : Shape} {v : View} (t : ℕ) → Whole F S v → Whole F S (noted t v)
unfolding noted
noted_whole t = put_whole Changes _ _ (omega arith)

-- ---- a pass over a region from its start
pub changed_start : (f : ℕ → ℕ → ℕ) (n : ℕ) (l : List ℕ) (i : ℕ) → n ≤ length l → i < n → get_or (changed f 0 n l) i 0 ≡ f i (get_or l i 0)
changed_start f n l i a b =
    ap (λ (j : ℕ). get_or (changed f 0 n l) j 0) (sym (zero-add i)) ∙ changed_at_lem f 0 l n i (omega arith) b ∙ ap (λ (j : ℕ). f i (get_or l j 0)) (zero-add i)

-- ---- the header: one of its counts is written, and counts that are equal
word_put : (ws : List ℕ) (i k n : ℕ) → i < length ws → get_or (set ws i n) k 0 ≡ cond (eqb k i) n (get_or ws k 0)
word_put ws i k n b = by_cases (ℕ_discrete k i) (λ e. rw (e, eqb_same i) (get_or-set_same ws i n 0 b)) (λ f. rw (ne_eqb k i f) (get_or-set_other ws i k n 0 f))

module _ {F : Form} {S : Shape} {r t s : ℕ} {l : Commit} {m : ℕ} where
  pub header_put : (ws : List ℕ) (i n : ℕ) → i < length ws → 4 ≤ i → HeaderIs F S r t s l m (λ k. get_or ws k 0)
      → HeaderIs F S (cond (eqb 4 i) n r) (cond (eqb 5 i) n t) (cond (eqb 6 i) n s) record { stamp = cond (eqb 7 i) n l.stamp; ordinal = cond (eqb 9 i) n l.ordinal } (cond (eqb 8 i) n m)
      (λ k. get_or (set ws i n) k 0)
  header_put ws i n b d o =
      record {
        columns = get_or-set_other ws i 0 n 0 (λ e. omega arith) ∙ o.columns;
        ranges = get_or-set_other ws i 1 n 0 (λ e. omega arith) ∙ o.ranges;
        capacity = get_or-set_other ws i 2 n 0 (λ e. omega arith) ∙ o.capacity;
        spares = get_or-set_other ws i 3 n 0 (λ e. omega arith) ∙ o.spares;
        rows_given = word_put ws i 4 n b ∙ ap (cond (eqb 4 i) n) o.rows_given;
        transactions_given = word_put ws i 5 n b ∙ ap (cond (eqb 5 i) n) o.transactions_given;
        scans_given = word_put ws i 6 n b ∙ ap (cond (eqb 6 i) n) o.scans_given;
        last_stamp = word_put ws i 7 n b ∙ ap (cond (eqb 7 i) n) o.last_stamp;
        commits_made = word_put ws i 9 n b ∙ ap (cond (eqb 9 i) n) o.commits_made;
        merges_made = word_put ws i 8 n b ∙ ap (cond (eqb 8 i) n) o.merges_made;
      }

  pub header_same : {r' t' s' m' : ℕ} {word : ℕ → ℕ} → r ≡ r' → t ≡ t' → s ≡ s' → m ≡ m' → HeaderIs F S r t s l m word → HeaderIs F S r' t' s' l m' word
  header_same a b c d o = rw (← a, ← b, ← c, ← d) o
