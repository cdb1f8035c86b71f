-- What is copied and cleared is the store in the form moved to, and it lies within the words that both memories have.
use Prim.Native.Nat.{ℕ, ◌*◌, ◌≤◌, ◌<◌}
use mathlib.Core.Path.{◌≡◌}
use mathlib.Core.List.{List}
use native.Mathlib.Omega.{arith}
use native.Mathlib.Nat.{mul-le-mul}
use lib.ListN.{length}
use Rattle.terms.specs.Measures.{most_columns, most_slots}
use Rattle.terms.specs.declared.Shape.{Shape}
use Rattle.terms.specs.declared.Form.{Form}
use Rattle.loops.specs.Change.{copied}
use Rattle.layout.specs.declared.Sizes.{Sizes}
use Rattle.layout.specs.declared.Region.TheVariants.{Header, RowKeeper, TailKeeper, OpenKeeper}
use Rattle.layout.specs.Regions.{base, need, columns_at, columns_word}
use Rattle.layout.specs.Sizes.{sizes_of, in_form, Proper, too_many_words}
use Rattle.layout.specs.View.{View, view, put, fill}
use Rattle.layout.specs.Moved.{moved}
use Rattle.layout.proofs.View.{base_in}
use Rattle.layout.proofs.Limits.{later_few}
use Rattle.layout.proofs.Indices.{slots_few, chunks_few}
use Rattle.layout.proofs.Moved.{older_words, copied_moved}

module _ (f f' : Form) (S : Shape) (s to : Sizes) (e : s ≡ sizes_of f S) (q : to ≡ sizes_of f' S) where
  -- the words that are copied are in both
  pub words_in : (base to RowKeeper ≤ need s) × (base to RowKeeper ≤ need to)
  words_in =
      let same : base to RowKeeper ≡ base s RowKeeper = rw (e, q) (older_words f f' S) in
      (omega (arith, same, base_in s RowKeeper), omega (arith, base_in to RowKeeper))

  module _ (ws ws' : List ℕ) (room : need s ≤ length ws) (room' : need to ≤ length ws') where
    laid_moved : put Header columns_at (columns_word f' S.columns) (fill OpenKeeper 0 to.later.opens 0 (fill TailKeeper 0 to.later.slots 0 (fill RowKeeper 0 to.later.rows 0 (view to (copied ws 0 (base to RowKeeper) 0 ws')))))
        ≡ moved f' S (view s ws)
    laid_moved = rw (e, q) (copied_moved f f' S ws ws' (rw e at room) (rw q at room'))

    -- call by call: n words are copied, the three regions cleared, and the columns' word is written
    pub calls_moved : (n word : ℕ) (copy : List ℕ) (rows slots opens left : View) → n ≡ base to RowKeeper → copy ≡ copied ws 0 n 0 ws'
        → rows ≡ fill RowKeeper 0 to.later.rows 0 (view to copy) → slots ≡ fill TailKeeper 0 to.later.slots 0 rows → opens ≡ fill OpenKeeper 0 to.later.opens 0 slots
        → word ≡ columns_word f' S.columns → left ≡ put Header columns_at word opens → left ≡ moved f' S (view s ws)
    calls_moved n word copy rows slots opens left a b c d g h i = rw (i, h, g, d, c, b, a) laid_moved

-- the words needed in the other form are not too many either
pub moved_small : (f : Form) (s : Sizes) → Proper s → need (in_form f s) < too_many_words
unfolding need
moved_small f s p =
    let few = later_few f s.rows s.slots in
    let values : s.slots * s.columns ≤ most_slots * most_columns = mul-le-mul (slots_few s p) p.columns_to in
    omega (arith, few.0, few.1, few.2, p.rows_are, p.ranges_to, slots_few s p, values, p.values_are, chunks_few s p, p.pages_to)
