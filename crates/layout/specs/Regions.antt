-- The table of regions: the number, the length and the order of each, and what follows of it: where each starts, and the words needed.
-- A new region is a line at the end of each of `index`, `later_lens` and `all`, a case of the code's `Region`, a line of its table `lies_before` and `words_needed` (src/lib.rt), and of its proof.
use Rattle.std.specs.Prelude.{ℕ, ◌+◌, ◌*◌, ◌-◌, ◌/◌, ◌%◌, Bool, cond, ◌||◌, List, [], ◌∷◌, ◌++◌, eqb, get_or}
use Rattle.terms.specs.Measures.{range_rows, most_transactions}
use Rattle.terms.specs.declared.Shape.{Shape}
use Rattle.terms.specs.declared.Form.{Form}
use Rattle.layout.specs.declared.Sizes.{Sizes}
use Rattle.layout.specs.declared.Region.{Region}
use Rattle.layout.specs.Cut.{start_from, end_from}

abbrev pub index : Region → ℕ
index Region.Header = 0
index Region.Opens = 1
index Region.RowTransaction = 2
index Region.RowState = 3
index Region.RowStamp = 4
index Region.RowLink = 5
index Region.RowMask = 6
index Region.TailTransaction = 7
index Region.TailRow = 8
index Region.TailKind = 9
index Region.TailMask = 10
index Region.TailLink = 11
index Region.TailState = 12
index Region.TailStamp = 13
index Region.TailValues = 14
index Region.Used = 15
index Region.Current = 16
index Region.PageState = 17
index Region.PageChunk = 18
index Region.PageMade = 19
index Region.PageReplaced = 20
index Region.PageLineage = 21
index Region.PageNewest = 22
index Region.Cells = 23
index Region.Changes = 24
index Region.RowOrdinal = 25
index Region.TailOrdinal = 26
index Region.RowKeeper = 27
index Region.TailKeeper = 28
index Region.OpenKeeper = 29

abbrev pub header_words : ℕ
header_words = 16

-- the lengths of the regions that every form has
abbrev pub older_lens : Sizes → List ℕ
older_lens s =
    header_words
    ∷ most_transactions
    ∷ s.rows ∷ s.rows ∷ s.rows ∷ s.rows ∷ s.rows
    ∷ s.slots ∷ s.slots ∷ s.slots ∷ s.slots ∷ s.slots ∷ s.slots ∷ s.slots
    ∷ s.values
    ∷ s.ranges
    ∷ s.chunks
    ∷ s.pages ∷ s.pages ∷ s.pages ∷ s.pages ∷ s.pages ∷ s.pages
    ∷ s.pages * range_rows
    ∷ most_transactions
    ∷ s.rows
    ∷ s.slots
    ∷ []

-- and of those that the first form does not have: they are empty there
abbrev pub later_lens : Sizes → List ℕ
later_lens s = s.later.rows ∷ s.later.slots ∷ s.later.opens ∷ []

abbrev pub lens : Sizes → List ℕ
lens s = older_lens s ++ later_lens s

abbrev pub all : List Region
all =
    Region.Header
    ∷ Region.Opens
    ∷ Region.RowTransaction ∷ Region.RowState ∷ Region.RowStamp ∷ Region.RowLink ∷ Region.RowMask
    ∷ Region.TailTransaction ∷ Region.TailRow ∷ Region.TailKind ∷ Region.TailMask ∷ Region.TailLink ∷ Region.TailState ∷ Region.TailStamp
    ∷ Region.TailValues
    ∷ Region.Used
    ∷ Region.Current
    ∷ Region.PageState ∷ Region.PageChunk ∷ Region.PageMade ∷ Region.PageReplaced ∷ Region.PageLineage ∷ Region.PageNewest
    ∷ Region.Cells
    ∷ Region.Changes
    ∷ Region.RowOrdinal
    ∷ Region.TailOrdinal
    ∷ Region.RowKeeper
    ∷ Region.TailKeeper
    ∷ Region.OpenKeeper
    ∷ []

abbrev pub len : Sizes → Region → ℕ
len s k = get_or (lens s) (index k) 0

unfoldable pub base : Sizes → Region → ℕ
base s k = start_from 0 (lens s) (index k)

-- the words that all the regions take
unfoldable pub need : Sizes → ℕ
need s = end_from 0 (lens s)

-- ---- the words of a tail record
-- where the first record of range g lies, with room for so many records in each range
abbrev pub first_slot : ℕ → ℕ → ℕ
first_slot capacity g = g * capacity

-- A tail record is reached through `slot` alone: k counts from 1 in its range.
unfoldable pub slot : Shape → ℕ → ℕ → ℕ
slot S g k = first_slot S.capacity g + (k - 1)

-- ---- the words of the header

-- the columns, and in the upper half of the word the stored form
abbrev pub columns_at : ℕ
columns_at = 0

abbrev pub ranges_at : ℕ
ranges_at = 1

abbrev pub capacity_at : ℕ
capacity_at = 2

abbrev pub spares_at : ℕ
spares_at = 3

-- the rows, transaction numbers and scan numbers given, the last commit's stamp, the merges and the commits made
abbrev pub rows_at : ℕ
rows_at = 4

abbrev pub transactions_at : ℕ
transactions_at = 5

abbrev pub scans_at : ℕ
scans_at = 6

abbrev pub stamp_at : ℕ
stamp_at = 7

abbrev pub merges_at : ℕ
merges_at = 8

abbrev pub commits_at : ℕ
commits_at = 9

-- ---- the stored form (8.11): form 1 has the columns alone in their word, at most 16; each later form adds one of these
abbrev pub form_unit : ℕ
form_unit = 65536

-- form 2: form 1 with the regions of keepers behind the others
abbrev pub form_number : Form → ℕ
form_number Form.First = 1
form_number Form.Newest = 2

-- the columns' word in a memory of a form
abbrev pub columns_word : Form → ℕ → ℕ
columns_word form columns = (form_number form - 1) * form_unit + columns

-- the number of the form that a columns' word says, whether it is one that calls work on, and the form if it is
abbrev pub form_said : ℕ → ℕ
form_said word = word / form_unit + 1

abbrev pub form_known : ℕ → Bool
form_known word = eqb (form_said word) (form_number Form.First) || eqb (form_said word) (form_number Form.Newest)

abbrev pub form_in : ℕ → Form
form_in word = cond (eqb (form_said word) (form_number Form.First)) Form.First Form.Newest

abbrev pub columns_in : ℕ → ℕ
columns_in word = word % form_unit
