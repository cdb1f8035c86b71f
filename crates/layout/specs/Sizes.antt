-- The sizes that a shape makes in a stored form, and the bytes that it needs.
use Rattle.std.specs.Prelude.{ℕ, ◌+◌, ◌*◌, ◌^◌, ◌≤◌, ◌≡◌, cond}
use Rattle.terms.specs.Measures.{range_rows, most_columns, most_ranges, most_records, most_spares, most_transactions, within_limits, most_pages}
use Rattle.terms.specs.declared.Shape.{Shape}
use Rattle.terms.specs.declared.Form.{Form}
use Rattle.std.specs.Prelude.{Ok, Err}
use Rattle.terms.specs.Answers.{Answer}
use Rattle.terms.specs.declared.Fields.{Fields}
use Rattle.terms.specs.declared.Refusal.{Refusal}
use Rattle.layout.specs.declared.Sizes.{Sizes}
use Rattle.layout.specs.declared.Later.{Later}
use Rattle.layout.specs.Regions.{need}

abbrev pub shape_of : ℕ → ℕ → ℕ → ℕ → Shape
shape_of c r t x = record { columns = c; ranges = r; capacity = t; spares = x }

-- the lengths of the regions that the first form does not have
abbrev pub later_of : Form → (rows slots : ℕ) → Later
later_of Form.First rows slots = record { rows = 0; slots = 0; opens = 0 }
later_of Form.Newest rows slots = record { rows = rows; slots = slots; opens = most_transactions }

abbrev pub sizes_of : Form → Shape → Sizes
sizes_of f p =
    record {
      form = f;
      columns = p.columns;
      ranges = p.ranges;
      capacity = p.capacity;
      spares = p.spares;
      rows = p.ranges * range_rows;
      slots = p.ranges * p.capacity;
      values = p.ranges * p.capacity * p.columns;
      chunks = p.columns * p.ranges;
      pages = p.columns * p.ranges + p.spares;
      later = later_of f (p.ranges * range_rows) (p.ranges * p.capacity);
    }

-- the sizes of the same shape in another form
abbrev pub in_form : Form → Sizes → Sizes
in_form f s =
    record {
      form = f;
      columns = s.columns;
      ranges = s.ranges;
      capacity = s.capacity;
      spares = s.spares;
      rows = s.rows;
      slots = s.slots;
      values = s.values;
      chunks = s.chunks;
      pages = s.pages;
      later = later_of f s.rows s.slots;
    }

-- The sizes are what a shape within the limits makes. Said field by field, since sums and bounds are what the code's indices want.
pub record Proper (s : Sizes) : Type 0 where
  pub rows_are : s.rows ≡ s.ranges * range_rows
  pub slots_are : s.slots ≡ s.ranges * s.capacity
  pub values_are : s.values ≡ s.slots * s.columns
  pub chunks_are : s.chunks ≡ s.columns * s.ranges
  pub pages_are : s.pages ≡ s.chunks + s.spares
  pub columns_from : 1 ≤ s.columns
  pub columns_to : s.columns ≤ most_columns
  pub ranges_from : 1 ≤ s.ranges
  pub ranges_to : s.ranges ≤ most_ranges
  pub capacity_to : s.capacity ≤ most_records
  pub spares_to : s.spares ≤ most_spares
  pub pages_to : s.pages ≤ most_pages

-- more words than a shape within the limits needs, and few enough that their bytes can be counted in one word
abbrev pub too_many_words : ℕ
too_many_words = 2 ^ 24

unfoldable pub bytes_needed : Form → Shape → ℕ
bytes_needed f p = need (sizes_of f p) * 4

-- 8.3 of docs/SPECIFICATION.md: the most bytes that a shape may need
abbrev pub bytes_allowed : Sizes → ℕ
bytes_allowed s = 4096 + 320 * s.pages + 64 * s.rows + (64 + 4 * s.columns) * s.slots

unfoldable pub bytes_answer : Shape → Answer
bytes_answer p = cond (within_limits p) (Ok (Fields.Number (bytes_needed Form.Newest p))) (Err Refusal.Shape)

-- what the call that answers the bytes needed, in the newest form, promises: the answer, and that the bytes answered are within the bound
unfoldable pub BytesAnswered : Shape → Answer → Type 0
BytesAnswered p r = (r ≡ bytes_answer p) × ((n : ℕ) → r ≡ Ok (Fields.Number n) → n ≤ bytes_allowed (sizes_of Form.Newest p))
