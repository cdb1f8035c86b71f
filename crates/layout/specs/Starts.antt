-- What lies before a region, as the code has it: so many times each length. `words_before` is the sum in a shape; the contract of the code's table (`lies_before`) says
-- by it that a region starts where the table of lengths (Regions) has it start.
use Rattle.std.specs.Prelude.{ℕ, ◌+◌, ◌*◌}
use Rattle.terms.specs.Measures.{range_rows, most_transactions}
use Rattle.layout.specs.declared.Sizes.{Sizes}
use Rattle.layout.specs.declared.Before.{Before}
use Rattle.layout.specs.Regions.{header_words}

-- the words that no size counts: before the rows, and before the ordinals
abbrev pub rows_from : ℕ
rows_from = header_words + most_transactions

abbrev pub ordinals_from : ℕ
ordinals_from = rows_from + most_transactions

-- the words of a page, its six fields and its cells
abbrev pub page_words : ℕ
page_words = 6 + range_rows

-- behind so many words and lengths, and behind no region that the first form does not have
abbrev pub behind : (words rows slots values ranges chunks pages : ℕ) → Before
behind n r t v g c p = record { words = n; rows = r; slots = t; values = v; ranges = g; chunks = c; pages = p; later = record { rows = 0; slots = 0; opens = 0 } }

-- behind all that the first form has, and so many of the regions that it does not have
abbrev pub behind_all : (rows slots : ℕ) → Before
behind_all r t = record { words = ordinals_from; rows = 6; slots = 8; values = 1; ranges = 1; chunks = 1; pages = page_words; later = record { rows = r; slots = t; opens = 0 } }

-- the words that this makes in a shape: of the regions that every form has, and of all
abbrev pub older_before : Before → Sizes → ℕ
older_before b s = b.words + b.rows * s.rows + b.slots * s.slots + b.values * s.values + b.ranges * s.ranges + b.chunks * s.chunks + b.pages * s.pages

abbrev pub words_before : Before → Sizes → ℕ
words_before b s = older_before b s + b.later.rows * s.later.rows + b.later.slots * s.later.slots
