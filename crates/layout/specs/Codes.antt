-- The numbers that stand for states and kinds in the memory, and how much of a word a keeper takes. The code has them as constants (src/codes.rt). Where a word can hold more than the store writes,
-- the model says what every other number counts as.
use Rattle.std.specs.Prelude.{ℕ, ◌^◌}

-- ---- the state of a row or a tail record: that of its transaction
abbrev pub as_open : ℕ
as_open = 0

abbrev pub as_committed : ℕ
as_committed = 1

abbrev pub as_aborted : ℕ
as_aborted = 2

-- ---- the kind of a tail record
abbrev pub as_original : ℕ
as_original = 0

abbrev pub as_setting : ℕ
as_setting = 1

abbrev pub as_delete : ℕ
as_delete = 2

-- ---- the state of a page
abbrev pub as_free : ℕ
as_free = 0

abbrev pub as_current : ℕ
as_current = 1

abbrev pub as_waiting : ℕ
as_waiting = 2

-- ---- a keeper is a number of two bytes; of a word that holds one, the lower two count
abbrev pub keeper_limit : ℕ
keeper_limit = 2 ^ 16
