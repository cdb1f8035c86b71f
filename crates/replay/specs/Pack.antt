-- The widths of a pack, as reference/src/pack.rs has it.
use Rattle.std.specs.Prelude.{ℕ}

-- the most bytes of a pack, and those of a record before what it holds
abbrev pub pack_bytes : ℕ
pack_bytes = 262144

abbrev pub head_bytes : ℕ
head_bytes = 9
