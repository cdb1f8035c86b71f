-- What the bytes that `gatebook` reads mean: rules 12.1 to 12.3 of docs/SPECIFICATION.md. Every definition here is executable.
use Rattle.std.specs.Prelude.{Bool, true, false, cond, Result, Ok, Err, List, [], ◌∷◌, ◌++◌, map, ℕ, zero, suc, ◌+◌, ◌*◌, ◌≤◌, leb, length, get_or, take, drop, replicate, ℤ}
use Rattle.std.proofs.Math.Seq.{slice}
use Rattle.std.specs.Int.{w32}
use Rattle.std.proofs.Common.{to_z}
use Rattle.terms.specs.Measures.{most_columns, lent_stamps}
use Rattle.terms.specs.declared.Shape.{Shape}
use Rattle.terms.specs.declared.Refusal.{Refusal}
use Rattle.words.specs.Words.{words}
use Rattle.history.specs.History.{Call, begin, insert, update, delete, commit, abort, latest, read_at, own_read, open_scan, scan_read, sum, close, merge, release, page_cell, lineage, crossings, begin_as, keeper_at}
use Rattle.commands.specs.declared.Read.{Read}
use Rattle.commands.specs.declared.Write.{Write}
use Rattle.commands.specs.declared.Kind.{Kind}
use Rattle.commands.specs.declared.Format.{Format}

-- ---- widths
-- the most operands of a command, and the most bytes of one
abbrev pub most_operands : ℕ
most_operands = 5

abbrev pub operand_bytes : ℕ
operand_bytes = 4

-- the bytes of a column's value
abbrev pub value_bytes : ℕ
value_bytes = 4

-- the most bytes behind a command byte, and of a command
abbrev pub operands_bytes : ℕ
operands_bytes = most_operands * operand_bytes + value_bytes * most_columns

abbrev pub command_bytes : ℕ
command_bytes = 1 + operands_bytes

-- ---- the commands
-- the format of a call with operands of the given widths, and of none past them
abbrev pub format_of : Kind → List ℕ → Bool → Format
format_of k ws vs = record { kind = k; widths = take most_operands (ws ++ replicate most_operands 0); values = vs }

abbrev pub widths_of : Format → List ℕ
widths_of f = f.widths

-- 3.19: what a command byte stands for, or the refusal of one that is no command
abbrev pub Chosen : Type 0
Chosen = Result Format Refusal

abbrev pub numbers : Kind → List ℕ → Chosen
numbers k ws = Ok (format_of k ws false)

abbrev pub numbers_and_values : Kind → List ℕ → Chosen
numbers_and_values k ws = Ok (format_of k ws true)

-- Each command byte from 00 on: the call, the widths of its operands in bytes, and whether every column's value follows.
unfoldable pub commands : List Chosen
commands =
    Err Refusal.Command
    -- 01 begin
    ∷ numbers (Kind.Write Write.Begin) []
    -- 02 insert: transaction (2), every column's value (4 each)
    ∷ numbers_and_values (Kind.Write Write.Insert) (2 ∷ [])
    -- 03 update: transaction (2), row (2), mask (2), every column's value, unmasked ones ignored
    ∷ numbers_and_values (Kind.Write Write.Update) (2 ∷ 2 ∷ 2 ∷ [])
    -- 04 delete: transaction, row
    ∷ numbers (Kind.Write Write.Delete) (2 ∷ 2 ∷ [])
    -- 05 commit: transaction, stamp (4)
    ∷ numbers (Kind.Write Write.Commit) (2 ∷ 4 ∷ [])
    -- 06 abort: transaction
    ∷ numbers (Kind.Write Write.Abort) (2 ∷ [])
    -- 07 latest: row, column (1)
    ∷ numbers (Kind.Read Read.Latest) (2 ∷ 1 ∷ [])
    -- 08 read at: stamp, row, column
    ∷ numbers (Kind.Read Read.ReadAt) (4 ∷ 2 ∷ 1 ∷ [])
    -- 09 own read: transaction, row, column
    ∷ numbers (Kind.Read Read.OwnRead) (2 ∷ 2 ∷ 1 ∷ [])
    -- 0A open scan: stamp
    ∷ numbers Kind.OpenScan (4 ∷ [])
    -- 0B scan read: scan (2), row, column
    ∷ numbers (Kind.Read Read.ScanRead) (2 ∷ 2 ∷ 1 ∷ [])
    -- 0C sum: scan, column
    ∷ numbers (Kind.Read Read.Sum) (2 ∷ 1 ∷ [])
    -- 0D close: scan
    ∷ numbers Kind.Close (2 ∷ [])
    -- 0E merge: range (1), column, through (2)
    ∷ numbers (Kind.Write Write.Merge) (1 ∷ 1 ∷ 2 ∷ [])
    -- 0F release
    ∷ numbers (Kind.Write Write.Release) []
    -- 10 page cell: column, row
    ∷ numbers (Kind.Read Read.PageCell) (1 ∷ 2 ∷ [])
    -- 11 lineage: range, column
    ∷ numbers (Kind.Read Read.Lineage) (1 ∷ 1 ∷ [])
    -- 12 crossings: row, column, mark (4, signed), from, to
    ∷ numbers Kind.Crossings (2 ∷ 1 ∷ 4 ∷ 4 ∷ 4 ∷ [])
    -- 13 begin as: keeper (2)
    ∷ numbers (Kind.Write Write.BeginAs) (2 ∷ [])
    -- 14 keeper at: stamp, row, column
    ∷ numbers (Kind.Read Read.KeeperAt) (4 ∷ 2 ∷ 1 ∷ [])
    ∷ []

-- 3.19: a byte that is no command
unfoldable pub chosen : ℕ → Chosen
chosen byte = get_or commands byte (Err Refusal.Command)

-- Each operand has at most so many bytes.
abbrev pub Narrow : List ℕ → Type 0
Narrow [] = Unit {0}
Narrow (w ∷ ws) = (w ≤ operand_bytes) × Narrow ws

-- what the code that decodes asks of a format and the columns
abbrev pub Small : ℕ → Format → Type 0
Small columns f = Narrow (widths_of f) × (columns ≤ most_columns)

-- 12.3: how many values follow the numbers, one for each column
abbrev pub value_count : ℕ → Format → ℕ
value_count columns f = cond f.values columns 0

-- the bytes of operands of the given widths
abbrev pub total : List ℕ → ℕ
total [] = 0
total (w ∷ ws) = w + total ws

-- the bytes behind a command byte
abbrev pub width : ℕ → Format → ℕ
width columns f = total (widths_of f) + value_bytes * value_count columns f

-- ---- numbers in bytes
-- the lowest byte comes first
unfoldable pub little_endian : List ℕ → ℕ
little_endian [] = 0
little_endian (b ∷ bs) = b + 256 * little_endian bs

-- the number in the n bytes from `at`
unfoldable pub operand : ℕ → ℕ → List ℕ → ℕ
operand at n bs = little_endian (slice at (at + n) bs)

-- the operands of the given widths, one behind the other from `at`
unfoldable pub operands : ℕ → List ℕ → List ℕ → List ℕ
operands at [] bs = []
operands at (w ∷ ws) bs = operand at w bs ∷ operands (at + w) ws bs

-- the first n signed values of 32 bits
unfoldable pub values : ℕ → List ℕ → List ℤ
values n bs = map (to_z w32) (take n (words bs))

-- ---- the call
abbrev pub first : List ℕ → ℕ
first ns = get_or ns 0 0

abbrev pub second : List ℕ → ℕ
second ns = get_or ns 1 0

abbrev pub third : List ℕ → ℕ
third ns = get_or ns 2 0

abbrev pub fourth : List ℕ → ℕ
fourth ns = get_or ns 3 0

abbrev pub fifth : List ℕ → ℕ
fifth ns = get_or ns 4 0

unfoldable pub read_of : Read → List ℕ → Call
read_of Read.Latest ns = latest (first ns) (second ns)
read_of Read.ReadAt ns = read_at (first ns) (second ns) (third ns)
read_of Read.OwnRead ns = own_read (first ns) (second ns) (third ns)
read_of Read.ScanRead ns = scan_read (first ns) (second ns) (third ns)
read_of Read.Sum ns = sum (first ns) (second ns)
read_of Read.PageCell ns = page_cell (first ns) (second ns)
read_of Read.Lineage ns = lineage (first ns) (second ns)
read_of Read.KeeperAt ns = keeper_at (first ns) (second ns) (third ns)

unfoldable pub write_of : Write → List ℕ → List ℤ → Call
write_of Write.Begin ns vs = begin
write_of Write.Insert ns vs = insert (first ns) vs
write_of Write.Update ns vs = update (first ns) (second ns) (third ns) vs
write_of Write.Delete ns vs = delete (first ns) (second ns)
write_of Write.Commit ns vs = commit (first ns) (second ns)
write_of Write.Abort ns vs = abort (first ns)
write_of Write.Merge ns vs = merge (first ns) (second ns) (third ns)
write_of Write.Release ns vs = release
write_of Write.BeginAs ns vs = begin_as (first ns)

unfoldable pub call_of : Kind → List ℕ → List ℤ → Call
call_of (Kind.Read k) ns vs = read_of k ns
call_of (Kind.Write k) ns vs = write_of k ns vs
call_of Kind.OpenScan ns vs = open_scan (first ns)
call_of Kind.Close ns vs = close (first ns)
call_of Kind.Crossings ns vs = crossings (first ns) (second ns) (to_z w32 (third ns)) (fourth ns) (fifth ns) (replicate lent_stamps 0)

-- the call of a command whose operands are at the front of bs
unfoldable pub call_from : ℕ → Format → List ℕ → Call
call_from columns f bs = call_of f.kind (operands 0 (widths_of f) bs) (values (value_count columns f) (drop (total (widths_of f)) bs))

-- ---- the input as a whole
-- A command with its call, or a command byte that is refused: 19 for an unknown one, 20 where the input ends inside its operands. A refused one is the last
-- item, since nothing is read behind it.
pub data Item : Type 0 where
  command : (byte : ℕ) → Call → Item
  refused : (byte : ℕ) → Refusal → Item

-- what stands at a byte with bs behind it, and the bytes that are left after it
unfoldable pub item_at : ℕ → ℕ → Chosen → List ℕ → Item
item_at columns byte (Ok f) bs =
    cond (leb (width columns f) (length bs)) (command byte (call_from columns f bs)) (refused byte Refusal.Cut)
item_at columns byte (Err r) bs = refused byte r

unfoldable pub behind : ℕ → Chosen → List ℕ → List ℕ
behind columns (Ok f) bs = drop (width columns f) bs
behind columns (Err r) bs = []

-- The commands in bs. The first argument bounds their number, and that of the bytes is enough (proofs/Items.antt).
unfoldable pub items : ℕ → ℕ → List ℕ → List Item
items zero columns bs = []
items (suc most) columns [] = []
items (suc most) columns (byte ∷ bs) =
    item_at columns byte (chosen byte) bs ∷ items most columns (behind columns (chosen byte) bs)

-- 3.20, 12.6: input that ends inside the shape or a command
pub data Script : Type 0 where
  cut_shape : Script
  script : Shape → List Item → Script

-- 12.1: the shape
abbrev pub shape_bytes : ℕ
shape_bytes = 6

unfoldable pub shape_from : List ℕ → Shape
shape_from bs = record { columns = operand 0 1 bs; ranges = operand 1 1 bs; capacity = operand 2 2 bs; spares = operand 4 2 bs }

unfoldable pub parse : List ℕ → Script
parse bs =
    cond (leb shape_bytes (length bs))
    (script (shape_from bs) (items (length bs) (shape_from bs).columns (drop shape_bytes bs)))
    cut_shape
