-- What `gatebook` writes, and the claim that it is what it must write. proofs/Gatebook.antt proves it.
use Rattle.std.specs.Prelude.{ℕ, ◌*◌, ◌≤◌, ◌≡◌, List, length, take}
use Rattle.terms.specs.Measures.{most_scans}
use Rattle.terms.specs.declared.Shape.{Shape}
use Rattle.terms.specs.declared.Form.{Form}
use Rattle.words.specs.Words.{Bytes}
use Rattle.layout.specs.Sizes.{shape_of, bytes_needed}
use Rattle.commands.specs.Commands.{shape_bytes}
use Rattle.output.specs.Output.{lent_columns, lent_ranges, lent_records, lent_spares, output}
use Rattle.output.specs.Steps.{lines_from}
use Rattle.promise.specs.Promise.{Lent, lent_machine}
use Rattle.requests.specs.Packed.{entry_bytes}
use Rattle.turns.specs.Turns.{first_answer, first_store, columns_from, capped}

-- All that is written for the input bs by the turns that the code makes, in the memory and scan list x: the shape's, and then a command's after another.
unfoldable pub gatebook : Lent → List ℕ → List ℕ
gatebook x bs =
    lines_from (first_answer x (take shape_bytes bs)) lent_machine (capped (columns_from (take shape_bytes bs))) (first_store x (take shape_bytes bs)) bs

-- the bytes that are lent: that many for the largest shape in the newest form (the contract of `lent_memory`), and an entry for each scan that can be open
abbrev pub memory_bytes : ℕ
memory_bytes = 29680

abbrev pub list_bytes : ℕ
list_bytes = entry_bytes * most_scans

-- the largest shape that memory is lent for
abbrev pub largest : Shape
largest = shape_of lent_columns lent_ranges lent_records lent_spares

-- For every input, whatever the memory and the list held before, the bytes written are those that section 12 of docs/SPECIFICATION.md asks for: the lines of the plain history's
-- answers to the commands.
unfoldable pub GatebookWrites : Type 0
GatebookWrites =
    (x : Lent) (bs : List ℕ) → Bytes bs → bytes_needed Form.Newest largest ≤ length x.memory → most_scans ≤ length x.list → gatebook x bs ≡ output bs
