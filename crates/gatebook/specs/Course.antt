-- What a read, a round and a write do with the program's course, how a run ends, and the claim over the bytes that it received. proofs/Ran.antt proves it.
use Rattle.std.specs.Prelude.{ℕ, ◌+◌, ◌-◌, ◌/◌, ◌^◌, ◌≤◌, ◌<◌, ◌≡◌, Bool, true, false, not, ◌&&◌, List, [], ◌++◌, eqb, ltb, length, take}
use Rattle.terms.specs.Measures.{most_scans}
use Rattle.words.specs.Words.{Bytes}
use Rattle.terms.specs.declared.Form.{Form}
use Rattle.layout.specs.Sizes.{bytes_needed}
use Rattle.decimal.specs.Written.{line_bytes}
use Rattle.output.specs.Output.{output}
use Rattle.promise.specs.Promise.{Lent}
use Rattle.turns.specs.Gatebook.{largest}
use Rattle.commands.specs.Commands.{command_bytes}
use Rattle.rounds.specs.Due.{Flow, Moved, Round}
use Rattle.rounds.specs.Rounds.{opening}
use Rattle.gatebook.specs.declared.course.Course.{Course}

-- The buffers: as many bytes of input as have their lines in the buffer of lines.
abbrev pub lines_bytes : ℕ
lines_bytes = 65536

abbrev pub input_bytes : ℕ
input_bytes = lines_bytes / line_bytes - 1

-- 2^63, to which no run comes
abbrev pub most_bytes : ℕ
most_bytes = 2 ^ 63

-- Whether there is another round. The program ends by itself only where it has read or written the most bytes, or where a write failed.
abbrev pub goes : Course → Bool
goes c = not c.failed && ltb c.read most_bytes && ltb c.sent most_bytes && c.on

abbrev pub flow_of : Course → Flow
flow_of c = record { on = c.on; started = c.started; columns = c.columns }

pub record Opened (c : Course) : Type 0 where
  pub flow : flow_of c ≡ opening
  pub held : c.held ≡ 0
  pub last : c.last ≡ false
  pub written : c.written ≡ 0
  pub read : c.read ≡ 0
  pub sent : c.sent ≡ 0

-- More input stands behind the bytes that are held, and where none came it was the last.
pub record Received (c d : Course) (old new : List ℕ) : Type 0 where
  pub held : take c.held new ≡ take c.held old
  pub more : c.held ≤ d.held
  pub inside : d.held ≤ length new
  pub last : d.last ≡ eqb d.held c.held
  pub flow : flow_of d ≡ flow_of c
  pub written : d.written ≡ c.written
  pub read : d.read + c.held ≡ c.read + d.held
  pub sent : d.sent ≡ c.sent

-- A round over the bytes that are held, in the buffers: what it leaves stands at the front.
pub record Rounded (c d : Course) (x y : Lent) (old new lines : List ℕ) : Type 0 where
  pub round : Round c.last (flow_of c) x (take c.held old) (flow_of d) y (take d.held new) (take d.written lines)
  pub last : d.last ≡ c.last
  pub inside : d.held ≤ length new
  pub room : d.on ≡ true → d.held < command_bytes
  pub fits : d.written ≤ length lines
  pub read : d.read ≡ c.read
  pub sent : d.sent ≡ c.sent

-- The lines are written: nothing waits to be written, and all else is as it was. Where they could not be written, that is noted.
pub record Sent (c d : Course) : Type 0 where
  pub flow : flow_of d ≡ flow_of c
  pub held : d.held ≡ c.held
  pub last : d.last ≡ c.last
  pub written : d.written ≡ 0
  pub read : d.read ≡ c.read
  pub sent : d.sent ≡ c.sent + c.written

-- The program's own rounds: from the opening and the store x₀ it came to c and x, with bytes received and lines sent, as many as were read and written.
pub record Ran (x₀ : Lent) (c : Course) (x : Lent) (input : List ℕ) : Type 0 where
  pub received : List ℕ
  pub lines : List ℕ
  pub moved : Moved c.last opening x₀ received [] (flow_of c) x (take c.held input) lines
  pub read : length received ≡ c.read
  pub sent : length lines ≡ c.sent

-- The rounds follow each other, all lines are handed to the system, and there is no reason for another round.
pub record Ended (x₀ : Lent) (c : Course) (x : Lent) (input : List ℕ) : Type 0 where
  pub ran : Ran x₀ c x input
  pub written : c.written ≡ 0
  pub stops : goes c ≡ false

-- Once the program has ended, the lines sent are those of the bytes received, whatever else the input holds.
unfoldable pub RanWrites : Type 0
RanWrites =
    (x₀ : Lent) (c : Course) (x : Lent) (input rest : List ℕ) (r : Ran x₀ c x input) → Bytes (r.received ++ rest) → bytes_needed Form.Newest largest ≤ length x₀.memory
    → most_scans ≤ length x₀.list → c.on ≡ false → (c.last ≡ true → rest ≡ []) → r.lines ≡ output (r.received ++ rest)
