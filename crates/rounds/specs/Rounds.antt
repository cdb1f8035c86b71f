-- An input that comes in pieces: however it is cut, all that is written is what must be written for all of it. proofs/Rounds.antt proves it.
use Rattle.std.specs.Prelude.{ℕ, ◌≤◌, ◌≡◌, true, false, List, [], ◌∷◌, ◌++◌, length}
use Rattle.terms.specs.Measures.{most_scans}
use Rattle.words.specs.Words.{Bytes}
use Rattle.terms.specs.declared.Form.{Form}
use Rattle.layout.specs.Sizes.{bytes_needed}
use Rattle.output.specs.Output.{output}
use Rattle.promise.specs.Promise.{Lent}
use Rattle.turns.specs.Gatebook.{largest}
use Rattle.rounds.specs.Due.{Flow, Round}

-- the program as it begins
abbrev pub opening : Flow
opening = record { on = true; started = false; columns = 0 }

-- the pieces, one after another
unfoldable pub together : List (List ℕ) → List ℕ
together [] = []
together (p ∷ ps) = p ++ together ps

-- Rounds from f and x, each as `answer` promises it, with the bytes in `held` carried over. The next piece comes behind what the round before left (`piece`), and behind
-- the last piece the end of the input (`finish`); once the program has ended, it leaves the pieces that are left (`ended`). The last argument is all that they write.
pub data Rounds : Flow → Lent → List ℕ → List (List ℕ) → List ℕ → Type 0 where
  ended : {f : Flow} {x : Lent} {held : List ℕ} {ps : List (List ℕ)} → f.on ≡ false → Rounds f x held ps []
  finish : {f f' : Flow} {x x' : Lent} {held left lines : List ℕ} → Round true f x held f' x' left lines → Rounds f x held [] lines
  piece : {f f' : Flow} {x x' : Lent} {held p left lines more : List ℕ} {ps : List (List ℕ)} → Round false f x (held ++ p) f' x' left lines
      → Rounds f' x' left ps more → Rounds f x held (p ∷ ps) (lines ++ more)

-- However the input is cut into pieces, the lines of the rounds one after another are those of the whole input.
unfoldable pub RoundsWrite : Type 0
RoundsWrite =
    (x : Lent) (ps : List (List ℕ)) (lines : List ℕ) → Bytes (together ps) → bytes_needed Form.Newest largest ≤ length x.memory → most_scans ≤ length x.list
    → Rounds opening x [] ps lines → lines ≡ output (together ps)
