-- What is said of a row's records: which of its columns were set, where a column's original value stands, and which record is its newest. The invariants of the
-- history and the relation to a store's memory are told by these.
use Rattle.std.specs.Prelude.{Bool, false, cond, ◌&&◌, List, ℕ, zero, suc, eqb, get_or}
use Rattle.history.specs.History.{Record, Content, original, setting, ending, any, sets}

-- a number among numbers
abbrev pub among : ℕ → List ℕ → Bool
among c l = any (λ k. eqb k c) l

-- whether a record holds the original value of column c
unfoldable pub is_original : ℕ → Content → Bool
is_original c (original cs vs) = among c cs
is_original c (setting m vs) = false
is_original c ending = false

-- whether a record of row r passes a test: sets column c, or holds its original value
abbrev pub any_of_row : ℕ → (Record → Bool) → List Record → Bool
any_of_row r f l = any (λ x. eqb x.row r && f x) l

unfoldable pub was_set : List Record → ℕ → ℕ → Bool
was_set l r c = any_of_row r (λ x. sets c x.content) l

unfoldable pub has_original : List Record → ℕ → ℕ → Bool
has_original l r c = any_of_row r (λ x. is_original c x.content) l

unfoldable pub no_record : Record
no_record = record { transaction = 0; row = 0; content = ending }

-- the number, from 1, of row r's last record among the first n, 0 if there is none
unfoldable pub last_of : List Record → ℕ → ℕ → ℕ
last_of l r zero = 0
last_of l r (suc n) = cond (eqb (get_or l n no_record).row r) (suc n) (last_of l r n)
