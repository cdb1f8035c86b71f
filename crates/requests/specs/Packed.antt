-- The scan list as words: what the entries are that they hold.
use Rattle.std.specs.Prelude.{ℕ, ◌*◌, List, [], ◌∷◌}
use Rattle.terms.specs.declared.ScanEntry.{ScanEntry}

-- the words of an entry, and its bytes, four to a word
abbrev pub entry_words : ℕ
entry_words = 4

abbrev pub entry_bytes : ℕ
entry_bytes = 4 * entry_words

-- the entries that a list of words holds, four words to an entry; up to three words at its end belong to none
unfoldable pub entries_of : List ℕ → List ScanEntry
entries_of [] = []
entries_of (a ∷ []) = []
entries_of (a ∷ b ∷ []) = []
entries_of (a ∷ b ∷ c ∷ []) = []
entries_of (a ∷ b ∷ c ∷ d ∷ ws) = record { number = a; stamp = b; merges = c; commits = d } ∷ entries_of ws
