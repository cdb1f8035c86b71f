-- What a call may rely on once memory and scan list have passed the test of the stored facts: all that the functions over the memory ask for, by name.
use Rattle.std.specs.Prelude.{ℕ, ◌*◌, ◌≤◌, ◌<◌, ◌≡◌, Bool, true, false, ◌&&◌, List}
use Rattle.terms.specs.Measures.{most_numbers, most_scans}
use Rattle.terms.specs.declared.Form.{Form}
use Rattle.terms.specs.declared.ScanEntry.{ScanEntry}
use Rattle.words.specs.Words.{words}
use Rattle.layout.specs.declared.Sizes.{Sizes}
use Rattle.layout.specs.Regions.{need}
use Rattle.layout.specs.Sizes.{sizes_of, Proper, too_many_words}
use Rattle.layout.specs.View.{transactions_given, scans_given, view_of, Suffices}
use Rattle.scans.specs.declared.Scans.{Scans}
use Rattle.scans.specs.Entries.{open_count}
use Rattle.scans.specs.Table.{table_of}
use Rattle.facts.specs.Usable.{stored_form, stored_sizes, usable}
use Rattle.model.specs.Preconditions.{shape_in, Linked, Pooled, ChunksCurrent}
use Rattle.std.specs.Prelude.{Result, Ok, Err}
use Rattle.terms.specs.declared.Refusal.{Refusal}

-- the memory m holds a store of sizes s in order
pub record Fitted (s : Sizes) (m : List ℕ) : Type 0 where
  pub room : Suffices s m
  pub small : need s < too_many_words
  pub sizes_are : s ≡ sizes_of s.form (shape_in s)
  pub proper : Proper s
  pub linked : Linked s (view_of s m)
  pub pooled : Pooled s (view_of s m)
  pub chunks_are_current : ChunksCurrent (shape_in s) (view_of s m)
  pub transactions_to : transactions_given (view_of s m) ≤ most_numbers
  pub scans_to : scans_given (view_of s m) ≤ most_numbers

-- what is known of a list beside the memory that it passed the test with
pub record PassedWith (s : Sizes) (m : List ℕ) (ps : List ScanEntry) : Type 0 where
  pub passed : usable m ps ≡ true
  pub sizes_are : s ≡ stored_sizes (words m)
  pub few : open_count ps ≤ most_scans

-- The first n bytes of m are those that the sizes s need, and m passed the test with every list that the table stands for.
pub record Admitted (s : Sizes) (n : ℕ) (m : List ℕ) (t : Scans) : Type 0 where
  pub bytes : n ≡ need s * 4
  pub fitted : Fitted s m
  pub listed : (ps : List ScanEntry) → t ≡ table_of ps → PassedWith s m ps

-- What the test of memory and list for calls that work on these forms found: they may work, or the memory is not usable or in another form.
unfoldable pub Admits : (Form → Bool) → Result (Sizes × ℕ) Refusal → List ℕ → Scans → Type 0
Admits on (Ok fit) m t = Admitted fit.0 fit.1 m t × (on fit.0.form ≡ true)
Admits on (Err why) m t = (why ≡ Refusal.Memory) × ((ps : List ScanEntry) → t ≡ table_of ps → (on (stored_form (words m)) && usable m ps) ≡ false)

-- for calls on either form
abbrev pub every_form : Form → Bool
every_form f = true
