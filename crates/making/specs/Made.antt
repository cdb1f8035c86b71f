-- The answer of the call that makes a store, and the memory and scan list that it leaves: rules 2.7 and 10.1 of docs/SPECIFICATION.md. It looks at
-- no content. What the view of a store just made holds is the model's `made_view`. Every entry of the lent scan list
-- becomes free (`all_freed`).
use Rattle.std.specs.Prelude.{ℕ, cond, ◌&&◌, List, leb, length}
use Rattle.model.specs.Writing.{made_view}
use Rattle.layout.specs.Codes.{as_current}
use Rattle.terms.specs.Measures.{within_limits, most_scans}
use Rattle.terms.specs.declared.Shape.{Shape}
use Rattle.std.specs.Prelude.{Ok, Err}
use Rattle.terms.specs.Answers.{Answer}
use Rattle.terms.specs.declared.Fields.{Fields}
use Rattle.terms.specs.declared.Form.{Form}
use Rattle.terms.specs.declared.ScanEntry.{ScanEntry}
use Rattle.terms.specs.declared.Refusal.{Refusal}
use Rattle.layout.specs.declared.Sizes.{Sizes}
use Rattle.layout.specs.declared.Region.TheVariants.{Current, PageState, PageChunk}
use Rattle.layout.specs.Sizes.{sizes_of, bytes_needed}
use Rattle.layout.specs.View.{View, fill, number, lay, blank}
use Rattle.scans.specs.Entries.{all_freed}

-- the first page is current for the first chunk, the second for the second, and so on
unfoldable pub named_view : Sizes → View
named_view s = number Current 0 s.chunks (number PageChunk 0 s.chunks (fill PageState 0 s.chunks as_current (blank s)))

-- the answer for a scan list of so many entries, and the memory afterwards. The code makes the newest form; the first is what earlier versions left in fitted panels.
unfoldable pub made : Form → Shape → ℕ → List ℕ → Answer × List ℕ
made f p entries m =
    cond (within_limits p)
    (cond (leb (bytes_needed f p) (length m) && leb most_scans entries) (Ok Fields.Done, lay (sizes_of f p) (made_view f p) m) (Err Refusal.Memory, m))
    (Err Refusal.Shape, m)

-- and the scan list
abbrev pub made_list : List ScanEntry → List ScanEntry
made_list = all_freed
