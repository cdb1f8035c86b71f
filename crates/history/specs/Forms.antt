-- Which call works on which stored form (section 8 of docs/SPECIFICATION.md), and how the form goes along a list of calls: only an accepted move alters it. `Suited` says of a
-- list that it lends no call a form that the call does not work on, and `StrikingSuited` that striking merges and releases leaves such a list; proofs/Striking.antt proves it.
use Rattle.std.specs.Prelude.{Bool, true, false, List, [], ◌∷◌, T}
use Rattle.terms.specs.declared.Shape.{Shape}
use Rattle.terms.specs.declared.Form.{Form}
use Rattle.history.specs.History.{Call, begin, insert, update, delete, commit, abort, latest, read_at, own_read, open_scan, scan_read, sum, close, merge, release, page_cell, lineage, crossings, begin_as, keeper_at, move, History, start, Verdict, accept, refuse, verdict, tests, next}
use Rattle.history.specs.Claims.{strike}

-- what a call is to the forms: on either, on the newest alone, or a move from the other form to this one
pub data FormUse : Type 0 where
  either newest : FormUse
  moving : (to : Form) → FormUse

-- 01 to 12, hexadecimal, work on either form; the two that tell of keepers on the newest alone, which has room for them
abbrev pub form_use : Call → FormUse
form_use begin = either
form_use (insert t vs) = either
form_use (update t r m vs) = either
form_use (delete t r) = either
form_use (commit t s) = either
form_use (abort t) = either
form_use (latest r c) = either
form_use (read_at s r c) = either
form_use (own_read t r c) = either
form_use (open_scan s) = either
form_use (scan_read k r c) = either
form_use (sum k c) = either
form_use (close k) = either
form_use (merge g c n) = either
form_use release = either
form_use (page_cell c r) = either
form_use (lineage g c) = either
form_use (crossings r c mark from to stamps) = either
form_use (begin_as k) = newest
form_use (keeper_at s r c) = newest
form_use (move to second) = moving to

abbrev pub is_form : Form → Form → Bool
is_form Form.First Form.First = true
is_form Form.First Form.Newest = false
is_form Form.Newest Form.First = false
is_form Form.Newest Form.Newest = true

abbrev pub other_form : Form → Form
other_form Form.First = Form.Newest
other_form Form.Newest = Form.First

abbrev pub uses_form : FormUse → Form → Bool
uses_form either f = true
uses_form newest f = is_form Form.Newest f
uses_form (moving to) f = is_form (other_form to) f

abbrev pub works_on : Call → Form → Bool
works_on c f = uses_form (form_use c) f

-- whether the store stays in the memory that the call is lent, as it does in every call but a move
abbrev pub in_place : FormUse → Bool
in_place either = true
in_place newest = true
in_place (moving to) = false

-- ---- the form after a call: a refused move leaves it (5.2)
unfoldable pub form_if : Verdict → Form → Form → Form
form_if accept f f' = f'
form_if (refuse n) f f' = f

abbrev pub form_after : FormUse → Verdict → Form → Form
form_after either v f = f
form_after newest v f = f
form_after (moving to) v f = form_if v f to

unfoldable pub form_next : Shape → History → Call → Form → Form
form_next S h c f = form_after (form_use c) (verdict (tests S h c)) f

-- ---- a list of calls that starts from form f and history h
unfoldable pub Suited : Shape → Form → History → List Call → Type 0
Suited S f h [] = Unit {0}
Suited S f h (c ∷ cs) = T (works_on c f) × Suited S (form_next S h c f) (next S h c) cs

-- the form after it
unfoldable pub form_run : Shape → Form → History → List Call → Form
form_run S f h [] = f
form_run S f h (c ∷ cs) = form_run S (form_next S h c f) (next S h c) cs

-- striking merges and releases leaves a list that lends no call a form that it does not work on
unfoldable pub StrikingSuited : Type 0
StrikingSuited = (S : Shape) (f : Form) (calls : List Call) → Suited S f start calls → Suited S f start (strike calls)
