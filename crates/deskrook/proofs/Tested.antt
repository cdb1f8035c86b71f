-- The test of memory and list, as an answer.
use Prim.Native.Nat.{ℕ}
use mathlib.Core.Path.{◌≡◌, refl, ap, ◌∙◌}
use mathlib.Core.Bool.{Bool, true, false, cond}
use mathlib.Core.List.{List}
use Rattle.pages.specs.Checked.{checked}
use Rattle.std.specs.Prelude.{Ok, Err}
use Rattle.terms.specs.Answers.{Answer}
use Rattle.terms.specs.declared.Fields.{Fields}
use Rattle.terms.specs.declared.ScanEntry.{ScanEntry}
use Rattle.terms.specs.declared.Refusal.{Refusal}
use Rattle.words.specs.Words.{words}
use Rattle.layout.specs.Regions.{form_number}
use Rattle.std.specs.Prelude.{Option, Some, None}
use Rattle.layout.specs.declared.Sizes.{Sizes}
use Rattle.facts.specs.Usable.{stored_form, stored_sizes, usable}
use Rattle.deskrook.specs.Replies.{usability}

abbrev pub passed : Option Sizes → Answer
passed (Some s) = Ok (Fields.Number (form_number s.form))
passed None = Err Refusal.Memory

pub tested : (m : List ℕ) (ps : List ScanEntry) (x : Option Sizes) → x ≡ checked m ps → passed x ≡ usability m ps
unfolding usability checked stored_sizes
tested m ps x e = ap passed e ∙ go (usable m ps)
  where
    go : (b : Bool) → passed (cond b (Some (stored_sizes (words m))) None) ≡ cond b (Ok (Fields.Number (form_number (stored_form (words m))))) (Err Refusal.Memory)
    go true = refl
    go false = refl
