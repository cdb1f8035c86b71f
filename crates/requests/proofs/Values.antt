-- Two lists of values that agree at every column are the same to a call.
use Prim.Native.Nat.{ℕ, zero, suc, ◌≤◌}
use native.Mathlib.Omega.{arith}
use native.Mathlib.Decide.{dec_le}
use mathlib.Core.Path.{◌≡◌, refl, ap, sym, ◌∙◌, fun_ext}
use mathlib.Core.List.{List}
use lib.IntN.{ℤ, pos}
use lib.ListN.{length, get_or, take, length-take, get_or-eq_default}
use lib.Seq.{get_or-take}
use mir.Syntax.{w32}
use mir.Val.{of_z}
use Rattle.terms.specs.declared.Shape.{Shape}
use Rattle.terms.specs.Answers.{Answer}
use Rattle.terms.specs.declared.ScanEntry.{ScanEntry}
use Rattle.layout.specs.View.{View}
use Rattle.layout.specs.declared.Region.TheVariants.{Current}
use Rattle.history.specs.History.{range_of, Outcome}
use Rattle.layout.specs.Codes.{as_setting}
use Rattle.model.specs.Writing.{put_cells, inserted_at, inserted_in, setting_appended, original_appended, updated_in, filled_in, next_slot, appended}
use Rattle.model.specs.Stored.{open_keeper}
use Rattle.model.specs.Calls.{tests_in, reply_in, act_in, entries_after}
use Rattle.commands.specs.declared.Write.{Write}
use Rattle.commands.specs.declared.Kind.{Kind}
use Rattle.commands.specs.declared.Request.{Request}
use Rattle.commands.specs.Commands.{first, second, third, write_of, call_of}
use Rattle.commands.specs.Decoded.{call_in, ZerosPast}
use Rattle.promise.specs.Promise.{Gives}
use Rattle.requests.specs.Requested.{requested}
use Rattle.requests.proofs.Equivalent.{given_equivalent}

abbrev Agree : List ℤ → List ℤ → Type 0
Agree vs us = (c : ℕ) → get_or vs c (pos 0) ≡ get_or us c (pos 0)

cells_agree : (vs us : List ℤ) → Agree vs us → (S : Shape) (current : List ℕ) (g i n : ℕ) (cells : List ℕ)
    → put_cells S current g i vs n cells ≡ put_cells S current g i us n cells
cells_agree vs us e S current g i zero cells = refl
cells_agree vs us e S current g i (suc n) cells = rw (cells_agree vs us e S current g i n cells, e n)

module _ (vs us : List ℤ) (e : Agree vs us) (S : Shape) where
  inserted_agree : (t : ℕ) (v : View) → inserted_in S t vs v ≡ inserted_in S t us v
  unfolding inserted_in inserted_at
  inserted_agree t v = rw (cells_agree vs us e S (v Current))

  setting_agree : (t keeper r mask : ℕ) (v : View) → setting_appended S t keeper r mask vs v ≡ setting_appended S t keeper r mask us v
  unfolding setting_appended
  setting_agree t keeper r mask v =
      ap (λ (f : ℕ → ℕ). filled_in S (next_slot S v (range_of r)) f (appended S t keeper r as_setting mask v)) (fun_ext (λ (c : ℕ). ap (of_z w32) (e c)))

  updated_agree : (t r mask : ℕ) (v : View) → updated_in S t r mask vs v ≡ updated_in S t r mask us v
  unfolding updated_in
  updated_agree t r mask v = rw (setting_agree t (open_keeper v t) r mask (original_appended S t r mask v), setting_agree t (open_keeper v t) r mask v)

-- What is given for a call with one list of values is given for it with another that agrees: no test and no answer looks at them.
given_values : (m : List ℕ) (ps : List ScanEntry) (k : Kind) (ns : List ℕ) (vs us : List ℤ) (o : Outcome Answer) (m' : List ℕ) (ps' : List ScanEntry) → Agree vs us
    → Gives m ps (call_of k ns vs) o m' ps' → Gives m ps (call_of k ns us) o m' ps'
unfolding call_of write_of tests_in reply_in act_in entries_after
given_values m ps (Kind.Read k) ns vs us o m' ps' e w = w
given_values m ps (Kind.Write Write.Begin) ns vs us o m' ps' e w = w
given_values m ps (Kind.Write Write.Insert) ns vs us o m' ps' e w =
    given_equivalent _ _ _ _ _ _ _ refl refl record { uses = refl; seconds = refl } (λ u. record { verdicts = refl; accepted = λ z. (refl, inserted_agree vs us e _ (first ns) _, refl) }) w
given_values m ps (Kind.Write Write.Update) ns vs us o m' ps' e w =
    given_equivalent _ _ _ _ _ _ _ refl refl record { uses = refl; seconds = refl } (λ u. record { verdicts = refl; accepted = λ z. (refl, updated_agree vs us e _ (first ns) (second ns) (third ns) _, refl) }) w
given_values m ps (Kind.Write Write.Delete) ns vs us o m' ps' e w = w
given_values m ps (Kind.Write Write.Commit) ns vs us o m' ps' e w = w
given_values m ps (Kind.Write Write.Abort) ns vs us o m' ps' e w = w
given_values m ps (Kind.Write Write.Merge) ns vs us o m' ps' e w = w
given_values m ps (Kind.Write Write.Release) ns vs us o m' ps' e w = w
given_values m ps (Kind.Write Write.BeginAs) ns vs us o m' ps' e w = w
given_values m ps Kind.OpenScan ns vs us o m' ps' e w = w
given_values m ps Kind.Close ns vs us o m' ps' e w = w
given_values m ps Kind.Crossings ns vs us o m' ps' e w = w

-- The first n values agree with all where those past them are 0.
zeros_agree : (vs : List ℤ) (n : ℕ) → ZerosPast n vs → Agree vs (take n vs)
zeros_agree vs n z c = go (dec_le n c)
  where
    short : length (take n vs) ≤ n
    short = omega (arith, length-take n vs)

    go : Dec (n ≤ c) → get_or vs c (pos 0) ≡ get_or (take n vs) c (pos 0)
    go (yes l) = z c l ∙ sym (get_or-eq_default (take n vs) (pos 0) (omega (arith, short)))
    go (no l) = sym (get_or-take n vs c (pos 0) (omega arith))

-- What is given for all the values of a request is given for the call that it stands for.
pub given_call : (m : List ℕ) (ps : List ScanEntry) (q : Request) (o : Outcome Answer) (m' : List ℕ) (ps' : List ScanEntry) → ZerosPast q.count q.values
    → Gives m ps (requested q) o m' ps' → Gives m ps (call_in q) o m' ps'
given_call m ps q o m' ps' z w =
    given_values m ps q.kind q.operands q.values (take q.count q.values) o m' ps' (zeros_agree q.values q.count z) w
