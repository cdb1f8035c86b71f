-- Going step by step gives `output`. What makes them the same: no answer of the plain history ends the program, and behind a refused byte nothing is left.
use Prim.Native.Nat.{ℕ, zero, suc, ◌≤◌}
use mathlib.Core.Path.{◌≡◌, refl, ap}
use mathlib.Core.Bool.{Bool, true, false, cond, ◌&&◌}
use mathlib.Core.List.{List, [], ◌∷◌, ◌++◌, append-nil}
use native.Mathlib.Omega.{arith}
use lib.Dec.{leb}
use lib.ListN.{length, take, drop, drop_of_length-le}
use borrow.Author.Tests.{leb-false, leb-true, le-leb}
use Rattle.terms.specs.Measures.{between, within_limits, most_columns, most_ranges, most_records, most_spares}
use Rattle.terms.specs.declared.Shape.{Shape}
use Rattle.terms.specs.declared.Refusal.{Refusal}
use Rattle.std.specs.Prelude.{Ok, Err}
use Rattle.terms.specs.Answers.{Answer}
use Rattle.terms.specs.declared.Fields.{Fields}
use Rattle.terms.specs.declared.Form.{Form}
use Rattle.history.specs.History.{Call, begin, insert, update, delete, commit, abort, latest, read_at, own_read, open_scan, scan_read, sum, close, merge, release, page_cell, lineage, crossings, begin_as, keeper_at, move, begin_tests, read_at_tests, move_tests, keeper_of, keeper_read, History, alone, outcome, outcomes, start, Test, tests, verdict, refuse, reply, shown, read, visible, version_of, sum_of, answer, answer_if, next}
use Rattle.lines.specs.Lines.{line, shape_line}
use Rattle.commands.specs.Commands.{Chosen, chosen, width, call_from, Item, item_at, behind, items, script, cut_shape, parse, shape_bytes, shape_from}
use Rattle.commands.proofs.Items.{items_none}
use Rattle.commands.proofs.Parts.{whole, call_part}
use Rattle.output.specs.Output.{lent_columns, lent_ranges, lent_records, lent_spares, lent, shape_answer, goes_on, calls, lines_of, output_of, output}
use Rattle.model.specs.Machine.{Machine, history_of}
use Rattle.output.specs.Steps.{operands_of, outcome_to, line_of, state_after, steps, lines_from, written}
use Rattle.loops.proofs.Search.{and_true, between_tells}

-- ---- no answer of the plain history ends the program
abbrev all_go_on : List Test → Bool
all_go_on [] = true
all_go_on (t ∷ ts) = goes_on (Err t.refusal) && all_go_on ts

verdict_goes_on : (ts : List Test) (a : Answer) → all_go_on ts ≡ true → goes_on a ≡ true → goes_on (answer_if (verdict ts) a) ≡ true
unfolding verdict answer_if
verdict_goes_on [] a p q = q
verdict_goes_on (t ∷ ts) a p q =
    let r = and_true _ _ p in
    elim t.fails as (λ b. goes_on (answer_if (cond b (refuse t.refusal) (verdict ts)) a) ≡ true) [ true ↦ r.0 | false ↦ verdict_goes_on ts a r.1 q ]

read_goes_on : (sees : ℕ → Bool) (h : History) (r c : ℕ) → goes_on (read sees h r c) ≡ true
unfolding read shown goes_on
read_goes_on sees h r c = elim (visible sees h r) as (λ b. goes_on (cond b (shown h (version_of sees h r c)) (Ok Fields.None)) ≡ true) [ true ↦ refl | false ↦ refl ]

keeper_goes_on : (sees : ℕ → Bool) (h : History) (r c : ℕ) → goes_on (keeper_read sees h r c) ≡ true
unfolding keeper_read goes_on
keeper_goes_on sees h r c = elim (visible sees h r) as (λ b. goes_on (cond b (Ok (Fields.Number (keeper_of h (version_of sees h r c).setter))) (Ok Fields.None)) ≡ true) [ true ↦ refl | false ↦ refl ]

-- neither a refusal of a call nor its answer where it is accepted
call_goes_on : (s : Shape) (h : History) (c : Call) → (all_go_on (tests s h c) ≡ true) × (goes_on (reply s h c) ≡ true)
unfolding tests begin_tests read_at_tests move_tests reply sum_of goes_on
call_goes_on s h begin = (refl, refl)
call_goes_on s h (insert t vs) = (refl, refl)
call_goes_on s h (update t r m vs) = (refl, refl)
call_goes_on s h (delete t r) = (refl, refl)
call_goes_on s h (commit t k) = (refl, refl)
call_goes_on s h (abort t) = (refl, refl)
call_goes_on s h (latest r c) = (refl, read_goes_on _ h r c)
call_goes_on s h (read_at k r c) = (refl, read_goes_on _ h r c)
call_goes_on s h (own_read t r c) = (refl, read_goes_on _ h r c)
call_goes_on s h (open_scan k) = (refl, refl)
call_goes_on s h (scan_read k r c) = (refl, read_goes_on _ h r c)
call_goes_on s h (sum k c) = (refl, refl)
call_goes_on s h (close k) = (refl, refl)
call_goes_on s h (merge g c n) = (refl, refl)
call_goes_on s h release = (refl, refl)
call_goes_on s h (page_cell c r) = (refl, refl)
call_goes_on s h (lineage g c) = (refl, refl)
call_goes_on s h (crossings r c mark from to stamps) = (refl, refl)
call_goes_on s h (begin_as k) = (refl, refl)
call_goes_on s h (keeper_at k r c) = (refl, keeper_goes_on _ h r c)
call_goes_on s h (move Form.First second) = (refl, refl)
call_goes_on s h (move Form.Newest second) = (refl, refl)

pub answer_goes_on : (s : Shape) (h : History) (c : Call) → goes_on (answer s h c) ≡ true
unfolding answer
answer_goes_on s h c = let g = call_goes_on s h c in verdict_goes_on (tests s h c) (reply s h c) g.0 g.1

-- ---- the steps and the items
pub steps_none : {State : Type 0} (most : ℕ) (m : Machine State) (columns : ℕ) (x : State) → steps most m columns x [] ≡ []
unfolding steps
steps_none zero m columns x = refl
steps_none (suc most) m columns x = refl

-- the lines of a list of items, with the plain history's outcomes
abbrev printed : Shape → History → List Item → List ℕ
printed s h is = lines_of is (outcomes s h (calls is))

-- behind a refused byte nothing is left
last_step : (most : ℕ) (s : Shape) (h : History) (byte : ℕ) (r : Refusal) (b : Bool) (k : History)
    → line byte (Err r) [] ++ cond b (steps most (history_of s) s.columns k []) []
    ≡ line byte (Err r) [] ++ printed s h (items most s.columns [])
unfolding lines_of
last_step most s h byte r true k = rw (steps_none most (history_of s) s.columns k, items_none most s.columns)
last_step most s h byte r false k = rw (items_none most s.columns)

one_step : (most : ℕ) (s : Shape) (h : History) (byte : ℕ) (bs : List ℕ) (k : Chosen)
    → ((h' : History) (bs' : List ℕ) → steps most (history_of s) s.columns h' bs' ≡ printed s h' (items most s.columns bs'))
    → line_of byte (outcome_to (history_of s) s.columns h k (operands_of s.columns k bs))
    ++ cond (goes_on (outcome_to (history_of s) s.columns h k (operands_of s.columns k bs)).answer)
    (steps most (history_of s) s.columns (state_after (history_of s) s.columns h k (operands_of s.columns k bs)) (behind s.columns k bs)) []
    ≡ printed s h (item_at s.columns byte k bs ∷ items most s.columns (behind s.columns k bs))
unfolding operands_of outcome_to state_after behind item_at lines_of calls outcomes
one_step most s h byte bs (Err r) ih = last_step most s h byte r (goes_on (Err r)) h
one_step most s h byte bs (Ok f) ih = rw (whole (width s.columns f) bs) (go (leb (width s.columns f) (length bs)) refl)
  where
    w : ℕ
    w = width s.columns f

    c : Call
    c = call_from s.columns f bs

    d : Call
    d = call_from s.columns f (take w bs)

    go : (b : Bool) → leb w (length bs) ≡ b
        → line_of byte (cond b (outcome s h d) (alone (Err Refusal.Cut)))
        ++ cond (goes_on (cond b (outcome s h d) (alone (Err Refusal.Cut))).answer) (steps most (history_of s) s.columns (cond b (next s h d) h) (drop w bs)) []
        ≡ printed s h (cond b (Item.command byte c) (Item.refused byte Refusal.Cut) ∷ items most s.columns (drop w bs))
    go true e =
        rw (call_part s.columns f bs (leb-true w (length bs) e), answer_goes_on s h c)
        (ap (λ (l : List ℕ). line_of byte (outcome s h c) ++ l) (ih (next s h c) (drop w bs)))
    go false e =
        let short : length bs ≤ w = omega (arith, leb-false w (length bs) e) in
        let none : drop w bs ≡ [] = drop_of_length-le bs short in
        rw none (last_step most s h byte Refusal.Cut (goes_on (Err Refusal.Cut)) h)

steps_are : (most : ℕ) (s : Shape) (h : History) (bs : List ℕ) → steps most (history_of s) s.columns h bs ≡ printed s h (items most s.columns bs)
unfolding steps items lines_of
steps_are zero s h bs = refl
steps_are (suc most) s h [] = refl
steps_are (suc most) s h (byte ∷ bs) = one_step most s h byte bs (chosen byte) (λ h' bs'. steps_are most s h' bs')

shape_step : (s : Shape) (l : List ℕ) → cond (goes_on (shape_answer s)) l [] ≡ cond (lent s) l []
unfolding shape_answer goes_on
shape_step s l = elim (lent s) as (λ b. cond (goes_on (cond b (Ok Fields.Done) (Err Refusal.Shape))) l [] ≡ cond b l []) [ true ↦ refl | false ↦ refl ]

pub written_is_output : (bs : List ℕ) → written bs ≡ output bs
unfolding written lines_from output parse output_of goes_on
written_is_output bs =
    elim (leb shape_bytes (length bs)) as (λ b.
    shape_line (a b) ++ cond (goes_on (a b)) (steps (length bs) (history_of s) s.columns start (drop shape_bytes bs)) []
    ≡ output_of (cond b (script s (items (length bs) s.columns (drop shape_bytes bs))) cut_shape))
    [ true ↦ rw (shape_step s, steps_are (length bs) s start (drop shape_bytes bs)) | false ↦ append-nil (shape_line (Err Refusal.Cut)) ]
  where
    s : Shape
    s = shape_from bs

    a : Bool → Answer
    a b = cond b (shape_answer s) (Err Refusal.Cut)

-- ---- what is lent, measure by measure, is within the limits of a shape
pub lent_each : (s : Shape) → lent s ≡ true
    → (between 1 lent_columns s.columns ≡ true)
    × (between 1 lent_ranges s.ranges ≡ true)
    × (between 1 lent_records s.capacity ≡ true)
    × (between 0 lent_spares s.spares ≡ true)
unfolding lent
lent_each s e =
    let p = and_true _ _ e in
    let q = and_true _ _ p.0 in
    let r = and_true _ _ q.0 in (r.0, r.1, q.1, p.1)

wider : (low high more n : ℕ) → high ≤ more → between low high n ≡ true → between low more n ≡ true
wider low high more n h e = let p = between_tells low high n e in rw (le-leb low n p.0, le-leb n more (omega arith))

pub lent_within : (s : Shape) → lent s ≡ true → within_limits s ≡ true
unfolding within_limits
lent_within s e =
    let l = lent_each s e in
    rw (
      wider 1 lent_columns most_columns s.columns (omega arith) l.0,
      wider 1 lent_ranges most_ranges s.ranges (omega arith) l.1,
      wider 1 lent_records most_records s.capacity (omega arith) l.2,
      wider 0 lent_spares most_spares s.spares (omega arith) l.3,
    )
