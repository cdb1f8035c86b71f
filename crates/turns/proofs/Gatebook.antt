-- `gatebook` writes what it must write, for every input: demand 3 says that the store's outcomes are the plain history's.
use Prim.Native.Nat.{ℕ, ◌*◌, ◌≤◌}
use mathlib.Core.Path.{◌≡◌, refl, sym, ◌∙◌}
use mathlib.Core.Bool.{Bool, true, false, cond}
use mathlib.Core.List.{List}
use native.Mathlib.Omega.{arith}
use native.Mathlib.Nat.{mul-le-mul, min-eq_left}
use lib.Dec.{leb}
use lib.ListN.{length, drop}
use Rattle.terms.specs.Measures.{most_scans}
use Rattle.terms.specs.declared.Shape.{Shape}
use Rattle.std.specs.Prelude.{Err}
use Rattle.terms.specs.declared.Refusal.{Refusal}
use Rattle.terms.specs.declared.Form.{Form}
use Rattle.words.specs.Words.{Bytes}
use Rattle.loops.proofs.Search.{between_tells}
use Rattle.layout.specs.Regions.{need}
use Rattle.layout.specs.Sizes.{bytes_needed}
use Rattle.making.specs.Made.{made_list}
use Rattle.history.specs.History.{start}
use Rattle.commands.specs.Commands.{shape_bytes, shape_from}
use Rattle.commands.proofs.Parts.{whole, shape_part}
use Rattle.output.specs.Output.{lent_columns, lent_ranges, lent_records, lent_spares, lent, shape_answer, goes_on}
use Rattle.model.specs.Machine.{history_of}
use Rattle.output.specs.Steps.{lines_from, written}
use Rattle.output.proofs.Steps.{lent_each, lent_within, written_is_output}
use Rattle.model.proofs.Alike.{history_outcomes}
use Rattle.output.proofs.Typed.{bytes_drop}
use Rattle.output.proofs.StepsAlike.{Alike, steps_alike}
use Rattle.promise.specs.Demands.{Accepted, memory_made, store_outcomes, MakingAccepted, Demand3}
use Rattle.promise.proofs.Demands.{making_accepted, demand3}
use Rattle.promise.specs.Promise.{Lent, lent_machine, lend}
use Rattle.turns.specs.Turns.{making_answer, made_store, first_answer, first_store, columns_from, capped}
use Rattle.turns.specs.Gatebook.{gatebook, largest, GatebookWrites}
use Rattle.turns.proofs.Store.{store_outcomes_lem, commanded_lends}

-- ---- what is lent is enough
lent_to_lem : (S : Shape) → lent S ≡ true → (S.columns ≤ lent_columns) × (S.ranges ≤ lent_ranges) × (S.capacity ≤ lent_records) × (S.spares ≤ lent_spares)
lent_to_lem S e =
    let l = lent_each S e in
    ((between_tells 1 lent_columns _ l.0).1, (between_tells 1 lent_ranges _ l.1).1, (between_tells 1 lent_records _ l.2).1, (between_tells 0 lent_spares _ l.3).1)

-- no shape that memory is lent for needs more bytes than the largest
pub enough : (S : Shape) → lent S ≡ true → bytes_needed Form.Newest S ≤ bytes_needed Form.Newest largest
unfolding bytes_needed need
enough S e =
    let l = lent_to_lem S e in
    let a : S.ranges * S.capacity ≤ lent_ranges * lent_records = mul-le-mul l.1 l.2 in
    let b : S.ranges * S.capacity * S.columns ≤ lent_ranges * lent_records * lent_columns = mul-le-mul a l.0 in
    let d : S.columns * S.ranges ≤ lent_columns * lent_ranges = mul-le-mul l.0 l.1 in
    omega arith

accepted : (x : Lent) (S : Shape) → lent S ≡ true → bytes_needed Form.Newest largest ≤ length x.memory → most_scans ≤ length x.list → Accepted Form.Newest S x.memory x.list
unfolding MakingAccepted
accepted x S e h k =
    let l : bytes_needed Form.Newest S ≤ length x.memory = omega (arith, enough S e) in
    making_accepted Form.Newest S x.memory x.list (rw (lent_within S e) tt) l k

-- ---- the store answers as the plain history
store_alike : (x : Lent) (S : Shape) → Accepted Form.Newest S x.memory x.list
    → Alike lent_machine (history_of S) record { memory = memory_made Form.Newest S x.memory x.list; list = made_list x.list } start
unfolding Demand3 store_outcomes
store_alike x S a cs t =
    store_outcomes_lem (lend (memory_made Form.Newest S x.memory x.list) (made_list x.list)) cs ∙ demand3 Form.Newest S x.memory x.list a cs (commanded_lends S start t) ∙ sym (history_outcomes S start cs)

-- ---- all lines of an input
small_columns : (S : Shape) → lent S ≡ true → capped S.columns ≡ S.columns
unfolding capped
small_columns S e = let l = lent_to_lem S e in min-eq_left (omega arith)

made_lines : (x : Lent) (S : Shape) (bs : List ℕ) → Bytes bs → bytes_needed Form.Newest largest ≤ length x.memory → most_scans ≤ length x.list
    → lines_from (making_answer x S) lent_machine (capped S.columns) (made_store x S) bs ≡ lines_from (shape_answer S) (history_of S) S.columns start bs
unfolding lines_from making_answer made_store shape_answer goes_on
made_lines x S bs b h k = go (lent S) refl
  where
    go : (l : Bool) → lent S ≡ l
        → lines_from (making_answer x S) lent_machine (capped S.columns) (made_store x S) bs ≡ lines_from (shape_answer S) (history_of S) S.columns start bs
    go true e =
        let a = accepted x S e h k in
        let made : Lent = record { memory = memory_made Form.Newest S x.memory x.list; list = made_list x.list } in
        let same = steps_alike lent_machine (history_of S) (length bs) S.columns made start (drop shape_bytes bs) (bytes_drop shape_bytes bs b) (store_alike x S a) in
        rw (e, a, small_columns S e, same)
    go false e = rw e

pub gatebook_writes : GatebookWrites
unfolding GatebookWrites gatebook first_answer first_store columns_from written lines_from goes_on
gatebook_writes x bs b h k =
    rw (whole shape_bytes bs, shape_part bs)
    (elim (leb shape_bytes (length bs)) as (λ c.
    lines_from (cond c (making_answer x S) (Err Refusal.Cut)) lent_machine (capped (cond c S.columns 0)) (cond c (made_store x S) x) bs
    ≡ lines_from (cond c (shape_answer S) (Err Refusal.Cut)) (history_of S) S.columns start bs)
    [ true ↦ made_lines x S bs b h k | false ↦ refl ]
    ∙ written_is_output bs)
  where
    S : Shape
    S = shape_from bs
