-- The changes noted of the open transactions: a row or record more is noted in its transaction's entry alone, and the count cannot go round.
use mathlib.Core.Path.{◌≡◌, sym}
use mathlib.Core.Logic.{◌≢◌}
use mathlib.Core.Bool.{true, false, cond}
use mathlib.Core.List.{List, ◌∷◌}
use Prim.Native.Nat.{ℕ, ◌+◌, ◌*◌, ◌^◌, ◌≤◌, ◌<◌, zero-le}
use native.Mathlib.Omega.{arith}
use native.Mathlib.Nat.{le_refl, mul-le-mul}
use native.Mathlib.Decide.{ℕ_discrete}
use lib.Dec.{eqb}
use lib.ListN.{length, get_or, set}
use lib.Seq.{get_or-set_same, get_or-set_other}
use Rattle.terms.specs.Measures.{most_ranges, most_records, most_transactions}
use Rattle.terms.specs.declared.Shape.{Shape}
use Rattle.history.specs.History.{History, Row, Record, State, unknown, active, nth, filterb, range_of, records_of}
use Rattle.history.specs.Lists.{All, nil, cons}
use Rattle.history.proofs.Lists.{by_cases, all_map, eqb_same}
use Rattle.history.proofs.Merges.{sum_more, sum_most}
use Rattle.history.specs.Invariants.{sum_below}
use Rattle.terms.specs.Entries.{bears, first_index}
use Rattle.model.specs.Stored.{next_word}
use Rattle.model.specs.Represents.{OpensAre, Unchanged, NotedIs, NotesAre, WellFormed}
use Rattle.model.proofs.Opens.{open_kind, open_there}
use Rattle.model.proofs.Book.{only_entry}

-- ---- all tail records together
abbrev of_range : ℕ → List Record → List Record
of_range g l = filterb (λ x. eqb (range_of x.row) g) l

tail_sum : (n : ℕ) {l : List Record} → All (λ (x : Record). range_of x.row < n) l → length l ≤ sum_below (λ g. length (of_range g l)) n
tail_sum n nil = zero-le
tail_sum n (cons {x = x} {l = l} p ps) =
    omega (
      arith,
      tail_sum n ps,
      sum_more (λ g. length (of_range g l)) (λ g. length (of_range g (x ∷ l))) n (range_of x.row) p
          (λ g. elim (eqb (range_of x.row) g) as (λ b. length (of_range g l) ≤ length (cond b (x ∷ of_range g l) (of_range g l))) [ true ↦ omega arith | false ↦ le_refl _ ])
          (rw (eqb_same (range_of x.row)) (le_refl _)),
    )

pub tail_bound : {S : Shape} {h : History} → WellFormed S h → length h.tail ≤ S.ranges * S.capacity
unfolding range_of records_of
tail_bound {S} {h} k =
    let e : length h.tail ≤ sum_below (λ g. length (records_of h g)) S.ranges =
    tail_sum S.ranges (all_map (λ x p. omega (arith, p.inside, k.invariants.limits.rows)) k.invariants.order.records) in
    omega (arith, e, sum_most (λ g. length (records_of h g)) S.ranges S.capacity (λ g _. k.invariants.limits.records g))

-- rows and records are far from 2 ^ 32
pub few_changes : {S : Shape} {h : History} → WellFormed S h → length h.rows + length h.tail < 2 ^ 31
few_changes {S} {h} k =
    let a : S.ranges * S.capacity ≤ most_ranges * most_records = mul-le-mul k.small.ranges k.small.capacity in
    omega (arith, k.invariants.limits.rows, tail_bound k, k.small.ranges)

-- ---- one note more
module _ (rows rows' : List Row) (tail tail' : List Record) (ts : List State) (l notes : List ℕ) (t : ℕ) (size : length l ≡ most_transactions)
    (size' : length notes ≡ most_transactions) (few : length rows + length tail < 2 ^ 31) (more : length rows + length tail < length rows' + length tail')
    (others : (u : ℕ) → u ≢ t → Unchanged rows tail u → Unchanged rows' tail' u) (o : OpensAre ts l) (a : nth ts t unknown ≡ active) where
  abbrev own : ℕ
  own = first_index (bears t) l

  pub notes_more : NotesAre rows tail l notes → NotesAre rows' tail' l (set notes own (next_word (get_or notes own 0)))
  notes_more n j b u =
      let old : NotedIs rows tail (get_or l j 0) (get_or notes j 0) = n j b u in
      by_cases (ℕ_discrete j own)
      (λ e. let w : get_or notes own 0 ≤ length rows + length tail = rw e at old.bound in
      rw (e, get_or-set_same notes own (next_word (get_or notes own 0)) 0 (omega (arith, (open_there ts l o t a).0)))
      record { bound = omega arith; none = λ z. absurd (omega arith) })
      (λ f. rw (get_or-set_other notes own j (next_word (get_or notes own 0)) 0 f)
      record { bound = omega (arith, old.bound); none = λ z. others (get_or l j 0) (λ e. f (sym (rw e at (only_entry open_kind ts l o j u)))) (old.none z) })
