-- What the limits of a shape say of its sizes: the words needed fit every sum of the code, and the bytes needed are within the bound of rule 8.3.
use Prim.Native.Nat.{ℕ, ◌+◌, ◌*◌, ◌≤◌, ◌<◌}
use mathlib.Core.Path.{◌≡◌, refl, sym, ◌∙◌}
use mathlib.Core.Bool.{Bool, true, false, cond}
use native.Mathlib.Omega.{arith}
use native.Mathlib.Nat.{mul-le-mul, add-mul, mul_assoc, mul_comm}
use Rattle.terms.specs.Measures.{within_limits, most_columns, most_ranges, most_records, most_spares, most_chunks, most_transactions, range_rows}
use Rattle.terms.specs.declared.Shape.{Shape}
use Rattle.terms.specs.declared.Form.{Form}
use Rattle.std.specs.Prelude.{Ok, Err}
use Rattle.terms.specs.Answers.{Answer}
use Rattle.terms.specs.declared.Fields.{Fields}
use Rattle.terms.specs.declared.Refusal.{Refusal}
use Rattle.loops.proofs.Search.{and_true, between_tells}
use Rattle.layout.specs.declared.Sizes.{Sizes}
use Rattle.layout.specs.Regions.{need}
use Rattle.layout.specs.Sizes.{Proper, sizes_of, later_of, bytes_needed, bytes_allowed, bytes_answer, BytesAnswered, too_many_words}

pub proper : (f : Form) (p : Shape) → within_limits p ≡ true → Proper (sizes_of f p)
unfolding within_limits
proper f p e =
    let a = and_true _ _ e in
    let b = and_true _ _ a.1 in
    let c = and_true _ _ b.1 in
    let q = between_tells 1 most_columns p.columns a.0 in
    let r = between_tells 1 most_ranges p.ranges b.0 in
    let x = between_tells 0 most_spares p.spares c.1 in
    let d : p.columns * p.ranges ≤ most_chunks = mul-le-mul q.1 r.1 in
    record {
      rows_are = refl;
      slots_are = refl;
      values_are = refl;
      chunks_are = refl;
      pages_are = refl;
      columns_from = q.0;
      columns_to = q.1;
      ranges_from = r.0;
      ranges_to = r.1;
      capacity_to = (between_tells 1 most_records p.capacity c.0).1;
      spares_to = x.1;
      pages_to = omega (arith, x.1);
    }

-- no region that the first form does not have is longer than one of its like
pub later_few : (f : Form) (rows slots : ℕ) → ((later_of f rows slots).rows ≤ rows) × ((later_of f rows slots).slots ≤ slots) × ((later_of f rows slots).opens ≤ most_transactions)
later_few Form.First rows slots = (omega arith, omega arith, omega arith)
later_few Form.Newest rows slots = (omega arith, omega arith, omega arith)

pub need_small : (f : Form) (p : Shape) → within_limits p ≡ true → need (sizes_of f p) < too_many_words
unfolding need
need_small f p e =
    let l = proper f p e in
    let a : p.ranges * p.capacity ≤ most_ranges * most_records = mul-le-mul l.ranges_to l.capacity_to in
    let b : p.ranges * p.capacity * p.columns ≤ most_ranges * most_records * most_columns = mul-le-mul a l.columns_to in
    let d : p.columns * p.ranges ≤ most_chunks = mul-le-mul l.columns_to l.ranges_to in
    let few = later_few f (p.ranges * range_rows) (p.ranges * p.capacity) in
    omega (arith, few.0, few.1, few.2)

-- the same of sizes that were computed behind the test
pub few_words : (f : Form) (p : Shape) (s : Sizes) (ok : Bool) → s ≡ sizes_of f p → ok ≡ within_limits p → ok ≡ true → need s < too_many_words
few_words f p s ok e w t = rw e (need_small f p (sym w ∙ t))

-- 8.3: at most 4,096 bytes, and 320 for each page, 64 for each row, 64 + 4 columns for each tail record
pub bytes_allowed_lem : (p : Shape) → bytes_needed Form.Newest p ≤ bytes_allowed (sizes_of Form.Newest p)
unfolding bytes_needed need
bytes_allowed_lem p =
    let t : ℕ = p.ranges * p.capacity in
    let e : (64 + 4 * p.columns) * t ≡ 64 * t + 4 * (t * p.columns) = rw (add-mul 64 (4 * p.columns) t, mul_assoc 4 p.columns t, mul_comm p.columns t) in
    omega arith

pub bytes_answered : (p : Shape) {r : Answer} → r ≡ bytes_answer p → BytesAnswered p r
unfolding BytesAnswered bytes_answer
bytes_answered p {r} a = (
  a,
  λ n q. elim (within_limits p) as (λ b. cond b (Ok (Fields.Number (bytes_needed Form.Newest p))) (Err Refusal.Shape) ≡ Ok (Fields.Number n) → n ≤ bytes_allowed (sizes_of Form.Newest p))
      [ true ↦ λ e. let m : bytes_needed Form.Newest p ≡ n = cc in omega (arith, bytes_allowed_lem p) | false ↦ λ e. let z : ◌≡◌ {A = ℕ} 0 1 = cc in omega arith ] (sym a ∙ q),
)
