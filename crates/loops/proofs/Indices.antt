-- A search over words finds the index that a search over the list of them names.
use Rattle.std.proofs.Common.{◌≡◌, ℕ, suc, ◌+◌, Bool, true, false, cond, eqb, ltb, List, [], ◌∷◌, length, refl, ◌∙◌, arith, take_all, lt-ltb}
use lib.Dec.{leb-suc-suc}
use Rattle.std.specs.Prelude.{Some, None}
use Rattle.loops.specs.Search.{region, first_at, found_at}
use Rattle.terms.specs.Entries.{first_index}

-- counted from k
first_index_lem : (key k : ℕ) (l : List ℕ) → first_at key k l ≡ cond (ltb (first_index (λ x. eqb x key) l) (length l)) (Some (k + first_index (λ x. eqb x key) l)) None
first_index_lem key k [] = refl
first_index_lem key k (x ∷ l) = go (eqb x key) (first_index_lem key (k + 1) l)
  where
    go : (b : Bool) → first_at key (k + 1) l ≡ cond (ltb (first_index (λ y. eqb y key) l) (length l)) (Some (k + 1 + first_index (λ y. eqb y key) l)) None
        → cond b (Some k) (first_at key (k + 1) l)
        ≡ cond (ltb (cond b 0 (suc (first_index (λ y. eqb y key) l))) (suc (length l))) (Some (k + cond b 0 (suc (first_index (λ y. eqb y key) l)))) None
    go true ih =
        let z : k + 0 ≡ k = omega arith in
        rw (lt-ltb 0 (suc (length l)) (omega arith), z)
    go false ih =
        let q = first_index (λ y. eqb y key) l in
        let z : k + suc q ≡ k + 1 + q = omega arith in
        rw (z, leb-suc-suc (suc q) (length l)) ih

-- the whole of a list
pub find_index : (key : ℕ) (l : List ℕ) (n : ℕ) → length l ≡ n → first_at key 0 (region l 0 n) ≡ found_at n (first_index (λ x. eqb x key) l)
find_index key l n e =
    let a : region l 0 n ≡ l = take_all (0 + n) l (omega arith) in
    let z : 0 + first_index (λ x. eqb x key) l ≡ first_index (λ x. eqb x key) l = omega arith in
    rw a (first_index_lem key 0 l ∙ rw (z, e))
