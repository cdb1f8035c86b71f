-- The steps of the pass that lists crossings, and how it stands after the values of some records.
use Rattle.std.specs.Prelude.{ℕ, ◌^◌, ◌≡◌, Bool, false, cond, ◌&&◌, List, [], ◌∷◌, ◌++◌, leb, ltb, eqb, length, take, ℤ, Option, Some, None}
use Rattle.std.specs.Option.{option_map_or, option_to_list}
use Rattle.std.proofs.lemmas.List.Edits.{sets}
use Rattle.terms.specs.declared.Shape.{Shape}
use Rattle.layout.specs.View.{View, used_in}
use Rattle.std.specs.Prelude.{Ok, Err}
use Rattle.terms.specs.Answers.{Answer}
use Rattle.terms.specs.declared.Fields.{Fields}
use Rattle.terms.specs.declared.Refusal.{Refusal}
use Rattle.history.specs.History.{outnumber, Dated, above, differ, last_of_each, crossings_from, range_of}
use Rattle.model.specs.declared.Reader.{Reader}
use Rattle.model.specs.Stored.{record_in}
use Rattle.model.specs.Versions.{tells, dated_in, values_in}
use Rattle.crossing.specs.declared.Query.{Query}
use Rattle.crossing.specs.declared.Told.{Told}
use Rattle.crossing.specs.declared.Pass.{Pass}

-- more than the records of a range, so that a count of crossings does not go round
abbrev pub most_found : ℕ
most_found = 2 ^ 32

-- what the code holds of a value
abbrev pub told : ℤ → Dated → Told
told mark v = record { setter = v.setter; stamp = v.stamp; above = above mark v }

-- ---- one value more
abbrev pub same_setter : Pass → Told → Bool
same_setter p x = option_map_or (λ y. eqb y.setter x.setter) p.last false

-- after a value of side b, or none, this one is a crossing that is asked for
abbrev pub counted : ℕ → Option Bool → Told → Bool
counted from b x = option_map_or (λ y. differ y x.above) b false && leb from x.stamp

-- the crossings of a list that follows a value of side b, or none
abbrev pub behind : ℕ → Option Bool → List Told → List ℕ
behind from b [] = []
behind from b (x ∷ l) =
    let further = behind from (Some x.above) l in
    cond (counted from b x) (x.stamp ∷ further) further

-- the last value, if one was met
abbrev pub standing : Pass → List Told
standing p = option_to_list p.last

-- its stamp, if it is a crossing
abbrev pub noted : ℕ → Pass → List ℕ
noted from p = behind from p.before (standing p)

-- stamps written from place n on, while that is below the limit
abbrev pub placed : ℕ → ℕ → List ℕ → List ℕ → List ℕ
placed limit n l out = cond (ltb n limit) (sets out n l) out

-- ---- how the pass stands
-- the last of neighbours by one transaction, as `last_of_each` has them
abbrev pub lasts : List Told → List Told
lasts [] = []
lasts (x ∷ []) = x ∷ []
lasts (x ∷ y ∷ l) = cond (eqb x.setter y.setter) (lasts (y ∷ l)) (x ∷ lasts (y ∷ l))

-- After the values l, with the slice `out` at first and `out'` now: `listed` are the crossings found, and whatever values come, the crossings of all are these and those that
-- follow from where the pass stands.
pub record Stands (from limit : ℕ) (l : List Told) (out : List ℕ) (p : Pass) (out' : List ℕ) : Type 0 where
  pub listed : List ℕ
  pub found_is : p.found ≡ length listed
  pub written : out' ≡ sets out 0 (take limit listed)
  pub fresh : p.last ≡ None → p.before ≡ None
  pub further : (more : List Told) → behind from None (lasts (l ++ more)) ≡ listed ++ behind from p.before (lasts (standing p ++ more))

-- a turn of the pass over one value more
unfoldable pub Continues : (from limit : ℕ) → Told → Pass → List ℕ → Pass → List ℕ → Type 0
Continues from limit x p old p' old' = (l : List Told) (out : List ℕ) → Stands from limit l out p old → Stands from limit (l ++ x ∷ []) out p' old'

-- what the record at slot k tells, if it tells a value
unfoldable pub told_at : Shape → View → Reader → Query → ℕ → Option Told
told_at S v who q k = cond (tells v who q.row.0 q.column (record_in v k)) (Some (told q.mark (dated_in S v q.row.0 q.column k))) None

-- of row r the records from number i up to j tell nothing, to whatever reader and of whatever column
unfoldable pub NoneTold : Shape → View → (r i j : ℕ) → Type 0
NoneTold S v r i j = (who : Reader) (c : ℕ) → values_in S v who r c j ≡ values_in S v who r c i

-- ---- the whole pass
unfoldable pub listed_in : Shape → View → Reader → Query → List ℕ
listed_in S v who q = crossings_from q.mark q.from.0 (last_of_each (values_in S v who q.row.0 q.column (used_in v (range_of q.row.0))))

-- of the crossings l there are n, and the first `limit` of them are written
pub record Lists (l : List ℕ) (limit n : ℕ) (old new : List ℕ) : Type 0 where
  pub count : n ≡ length l
  pub written : new ≡ sets old 0 (take limit l)

-- all of them are written and their number is answered, or there are too many, and nothing is written
pub record ListsAll (l : List ℕ) (r : Answer) (old new : List ℕ) : Type 0 where
  pub answer : r ≡ cond (outnumber l old) (Err Refusal.List) (Ok (Fields.Listed (length l)))
  pub written : new ≡ cond (outnumber l old) old (sets old 0 l)
