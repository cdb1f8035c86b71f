-- The steps of a walk along the links: each turn either answers, stops, or goes on from a lower record, and a walk needs no more steps than the number
-- that it is at. Then the ways in which a walk's end gives the word of a row and column.
use Prim.Native.Nat.{ℕ, zero, suc, ◌+◌, ◌≤◌, ◌<◌}
use native.Mathlib.Decide.{dec_le}
use mathlib.Core.Path.{◌≡◌, refl, sym, ◌∙◌, ap}
use mathlib.Core.Bool.{Bool, true, false, cond}
use native.Mathlib.Omega.{arith}
use lib.Dec.{leb}
use lib.ListN.{get_or}
use borrow.Author.Tests.{le-leb, lt-leb}
use Rattle.std.specs.Prelude.{Option, Some, None}
use Rattle.layout.specs.declared.Sizes.{Sizes}
use Rattle.layout.specs.declared.Region.TheVariants.{TailLink, RowMask, RowLink, PageLineage, PageNewest}
use Rattle.layout.specs.View.{View, rows_given, used_in}
use Rattle.layout.specs.Sizes.{Proper}
use Rattle.rows.proofs.Indices.{row_in_lem}
use Rattle.model.specs.declared.Reader.{Reader}
use Rattle.terms.specs.declared.Shape.{Shape}
use Rattle.history.specs.History.{bit, range_of}
use Rattle.model.specs.Stored.{row_in, record_in, page_in, value_in, cell_in, within}
use Rattle.layout.specs.Regions.{first_slot, slot}
use Rattle.history.proofs.Lists.{by_test, by_cases}
use Rattle.model.specs.Reading.{answers_for, walk, found_in, or_else, floor, down_to, word_in, setter_at, setter_in, lookup_in}
use Rattle.model.specs.declared.Setter.{Setter}
use Rattle.model.specs.declared.Version.{Version}
use Rattle.rows.specs.Finders.{Inside}
use Rattle.model.specs.Preconditions.{shape_in, Linked}

module _ (s : Sizes) (v : View) (linked : Linked s v) (who : Reader) (g c low : ℕ) (h : g < s.ranges) where
  -- one turn: what is done at record k, with what is found from its link on
  abbrev turn : ℕ → Option ℕ → Option ℕ
  turn k further =
      let at = slot (shape_in s) g k in
      cond (leb k low) None (cond (answers_for who c (record_in v at)) (Some at) further)

  -- more steps than the number change nothing
  steps : (n m k : ℕ) → k ≤ n → k ≤ m → k ≤ used_in v g
      → walk (shape_in s) v who g c low n k ≡ walk (shape_in s) v who g c low m k
  unfolding walk record_in
  steps zero zero k p q l = refl
  steps zero (suc m) k p q l = let z : k ≡ 0 = omega arith in rw (z, le-leb 0 low (omega arith))
  steps (suc n) zero k p q l = let z : k ≡ 0 = omega arith in rw (z, le-leb 0 low (omega arith))
  steps (suc n) (suc m) zero p q l = rw (le-leb 0 low (omega arith))
  steps (suc n) (suc m) (suc j) p q l =
      let k = suc j in
      let link = get_or (v TailLink) (slot (shape_in s) g k) 0 in
      let lower : link < k = linked.links_lower g k h (omega arith) l in
      ap (turn k) (steps n m link (omega arith) (omega arith) (omega arith))

  -- the walk from record `from` has come to record k
  pub walk_stop : (from k : ℕ) → walk (shape_in s) v who g c low from from ≡ walk (shape_in s) v who g c low k k → k ≤ low
      → None ≡ walk (shape_in s) v who g c low from from
  unfolding walk
  walk_stop from zero on l = sym on
  walk_stop from (suc j) on l = sym (on ∙ rw (le-leb (suc j) low l))

  pub walk_hit : (from k at : ℕ) (answers : Bool) → walk (shape_in s) v who g c low from from ≡ walk (shape_in s) v who g c low k k → low < k
      → at ≡ slot (shape_in s) g k → answers ≡ answers_for who c (record_in v at) → answers ≡ true → Some at ≡ walk (shape_in s) v who g c low from from
  unfolding walk
  walk_hit from zero at answers on l e a y = absurd (omega arith)
  walk_hit from (suc j) at answers on l e a y = sym (on ∙ rw (lt-leb (suc j) low l, ← e, ← a, y))

  pub link_lower : (from k at link : ℕ) → low < k → k ≤ from → from ≤ used_in v g → at ≡ slot (shape_in s) g k → link ≡ get_or (v TailLink) at 0 → link < k
  link_lower from k at link l u b e q = rw (q, e) (linked.links_lower g k h (omega arith) (omega arith))

  pub walk_on : (from k at link : ℕ) (answers : Bool) → walk (shape_in s) v who g c low from from ≡ walk (shape_in s) v who g c low k k → low < k
      → k ≤ from → from ≤ used_in v g → at ≡ slot (shape_in s) g k → answers ≡ answers_for who c (record_in v at) → answers ≡ false → link ≡ get_or (v TailLink) at 0
      → walk (shape_in s) v who g c low from from ≡ walk (shape_in s) v who g c low link link
  unfolding walk record_in
  walk_on from zero at link answers on l u b e a y q = absurd (omega arith)
  walk_on from (suc j) at link answers on l u b e a y q =
      let lower : link < suc j = link_lower from (suc j) at link l u b e q in
      on ∙ rw (lt-leb (suc j) low l, ← e, ← a, y, ← q) (steps j link link (omega arith) (omega arith) (omega arith))

-- ---- the walk down to a number, by the walk over all records
abbrev above : ℕ → Option ℕ → Option ℕ
above b (Some i) = cond (leb b i) (Some i) None
above b None = None

inside_more : (f : Option ℕ) {a b : ℕ} → a ≤ b → Inside f a → Inside f b
inside_more (Some i) l h = omega arith
inside_more None l h = tt

none_above : (b : ℕ) (f : Option ℕ) → Inside f b → above b f ≡ None
none_above b (Some i) h = rw (lt-leb b i h)
none_above b None h = refl

found_above : (b i : ℕ) → b ≤ i → above b (Some i) ≡ Some i
found_above b i l = rw (le-leb b i l)

module _ (s : Sizes) (v : View) (linked : Linked s v) (who : Reader) (g c : ℕ) (h : g < s.ranges) where
  abbrev S : Shape
  S = shape_in s

  abbrev first : ℕ
  first = first_slot s.capacity g

  -- a walk ends no higher than it began
  walk_inside : (n k : ℕ) → k ≤ used_in v g → Inside (walk S v who g c floor n k) (first + k)
  unfolding walk record_in slot
  walk_inside zero k l = tt
  walk_inside (suc n) zero l = tt
  walk_inside (suc n) (suc j) l =
      let at = slot S g (suc j) in
      let link = get_or (v TailLink) at 0 in
      let lower : link < suc j = linked.links_lower g (suc j) h (omega arith) l in
      rw (lt-leb (suc j) floor (omega arith))
      (by_test (λ b. Inside (cond b (Some at) (walk S v who g c floor n link)) (first + suc j)) (answers_for who c (record_in v at))
      (λ _. omega arith) (λ _. inside_more (walk S v who g c floor n link) (omega arith) (walk_inside n link (omega arith))))

  walk_above : (low n k : ℕ) → k ≤ used_in v g → walk S v who g c low n k ≡ above (first + low) (walk S v who g c floor n k)
  unfolding walk record_in slot
  walk_above low zero k l = refl
  walk_above low (suc n) zero l = rw (le-leb 0 low (omega arith))
  walk_above low (suc n) (suc j) l = by_cases (dec_le (suc j) low)
      (λ p. rw (le-leb (suc j) low p) (sym (none_above (first + low) (walk S v who g c floor (suc n) (suc j)) (inside_more (walk S v who g c floor (suc n) (suc j)) (omega arith) (walk_inside (suc n) (suc j) l)))))
      (λ q.
      let at = slot S g (suc j) in
      let link = get_or (v TailLink) at 0 in
      let lower : link < suc j = linked.links_lower g (suc j) h (omega arith) l in
      rw (lt-leb (suc j) low (omega (arith, q)), lt-leb (suc j) floor (omega arith))
      (by_test (λ b. cond b (Some at) (walk S v who g c low n link) ≡ above (first + low) (cond b (Some at) (walk S v who g c floor n link))) (answers_for who c (record_in v at))
      (λ _. sym (found_above (first + low) at (omega (arith, q)))) (λ _. walk_above low n link (omega arith))))

module _ (S : Shape) (v : View) (who : Reader) (c p : ℕ) where
  -- ---- how far down on page p
  module _ (newest : ℕ) (e : newest ≡ get_or (v PageNewest) p 0) where
    pub down_lineage : (lineage : ℕ) → newest ≤ who.stamp.0 → lineage ≡ get_or (v PageLineage) p 0 → lineage ≡ down_to who (page_in v p)
    unfolding down_to page_in
    down_lineage lineage l q = rw (← e, le-leb newest who.stamp.0 l) q

    pub down_all : who.stamp.0 < newest → 0 ≡ down_to who (page_in v p)
    unfolding down_to page_in
    down_all l = rw (← e, lt-leb newest who.stamp.0 l)

-- ---- the record that answers for row r, and the word on page p
module _ (S : Shape) (v : View) (who : Reader) (c r mask : ℕ) (m : mask ≡ get_or (v RowMask) r 0) (has : Bool) (b : has ≡ bit mask c) where
  pub found_unset : (low : ℕ) → has ≡ false → None ≡ found_in S v who low r c
  unfolding found_in row_in
  found_unset low f = rw (← m, ← b, f)

  pub word_alone : (p cell : ℕ) → has ≡ false → cell ≡ cell_in v p (within r) → cell ≡ word_in S v who p r c
  unfolding word_in
  word_alone p cell f e = rw (← found_unset (down_to who (page_in v p)) f) e

  module _ (g link low : ℕ) (w : Option ℕ) (t : has ≡ true) (i : g ≡ range_of r) (l : link ≡ get_or (v RowLink) r 0) (q : w ≡ walk S v who g c low link link) where
    pub found_set : w ≡ found_in S v who low r c
    unfolding found_in row_in
    found_set = rw (← m, ← b, t, ← i, ← l) q

    module _ (p : ℕ) (n : low ≡ down_to who (page_in v p)) where
      pub word_found : (j word : ℕ) → w ≡ Some j → word ≡ value_in S v j c → word ≡ word_in S v who p r c
      unfolding word_in
      word_found j word f d = rw (← n, ← found_set, f) d

      pub word_none : (cell : ℕ) → w ≡ None → cell ≡ cell_in v p (within r) → cell ≡ word_in S v who p r c
      unfolding word_in
      word_none cell f e = rw (← n, ← found_set, f) e

-- ---- the version of row r on page p, by one walk over all of its records
module _ (s : Sizes) (proper : Proper s) (v : View) (linked : Linked s v) (who : Reader) (c p r held low : ℕ) (w : Option ℕ) (given : r < rows_given v) (e : held ≡ cell_in v p (within r))
    (n : low ≡ down_to who (page_in v p)) (q : w ≡ found_in (shape_in s) v who floor r c) where
  found_down : found_in (shape_in s) v who low r c ≡ above (first_slot s.capacity (range_of r) + low) w
  unfolding found_in
  found_down =
      rw q
      (by_test (λ b. cond b (walk (shape_in s) v who (range_of r) c low (row_in v r).link (row_in v r).link) None
      ≡ above (first_slot s.capacity (range_of r) + low) (cond b (walk (shape_in s) v who (range_of r) c floor (row_in v r).link (row_in v r).link) None)) (bit (row_in v r).mask c)
      (λ _. walk_above s v linked who (range_of r) c (row_in_lem s proper v linked r given).1 low (row_in v r).link (row_in v r).link (unfold row_in in (row_in_lem s proper v linked r given).2))
      (λ _. refl))

  version_is : lookup_in (shape_in s) v who p r c
      ≡ record { word = or_else (above (first_slot s.capacity (range_of r) + low) w) (λ j. value_in (shape_in s) v j c) held; setter = or_else w (setter_at v) Setter.Insert }
  unfolding lookup_in word_in setter_in
  version_is = rw (← n, found_down, ← q, ← e)

  pub version_none : w ≡ None → ◌≡◌ {A = Version} record { word = held; setter = Setter.Insert } (lookup_in (shape_in s) v who p r c)
  version_none f = rw (version_is, f)

  module _ (j g : ℕ) (x : Setter) (yes : Bool) (f : w ≡ Some j) (y : x ≡ setter_at v j) (i : g ≡ range_of r) (a : yes ≡ leb (first_slot s.capacity g + low) j) where
    pub version_found : (word : ℕ) → yes ≡ true → word ≡ value_in (shape_in s) v j c → ◌≡◌ {A = Version} record { word = word; setter = x } (lookup_in (shape_in s) v who p r c)
    version_found word k d = rw (version_is, f, ← i, ← a, k, y, d)

    pub version_merged : yes ≡ false → ◌≡◌ {A = Version} record { word = held; setter = x } (lookup_in (shape_in s) v who p r c)
    version_merged k = rw (version_is, f, ← i, ← a, k, y)
