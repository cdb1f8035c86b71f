-- The view of a memory: one list of words for each region. What a call writes is a function from view to view, made of those here,
-- and `lay` writes a view over the bytes that a shape needs.
use Rattle.std.specs.Prelude.{ℕ, ◌*◌, ◌≤◌, ◌≡◌, cond, List, map, ◌++◌, eqb, length, get_or, set, drop, replicate}
use Rattle.words.specs.Words.{Fit, words, bytes}
use Rattle.loops.specs.Search.{region}
use Rattle.loops.specs.Change.{filled, numbered, copied, marked}
use Rattle.layout.specs.declared.Sizes.{Sizes}
use Rattle.layout.specs.declared.Region.{Region}
use Rattle.layout.specs.declared.Region.TheVariants.{Header, Used}
use Rattle.layout.specs.Cut.{join}
use Rattle.layout.specs.Regions.{index, all, len, base, need, rows_at, transactions_at, scans_at, stamp_at, merges_at, commits_at}

abbrev pub View : Type 0
View = Region → List ℕ

unfoldable pub view : Sizes → List ℕ → View
view s ws k = region ws (base s k) (len s k)

-- every word 0
unfoldable pub blank : Sizes → View
blank s k = replicate (len s k) 0

-- the view of a lent memory
abbrev pub view_of : Sizes → List ℕ → View
view_of s m = view s (words m)

-- the memory m has the bytes that the sizes s need
abbrev pub Suffices : Sizes → List ℕ → Type 0
Suffices s m = need s * 4 ≤ length m

-- another list for region k
unfoldable pub renew : Region → List ℕ → View → View
renew k l m j = cond (eqb (index k) (index j)) l (m j)

-- word i of region k becomes v
unfoldable pub put : Region → ℕ → ℕ → View → View
put k i v m = renew k (set (m k) i v) m

-- n words of region k, from `at` on, become v
unfoldable pub fill : Region → ℕ → ℕ → ℕ → View → View
fill k at n v m = renew k (filled at n v (m k)) m

-- n words of region k, from `at` on, become 0, 1, 2 and so on
unfoldable pub number : Region → ℕ → ℕ → View → View
number k at n m = renew k (numbered at n (m k)) m

-- n words of region k, from `from` on, go to those from `to` on
unfoldable pub copy : Region → ℕ → ℕ → ℕ → View → View
copy k from n to m = renew k (copied (m k) from n to (m k)) m

-- v in region k, for n words from `at` on, wherever region keys has key
unfoldable pub mark : Region → ℕ → Region → ℕ → ℕ → ℕ → View → View
mark keys key k at n v m = renew k (marked (m keys) at n key at v (m k)) m

-- a memory with the view m over the bytes that the sizes need, and its other bytes as they are
unfoldable pub lay : Sizes → View → List ℕ → List ℕ
lay s m mem = bytes (join (map m all)) ++ drop (need s * 4) mem

-- ---- the counts that a store keeps

abbrev pub rows_given : View → ℕ
rows_given v = get_or (v Header) rows_at 0

abbrev pub transactions_given : View → ℕ
transactions_given v = get_or (v Header) transactions_at 0

abbrev pub scans_given : View → ℕ
scans_given v = get_or (v Header) scans_at 0

abbrev pub last_stamp : View → ℕ
last_stamp v = get_or (v Header) stamp_at 0

abbrev pub merges_made : View → ℕ
merges_made v = get_or (v Header) merges_at 0

abbrev pub commits_made : View → ℕ
commits_made v = get_or (v Header) commits_at 0

-- the records used of range g
abbrev pub used_in : View → ℕ → ℕ
used_in v g = get_or (v Used) g 0

-- a view that a memory can have: each list as long as the sizes say, each word below 2 ^ 32
abbrev pub Long : Sizes → View → Type 0
Long s m = (k : Region) → length (m k) ≡ len s k

abbrev pub Fits : View → Type 0
Fits m = (k : Region) → Fit (m k)
