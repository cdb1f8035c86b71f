-- How a scan's page is found: the current page if it was made before the scan was opened, else the one waiting page that was current then.
use mathlib.Core.Path.{◌≡◌}
use mathlib.Core.Logic.{◌⊎◌, inl, inr}
use mathlib.Core.Bool.{false, cond}
use Prim.Native.Nat.{ℕ, ◌%◌, ◌≤◌, ◌<◌}
use native.Mathlib.Omega.{arith}
use lib.Dec.{T, leb, ltb, leb→le, nleb→lt, ltb→lt}
use borrow.Author.Tests.{lt-ltb, lt-leb}
use Rattle.terms.specs.declared.Shape.{Shape}
use Rattle.history.proofs.Lists.{by_test, refuted, both_test, eq_test, le_test}
use Rattle.layout.specs.View.{View}
use Rattle.layout.specs.Codes.{as_current}
use Rattle.model.specs.Stored.{PageWords, page_in, current_in, chunk_of, chunks_of, pages_of, first_from}
use Rattle.model.specs.Reading.{was_current, scan_page}
use Rattle.model.proofs.Lists.{first_is}
use Rattle.model.specs.Represents.{made_in}

-- what the search asks of a page
pub record WasCurrent (S : Shape) (m chunk : ℕ) (x : PageWords) : Type 0 where
  pub waits : as_current < x.state
  pub chunk_is : x.chunk % chunks_of S ≡ chunk
  pub made_before : x.made ≤ m
  pub after : m < x.replaced

pub was_current_lem : (S : Shape) (v : View) (m chunk q : ℕ) → T (was_current S v m chunk q) → WasCurrent S m chunk (page_in v q)
unfolding was_current
was_current_lem S v m chunk q t = let tests = simp (both_test, eq_test, le_test) at t in search tests

pub is_current : (S : Shape) (v : View) (m chunk q : ℕ) → WasCurrent S m chunk (page_in v q) → T (was_current S v m chunk q)
unfolding was_current
is_current S v m chunk q o = simp (both_test, eq_test, le_test) (search o)

pub unfound : (S : Shape) (v : View) (m chunk q : ℕ) → (WasCurrent S m chunk (page_in v q) → ⊥) → was_current S v m chunk q ≡ false
unfound S v m chunk q f = refuted (was_current S v m chunk q) (λ t. f (was_current_lem S v m chunk q t))

-- a page that does not wait
pub unfound_state : (S : Shape) (v : View) (m chunk q : ℕ) → (page_in v q).state ≤ 1 → was_current S v m chunk q ≡ false
unfound_state S v m chunk q b = unfound S v m chunk q (λ x. omega (arith, x.waits))

-- the search looks at a page's words alone
pub search_same : (S : Shape) (v w : View) (m chunk q : ℕ) → page_in w q ≡ page_in v q → was_current S w m chunk q ≡ was_current S v m chunk q
unfolding was_current
search_same S v w m chunk q e = rw e

abbrev pub searched : Shape → View → ℕ → ℕ → ℕ → ℕ
searched S v m g c = first_from (was_current S v m (chunk_of S g c)) (pages_of S) 0

pub search_is : (S : Shape) (v : View) (m g c : ℕ) → searched S v m g c < pages_of S → WasCurrent S m (chunk_of S g c) (page_in v (searched S v m g c))
search_is S v m g c b = was_current_lem S v m (chunk_of S g c) (searched S v m g c) (first_is (was_current S v m (chunk_of S g c)) (pages_of S) 0 (omega arith))

pub found_page : (S : Shape) (v : View) (m g c : ℕ) → m < made_in S v g c → searched S v m g c < pages_of S → scan_page S v m g c ≡ searched S v m g c
unfolding scan_page
found_page S v m g c a b =
    rw (lt-leb (made_in S v g c) m a, lt-ltb (searched S v m g c) (pages_of S) b)

abbrev pub Cases : Shape → View → ℕ → ℕ → ℕ → Type 0
Cases S v m g c = (made_in S v g c ≤ m) ⊎ ((m < made_in S v g c) × (searched S v m g c < pages_of S))

-- a scan's page that was made before the scan was opened is the current one, or was found
pub scan_cases : (S : Shape) (v : View) (m g c : ℕ) → (page_in v (scan_page S v m g c)).made ≤ m → Cases S v m g c
unfolding scan_page
scan_cases S v m g c =
    by_test (λ a. (page_in v (cond a (current_in S v g c) (cond (ltb (searched S v m g c) (pages_of S)) (searched S v m g c) (current_in S v g c)))).made ≤ m → Cases S v m g c) (leb (made_in S v g c) m)
    (λ t _. inl (leb→le (made_in S v g c) m t))
    (λ n. by_test (λ b. (page_in v (cond b (searched S v m g c) (current_in S v g c))).made ≤ m → Cases S v m g c) (ltb (searched S v m g c) (pages_of S))
    (λ t _. inr (nleb→lt (made_in S v g c) m n, ltb→lt (searched S v m g c) (pages_of S) t)) (λ _ u. inl u))

-- the same words, the same page
pub scan_page_same : (S : Shape) (v w : View) (m g c : ℕ) → current_in S w g c ≡ current_in S v g c → made_in S w g c ≡ made_in S v g c → searched S w m g c ≡ searched S v m g c
    → scan_page S w m g c ≡ scan_page S v m g c
unfolding scan_page
scan_page_same S v w m g c e1 e2 e3 = rw (e2, e1, e3)
