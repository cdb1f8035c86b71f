-- The entries of open transactions are a book (Book): what stands in them by the states of the history.
use mathlib.Core.Path.{◌≡◌, refl, ◌∙◌, ap}
use mathlib.Core.Bool.{false, not}
use mathlib.Core.List.{List, [], ◌∷◌, ◌++◌}
use Prim.Native.Nat.{ℕ, suc, ◌+◌, ◌≤◌, ◌<◌}
use native.Mathlib.Omega.{arith}
use lib.Dec.{T, leb, ltb, eqb, leb→le, le→leb, nltb→le, ltb→lt, not_T}
use lib.ListN.{length, get_or, set}
use Rattle.terms.specs.Measures.{most_transactions}
use Rattle.history.specs.History.{State, unknown, active, any, count, nth, change, is_active}
use Rattle.history.proofs.Lists.{both_test, eq_test}
use Rattle.terms.specs.Entries.{bears, first_index}
use Rattle.model.proofs.Lists.{same_truth, any_count, first_below, first_passes}
use Rattle.model.proofs.Book.{Kind, live_given, book_is, book_room, book_add, book_drop}
use Rattle.model.specs.Represents.{OpensAre}

pub unknown_idle : is_active unknown ≡ false
unfolding is_active
unknown_idle = refl

abbrev pub open_kind : Kind ℕ State
open_kind =
    record { number = λ k. k; live = is_active; as' = λ i s. i; as_number = λ i s. refl; free = 0; free_number = refl; none = unknown; none_live = unknown_idle; tells = λ p q f. f (λ k. k) }

pub opens_is : (ts : List State) (l : List ℕ) → OpensAre ts l → (t : ℕ) → any (bears t) l ≡ is_active (nth ts t unknown)
opens_is ts l o = book_is open_kind ts l o

-- what stands in the entry of an active transaction
pub open_there : (ts : List State) (l : List ℕ) → OpensAre ts l → (t : ℕ) → nth ts t unknown ≡ active → (first_index (bears t) l < length l) × (get_or l (first_index (bears t) l) 0 ≡ t)
unfolding is_active
open_there ts l o t a =
    let b : T (any (bears t) l) = rw (opens_is ts l o t, a) tt in
    (first_below (bears t) l b, (simp (both_test, eq_test) at (first_passes (bears t) l 0 b)).1)

-- its number is among those given
pub active_given : (ts : List State) (t : ℕ) → nth ts t unknown ≡ active → (1 ≤ t) × (t ≤ length ts)
unfolding is_active
active_given ts t a = live_given is_active ts t unknown refl (rw a tt)

-- all entries are taken
pub opens_full : (ts : List State) (l : List ℕ) → length l ≡ most_transactions → OpensAre ts l → not (any (λ k. eqb k 0) l) ≡ leb most_transactions (count is_active ts)
opens_full ts l n o =
    let e : count (λ k. eqb k 0) l + count is_active ts ≡ length l = book_room open_kind ts l o in
    ap not (any_count (λ k. eqb k 0) l)
    ∙ same_truth _ _ (λ t. le→leb most_transactions (count is_active ts) (omega (arith, nltb→le 0 (count (λ k. eqb k 0) l) t)))
    (λ t. not_T (ltb 0 (count (λ k. eqb k 0) l)) (λ u. omega (arith, ltb→lt 0 (count (λ k. eqb k 0) l) u, leb→le most_transactions (count is_active ts) t)))

pub opens_begin : (ts : List State) (l : List ℕ) → OpensAre ts l → T (any (λ k. eqb k 0) l) → OpensAre (ts ++ active ∷ []) (set l (first_index (λ k. eqb k 0) l) (suc (length ts)))
unfolding is_active
opens_begin ts l o a = book_add open_kind ts l o active tt a

pub opens_close : (ts : List State) (l : List ℕ) (t : ℕ) (x : State) → OpensAre ts l → nth ts t unknown ≡ active → is_active x ≡ false
    → OpensAre (change ts t x) (set l (first_index (bears t) l) 0)
unfolding is_active
opens_close ts l t x o p n = book_drop open_kind ts l o t (rw p tt) x n
