-- A line that was written from the buffer's start, and the fields of stamps.
use Prim.Native.Nat.{ℕ, ◌+◌, ◌≤◌, ◌<◌}
use mathlib.Core.Path.{◌≡◌, refl, ap, sym, ◌∙◌}
use mathlib.Core.List.{List, [], ◌∷◌, ◌++◌, append_assoc, append-nil}
use native.Mathlib.Omega.{arith}
use native.Mathlib.Numerals.{add-one}
use lib.ListN.{length, take, get_or}
use lib.Seq.{take-suc}
use Rattle.decimal.specs.Decimal.{decimal, field}
use Rattle.decimal.specs.Written.{line_bytes, Written}
use Rattle.lines.specs.Lines.{fields}
use Rattle.lines.specs.Written.{Rendered}

pub rendered : {old new s : List ℕ} {n : ℕ} → Written old new 0 s n → n ≤ line_bytes → Rendered old new s n
rendered w h = record { bytes = w.bytes; count = omega (arith, w.ends); fits = h }

-- one stamp more is one field more
fields_append : (l k : List ℕ) → fields (l ++ k) ≡ fields l ++ fields k
unfolding fields
fields_append [] k = refl
fields_append (s ∷ l) k = ap (λ (t : List ℕ). field (decimal s) ++ t) (fields_append l k) ∙ sym (append_assoc (field (decimal s)) (fields l) (fields k))

pub fields_next : (l : List ℕ) (i : ℕ) → i < length l → fields (take i l) ++ field (decimal (get_or l i 0)) ≡ fields (take (i + 1) l)
unfolding fields
fields_next l i h = rw (add-one i, take-suc l i 0, fields_append, append-nil)
