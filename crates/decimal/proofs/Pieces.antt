-- Bytes written one behind the other are the joined bytes written once.
use Prim.Native.Nat.{ℕ, ◌+◌, ◌-◌, ◌≤◌}
use mathlib.Core.Path.{◌≡◌, refl, ap, ◌∙◌}
use mathlib.Core.List.{List, ◌++◌, append_assoc}
use native.Mathlib.Omega.{arith}
use lib.ListN.{length, length-append}
use lib.Seq.{sets, sets-eq, drop-drop}
use borrow.Rule.Slice.PartMut.{put_mid}
use Rattle.words.proofs.Sets.{sets_append}
use Rattle.decimal.specs.Written.{Written}

-- `put` writes over a part
pub part_written : (l s : List ℕ) (at : ℕ) → at + length s ≤ length l → put_mid at (at + length s - at) l s ≡ sets l at s
part_written l s at h = let n : at + length s - at ≡ length s = omega arith in rw (n, drop-drop, sets-eq s l at h, append_assoc) refl

pub joined : {a b c : List ℕ} {at p e : ℕ} {s t : List ℕ} → Written a b at s p → Written b c p t e → Written a c at (s ++ t) e
joined {a} {b} {c} {at} {p} {e} {s} {t} w v = record {
  bytes = v.bytes ∙ ap (λ (l : List ℕ). sets l p t) w.bytes ∙ ap (λ (k : ℕ). sets (sets a at s) k t) w.ends ∙ sets_append s t a at;
  ends = omega (arith, w.ends, v.ends, length-append s t);
}
