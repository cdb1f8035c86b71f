-- The table of commands: what holds of each entry, and of each of its widths.
use Prim.Native.Nat.{ℕ, zero, suc}
use mathlib.Core.Path.{◌≡◌}
use mathlib.Core.Bool.{Bool, true, ◌&&◌}
use mathlib.Core.List.{List, [], ◌∷◌}
use lib.Dec.{T, leb, leb→le}
use lib.ListN.{get_or}
use Rattle.terms.specs.declared.Refusal.{Refusal}
use Rattle.commands.specs.declared.Format.{Format}
use Rattle.std.specs.Prelude.{Ok, Err}
use Rattle.commands.specs.Commands.{Chosen, operand_bytes, Narrow, widths_of, chosen, commands}
use Rattle.history.specs.Lists.{All, nil, cons}
use Rattle.history.proofs.Lists.{parts}

-- ---- what holds of each entry, and of no command, holds of every byte
pub chosen_each : (P : Chosen → Type 0) → All P commands → P (Err Refusal.Command) → (byte : ℕ) → P (chosen byte)
unfolding chosen
chosen_each P a r byte = go commands a byte
  where
    go : (ks : List Chosen) → All P ks → (i : ℕ) → P (get_or ks i (Err Refusal.Command))
    go [] a i = r
    go (k ∷ ks) (cons p ps) zero = p
    go (k ∷ ks) (cons p ps) (suc i) = go ks ps i

-- where it is a computed test
abbrev pub all_pass : (Chosen → Bool) → List Chosen → Bool
all_pass test [] = true
all_pass test (k ∷ ks) = test k && all_pass test ks

pub chosen_passes : (test : Chosen → Bool) → T (all_pass test commands) → T (test (Err Refusal.Command)) → (byte : ℕ) → T (test (chosen byte))
chosen_passes test t r byte = chosen_each (λ k. T (test k)) (go commands t) r byte
  where
    go : (ks : List Chosen) → T (all_pass test ks) → All (λ k. T (test k)) ks
    go [] t = nil
    go (k ∷ ks) t = cons (parts (test k) (all_pass test ks) t).0 (go ks (parts (test k) (all_pass test ks) t).1)

-- ---- every operand of a command is narrow
abbrev narrow : List ℕ → Bool
narrow [] = true
narrow (w ∷ ws) = leb w operand_bytes && narrow ws

narrow_tells : (ws : List ℕ) → T (narrow ws) → Narrow ws
narrow_tells [] t = tt
narrow_tells (w ∷ ws) t = let p = parts (leb w operand_bytes) (narrow ws) t in (leb→le w operand_bytes p.0, narrow_tells ws p.1)

abbrev narrow_form : Chosen → Bool
narrow_form (Ok f) = narrow (widths_of f)
narrow_form (Err r) = true

pub chosen_narrow : (byte : ℕ) (f : Format) → chosen byte ≡ Ok f → Narrow (widths_of f)
unfolding commands
chosen_narrow byte f e = narrow_tells (widths_of f) (rw e at (chosen_passes narrow_form tt tt byte))
