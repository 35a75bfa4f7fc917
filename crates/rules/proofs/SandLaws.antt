-- What 02 (iv) says of tips by their soil: over clay the extra record changes nothing, and over sand R stays below the cap.
use Rattle.rules.specs.declared.SandNumbers.{SandNumbers}
use Rattle.std.specs.Prelude.{Option, None, Some}
use mathlib.Core.Path.{◌≡◌, refl, ap, ap₂}
use mathlib.Core.Bool.{Bool, true, false}
use mathlib.Core.List.{List}
use Prim.Native.Nat.{ℕ, ◌+◌, ◌≤◌}
use native.Mathlib.Omega.{arith}
use Rattle.rules.specs.declared.Soil.{Soil}
use Rattle.rules.specs.declared.Pile.{Pile}
use Rattle.rules.specs.declared.Row.{Row}
use Rattle.rules.specs.Base.{pick, both, neg, refuses, first, when}
use Rattle.rules.specs.SandTips.{sand_cap, sand_resistance}
use Rattle.rules.specs.Numbers.{sand, below_tip, tip_of, sand_pascals, resistance, capacity_of}
use Rattle.rules.specs.Checks.{ground_checks}
use Rattle.rules.specs.Answers.{answer, held_slices}

-- "ignored over clay"
module _ (g : ℕ → Soil) (depth : ℕ) (p : Pile) (x y : Option SandNumbers) (clay : sand (g (below_tip p)) ≡ false) where
  checks_alike : ground_checks g depth p x ≡ ground_checks g depth p y
  unfolding ground_checks
  checks_alike = rw clay

  pub answer_alike : answer g depth p x ≡ answer g depth p y
  unfolding answer resistance
  answer_alike = rw (checks_alike, clay)

  pub slices_alike : held_slices g depth p x ≡ held_slices g depth p y
  unfolding held_slices
  slices_alike = rw checks_alike

-- "R is capped by table 7.2"
pub below_cap : (p : Pile) (extra : Option SandNumbers) (s : Soil) → sand s ≡ true → resistance p extra s ≤ sand_cap s.kind (tip_of p)
unfolding resistance sand_resistance
below_cap p extra s h = rw h (go extra)
  where
    go : (x : Option SandNumbers) → sand_pascals p x s ≤ sand_cap s.kind (tip_of p)
    go None = omega arith
    go (Some b) = omega arith

-- "A sand tip's capacity takes × 1"
pub takes_all : (s : Soil) (n : ℕ) → sand s ≡ true → capacity_of s n ≡ n
unfolding capacity_of
takes_all s n h = rw h
