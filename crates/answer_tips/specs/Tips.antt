-- The R that the work on a tip gives.
use Rattle.rules.specs.declared.SandNumbers.{SandNumbers}
use Rattle.std.specs.Prelude.{◌≡◌, ℕ, ◌≤◌, Option, Result, IfOk}
use Rattle.rules.specs.declared.Soil.{Soil}
use Rattle.rules.specs.declared.Pile.{Pile}
use Rattle.rules.specs.declared.faults.Fault.{Fault}
use Rattle.rules.specs.Bounds.{resistance_bound}
use Rattle.rules.specs.Faults.{refusal_in}
use Rattle.rules.specs.Numbers as numbers
use Rattle.rules.proofs.Groups.{late}

-- the first refusal of a tip, or its R
pub record TipWorked (soil : Soil) (top : ℕ) (p : Pile) (extra : Option SandNumbers) (r : Result ℕ Fault) : Type 0 where
  pub refusal : refusal_in r ≡ late soil top p extra
  pub resistance : IfOk r (λ x. x ≡ numbers.resistance p extra soil)
  pub most : IfOk r (λ x. x ≤ resistance_bound)
