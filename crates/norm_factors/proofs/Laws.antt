-- How large the method factor is, for every method and kind.
use mathlib.Core.Bool.{Bool, true, false}
use Prim.Native.Nat.{ℕ, ◌≤◌}
use native.Mathlib.Omega.{arith}
use lib.Dec.{eqb}
use Rattle.rules.specs.Base.{pick}
use Rattle.rules.specs.Bounds.{factor_bound}
use Rattle.rules.specs.Numbers.{factor}

pub factor_most : (method kind : ℕ) → factor method kind ≤ factor_bound
unfolding factor
factor_most method kind = go (eqb method 1) (eqb method 2) (eqb kind 6)
  where
    go : (a b c : Bool) → pick a (pick c 6 7) (pick b 6 (pick c 7 8)) ≤ factor_bound
    go true b true = omega arith
    go true b false = omega arith
    go false true c = omega arith
    go false false true = omega arith
    go false false false = omega arith
