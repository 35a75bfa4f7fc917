-- What check 2 sees to: some rows, no more than the form has, inside the log, and zero places behind them.
use mathlib.Core.Path.{◌≡◌}
use mathlib.Core.Bool.{Bool, true, false}
use mathlib.Core.List.{List}
use Prim.Native.Nat.{ℕ, ◌+◌, ◌*◌, ◌<◌, ◌≤◌}
use native.Mathlib.Omega.{arith}
use borrow.Author.Tests.{eqb-false, ltb-false}
use lib.Dec.{eqb, ltb}
use lib.ListN.{length, drop}
use Rattle.rules.specs.Base.{either, neg, all_zero}
use Rattle.rules.specs.Records.{row_size}
use Rattle.rules.specs.Limits.{limit_of}
use Rattle.rules.specs.Packed.{count_of}
use Rattle.rules.specs.Checks.{count_wrong, unused_wrong}
use Rattle.rules.proofs.FormLaws.{limit_long}
use Rattle.rules.proofs.RefusalLaws.{either_left, either_right, neg_false}

pub right : (limit n : ℕ) (blank : Bool) → either (count_wrong limit n) (neg blank) ≡ false → (1 ≤ n) × (n ≤ limit) × (blank ≡ true)
right limit n blank h =
    let w = either_left (count_wrong limit n) (neg blank) h in
    let z : n ≡ 0 → ⊥ = eqb-false n 0 (either_left (eqb n 0) (ltb limit n) w) in
    (omega (arith, z), ltb-false limit n (either_right (eqb n 0) (ltb limit n) w), neg_false blank (either_right (count_wrong limit n) (neg blank) h))

pub counted : (s : List ℕ) → unused_wrong s ≡ false → (1 ≤ count_of s) × (count_of s ≤ limit_of s) × (all_zero (drop (1 + count_of s * row_size) s) ≡ true)
unfolding unused_wrong
counted s w = right (limit_of s) (count_of s) (all_zero (drop (1 + count_of s * row_size) s)) w

-- the rows stand inside the log
pub inside : (s : List ℕ) → 0 < limit_of s → unused_wrong s ≡ false → 1 + count_of s * row_size ≤ length s
inside s h w = omega (arith, (counted s w).1, limit_long s h)
