-- Four cells weighed, and how large that is.
use mathlib.Core.Path.{◌≡◌}
use Prim.Native.Nat.{ℕ, ◌+◌, ◌*◌, ◌-◌, ◌/◌, ◌<◌, ◌≤◌}
use native.Mathlib.Nat.{mul-le-mul_right, mul_assoc, div-le_of_le-mul}
use native.Mathlib.Omega.{arith}
use Rattle.rules.specs.Tables.{weighed}
use Rattle.rules.specs.declared.Spot.{Spot}
use Rattle.norm_columns.proofs.Means.{mean}
use Rattle.norm_spots.specs.Spots.{InTable}

-- the four cells at a spot of a table whose cells are at most k
pub weighed_le : (cell : ℕ → ℕ → ℕ) (m c k : ℕ) (p : Spot) → InTable m c p → ((i j : ℕ) → i < m + 2 → j < c + 2 → cell i j ≤ k)
    → weighed p (cell p.row p.column) (cell p.row (p.column + 1)) (cell (p.row + 1) p.column) (cell (p.row + 1) (p.column + 1))
    ≤ p.span * (10 * k)
unfolding weighed
weighed_le cell m c k p t most =
    let x = p.across in
    let upper = mean 10 x _ _ k t.weights.across (most p.row p.column (omega arith) (omega arith)) (most p.row (p.column + 1) (omega arith) (omega arith)) in
    let lower = mean 10 x _ _ k t.weights.across (most (p.row + 1) p.column (omega arith) (omega arith)) (most (p.row + 1) (p.column + 1) (omega arith) (omega arith)) in
    mean p.span p.down _ _ (10 * k) t.weights.down upper lower

-- upper and lower: two cells of a row, weighed across
pub weighed_is : (p : Spot) (a b c d upper lower : ℕ) → upper ≡ (10 - p.across) * a + p.across * b → lower ≡ (10 - p.across) * c + p.across * d
    → (p.span - p.down) * upper + p.down * lower ≡ weighed p a b c d
unfolding weighed
weighed_is p a b c d upper lower e f = rw (e, f)

-- w, at most k a part of h, times n, over h
pub shared : (w h k n : ℕ) → w ≤ h * k → w * n / h ≤ k * n
shared w h k n l =
    let a : w * n ≤ h * k * n = mul-le-mul_right n l in
    div-le_of_le-mul h (rw mul_assoc at a)
