-- A mean of two numbers by weights, and how large it is.
use mathlib.Core.Path.{◌≡◌, sym, ◌∙◌, ap}
use Prim.Native.Nat.{ℕ, ◌+◌, ◌*◌, ◌-◌, ◌≤◌, max}
use native.Mathlib.Nat.{mul-le-mul, mul-le-mul_left, add-mul}
use native.Mathlib.Omega.{arith}
use Rattle.rules.specs.Bounds.{weighed_bound}

-- a mean of two is at most the larger
pub mean : (n q a b k : ℕ) → q ≤ n → a ≤ k → b ≤ k → (n - q) * a + q * b ≤ n * k
mean n q a b k e h l =
    let whole : n - q + q ≡ n = omega arith in
    let s : (n - q) * k + q * k ≡ n * k = sym (add-mul (n - q) q k) ∙ ap (λ (z : ℕ). z * k) whole in
    omega (arith, mul-le-mul_left (n - q) h, mul-le-mul_left q l)

-- neither of two over k
pub weighed_most : (w n a b k : ℕ) → w ≤ n * max a b → a ≤ k → b ≤ k → w ≤ n * k
weighed_most w n a b k h l r = let m : max a b ≤ k = omega arith in omega (arith, mul-le-mul_left n m)

pub mean_max : (n q a b : ℕ) → (q ≤ n) × (n ≤ 20000) × (a ≤ weighed_bound) × (b ≤ weighed_bound)
    → ((n - q) * a + q * b ≤ n * max a b) × (n * max a b ≤ 20000 * weighed_bound)
mean_max n q a b h =
    let m : max a b ≤ weighed_bound = omega arith in
    (mean n q a b (max a b) h.0 (omega arith) (omega arith), mul-le-mul h.1 m)
