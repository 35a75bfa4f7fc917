-- The formula put together of its coefficients and terms.
use mathlib.Core.Path.{◌≡◌}
use Prim.Native.Nat.{ℕ, ◌+◌, ◌*◌, ◌/◌}
use Rattle.rules.specs.declared.SandNumbers.{SandNumbers}
use Rattle.rules.specs.SandTips.{reduced, alpha1, alpha2, alpha3, alpha4, overburden, width_term, depth_term, sand_formula}

pub formula_is : (b : SandNumbers) (h d angle below above one two three four width depth over r : ℕ) → angle ≡ b.angle → below ≡ b.below → above ≡ b.above
    → one ≡ alpha1 (reduced angle) → two ≡ alpha2 (reduced angle) → three ≡ alpha3 (reduced angle) h d → four ≡ alpha4 (reduced angle) d
    → width ≡ width_term one below d → over ≡ overburden above h → depth ≡ depth_term two three over → r ≡ 75 * four * (width + depth) / 1000000 → r ≡ sand_formula b h d
unfolding sand_formula
formula_is b h d angle below above one two three four width depth over r x y z a₁ a₂ a₃ a₄ w o q f = rw (f, q, o, w, a₄, a₃, a₂, a₁, x, y, z)
