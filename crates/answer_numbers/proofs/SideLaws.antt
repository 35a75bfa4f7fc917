-- A pile that checks 5 and 6 pass has sides of bounded length, and so has every product with them.
use mathlib.Core.Path.{◌≡◌, refl, sym, ◌∙◌}
use mathlib.Core.Bool.{Bool, true, false, true≢false}
use Prim.Native.Nat.{ℕ, ◌+◌, ◌*◌, ◌≤◌}
use native.Mathlib.Nat.{mul-le-mul, add-le-add}
use native.Mathlib.Omega.{arith}
use lib.Dec.{eqb}
use borrow.Author.Tests.{eq-eqb, eqb-true}
use Rattle.rules.specs.declared.Pile.{Pile}
use Rattle.rules.specs.Base.{pick, within, nothing, refuses, when}
use Rattle.rules.specs.Checks.{a_in_range, b_in_range, method_wrong, wrong_pile_field, section_check}
use Rattle.rules.proofs.Groups.{pile_checks}
use Rattle.rules.proofs.RefusalLaws.{first_off, within_high, none_picked, not_picked}
use Rattle.answer_numbers.specs.Sides.{Sides}

part_sides : (p : Pile) → wrong_pile_field p ≡ 0 → Sides p
unfolding wrong_pile_field
part_sides p e =
    let one = none_picked (within 1 2 p.section) _ 0 e in
    let two = none_picked (a_in_range p) _ 1 one.1 in
    go (eqb p.section 1) refl two.0 (none_picked (b_in_range p) _ 2 two.1).0
  where
    go : (t : Bool) → eqb p.section 1 ≡ t → pick t (within 150 2000 p.a) (within 300 4000 p.a) ≡ true → pick t (eqb p.b 0) (within 300 4000 p.b) ≡ true → Sides p
    go true q x y =
        let a : p.a ≤ 2000 = within_high 150 2000 p.a x in
        record { round = λ s. a; a = omega arith; b = omega (arith, eqb-true p.b 0 y) }
    go false q x y = record {
      round = λ s. absurd (true≢false (sym (eq-eqb p.section 1 s) ∙ q));
      a = within_high 300 4000 p.a x;
      b = within_high 300 4000 p.b y;
    }

pub sides : (p : Pile) → refuses (pile_checks p) ≡ false → Sides p
unfolding pile_checks section_check
sides p e = part_sides p (not_picked (wrong_pile_field p) _ nothing refl (first_off (section_check p) (when (method_wrong p) 6) e).0).0

-- a number of at most m, times the sides
module _ {p : Pile} {n m : ℕ} (s : Sides p) (h : n ≤ m) where
  pub circle : p.section ≡ 1 → (n * p.a ≤ m * 2000) × (n * p.a * p.a ≤ m * 2000 * 2000)
  circle e = let one = mul-le-mul h (s.round e) in (one, mul-le-mul one (s.round e))

  pub rectangle : (n * p.a ≤ m * 4000) × (n * p.a * p.b ≤ m * 4000 * 4000) × (n * (p.a + p.b) ≤ m * (4000 + 4000))
  rectangle = let one = mul-le-mul h s.a in (one, mul-le-mul one s.b, mul-le-mul h (add-le-add s.a s.b))
