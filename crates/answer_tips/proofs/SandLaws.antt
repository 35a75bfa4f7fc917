-- A tip in sand past its checks: the formula's numbers are bounded.
use Rattle.std.specs.Prelude.{Some}
use mathlib.Core.Path.{◌≡◌, sym, ap}
use mathlib.Core.Bool.{false}
use Prim.Native.Nat.{ℕ, ◌<◌, ◌≤◌}
use native.Mathlib.Omega.{arith}
use lib.Dec.{eqb}
use borrow.Author.Tests.{eqb-false}
use Rattle.rules.specs.declared.Pile.{Pile}
use Rattle.rules.specs.declared.SandNumbers.{SandNumbers}
use Rattle.rules.specs.Base.{either, nothing, refuses, when}
use Rattle.rules.specs.Ground.{none}
use Rattle.rules.specs.Checks.{absent, method_wrong, wrong_pile_field, section_check, seat_short, record_wrong}
use Rattle.rules.specs.Ranges.{PileInRange}
use Rattle.rules.proofs.Groups.{pile_checks, late_in_sand}
use Rattle.rules.proofs.RefusalLaws.{first_off, when_off}
use Rattle.rules.proofs.InRangeLaws.{pile_in_range}
use Rattle.rules.proofs.TipLaws.{ranges}
use Rattle.norm_sand_tips.specs.Terms.{Weighs}

module _ (p : Pile) (good : refuses (pile_checks p) ≡ false) where
  -- only section, a, b and zero count for check 5, and method for check 6
  abbrev bare : Pile
  bare = record { section = p.section; a = p.a; b = p.b; method = p.method; head = 0; tip = 0; zero = p.zero; grade = 0 }

  in_range : PileInRange bare
  unfolding pile_checks section_check wrong_pile_field
  in_range =
      let r = first_off (section_check p) (when (method_wrong p) 6) good in
      pile_in_range bare r.0 (when_off 5 (method_wrong p) r.1) (omega arith) (omega arith) (omega arith)

  -- past 9 and 17
  pub bounded : (top : ℕ) (b : SandNumbers) → nothing ≡ late_in_sand top p (Some b) → Weighs b × (0 < p.a) × (p.a ≤ 2000)
  unfolding late_in_sand
  bounded top b e =
      let nine = first_off (when (either (absent (Some b)) (eqb p.section 2)) 9) _ (ap refuses (sym e)) in
      let ten = first_off (when (seat_short top p) 10) (when (record_wrong p (Some b)) 17) nine.1 in
      let other : p.section ≡ 2 → ⊥ = eqb-false p.section 2 (when_off 8 _ nine.0) in
      let circle : p.section ≡ 1 = omega (arith, in_range.section.0, in_range.section.1, other) in
      let r = ranges none p (Some b) b (when_off 16 _ ten.1) in
      let a = (in_range.circle circle).0 in
      (record { below = r.1.1; above = r.2.1 }, omega (arith, a.0), a.1)
