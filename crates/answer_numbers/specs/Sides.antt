-- Sides that keep every product within 64 bits.
use Rattle.std.specs.Prelude.{◌≡◌, ◌≤◌}
use Rattle.rules.specs.declared.Pile.{Pile}

pub record Sides (p : Pile) : Type 0 where
  pub round : p.section ≡ 1 → p.a ≤ 2000
  pub a : p.a ≤ 4000
  pub b : p.b ≤ 4000
