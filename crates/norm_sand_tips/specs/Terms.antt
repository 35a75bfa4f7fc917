-- How large the terms of R of a tip in sand get, so that no product passes 64 bits.
use Rattle.std.specs.Prelude.{ℕ, ◌*◌, ◌/◌, ◌≤◌}
use Rattle.rules.specs.declared.SandNumbers.{SandNumbers}
use Rattle.rules.specs.Bounds.{cell_bound}
use Rattle.norm_scales.specs.Scales.{diameter_bound, height_bound}

-- "a unit weight of 0 or over 30,000" is refused
abbrev pub unit_weight_bound : ℕ
unit_weight_bound = 30000

pub record Weighs (b : SandNumbers) : Type 0 where
  pub below : b.below ≤ unit_weight_bound
  pub above : b.above ≤ unit_weight_bound

-- γ1 h
abbrev pub overburden_bound : ℕ
overburden_bound = unit_weight_bound * height_bound / 1000

-- the two terms of the bracket
abbrev pub width_bound : ℕ
width_bound = cell_bound * 1000 * unit_weight_bound * diameter_bound / 10000000

abbrev pub depth_bound : ℕ
depth_bound = cell_bound * 1000 * (cell_bound * 100) * overburden_bound / 100000000
