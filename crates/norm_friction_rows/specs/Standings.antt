-- Where a mid-depth stands among the rows of table 7.3, and how much of a reading counts there.
use Rattle.std.specs.Prelude.{◌≡◌, ℕ, ◌*◌, ◌≤◌, min}
use Rattle.rules.specs.Tables.{friction_depths, metre, spot_of}
use Rattle.rules.specs.declared.Spot.{Spot}
use Rattle.norm_friction_rows.specs.declared.Standing.{Standing}

-- its spot, which no soil changes but for the column
abbrev pub spot_at : ℕ → Spot
spot_at mid = spot_of friction_depths metre 11 7 mid 0

-- its row, 20,000ths of the way to the next, and how many of them count: as the mid-depth has of 1 m, down to 1 m
pub record Stands (mid : ℕ) (r : Standing) : Type 0 where
  pub row : r.row ≡ (spot_at mid).row
  pub part : r.part * (spot_at mid).span ≡ (spot_at mid).down * 20000
  pub whole : r.whole ≡ min mid metre * 10
  pub last : r.row ≤ 11
  pub within : r.part ≤ r.whole
