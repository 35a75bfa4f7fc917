-- Where a reading in a column of table 7.3 stands, and its friction.
use Rattle.std.specs.Prelude.{ℕ, ◌≤◌}
use Rattle.rules.specs.declared.Spot.{Spot}
use Rattle.rules.specs.Tables.{friction_at, with_first_metre}
use Rattle.norm_columns.specs.declared.Column.{Column}
use Rattle.norm_friction_rows.specs.Standings.{spot_at}

-- a column of table 7.3 with one right of it, and tenths of the way there
pub record FrictionColumn (c : Column) : Type 0 where
  pub last : c.number ≤ 7
  pub tenths : c.across ≤ 10

-- where a reading stands in a column at a mid-depth
abbrev pub column_spot : Column → ℕ → Spot
column_spot c mid =
    let p = spot_at mid in
    record { row = p.row; column = c.number; down = p.down; span = p.span; across = c.across }

-- what table 7.3 reads there
abbrev pub column_reading : Column → ℕ → ℕ
column_reading c mid = friction_at (column_spot c mid)

-- friction in a column at a mid-depth
unfoldable pub column_friction : Column → ℕ → ℕ
column_friction c mid = with_first_metre (column_reading c) mid
