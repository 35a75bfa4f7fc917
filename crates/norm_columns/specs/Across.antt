-- Which column a reading has, and how far across it is.
use Rattle.std.specs.Prelude.{◌≡◌, ℕ, ◌+◌, ◌*◌, ◌-◌, ◌/◌, ◌≤◌, min}
use Rattle.norm_columns.specs.declared.Column.{Column}

-- q hundredths right of the first of c + 2 columns: right of the last column, that column
pub record Across (c q : ℕ) (r : Column) : Type 0 where
  pub number : r.number ≡ min c (min q ((c + 1) * 10) / 10)
  pub across : r.across ≡ min q ((c + 1) * 10) - r.number * 10
  pub last : r.number ≤ c
  pub tenths : r.across ≤ 10
