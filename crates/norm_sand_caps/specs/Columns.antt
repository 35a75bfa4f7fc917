-- What a column of table 7.2 is read to.
use Rattle.std.specs.Prelude.{ℕ, ◌+◌, ◌*◌, ◌/◌}
use Rattle.rules.specs.declared.OnScale.{OnScale}
use Rattle.rules.specs.SandTips.{cap_cell, mean}

-- a column at a reading, in whole Pa
unfoldable pub cap_at : OnScale → ℕ → ℕ
cap_at s i = mean s (cap_cell i s.place) (cap_cell i (s.place + 1)) * 1000 / s.span
