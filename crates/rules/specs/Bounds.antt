-- How large numbers get, so that no sum or product passes 64 bits. Contracts of inner functions cite these; no rule of document 01 does.
use Rattle.std.specs.Prelude.{ℕ, ◌*◌, ◌/◌}
use Rattle.rules.specs.Limits.{tip_limit}

-- the largest cell of any table, as it is stored: 6,000 kPa of table 7.2
abbrev pub cell_bound : ℕ
cell_bound = 6000

-- a number that is weighed: a cell, or one times the parts between two marks, of which there are at most 10,000
abbrev pub weighed_bound : ℕ
weighed_bound = cell_bound * 10000

-- R in Pa
abbrev pub resistance_bound : ℕ
resistance_bound = cell_bound * 1000

-- the largest cell of table 7.3, 100 kPa, in 1/200 Pa
abbrev pub friction_bound : ℕ
friction_bound = 20000000

-- the largest method factor in tenths
abbrev pub factor_bound : ℕ
factor_bound = 8

-- friction × factor of a millimetre
abbrev pub weight_bound : ℕ
weight_bound = friction_bound * factor_bound

-- friction × thickness × factor of a shaft down to the deepest tip
abbrev pub sum_bound : ℕ
sum_bound = weight_bound * tip_limit

-- that in whole N per metre of perimeter
abbrev pub line_bound : ℕ
line_bound = sum_bound / 2000000

-- tip and shaft each, in N: line × the longest perimeter, 2 × (4,000 + 4,000) mm, is 51,200,000; R × the largest area, 4,000 × 4,000 mm, would be 96,000,000
abbrev pub force_bound : ℕ
force_bound = 100000000
