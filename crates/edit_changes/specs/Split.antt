-- A log whose row k gave way to its two parts.
use Rattle.std.specs.Prelude.{List, ℕ, ◌-◌}
use Rattle.rules.specs.Packed.{rows_of, row_bytes}
use Rattle.rules.specs.Edits.{row_named, part}
use Rattle.edit_moves.specs.Moves.{divided_log}

-- the upper part is x mm thick
abbrev pub split_log : ℕ → ℕ → List ℕ → List ℕ
split_log k x log =
    let r = row_named (rows_of log) k in
    divided_log (k - 1) (row_bytes (part x r)) (row_bytes (part (r.thickness - x) r)) log
