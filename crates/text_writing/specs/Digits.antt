-- A number read back from its digits.
use Rattle.std.specs.Prelude.{List, [], ◌∷◌, ℕ, ◌+◌, ◌*◌, ◌-◌}

-- a number read from its digits, the first of them first; v is what was read before them
unfoldable pub read_from : ℕ → List ℕ → ℕ
read_from v [] = v
read_from v (d ∷ ds) = read_from (v * 10 + (d - 48)) ds

abbrev pub value_of : List ℕ → ℕ
value_of ds = read_from 0 ds
