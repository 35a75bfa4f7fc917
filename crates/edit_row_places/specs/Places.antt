-- The row places of a log from one row on, as the moves by the bytes of a row leave them.
use Rattle.std.specs.Prelude.{List, ◌++◌, ℕ, ◌-◌, take, drop, replicate, length}
use Rattle.rules.specs.Records.{row_size}

-- all places but the last
abbrev pub front : List ℕ → List ℕ
front t = take (length t - row_size) t

-- "closes .. the place": every place moves up by one, the first going, and the last is zero
abbrev pub closed : List ℕ → List ℕ
closed t = drop row_size t ++ replicate row_size 0

-- a row is put over the first place
abbrev pub put : List ℕ → List ℕ → List ℕ
put row t = row ++ drop row_size t

-- a row comes in before the first place
abbrev pub inserted : List ℕ → List ℕ → List ℕ
inserted row t = row ++ front t

-- the first place gives way to two
abbrev pub divided : List ℕ → List ℕ → List ℕ → List ℕ
divided upper lower t = upper ++ lower ++ front (drop row_size t)
