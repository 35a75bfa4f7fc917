-- The table of slices with slices more in it.
use Rattle.std.specs.Prelude.{List, [], ◌∷◌, ◌++◌, ℕ, ◌+◌, ◌*◌, take, drop}
use Rattle.rules.specs.declared.Slice.{Slice}
use Rattle.rules.specs.Records.{slice_size}
use Rattle.rules.specs.Packed.{slice_bytes}

-- a table with slice c in place n
unfoldable pub put_at : List ℕ → ℕ → Slice → List ℕ
put_at t n c = take (n * slice_size) t ++ slice_bytes c ++ drop (n * slice_size + slice_size) t

-- with all of these, from place n on
unfoldable pub put_all : List ℕ → ℕ → List Slice → List ℕ
put_all t n [] = t
put_all t n (c ∷ cs) = put_all (put_at t n c) (n + 1) cs
