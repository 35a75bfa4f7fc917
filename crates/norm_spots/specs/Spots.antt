-- Where a reading stands in a table of the pile norm.
use Rattle.std.specs.Prelude.{◌≡◌, List, ℕ, ◌+◌, ◌*◌, ◌-◌, ◌<◌, ◌≤◌, min, max, get_or}
use Rattle.rules.specs.declared.Spot.{Spot}

-- no two marks of any table are further apart: 10 m in millimetres, 5 m in half millimetres, five halves of h/d in parts of 2,000
abbrev pub span_bound : ℕ
span_bound = 10000

-- m + 2 depths, each deeper than the one before, in parts of which a metre has unit
pub record Deepens (ds : List ℕ) (unit m : ℕ) : Type 0 where
  pub step : (i : ℕ) → i ≤ m → get_or ds i 0 < get_or ds (i + 1) 0
  pub parts : (i : ℕ) → i ≤ m → (get_or ds (i + 1) 0 - get_or ds i 0) * unit ≤ span_bound
  pub whole : get_or ds 0 0 ≤ get_or ds (m + 1) 0
  pub some : 0 < unit

-- depth r, at which the table is read for depth d
pub record Clamped (ds : List ℕ) (unit m d r : ℕ) : Type 0 where
  pub is : r ≡ max (get_or ds 0 0 * unit) (min d (get_or ds (m + 1) 0 * unit))
  pub low : get_or ds 0 0 * unit ≤ r
  pub high : r ≤ get_or ds (m + 1) 0 * unit

-- row r, one of the rows i to i + n, and the row below it hold depth d between them
pub record Between (ds : List ℕ) (unit i n d r : ℕ) : Type 0 where
  pub first : i ≤ r
  pub last : r ≤ i + n
  pub low : get_or ds r 0 * unit ≤ d
  pub high : d ≤ get_or ds (r + 1) 0 * unit

-- the weights of a spot are parts of a whole
pub record Weights (p : Spot) : Type 0 where
  pub down : p.down ≤ p.span
  pub some : 0 < p.span
  pub span : p.span ≤ span_bound
  pub across : p.across ≤ 10

-- a spot in a table of m + 2 rows and c + 2 columns
pub record InTable (m c : ℕ) (p : Spot) : Type 0 where
  pub row : p.row ≤ m
  pub column : p.column ≤ c
  pub weights : Weights p
