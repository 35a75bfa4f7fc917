-- The cells of table 7.8 as they are stored, and what four of them are read to.
use Rattle.std.specs.Prelude.{Bool, ◌≡◌, List, [], ℕ, ◌-◌, ◌<◌, eqb, get_or, Option, None, Some}
use Rattle.rules.specs.Base.{pick, either}
use Rattle.rules.specs.Tables.{tip_cell, gap, dash_at, tip_at}
use Rattle.rules.specs.declared.Spot.{Spot}

-- a stored cell: 65,535 marks a dash
abbrev pub cell_of : ℕ → Option ℕ
cell_of n = pick (eqb n 65535) None (Some n)

-- the stored rows are those of the printed table
pub record Printed (rows : List (List ℕ)) : Type 0 where
  pub cells : (i j : ℕ) → i < 10 → j < 7 → cell_of (get_or (get_or rows i []) j 0) ≡ tip_cell i j

-- a dash among four cells, with a weight above zero
unfoldable pub dash_of : Spot → Option ℕ → Option ℕ → Option ℕ → Option ℕ → Bool
dash_of p a b c d =
    either (gap (p.span - p.down) (10 - p.across) a)
    (either (gap (p.span - p.down) p.across b)
    (either (gap p.down (10 - p.across) c)
    (gap p.down p.across d)))

-- what the tip table is read to at a spot
unfoldable pub tip_read_at : Spot → Option ℕ
tip_read_at p = pick (dash_at p) None (Some (tip_at p))
