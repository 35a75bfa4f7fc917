-- What the printed table 7.8 has, each by one computed test: cells within bounds, and the stored rows.
use Rattle.std.specs.Prelude.{Option, None, Some}
use mathlib.Core.Path.{◌≡◌, refl, ap}
use mathlib.Core.Bool.{Bool, true, false}
use mathlib.Core.List.{List, []}
use Prim.Native.Nat.{ℕ, ◌<◌, ◌≤◌}
use lib.Dec.{T, eqb, leb, leb→le, eqb→eq}
use lib.ListN.{get_or}
use Rattle.rules.specs.Bounds.{cell_bound}
use Rattle.rules.specs.Tables.{tip_cell, kpa_of}
use Rattle.rules.proofs.TableLaws.{every}
use Rattle.norm_spots.proofs.Rows.{grid}
use Rattle.norm_tips.specs.Cells.{cell_of, Printed}

pub cells : (i j : ℕ) → i < 10 → j < 7 → kpa_of (tip_cell i j) ≤ cell_bound
cells i j h l = leb→le _ _ (grid 10 7 (λ k m. leb (kpa_of (tip_cell k m)) cell_bound) tt i j h l)

abbrev alike : Option ℕ → Option ℕ → Bool
alike None None = true
alike None (Some n) = false
alike (Some m) None = false
alike (Some m) (Some n) = eqb m n

alike_is : (c d : Option ℕ) → T (alike c d) → c ≡ d
alike_is None None t = refl
alike_is None (Some n) t = absurd t
alike_is (Some m) None t = absurd t
alike_is (Some m) (Some n) t = ap Some (eqb→eq m n t)

abbrev as_printed : List (List ℕ) → ℕ → ℕ → Bool
as_printed rows i j = alike (cell_of (get_or (get_or rows i []) j 0)) (tip_cell i j)

pub printed : (rows : List (List ℕ)) → T (every 10 (λ i. every 7 (as_printed rows i))) → Printed rows
printed rows t = record { cells = λ i j h l. alike_is _ _ (grid 10 7 (as_printed rows) t i j h l) }
