-- Strata, and where the shaft is cut, by millimetres of ground. Nothing here knows of rows.
use Rattle.std.specs.Prelude.{Bool, List, [], ◌∷◌, ◌++◌, ℕ, zero, suc, ◌+◌, ◌-◌, min, max, ltb, eqb}
use Rattle.rules.specs.declared.Soil.{Soil}
use Rattle.rules.specs.Base.{pick, either, neg}
use Rattle.rules.specs.Limits.{slice_thickness}
use Rattle.rules.specs.Ground.{same}

-- a piece of a stratum: a slice before its friction is read
pub record Piece : Type 0 where
  pub top : ℕ
  pub thickness : ℕ
  pub soil : Soil

abbrev pub piece : ℕ → ℕ → Soil → Piece
piece a t s = record { top = a; thickness = t; soil = s }

-- a stratum, from its top down to its bottom
pub record Stratum : Type 0 where
  pub top : ℕ
  pub bottom : ℕ

abbrev pub stratum : ℕ → ℕ → Stratum
stratum a b = record { top = a; bottom = b }

-- "A stratum is a longest run of millimetres in which kind, liquidity index and saturation are all the same.": n more millimetres of the
-- ground g below the open stratum, which begins at a and goes down to b so far
unfoldable pub strata_from : (ℕ → Soil) → ℕ → ℕ → ℕ → List Stratum
strata_from g zero a b = stratum a b ∷ []
strata_from g (suc n) a b =
    let on = strata_from g n a (b + 1) in
    let new = stratum a b ∷ strata_from g n b (b + 1) in
    pick (same (g a) (g b)) on new

-- the strata of a ground that is `depth` deep, top stratum first
unfoldable pub strata : (ℕ → Soil) → ℕ → List Stratum
strata g zero = []
strata g (suc n) = strata_from g n 0 1

-- the top of the stratum that holds the millimetre from m to m + 1
unfoldable pub top_of : List Stratum → ℕ → ℕ
top_of [] m = 0
top_of (s ∷ ss) m = let below = top_of ss m in pick (ltb m s.bottom) s.top below

-- "cut from its top into slices of 2,000 mm; the last takes what is left": what lies from a to b, in at most k pieces
unfoldable pub cut_from : (ℕ → Soil) → ℕ → ℕ → ℕ → List Piece
cut_from g zero a b = []
cut_from g (suc k) a b =
    let t = min slice_thickness (b - a) in
    let more = piece a t (g a) ∷ cut_from g k (a + t) b in
    pick (ltb a b) more []

-- "The part of each stratum between head and tip"
unfoldable pub cut_part : (ℕ → Soil) → ℕ → ℕ → Stratum → List Piece
cut_part g head tip s = let a = max head s.top in let b = min tip s.bottom in cut_from g (b - a) a b

unfoldable pub cut_parts : (ℕ → Soil) → ℕ → ℕ → List Stratum → List Piece
cut_parts g head tip [] = []
cut_parts g head tip (s ∷ ss) = cut_part g head tip s ++ cut_parts g head tip ss

-- The same in one walk from head to tip (StratumLaws: cut_by_strata): a piece of t millimetres of soil s ends before a millimetre of soil u
abbrev pub ends : ℕ → Soil → Soil → Bool
ends t s u = either (eqb t slice_thickness) (neg (same s u))

-- n more millimetres of the ground g below the open piece, which begins at a and has t millimetres of soil s so far
unfoldable pub walk : (ℕ → Soil) → ℕ → ℕ → ℕ → Soil → List Piece
walk g zero a t s = piece a t s ∷ []
walk g (suc n) a t s =
    let new = piece a t s ∷ walk g n (a + t) 1 (g (a + t)) in
    let on = walk g n a (t + 1) s in
    pick (ends t s (g (a + t))) new on

-- the pieces of n millimetres from a down
unfoldable pub pieces_from : (ℕ → Soil) → ℕ → ℕ → List Piece
pieces_from g a zero = []
pieces_from g a (suc n) = walk g n a 1 (g a)

-- the pieces of the shaft
unfoldable pub pieces : (ℕ → Soil) → ℕ → ℕ → List Piece
pieces g head tip = pieces_from g head (tip - head)

-- the top of the run of soil s that ends at depth n: "tip-stratum top" is that of the soil just below the tip, at the tip
unfoldable pub run_top : (ℕ → Soil) → Soil → ℕ → ℕ
run_top g s zero = 0
run_top g s (suc n) = let up = run_top g s n in pick (same s (g n)) up (suc n)
