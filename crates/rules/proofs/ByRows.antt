-- The same by rows, for the engine and its laws: how far a soil goes on below a millimetre, one piece at a time, and a stratum's top.
-- These are not the paper's words: RowLaws, SeatLaws and AnswerLaws prove them equal to the millimetre definitions.
use Rattle.rules.specs.declared.SandNumbers.{SandNumbers}
use Rattle.std.specs.Prelude.{Option}
use mathlib.Core.List.{List, [], ◌∷◌}
use Prim.Native.Nat.{ℕ, zero, suc, ◌+◌, ◌-◌, ◌<◌, min}
use lib.Dec.{ltb}
use Rattle.rules.specs.declared.Row.{Row}
use Rattle.rules.specs.declared.Soil.{Soil}
use Rattle.rules.specs.declared.Pile.{Pile}
use Rattle.rules.specs.declared.Slice.{Slice}
use Rattle.rules.specs.declared.Answer.{Answer}
use Rattle.rules.specs.Base.{pick}
use Rattle.rules.specs.Limits.{slice_thickness}
use Rattle.rules.specs.Ground.{depth_of, same, none, soil_of, soil_at}
use Rattle.rules.specs.Pieces.{Piece, piece}
use Rattle.rules.specs.Numbers.{slice_each, below_tip}
use Rattle.rules.proofs.Groups.{answer_from, slices_from}

abbrev pub Positive : List Row → Type 0
Positive [] = Unit {0}
Positive (r ∷ rs) = (0 < r.thickness) × Positive rs

-- millimetres of soil s at the head of the rows
unfoldable pub lead : Soil → List Row → ℕ
lead s [] = 0
lead s (r ∷ rs) = let on = r.thickness + lead s rs in pick (same s (soil_of r)) on 0

-- millimetres from m down, m itself among them, before the soil changes or the rows end
unfoldable pub extent : List Row → ℕ → ℕ
extent [] m = 0
extent (r ∷ rs) m =
    let here = r.thickness - m + lead (soil_of r) rs in
    let below = extent rs (m - r.thickness) in
    pick (ltb m r.thickness) here below

-- the piece that begins at a, where n millimetres are left to the tip
abbrev pub thick_at : List Row → ℕ → ℕ → ℕ
thick_at rs a n = min (min slice_thickness n) (extent rs a)

-- at most k pieces
unfoldable pub cuts : List Row → ℕ → ℕ → ℕ → List Piece
cuts rs zero a n = []
cuts rs (suc k) a n =
    let t = thick_at rs a n in
    let more = piece a t (soil_at rs a) ∷ cuts rs k (a + t) (n - t) in
    pick (ltb 0 n) more []

-- the top of the stratum that holds m, of rows that begin at b, under soil s whose run begins at q
unfoldable pub top_from : List Row → Soil → ℕ → ℕ → ℕ → ℕ
top_from [] s q b m = b
top_from (r ∷ rs) s q b m =
    let q' = pick (same s (soil_of r)) q b in
    let below = top_from rs (soil_of r) q' (b + r.thickness) m in
    pick (ltb m (b + r.thickness)) q' below

abbrev pub top_at : List Row → ℕ → ℕ
top_at rs m = top_from rs none 0 0 m

-- the answer and the slices of rows and a pile, worked out along the rows
abbrev pub cuts_of : List Row → Pile → List Slice
cuts_of rs p = slice_each p (cuts rs (p.tip - p.head) p.head (p.tip - p.head))

unfoldable pub answer_rows : List Row → Pile → Option SandNumbers → Answer
answer_rows rs p extra = answer_from (depth_of rs) (soil_at rs (below_tip p)) (top_at rs (below_tip p)) (cuts_of rs p) p extra

unfoldable pub slices_rows : List Row → Pile → Option SandNumbers → List Slice
slices_rows rs p extra = slices_from (depth_of rs) (soil_at rs (below_tip p)) (top_at rs (below_tip p)) (cuts_of rs p) p extra
