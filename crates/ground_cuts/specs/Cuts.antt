-- The slices of a part of one stratum, said of the paper's cut, and one of them as it is worked out.
use Rattle.std.specs.Prelude.{◌≡◌, List, [], ◌∷◌, ℕ, suc, zero, ◌+◌, ◌*◌, ◌-◌, ◌^◌, ◌<◌, ◌≤◌, min, ltb, Option, MatchOption}
use Rattle.rules.specs.declared.Soil.{Soil}
use Rattle.rules.specs.declared.Pile.{Pile}
use Rattle.rules.specs.declared.Slice.{Slice}
use Rattle.rules.specs.Widths.{Fits}
use Rattle.rules.specs.Records.{slice_widths, slice_fields}
use Rattle.rules.specs.Limits.{slice_thickness}
use Rattle.rules.specs.Bounds.{factor_bound, weight_bound}
use Rattle.rules.specs.Base.{pick}
use Rattle.rules.specs.Pieces.{cut_from}
use Rattle.rules.specs.Numbers.{slice_each}
use Rattle.norm_columns.specs.declared.Column.{Column}
use Rattle.norm_grades.specs.declared.Shift.{Shift}
use Rattle.norm_friction.specs.Columns.{FrictionColumn, column_friction}
use Rattle.ground_cuts.specs.declared.slices.Slices.{Slices}

-- the slices from depth a to b, where all of it is soil s
abbrev pub slices_in : Pile → Soil → ℕ → ℕ → List Slice
slices_in p s a b = slice_each p (cut_from (λ m. s) (b - a) a b)

-- how thick the slice is that begins at depth a, where the part ends at b
abbrev pub thick_here : ℕ → ℕ → ℕ
thick_here a b = min slice_thickness (b - a)

-- its part of the sum
abbrev pub weight_of : Slice → ℕ
weight_of c = c.friction * c.thickness * c.factor

-- the slice of t millimetres that begins at depth a, by its soil's column and factor, read with this shift
abbrev pub slice_by : Column → ℕ → Shift → ℕ → ℕ → Slice
slice_by column factor shift a t = record { top = a; thickness = t; friction = column_friction column (a + a + t + shift.raising * 2 - shift.lowering * 2); factor = factor }

-- a shift that a reading from depth a on can be moved by
pub record Shifted (shift : Shift) (a : ℕ) : Type 0 where
  pub small : shift.raising ≤ 2 ^ 15
  pub below : shift.lowering ≤ a

-- as it is worked out: its numbers fit their bits, and no millimetre weighs more than is foreseen
pub record Read (column : Column) (factor : ℕ) (shift : Shift) (a b : ℕ) (r : Slice) : Type 0 where
  pub is : r ≡ slice_by column factor shift a (thick_here a b)
  pub fits : Fits slice_widths (slice_fields r)
  pub light : r.friction * r.factor ≤ weight_bound

-- the slices from a to b by column, factor and shift, at most k
unfoldable pub slices_by : Column → ℕ → Shift → ℕ → ℕ → ℕ → List Slice
slices_by column factor shift zero a b = []
slices_by column factor shift (suc k) a b =
    let t = thick_here a b in
    let more = slice_by column factor shift a t ∷ slices_by column factor shift k (a + t) b in
    pick (ltb a b) more []

-- the slices that are left of a part: as many turns as there are millimetres do
abbrev pub left_of : Slices → List Slice
left_of s = slices_by s.column s.factor s.shift (s.end - s.at) s.at s.end

-- a part whose slices can be read
pub record Cuttable (s : Slices) : Type 0 where
  pub column : FrictionColumn s.column
  pub factor : s.factor ≤ factor_bound
  pub shift : Shifted s.shift s.at
  pub deep : s.end < 2 ^ 16

-- c is cut off s, and t is what is left
pub record CutOff (s : Slices) (c : Slice) (t : Slices) : Type 0 where
  pub some : s.at < s.end
  pub read : Read s.column s.factor s.shift s.at s.end c
  pub on : t ≡ record s { at = s.at + c.thickness }

-- none is left from the end on
abbrev pub Goes : Slices → Option Slice → Slices → Type 0
Goes s r t = MatchOption r (s.end ≤ s.at) (λ c. CutOff s c t)
