-- The ranges of fields as documents 01 and 02 give them, of a row, a log, a pile record and slices, and a pile that stands: facts on numbers,
-- where Checks has the tests.
use Rattle.std.specs.Prelude.{◌≡◌, false, ◌⊎◌, List, [], ◌∷◌, ℕ, ◌+◌, ◌*◌, ◌^◌, ◌<◌, ◌≤◌, max, length, get_or, Option, Some}
use Rattle.rules.specs.declared.Row.{Row}
use Rattle.rules.specs.declared.Log.{Log}
use Rattle.rules.specs.declared.Soil.{Soil}
use Rattle.rules.specs.declared.Pile.{Pile}
use Rattle.rules.specs.declared.Slice.{Slice}
use Rattle.rules.specs.declared.SandNumbers.{SandNumbers}
use Rattle.rules.specs.Widths.{Fits}
use Rattle.rules.specs.Records.{plain_size, graded_size, slice_widths, slice_fields}
use Rattle.rules.specs.Limits.{row_limit, thickness_limit, tip_limit}
use Rattle.rules.specs.Grades.{cut_depth}
use Rattle.rules.specs.Packed.{no_row}
use Rattle.rules.specs.Pieces.{run_top}
use Rattle.rules.specs.Tables.{metre}
use Rattle.rules.specs.SandTips.{reduced}
use Rattle.rules.specs.Numbers.{below_tip, mid_of, tip_of, tip_from_cut, tip_read, is_dash}
use Rattle.rules.specs.Checks.{seat_of}

-- from low to high
abbrev pub Between : ℕ → ℕ → ℕ → Type 0
Between low high n = (low ≤ n) × (n ≤ high)

-- "A row"
pub record RowInRange (r : Row) : Type 0 where
  -- "thickness, 1 to 60,000"
  pub thickness : Between 1 thickness_limit r.thickness
  -- "kind: 1 coarse or medium sand, 2 fine sand, 3 silty sand, 4 sandy loam, 5 loam, 6 clay"
  pub kind : Between 1 6 r.kind
  -- "Kinds 4 to 6: 0 to 200. Kinds 1 to 3: exactly 100"
  pub sand : r.kind ≤ 3 → r.index ≡ 100
  pub by_index : 4 ≤ r.kind → r.index ≤ 200
  -- "degree of saturation in hundredths, 0 to 100"
  pub saturation : r.saturation ≤ 100
  -- "zero"
  pub zero : r.zero ≡ 0

-- "one byte with the row count, 1 to 64, then 64 row places", "Unused places are all zero."
pub record LogInRange (l : Log) : Type 0 where
  pub places : length l.rows ≡ row_limit
  pub count : Between 1 row_limit l.count
  pub used : (k : ℕ) → k < l.count → RowInRange (get_or l.rows k no_row)
  pub unused : (k : ℕ) → l.count ≤ k → get_or l.rows k no_row ≡ no_row

-- "Circle: a is the diameter, 150 to 2,000, and b is 0. Rectangle: each side 300 to 4,000."
pub record PileInRange (p : Pile) : Type 0 where
  -- "section kind 2 bits (1 circle, 2 rectangle)"
  pub section : Between 1 2 p.section
  pub circle : p.section ≡ 1 → Between 150 2000 p.a × (p.b ≡ 0)
  pub rectangle : p.section ≡ 2 → Between 300 4000 p.a × Between 300 4000 p.b
  -- 6: "method 0, or over 3"
  pub method : Between 1 3 p.method
  -- "head and tip come to packing as 16-bit numbers"
  pub head : p.head < 2 ^ 16
  pub tip : p.tip < 2 ^ 16
  -- "four zero bits"
  pub zero : p.zero ≡ 0
  -- 02 (i): "a signed grade in its last 16 bits": every number of 16 bits is one
  pub grade : p.grade < 2 ^ 16

-- a buffer of n bytes takes its grade: 02 (i): "Packing a grade other than 0 to 8 bytes is refusal 1."
abbrev pub TakesGrade : ℕ → Pile → Type 0
TakesGrade n p = (n ≡ graded_size) ⊎ ((n ≡ plain_size) × (p.grade ≡ 0))

-- slices with some thickness, whose numbers fit their bits
abbrev pub SlicesFit : List Slice → Type 0
SlicesFit [] = Unit {0}
SlicesFit (c ∷ cs) = (0 < c.thickness) × Fits slice_widths (slice_fields c) × SlicesFit cs

-- slices of which none has a mid-depth, as read, above 1 m
abbrev pub ReadFromOneMetre : Pile → List Slice → Type 0
ReadFromOneMetre p [] = Unit {0}
ReadFromOneMetre p (c ∷ cs) = (metre ≤ mid_of p c.top c.thickness) × ReadFromOneMetre p cs

-- a tip in clay: what 11 and 12 ask of kinds 4 to 6
pub record SoundClay (s : Soil) (p : Pile) : Type 0 where
  pub soil : 4 ≤ s.kind
  -- 11: "tip liquidity index over 0.60", stored as hundredths plus 100
  pub firm : s.index ≤ 160
  -- 12: "a dash in table 7.8 would be read with a weight above zero"
  pub read : is_dash (tip_read (tip_of p) s.index) ≡ false

-- a tip in sand, 02 (iv): what 9 and 17 ask of kinds 1 to 3
pub record SoundSand (s : Soil) (p : Pile) (extra : Option SandNumbers) : Type 0 where
  pub soil : s.kind ≤ 3
  -- 9: "a sand tip without the record or in a rectangle"
  pub base : SandNumbers
  pub given : extra ≡ Some base
  pub circle : p.section ≡ 1
  -- 17: "an angle under 23 or over 39 degrees after the 0.9"
  pub angle : Between 23000 39000 (reduced base.angle)
  -- "a unit weight of 0 or over 30,000"
  pub below : Between 1 30000 base.below
  pub above : Between 1 30000 base.above
  -- "or h/d under 4"
  pub ratio : 4 * p.a ≤ tip_from_cut p

-- a pile that stands in a ground g which is `depth` deep, with its extra record: what 5 to 12 and 17 ask, as facts
pub record Sound (g : ℕ → Soil) (depth : ℕ) (p : Pile) (extra : Option SandNumbers) : Type 0 where
  pub fields : PileInRange p
  -- 7: "head not above tip, or tip under 3,000 or over 40,000"
  pub order : p.head < p.tip
  pub range : Between 3000 tip_limit p.tip
  -- 02 (i): "also when the head is above the cut level, or the tip's depth as read is over 40,000"
  pub level : cut_depth p.grade ≤ p.head
  pub tip_as_read : tip_of p ≤ tip_limit
  -- 8: "log ends less than 5,000 below the tip"
  pub log : p.tip + 5000 ≤ depth
  -- 10: "tip less the deeper of head and tip-stratum top is under 2,000, or under the diameter or longer side"
  pub seat : 2000 ≤ seat_of (run_top g (g (below_tip p)) (below_tip p)) p
  pub side : max p.a p.b ≤ seat_of (run_top g (g (below_tip p)) (below_tip p)) p
  -- 9, 11, 12 and 17, by the soil just below the tip
  pub tip : SoundClay (g (below_tip p)) p ⊎ SoundSand (g (below_tip p)) p extra
