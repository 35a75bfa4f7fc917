-- The answer and the held slices of a pile in a ground, which is a function of millimetres: the numbers where no check refuses.
use Rattle.rules.specs.declared.SandNumbers.{SandNumbers}
use Rattle.std.specs.Prelude.{List, [], ℕ, ◌+◌, Option}
use Rattle.rules.specs.declared.Refusal.{Refusal}
use Rattle.rules.specs.declared.Soil.{Soil}
use Rattle.rules.specs.declared.Pile.{Pile}
use Rattle.rules.specs.declared.Slice.{Slice}
use Rattle.rules.specs.declared.Answer.{Answer}
use Rattle.rules.specs.Base.{pick, nothing, refuses}
use Rattle.rules.specs.Numbers.{below_tip, shaft_slices, line_of, resistance, tip_force, shaft_force, capacity_of, uplift_of}
use Rattle.rules.specs.Checks.{ground_checks}

-- "zeros for line, tip, shaft, capacity, uplift and kept"
abbrev pub refused : Refusal → Answer
refused r = record { refusal = r; kept = 0; line = 0; tip = 0; shaft = 0; capacity = 0; uplift = 0 }

-- "In this order, each rounded down"
unfoldable pub numbers : Soil → Pile → ℕ → ℕ → Answer
numbers soil p r line =
    let t = tip_force p r in
    let s = shaft_force p line in
    record { refusal = nothing; kept = 0; line = line; tip = t; shaft = s; capacity = capacity_of soil (t + s); uplift = uplift_of p s }

-- of a ground g that is `depth` deep, with the extra record that comes with the pile
unfoldable pub answer : (ℕ → Soil) → ℕ → Pile → Option SandNumbers → Answer
answer g depth p extra =
    let r = ground_checks g depth p extra in
    let soil = g (below_tip p) in
    let worked = numbers soil p (resistance p extra soil) (line_of (shaft_slices g p)) in
    pick (refuses r) (refused r) worked

-- the slices that the table holds. "Under 5 to 12 .. the table becomes all zero": none. 02 (iv): 17 is "with the effect of 10"
unfoldable pub held_slices : (ℕ → Soil) → ℕ → Pile → Option SandNumbers → List Slice
held_slices g depth p extra = pick (refuses (ground_checks g depth p extra)) [] (shaft_slices g p)
