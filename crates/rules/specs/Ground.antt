-- The ground: which soil stands at each millimetre, and how deep the log goes.
use Rattle.std.specs.Prelude.{◌≡◌, Bool, List, [], ◌∷◌, ℕ, ◌+◌, ◌-◌, ◌<◌, ltb, eqb}
use Rattle.rules.specs.declared.Row.{Row}
use Rattle.rules.specs.declared.Soil.{Soil}
use Rattle.rules.specs.Base.{pick, both}

-- "kind, liquidity index and saturation are all the same"
unfoldable pub same : Soil → Soil → Bool
same s t = both (eqb s.kind t.kind) (both (eqb s.index t.index) (eqb s.saturation t.saturation))

-- what stands below the log: no soil
abbrev pub none : Soil
none = record { kind = 0; index = 0; saturation = 0 }

abbrev pub soil_of : Row → Soil
soil_of r = record { kind = r.kind; index = r.index; saturation = r.saturation }

-- how deep the rows go
unfoldable pub depth_of : List Row → ℕ
depth_of [] = 0
depth_of (r ∷ rs) = r.thickness + depth_of rs

-- the soil of the millimetre from m to m + 1
unfoldable pub soil_at : List Row → ℕ → Soil
soil_at [] m = none
soil_at (r ∷ rs) m = let below = soil_at rs (m - r.thickness) in pick (ltb m r.thickness) (soil_of r) below

-- "Rows do not matter, only millimetres do.": equally deep, and the same soil at every millimetre
abbrev pub Agree : List Row → List Row → Type 0
Agree rs ts = (depth_of rs ≡ depth_of ts) × ((m : ℕ) → m < depth_of rs → soil_at rs m ≡ soil_at ts m)
