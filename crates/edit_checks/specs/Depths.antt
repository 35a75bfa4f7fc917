-- The thickness that an edit takes out of a log, and that it brings.
use Rattle.std.specs.Prelude.{List, ℕ, eqb}
use Rattle.rules.specs.declared.Row.{Row}
use Rattle.rules.specs.Base.{pick, either}
use Rattle.rules.specs.Packed.{row_at}
use Rattle.rules.specs.Edits.{brings, row_named}

-- the thickness that goes: replace and remove take row k out, and a split leaves as much as it takes
abbrev pub goes : ℕ → ℕ → List Row → ℕ
goes kind k rs = pick (either (eqb kind 1) (eqb kind 3)) (row_named rs k).thickness 0

-- the thickness that comes: replace and insert bring a row
abbrev pub comes : ℕ → List ℕ → ℕ
comes kind row = pick (brings kind) (row_at row 0).thickness 0
