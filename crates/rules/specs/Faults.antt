-- The refusal that each fault is told as: "Each refusal returns its number, row and field (0 unless said)".
use Rattle.std.specs.Prelude.{ℕ, Option, None, Some, Result, Ok, Err}
use Rattle.rules.specs.declared.Refusal.{Refusal}
use Rattle.rules.specs.declared.faults.RowField.{RowField}
use Rattle.rules.specs.declared.faults.RowField.TheVariants as row_field
use Rattle.rules.specs.declared.faults.PileField.{PileField}
use Rattle.rules.specs.declared.faults.PileField.TheVariants as pile_field
use Rattle.rules.specs.declared.faults.Fault.{Fault}
use Rattle.rules.specs.declared.faults.Fault.TheVariants.{Length, Unused, Row, TooDeep, Section, Method, Depths, LogShort, SandUnread, SeatShort, TooSoft, Dashed, NamesNothing, Full, SandWrong}
use Rattle.rules.specs.Base.{refuse, nothing}

-- "thickness .. kind .. index .. saturation .. zero", counted from 1
abbrev pub row_field_number : RowField → ℕ
row_field_number row_field.Thickness = 1
row_field_number row_field.Kind = 2
row_field_number row_field.Index = 3
row_field_number row_field.Saturation = 4
row_field_number row_field.Zero = 5

-- "section kind, a, b or the zero bits .. field 1 to 4 in that order"
abbrev pub pile_field_number : PileField → ℕ
pile_field_number pile_field.Section = 1
pile_field_number pile_field.A = 2
pile_field_number pile_field.B = 3
pile_field_number pile_field.Zero = 4

-- the field that is wrong; 0 where none is
abbrev pub row_field_of : Option RowField → ℕ
row_field_of None = 0
row_field_of (Some field) = row_field_number field

abbrev pub pile_field_of : Option PileField → ℕ
pile_field_of None = 0
pile_field_of (Some field) = pile_field_number field

abbrev pub refusal_of : Fault → Refusal
refusal_of Length = refuse 1
refusal_of Unused = refuse 2
refusal_of (Row row field) = record { number = 3; row = row; field = row_field_number field }
refusal_of TooDeep = refuse 4
refusal_of (Section field) = record { number = 5; row = 0; field = pile_field_number field }
refusal_of Method = refuse 6
refusal_of Depths = refuse 7
refusal_of LogShort = refuse 8
refusal_of SandUnread = refuse 9
refusal_of SeatShort = refuse 10
refusal_of TooSoft = refuse 11
refusal_of Dashed = refuse 12
refusal_of NamesNothing = refuse 13
refusal_of Full = refuse 14
refusal_of SandWrong = refuse 17

-- what is refused: nothing where all is well
abbrev pub refusal_in : {A : Type 0} → Result A Fault → Refusal
refusal_in (Ok a) = nothing
refusal_in (Err fault) = refusal_of fault
