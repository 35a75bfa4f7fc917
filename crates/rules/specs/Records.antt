-- The records of documents 01 and 02, each a list of widths in bits in the order of its fields: a row, a pile record, a slice; and the bytes of each.
use Rattle.std.specs.Prelude.{List, [], ◌∷◌, ◌++◌, ℕ, ◌/◌, get_or}
use Rattle.rules.specs.declared.Row.{Row}
use Rattle.rules.specs.declared.Pile.{Pile}
use Rattle.rules.specs.declared.Slice.{Slice}
use Rattle.rules.specs.Widths.{bits_of}

-- how many bytes a record of these widths has
abbrev pub size_of : List ℕ → ℕ
size_of ws = bits_of ws / 8

-- "A row": thickness 16 bits, kind 3, liquidity index 8, degree of saturation 7, zero 6
abbrev pub row_widths : List ℕ
row_widths = 16 ∷ 3 ∷ 8 ∷ 7 ∷ 6 ∷ []

abbrev pub row_from : List ℕ → Row
row_from f = record { thickness = get_or f 0 0; kind = get_or f 1 0; index = get_or f 2 0; saturation = get_or f 3 0; zero = get_or f 4 0 }

abbrev pub row_fields : Row → List ℕ
row_fields r = r.thickness ∷ r.kind ∷ r.index ∷ r.saturation ∷ r.zero ∷ []

-- "row places of 5 bytes"
abbrev pub row_size : ℕ
row_size = size_of row_widths

-- "section kind 2 bits (1 circle, 2 rectangle); a 12 bits; b 12 bits; method 2 bits; head depth 16; tip depth 16; four zero bits"
abbrev pub plain_widths : List ℕ
plain_widths = 2 ∷ 12 ∷ 12 ∷ 2 ∷ 16 ∷ 16 ∷ 4 ∷ []

-- 02 (i): "The pile record grows to 10 bytes with a signed grade in its last 16 bits"
abbrev pub graded_widths : List ℕ
graded_widths = plain_widths ++ (16 ∷ [])

abbrev pub pile_from : List ℕ → Pile
pile_from f = record { section = get_or f 0 0; a = get_or f 1 0; b = get_or f 2 0; method = get_or f 3 0; head = get_or f 4 0; tip = get_or f 5 0; zero = get_or f 6 0; grade = get_or f 7 0 }

abbrev pub pile_fields : Pile → List ℕ
pile_fields p = p.section ∷ p.a ∷ p.b ∷ p.method ∷ p.head ∷ p.tip ∷ p.zero ∷ p.grade ∷ []

-- "Pile record, exactly 8 bytes": one without a grade
abbrev pub plain_size : ℕ
plain_size = size_of plain_widths

-- 02 (i): "10 bytes": one with a grade
abbrev pub graded_size : ℕ
graded_size = size_of graded_widths

-- "top depth 16 bits, thickness 11, friction 25, method factor in tenths 4"
abbrev pub slice_widths : List ℕ
slice_widths = 16 ∷ 11 ∷ 25 ∷ 4 ∷ []

abbrev pub slice_from : List ℕ → Slice
slice_from f = record { top = get_or f 0 0; thickness = get_or f 1 0; friction = get_or f 2 0; factor = get_or f 3 0 }

abbrev pub slice_fields : Slice → List ℕ
slice_fields c = c.top ∷ c.thickness ∷ c.friction ∷ c.factor ∷ []

-- "places of 7 bytes"
abbrev pub slice_size : ℕ
slice_size = size_of slice_widths
