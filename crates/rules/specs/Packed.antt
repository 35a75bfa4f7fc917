-- The packed forms: the fields of a row, a log, a pile record and a slice as numbers cut from the bytes, and the bytes of given fields.
use Rattle.std.specs.Prelude.{List, [], ◌∷◌, ◌++◌, ℕ, zero, suc, ◌+◌, ◌*◌, ◌-◌, get_or, length, take, drop, replicate}
use Rattle.rules.specs.declared.Row.{Row}
use Rattle.rules.specs.declared.Log.{Log}
use Rattle.rules.specs.declared.Pile.{Pile}
use Rattle.rules.specs.declared.Slice.{Slice}
use Rattle.rules.specs.Widths.{fields_of, join, bytes}
use Rattle.rules.specs.Records.{row_widths, row_from, row_fields, row_size, graded_widths, graded_size, pile_from, pile_fields, slice_widths, slice_from, slice_fields, slice_size}
use Rattle.rules.specs.Limits.{row_limit}

-- n bytes from byte i on as one number, the first the most significant; 0 past the end
unfoldable pub number_at : List ℕ → ℕ → ℕ → ℕ
number_at s i n = join (bytes n) (drop i s)

-- the row that begins at byte i
abbrev pub row_at : List ℕ → ℕ → Row
row_at s i = row_from (fields_of row_widths (number_at s i row_size))

-- "top row first": n rows, of which the first begins at byte i
unfoldable pub rows_from : List ℕ → ℕ → ℕ → List Row
rows_from s i zero = []
rows_from s i (suc n) = row_at s i ∷ rows_from s (i + row_size) n

-- "one byte with the row count"
abbrev pub count_of : List ℕ → ℕ
count_of s = get_or s 0 0

-- "then 64 row places of 5 bytes": all of them
unfoldable pub log_of : List ℕ → Log
log_of s = record { count = count_of s; rows = rows_from s 1 row_limit }

-- the rows that are used
unfoldable pub rows_of : List ℕ → List Row
rows_of s = rows_from s 1 (count_of s)

-- 02 (i): "An 8-byte record reads as grade 0": past its end every bit is 0
unfoldable pub pile_of : List ℕ → Pile
pile_of s = pile_from (fields_of graded_widths (number_at s 0 graded_size))

-- place i, counted from 0
unfoldable pub slice_at : List ℕ → ℕ → Slice
slice_at s i = slice_from (fields_of slice_widths (number_at s (i * slice_size) slice_size))

-- The other way: the bytes of a record
unfoldable pub row_bytes : Row → List ℕ
row_bytes r = fields_of (bytes row_size) (join row_widths (row_fields r))

-- 02 (i): "each length packs back to itself": the first n bytes of the ten, all of them or those before the grade
unfoldable pub pile_bytes : ℕ → Pile → List ℕ
pile_bytes n p = take n (fields_of (bytes graded_size) (join graded_widths (pile_fields p)))

unfoldable pub slice_bytes : Slice → List ℕ
slice_bytes c = fields_of (bytes slice_size) (join slice_widths (slice_fields c))

-- a row of zeros: a missing field is 0
abbrev pub no_row : Row
no_row = row_from []

-- the bytes of n row places that hold these rows, top row first; a place without a row is zero
unfoldable pub places_bytes : ℕ → List Row → List ℕ
places_bytes zero rs = []
places_bytes (suc n) rs = row_bytes (get_or rs 0 no_row) ++ places_bytes n (drop 1 rs)

-- a log of n row places
unfoldable pub log_bytes : ℕ → Log → List ℕ
log_bytes n l = l.count ∷ places_bytes n l.rows

-- the log of n row places that has these rows, at most n; "Unused places are all zero."
unfoldable pub log_for : ℕ → List Row → List ℕ
log_for n rs = length rs ∷ places_bytes n rs

unfoldable pub slices_bytes : List Slice → List ℕ
slices_bytes [] = []
slices_bytes (c ∷ cs) = slice_bytes c ++ slices_bytes cs

-- a slice table of so many bytes that holds these slices; "Unused places are all zero."
unfoldable pub table_bytes : ℕ → List Slice → List ℕ
table_bytes size cs = slices_bytes cs ++ replicate (size - length cs * slice_size) 0
