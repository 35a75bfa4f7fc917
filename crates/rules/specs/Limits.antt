-- Counts and lengths of documents 01 and 02, each named once; the sizes of records are in Records. (Other ranges of fields, and the numbers of
-- checks 7 to 12 and 17, stand with their sentences.)
use Rattle.std.specs.Prelude.{List, [], ◌∷◌, ℕ, ◌+◌, ◌*◌, eqb, length}
use Rattle.rules.specs.Base.{pick}
use Rattle.rules.specs.Records.{row_size, slice_size}

-- "then 64 row places". A form is a number of row places, which sets the lengths of log and table; 01 has one, 64. This is the largest:
abbrev pub row_limit : ℕ
row_limit = 64

-- all forms
abbrev pub forms : List ℕ
forms = row_limit ∷ []

-- "Log, exactly 321 bytes": one byte, and n row places
abbrev pub log_size : ℕ → ℕ
log_size n = 1 + n * row_size

-- "83 places", for 64 rows. 02 (iii): "Show from the row, tip and slice limits that 83 places always do.": one stratum down to 40,000 mm has
-- at most 20 slices, each further stratum adds at most one, and there are no more strata than rows (promised of every n: `always_room`)
abbrev pub places_for : ℕ → ℕ
places_for n = n + 19

abbrev pub place_limit : ℕ
place_limit = places_for row_limit

-- "Slice table, exactly 581 bytes"
abbrev pub table_size : ℕ → ℕ
table_size n = places_for n * slice_size

-- the first n of a list with size n = len; 0 where there is none (no form is 0)
abbrev pub form_by : (ℕ → ℕ) → List ℕ → ℕ → ℕ
form_by size [] len = 0
form_by size (n ∷ ns) len = pick (eqb len (size n)) n (form_by size ns len)

-- the row limit that the length of a lent log tells, and that of a lent slice table
unfoldable pub limit_of : List ℕ → ℕ
limit_of log = form_by log_size forms (length log)

unfoldable pub table_limit : List ℕ → ℕ
table_limit table = form_by table_size forms (length table)

-- "thickness, 1 to 60,000": of one row
abbrev pub thickness_limit : ℕ
thickness_limit = 60000

-- "The rows together are at most 60,000 mm."
abbrev pub depth_limit : ℕ
depth_limit = 60000

-- "slices of 2,000 mm"
abbrev pub slice_thickness : ℕ
slice_thickness = 2000

-- "over 40,000"
abbrev pub tip_limit : ℕ
tip_limit = 40000

-- 02 (i): "Up to 3,000 either way, tables are read as before.": a grade that moves no reading
abbrev pub free_grade : ℕ
free_grade = 3000
