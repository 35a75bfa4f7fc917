-- The sheet: the text that the sheet program prints for the bytes it reads.
use Rattle.std.specs.Prelude.{List, [], ◌∷◌, ◌++◌, ℕ, zero, suc, ◌+◌, ◌/◌, ◌%◌, ltb, eqb, length, take, drop, replicate, None}
use Rattle.rules.specs.declared.Answer.{Answer}
use Rattle.rules.specs.declared.Slice.{Slice}
use Rattle.rules.specs.Base.{pick, refuses}
use Rattle.rules.specs.Records.{plain_size, graded_size, slice_fields}
use Rattle.rules.specs.Limits.{forms, form_by, log_size, table_size}
use Rattle.rules.specs.Packed.{rows_of, pile_of}
use Rattle.rules.specs.Calculation.{calculated, held_slices_of}

-- a number in decimal digits, of which n more may come before the last
unfoldable pub digits_from : ℕ → ℕ → List ℕ
digits_from zero x = (48 + x % 10) ∷ []
digits_from (suc n) x =
    let more = digits_from n (x / 10) ++ ((48 + x % 10) ∷ []) in
    pick (ltb x 10) ((48 + x) ∷ []) more

-- 64 bits have at most 20 digits
abbrev pub decimal : ℕ → List ℕ
decimal x = digits_from 19 x

-- each number behind a single space
unfoldable pub spaced : List ℕ → List ℕ
spaced [] = []
spaced (x ∷ xs) = (32 ∷ decimal x) ++ spaced xs

-- a word, its numbers, and a newline
abbrev pub text_line : List ℕ → List ℕ → List ℕ
text_line word xs = word ++ spaced xs ++ (10 ∷ [])

abbrev pub answer_word : List ℕ
answer_word = 97 ∷ 110 ∷ 115 ∷ 119 ∷ 101 ∷ 114 ∷ []

abbrev pub slice_word : List ℕ
slice_word = 115 ∷ 108 ∷ 105 ∷ 99 ∷ 101 ∷ []

abbrev pub total_word : List ℕ
total_word = 116 ∷ 111 ∷ 116 ∷ 97 ∷ 108 ∷ []

-- "refusal, row, field; slices with top, thickness, friction, factor; then line, tip, shaft, capacity, uplift"
unfoldable pub answer_line : Answer → List ℕ
answer_line a = text_line answer_word (a.refusal.number ∷ a.refusal.row ∷ a.refusal.field ∷ [])

unfoldable pub slice_line : Slice → List ℕ
slice_line c = text_line slice_word (slice_fields c)

unfoldable pub slice_lines : List Slice → List ℕ
slice_lines [] = []
slice_lines (c ∷ cs) = slice_line c ++ slice_lines cs

unfoldable pub total_line : Answer → List ℕ
total_line a = text_line total_word (a.line ∷ a.tip ∷ a.shaft ∷ a.capacity ∷ a.uplift ∷ [])

-- "A refusal prints the answer line only."
unfoldable pub sheet_of : Answer → List Slice → List ℕ
sheet_of a cs = answer_line a ++ pick (refuses a.refusal) [] (slice_lines cs ++ total_line a)

-- "reads 329 bytes from standard input, log then pile record; any other length is refusal 1"; 02 (i): "The sheet program takes 329 or 331 bytes.":
-- the form whose log and pile record, without a grade or with one, together are so long; where there is none, 0, and then the log is cut to one
-- byte at most, which is refusal 1
unfoldable pub input_limit : List ℕ → ℕ
input_limit input =
    let plain = form_by (λ n. log_size n + plain_size) forms (length input) in
    let graded = form_by (λ n. log_size n + graded_size) forms (length input) in
    pick (eqb plain 0) graded plain

abbrev pub input_log : ℕ → List ℕ → List ℕ
input_log n input = take (log_size n) input

abbrev pub input_pile : ℕ → List ℕ → List ℕ
input_pile n input = drop (log_size n) input

-- 02 (iv): "the sheet program brings none": no extra record
unfoldable pub sheet_text : List ℕ → List ℕ
sheet_text input =
    let n = input_limit input in
    sheet_of (calculated (input_log n input) (input_pile n input) None (replicate (table_size n) 0)) (held_slices_of (rows_of (input_log n input)) (pile_of (input_pile n input)) None)
