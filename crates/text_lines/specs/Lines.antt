-- The room that a line asks for, and a buffer that holds a sheet so far.
use Rattle.std.specs.Prelude.{◌≡◌, List, ◌++◌, ℕ, ◌-◌, ◌≤◌, length, take, replicate}
use Rattle.rules.specs.Sheet.{answer_line, slice_lines}
use Rattle.rules.specs.declared.Answer.{Answer}
use Rattle.rules.specs.declared.Slice.{Slice}

-- so many bytes are left where a line is put, which is more than any line has
abbrev pub line_room : ℕ
line_room = 120

-- the answer line and the first i slice lines
abbrev pub sheet_to : Answer → List Slice → ℕ → List ℕ
sheet_to a cs i = answer_line a ++ slice_lines (take i cs)

-- n bytes that hold a text so far: the text, and behind it, from the place on, zeros
pub record Holds (n : ℕ) (buf : List ℕ) (at : ℕ) (text : List ℕ) : Type 0 where
  pub bytes : buf ≡ text ++ replicate (n - at) 0
  pub place : at ≡ length text
  pub room : at ≤ n
