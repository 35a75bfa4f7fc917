-- Slices as a table holds them, and what an answer shows of them.
use Rattle.std.specs.Prelude.{◌≡◌, true, ◌⊎◌, List, ℕ, ◌<◌, length}
use Rattle.rules.specs.declared.Answer.{Answer}
use Rattle.rules.specs.declared.Slice.{Slice}
use Rattle.rules.specs.Base.{refuses}
use Rattle.rules.specs.Limits.{table_limit}
use Rattle.rules.specs.Packed.{table_bytes}
use Rattle.rules.specs.Ranges.{SlicesFit}

-- a table of a form that holds these slices and no others
pub record TableOf (cs : List Slice) (table : List ℕ) : Type 0 where
  pub form : 0 < table_limit table
  pub fit : SlicesFit cs
  pub bytes : table ≡ table_bytes (length table) cs

-- a refusal shows no slices; of any other answer the table holds them
abbrev pub Printable : Answer → List ℕ → List Slice → Type 0
Printable a table cs = (refuses a.refusal ≡ true) ⊎ TableOf cs table
