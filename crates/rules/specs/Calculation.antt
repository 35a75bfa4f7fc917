-- A calculation on lent bytes: what it replies, and the slice table it leaves.
use Rattle.rules.specs.declared.SandNumbers.{SandNumbers}
use Rattle.std.specs.Prelude.{List, ℕ, Option}
use Rattle.rules.specs.declared.Pile.{Pile}
use Rattle.rules.specs.declared.Row.{Row}
use Rattle.rules.specs.declared.Slice.{Slice}
use Rattle.rules.specs.declared.Answer.{Answer}
use Rattle.rules.specs.Base.{pick, refuses}
use Rattle.rules.specs.Limits.{limit_of, table_size}
use Rattle.rules.specs.Packed.{rows_of, pile_of, table_bytes}
use Rattle.rules.specs.Ground.{depth_of, soil_at}
use Rattle.rules.specs.Checks.{lent_checks}
use Rattle.rules.specs.Answers.{refused, answer, held_slices}

-- the answer of rows, a pile and its extra record, and its slices: from the ground alone
unfoldable pub answer_of : List Row → Pile → Option SandNumbers → Answer
answer_of rs p extra = answer (soil_at rs) (depth_of rs) p extra

unfoldable pub held_slices_of : List Row → Pile → Option SandNumbers → List Slice
held_slices_of rs p extra = held_slices (soil_at rs) (depth_of rs) p extra

-- the answer and the table worked out afresh, of a log that passes checks 1 to 4, a pile record of a right length and the extra record
unfoldable pub fresh_answer : List ℕ → List ℕ → Option SandNumbers → Answer
fresh_answer log pile extra = answer_of (rows_of log) (pile_of pile) extra

unfoldable pub fresh_table : List ℕ → List ℕ → Option SandNumbers → List ℕ
fresh_table log pile extra = table_bytes (table_size (limit_of log)) (held_slices_of (rows_of log) (pile_of pile) extra)

unfoldable pub calculated : List ℕ → List ℕ → Option SandNumbers → List ℕ → Answer
calculated log pile extra table =
    let r = lent_checks log pile table in
    pick (refuses r) (refused r) (fresh_answer log pile extra)

-- "a calculation refused by 1 to 4, changes no buffer"; it "never changes the log"
unfoldable pub table_after : List ℕ → List ℕ → Option SandNumbers → List ℕ → List ℕ
table_after log pile extra table = pick (refuses (lent_checks log pile table)) table (fresh_table log pile extra)
