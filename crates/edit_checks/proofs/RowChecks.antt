-- A law of the row that an edit brings: its length.
use mathlib.Core.Path.{◌≡◌, sym}
use mathlib.Core.Bool.{Bool, true, false, true≢false}
use mathlib.Core.List.{List}
use Prim.Native.Nat.{ℕ}
use lib.ListN.{length}
use Rattle.rules.specs.Base.{both}
use Rattle.rules.specs.Records.{row_size}
use Rattle.rules.specs.Edits.{Edit, brings}
use Rattle.rules.specs.Checks.{lengths_wrong, edit_lengths_wrong}
use Rattle.rules.proofs.RefusalLaws.{either_right, right_long}

not_both : (a b : Bool) → both a b ≡ false → a ≡ true → b ≡ false
not_both true b h e = h
not_both false b h e = absurd (true≢false (sym e))

-- check 1 leaves the length of the row that is brought known
pub brought : (e : Edit) (log pile table : List ℕ) → edit_lengths_wrong e log pile table ≡ false → brings e.kind ≡ true → length e.row ≡ row_size
brought e log pile table h b = right_long row_size e.row (not_both (brings e.kind) _ (either_right (lengths_wrong log pile table) _ h) b)
