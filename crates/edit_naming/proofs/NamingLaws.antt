-- The law of the row that an edit names: where it is read.
use mathlib.Core.Path.{◌≡◌, sym, ◌∙◌, ap}
use mathlib.Core.List.{List}
use Prim.Native.Nat.{ℕ, zero, suc, ◌+◌, ◌*◌, ◌-◌, ◌<◌, ◌≤◌}
use native.Mathlib.Omega.{arith}
use lib.ListN.{get_or}
use Rattle.rules.specs.Records.{row_size}
use Rattle.rules.specs.Packed.{count_of, no_row, row_at, rows_from, rows_of}
use Rattle.rules.specs.Edits.{row_named}

row_from_lem : (s : List ℕ) (at n i : ℕ) → i < n → get_or (rows_from s at n) i no_row ≡ row_at s (at + i * row_size)
unfolding rows_from
row_from_lem s at zero i h = absurd (omega arith)
row_from_lem s at (suc n) zero h = let e : at ≡ at + 0 * row_size = omega arith in ap (row_at s) e
row_from_lem s at (suc n) (suc i) h =
    let e : at + row_size + i * row_size ≡ at + suc i * row_size = omega arith in
    row_from_lem s (at + row_size) n i (omega arith) ∙ ap (row_at s) e

-- the row that is read at its bytes is the row that is named
pub row_there : (s : List ℕ) (k : ℕ) → 1 ≤ k → k ≤ count_of s → row_at s (1 + (k - 1) * row_size) ≡ row_named (rows_of s) k
unfolding rows_of
row_there s k h g = sym (row_from_lem s 1 (count_of s) (k - 1) (omega arith))
