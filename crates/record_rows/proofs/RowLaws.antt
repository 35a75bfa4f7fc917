-- A row of a list of bytes: past the end, and from the part that begins with it.
use mathlib.Core.Path.{◌≡◌, ap, ◌∙◌}
use mathlib.Core.List.{List}
use Prim.Native.Nat.{ℕ, ◌-◌, ◌≤◌}
use native.Mathlib.Nat.{add-zero}
use lib.ListN.{length, take, drop, get_or-eq_default}
use Rattle.rules.specs.declared.Row.{Row}
use Rattle.rules.specs.Widths.{fields_of}
use Rattle.rules.specs.Records.{row_from, row_size, row_widths}
use Rattle.rules.specs.Packed.{number_at, row_at, no_row}
use Rattle.rules.proofs.WidthLaws.{number_part}
use Rattle.record_bits.proofs.BitLaws.{number_blank, part_whole}

-- the row in the number of its bytes
abbrev row_in : ℕ → Row
row_in w = row_from (fields_of row_widths w)

pub row_past : (s : List ℕ) (at : ℕ) → length s ≤ at → row_at s at ≡ no_row
row_past s at h = ap row_in (number_blank s (length s) at row_size (λ (k : ℕ) g. get_or-eq_default s 0 g) h)

pub row_read : (s : List ℕ) (i : ℕ) → {w : ℕ} → w ≡ number_at (take (length s - i) (drop i s)) 0 row_size → row_in w ≡ row_at s i
row_read s i e = ap row_in (e ∙ rw (part_whole s i, number_part s i 0 row_size, add-zero))
