-- A sheet put together line by line: what the buffer holds after the answer line, after i slice lines, and at the end.
use mathlib.Core.Path.{◌≡◌, refl}
use mathlib.Core.Bool.{true, false}
use mathlib.Core.List.{List, ◌++◌, append_assoc, append-nil}
use Prim.Native.Nat.{ℕ, ◌+◌, ◌<◌, ◌≤◌}
use native.Mathlib.Numerals.{add-one}
use lib.ListN.{length, get_or, take, replicate}
use lib.Seq.{take_all}
use Rattle.rules.specs.Base.{refuses}
use Rattle.rules.specs.Sheet.{answer_line, slice_line, total_line, slice_lines, sheet_of}
use Rattle.rules.specs.declared.Answer.{Answer}
use Rattle.rules.specs.declared.Slice.{Slice}
use Rattle.text_writing.specs.Text.{Put}
use Rattle.text_writing.proofs.PutLaws.{piece_more}
use Rattle.text_lines.specs.Lines.{sheet_to, Holds}
use Rattle.text_lines.proofs.LineLaws.{holds_none, holds_more}

lines_more : (cs : List Slice) (i : ℕ) (d : Slice) → i < length cs → slice_lines (take (i + 1) cs) ≡ slice_lines (take i cs) ++ slice_line (get_or cs i d)
unfolding slice_lines
lines_more cs i d h = rw (add-one i) (piece_more slice_lines slice_line refl (λ c cs. refl) cs i d h)

module _ (a : Answer) (cs : List Slice) where
  -- the answer line comes first, on zeros
  pub sheet_begun : {next : ℕ} {buf after : List ℕ} (n : ℕ) → buf ≡ replicate n 0 → Put buf 0 (answer_line a) after next → next ≤ n → Holds n after next (sheet_to a cs 0)
  unfolding slice_lines
  sheet_begun {buf = buf} n z p h = rw (append-nil (answer_line a)) (holds_more (holds_none n buf z) p h)

  -- then each slice line
  pub sheet_more : {n at next : ℕ} {buf after : List ℕ} (i : ℕ) (d : Slice) → i < length cs → Holds n buf at (sheet_to a cs i)
      → Put buf at (slice_line (get_or cs i d)) after next → next ≤ n → Holds n after next (sheet_to a cs (i + 1))
  sheet_more i d l b p h = rw (lines_more cs i d l, ← append_assoc (answer_line a) (slice_lines (take i cs)) (slice_line (get_or cs i d))) (holds_more b p h)

  -- and the total line
  pub sheet_ended : {n at next : ℕ} {buf after : List ℕ} (i : ℕ) → length cs ≤ i → refuses a.refusal ≡ false → Holds n buf at (sheet_to a cs i)
      → Put buf at (total_line a) after next → next ≤ n → Holds n after next (sheet_of a cs)
  unfolding sheet_of
  sheet_ended i l e b p h = rw (e, ← append_assoc (answer_line a) (slice_lines cs) (total_line a)) (holds_more (rw (take_all i cs l) at b) p h)

  -- of a refusal, the answer line is the sheet
  pub sheet_refused : {n at : ℕ} {buf : List ℕ} → refuses a.refusal ≡ true → Holds n buf at (sheet_to a cs 0) → Holds n buf at (sheet_of a cs)
  unfolding sheet_of slice_lines
  sheet_refused e b = rw e b
