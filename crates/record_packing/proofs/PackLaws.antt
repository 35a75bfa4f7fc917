-- Packing a log: its checks row by row, and its bytes place by place.
use mathlib.Core.Path.{◌≡◌, refl, sym, ◌∙◌}
use mathlib.Core.Bool.{Bool, true, false}
use mathlib.Core.List.{List, [], ◌∷◌, ◌++◌, append-nil}
use Prim.Native.Nat.{ℕ, ◌+◌, ◌*◌, ◌<◌, ◌≤◌}
use native.Mathlib.Numerals.{add-one}
use native.Mathlib.Omega.{arith}
use lib.ListN.{length, get_or, take, drop, set, length-drop, length-append, drop_of_length-le, take-append-drop}
use lib.Seq.{take_all, drop-cons, get_or-drop, drop-drop}
use Rattle.rules.specs.declared.Row.{Row}
use Rattle.rules.specs.declared.Log.{Log}
use Rattle.rules.specs.declared.Refusal.{Refusal}
use Rattle.rules.specs.Base.{both, nothing}
use Rattle.rules.specs.Records.{row_size}
use Rattle.rules.specs.Limits.{row_limit, log_size}
use Rattle.rules.specs.Packed.{no_row, row_bytes, places_bytes, log_bytes}
use Rattle.rules.specs.Checks.{wrong_field, first_wrong}
use Rattle.rules.specs.Reading.{row_zero, rows_zero}
use Rattle.rules.proofs.PlacesLaws.{row_long, places_length, places_take, places_drop}
use Rattle.rules.specs.declared.faults.RowField.{RowField}
use Rattle.rules.specs.Faults.{row_field_number}
use Rattle.record_log_checks.proofs.RowsLaws.{wrong_here, wrong_below}
use Rattle.std.proofs.Common.{◌&&◌}
use Rattle.std.specs.List.{list_all}
use Rattle.base_copies.proofs.CopyLaws.{with, with_behind}

-- rows that are all zero
pub rows_zero_all : (rs : List Row) → list_all row_zero rs ≡ rows_zero rs
unfolding rows_zero
rows_zero_all [] = refl
rows_zero_all (r ∷ rs) = go (row_zero r) (list_all row_zero rs) (rows_zero rs) (rows_zero_all rs)
  where
    go : (t a b : Bool) → a ≡ b → (t && a) ≡ both t b
    go true a b e = e
    go false a b e = refl

-- no log has more rows than the longest form has places
pub all_places : (rs : List Row) → length rs ≤ row_limit → take row_limit rs ≡ rs
all_places rs long = take_all row_limit rs long

-- the rows before row i are right: the others refuse as all do
abbrev pub Checked : List Row → ℕ → Type 0
Checked rs i = first_wrong (i + 1) (drop i rs) ≡ first_wrong 1 rs

from_row : (rs : List Row) (i : ℕ) → i < length rs → drop i rs ≡ get_or rs i no_row ∷ drop (i + 1) rs
from_row rs i h = rw (add-one, drop-cons rs i no_row h)

module _ (rs : List Row) (i : ℕ) (k : Checked rs i) where
  pub checked_wrong : i < length rs → (field : RowField) → row_field_number field ≡ wrong_field (get_or rs i no_row)
      → ◌≡◌ {A = Refusal} (record { number = 3; row = i + 1; field = row_field_number field }) (first_wrong 1 rs)
  checked_wrong h field e = wrong_here (i + 1) _ _ _ _ (from_row rs i h) k field e

  pub checked_more : i < length rs → 0 ≡ wrong_field (get_or rs i no_row) → Checked rs (i + 1)
  checked_more h e = wrong_below (i + 1) _ _ _ _ (from_row rs i h) k (sym e)

  pub checked_end : length rs ≤ i → nothing ≡ first_wrong 1 rs
  unfolding first_wrong
  checked_end h = rw (drop_of_length-le rs h) at k

-- one place more
places_last : (i : ℕ) (rs : List Row) → places_bytes (i + 1) rs ≡ places_bytes i rs ++ row_bytes (get_or rs i no_row)
unfolding places_bytes
places_last i rs =
    let z : i + 0 ≡ i = omega arith in
    sym (take-append-drop (i * row_size) (places_bytes (i + 1) rs)) ∙ rw (places_take i 1 rs, places_drop i 1 rs, append-nil, get_or-drop, z)

-- i of n places of l are written over b₀
pub record Writing (n : ℕ) (l : Log) (b₀ b : List ℕ) (i : ℕ) : Type 0 where
  pub long : length b₀ ≡ log_size n
  pub few : i ≤ n
  pub bytes : b ≡ (l.count ∷ places_bytes i l.rows) ++ drop (1 + i * row_size) b₀

pub writing_start : (n : ℕ) (l : Log) (b : List ℕ) → length b ≡ log_size n → Writing n l (set b 0 l.count) (set b 0 l.count) 0
unfolding places_bytes
writing_start n l [] h = absurd (omega arith)
writing_start n l (x ∷ b) h = record { long = h; few = omega arith; bytes = refl }

module _ (n : ℕ) (l : Log) (b₀ b : List ℕ) (i : ℕ) (w : Writing n l b₀ b i) where
  pub writing_long : length b ≡ log_size n
  writing_long = rw w.bytes (simp (length-append, length-drop) (omega (arith, w.long, w.few, places_length i l.rows)))

  pub writing_more : (v b' : List ℕ) → i < n → v ≡ row_bytes (get_or l.rows i no_row) → b' ≡ with b (1 + i * row_size) v → Writing n l b₀ b' (i + 1)
  writing_more v b' h e f =
      let at = 1 + i * row_size in
      let p = l.count ∷ places_bytes i l.rows in
      let front : length p ≡ at = omega (arith, places_length i l.rows) in
      let five : length v ≡ row_size = rw e (row_long (get_or l.rows i no_row)) in
      let k : at + row_size ≡ 1 + (i + 1) * row_size = omega arith in
      record { long = w.long; few = omega arith; bytes = rw (f, w.bytes, with_behind p (drop at b₀) v at row_size front five, drop-drop, k, e, places_last) }

  pub writing_end : n ≤ i → b ≡ log_bytes n l
  unfolding log_bytes
  writing_end h =
      let e : i ≡ n = omega (arith, w.few) in
      let k : length b₀ ≤ 1 + n * row_size = omega (arith, w.long) in
      rw (w.bytes, e, drop_of_length-le b₀ k) (append-nil (l.count ∷ places_bytes n l.rows))
