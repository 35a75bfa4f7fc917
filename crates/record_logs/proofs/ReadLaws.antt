-- A log past check 2 is read: the used rows, each checked, then zero places.
use mathlib.Core.Path.{◌≡◌, refl, ap, ap₂, sym, ◌∙◌}
use mathlib.Core.Bool.{true, false}
use mathlib.Core.List.{List, [], ◌∷◌, ◌++◌, append_assoc}
use Prim.Native.Nat.{ℕ, zero, suc, ◌+◌, ◌*◌, ◌-◌, ◌<◌, ◌≤◌}
use native.Mathlib.Omega.{arith}
use borrow.Author.Tests.{eqb-true}
use lib.Dec.{eqb}
use lib.ListN.{length, get_or, drop, set, replicate}
use lib.Seq.{get_or-drop, set_at}
use Rattle.rules.specs.declared.Row.{Row}
use Rattle.rules.specs.declared.Log.{Log}
use Rattle.rules.specs.declared.faults.RowField.{RowField}
use Rattle.rules.specs.Faults.{row_field_number}
use Rattle.rules.specs.declared.Refusal.{Refusal}
use Rattle.rules.specs.Base.{nothing, all_zero}
use Rattle.rules.specs.Widths.{bytes, fields_of}
use Rattle.rules.specs.Records.{row_widths, row_from, row_size}
use Rattle.rules.specs.Limits.{row_limit, limit_of}
use Rattle.rules.specs.Packed.{number_at, count_of, row_at, rows_from, rows_of, log_of, no_row}
use Rattle.rules.specs.Checks.{unused_wrong, wrong_field, first_wrong}
use Rattle.rules.proofs.Basics.{both_left, both_right, rows_length}
use Rattle.rules.proofs.FormLaws.{limit_most}
use Rattle.rules.proofs.PlacesLaws.{rows_part}
use Rattle.rules.proofs.WidthLaws.{join_same}
use Rattle.record_unused.proofs.CountLaws.{counted, inside}
use Rattle.record_log_checks.proofs.RowsLaws.{wrong_here, wrong_below, rest, left_row}

-- zero bytes
pub all_zero_lem : (s : List ℕ) → all_zero s ≡ true → (k : ℕ) → get_or s k 0 ≡ 0
unfolding all_zero
all_zero_lem [] h k = refl
all_zero_lem (b ∷ s) h zero = eqb-true b 0 (both_left (eqb b 0) (all_zero s) h)
all_zero_lem (b ∷ s) h (suc k) = all_zero_lem s (both_right (eqb b 0) (all_zero s) h) k

rows_blank : (s : List ℕ) → ((k : ℕ) → get_or s k 0 ≡ 0) → (at n : ℕ) → rows_from s at n ≡ replicate n no_row
unfolding rows_from number_at
rows_blank s h at zero = refl
rows_blank s h at (suc n) =
    ap₂ (λ (x : Row) (t : List Row). x ∷ t)
    (ap (λ (w : ℕ). row_from (fields_of row_widths w)) (join_same (bytes row_size) (drop at s) [] (λ (k : ℕ). get_or-drop at s k 0 ∙ h (at + k))))
    (rows_blank s h (at + row_size) n)

-- n rows and m more
rows_more : (s : List ℕ) (at n m : ℕ) → rows_from s at (n + m) ≡ rows_from s at n ++ rows_from s (at + n * row_size) m
unfolding rows_from
rows_more s at zero m =
    let e : 0 + m ≡ m = omega arith in
    let p : at + 0 * row_size ≡ at = omega arith in
    rw (e, p)
rows_more s at (suc n) m =
    let e : suc n + m ≡ suc (n + m) = omega arith in
    let p : at + suc n * row_size ≡ at + row_size + n * row_size = omega arith in
    rw (e, p, rows_more s (at + row_size) n m)

-- all places of a log that passes check 2
pub padded : (s : List ℕ) → count_of s ≤ row_limit → all_zero (drop (1 + count_of s * row_size) s) ≡ true → rows_from s 1 row_limit ≡ rows_of s ++ replicate (row_limit - count_of s) no_row
unfolding rows_of
padded s h b =
    let n = count_of s in
    let at = 1 + n * row_size in
    let k : row_limit ≡ n + (row_limit - n) = omega arith in
    let z : at + 0 ≡ at = omega arith in
    ap (rows_from s 1) k ∙ rows_more s 1 n (row_limit - n)
    ∙ ap (λ (t : List Row). rows_from s 1 n ++ t) (sym (rw z at (rows_part s at 0 (row_limit - n))) ∙ rows_blank (drop at s) (all_zero_lem (drop at s) b) 0 (row_limit - n))

-- i of the used rows are right and read, zero places stand behind them, and the others have the same first refusal
pub record Reading (s : List ℕ) (l : Log) (i : ℕ) : Type 0 where
  pub few : i ≤ count_of s
  pub most : count_of s ≤ row_limit
  pub room : 1 + count_of s * row_size ≤ length s
  pub blank : all_zero (drop (1 + count_of s * row_size) s) ≡ true
  pub count : l.count ≡ count_of s
  pub rows : l.rows ≡ rows_from s 1 i ++ replicate (row_limit - i) no_row
  pub left : first_wrong (i + 1) (rest s (count_of s) i) ≡ first_wrong 1 (rows_of s)

pub reading_start : (s : List ℕ) (l : Log) → 0 < limit_of s → unused_wrong s ≡ false → l.count ≡ count_of s → l.rows ≡ replicate row_limit no_row → Reading s l 0
unfolding rows_from rows_of
reading_start s l h w e f =
    let k = counted s w in
    let m : count_of s - 0 ≡ count_of s = omega arith in
    record { few = omega arith; most = omega (arith, k.1, limit_most s); room = inside s h w; blank = k.2; count = e; rows = f; left = rw m }

module _ (s : List ℕ) (l : Log) (i : ℕ) (k : Reading s l i) where
  module _ (r : Row) (h : i < count_of s) (e : r ≡ row_at s (1 + i * row_size)) where
    pub reading_wrong : (field : RowField) → row_field_number field ≡ wrong_field r → ◌≡◌ {A = Refusal} (record { number = 3; row = i + 1; field = row_field_number field }) (first_wrong 1 (rows_of s))
    reading_wrong field g = wrong_here (i + 1) r _ _ _ (left_row s (count_of s) i r h e) k.left field g

    pub reading_more : 0 ≡ wrong_field r → Reading s (record { count = l.count; rows = set l.rows i r }) (i + 1)
    unfolding rows_from
    reading_more w =
        let m : row_limit - i ≡ suc (row_limit - (i + 1)) = omega (arith, k.most) in
        record {
          few = omega arith;
          most = k.most;
          room = k.room;
          blank = k.blank;
          count = k.count;
          rows = rw (k.rows, m, set_at (rows_from s 1 i) no_row (replicate (row_limit - (i + 1)) no_row) r i (rows_length s 1 i), rows_more s 1 i 1, append_assoc, e);
          left = wrong_below (i + 1) r _ _ _ (left_row s (count_of s) i r h e) k.left (sym w);
        }

  pub reading_end : count_of s ≤ i → (nothing ≡ first_wrong 1 (rows_of s)) × (l ≡ log_of s)
  unfolding log_of rows_of first_wrong rows_from
  reading_end h =
      let e : i ≡ count_of s = omega (arith, k.few) in
      let m : count_of s - i ≡ 0 = omega arith in
      let q : l.rows ≡ rows_from s 1 row_limit = rw (k.rows, e) (sym (padded s k.most k.blank)) in
      (rw m at k.left, rw (← k.count, ← q))
