-- The rows of a log one after the other: those that are left to check, and those that are read.
use mathlib.Core.Path.{◌≡◌, ap}
use mathlib.Core.List.{List, ◌∷◌}
use Prim.Native.Nat.{ℕ, suc, ◌+◌, ◌*◌, ◌-◌, ◌^◌, ◌<◌, ◌≤◌}
use native.Mathlib.Omega.{arith}
use Rattle.rules.specs.declared.Row.{Row}
use Rattle.rules.specs.declared.Refusal.{Refusal}
use Rattle.rules.specs.declared.faults.RowField.{RowField}
use Rattle.rules.specs.declared.faults.RowField.TheVariants.{Thickness, Kind, Index, Saturation, Zero}
use Rattle.rules.specs.Base.{nothing}
use Rattle.rules.specs.Records.{row_size}
use Rattle.rules.specs.Packed.{row_at, rows_from}
use Rattle.rules.specs.Ground.{depth_of}
use Rattle.rules.specs.Checks.{wrong_field, first_wrong}
use Rattle.rules.specs.Faults.{row_field_number}

-- rows of which the first is row k
module _ (k : ℕ) (r : Row) (rs ts : List Row) (all : Refusal) (head : ts ≡ r ∷ rs) (left : first_wrong k ts ≡ all) where
  pub wrong_here : (field : RowField) → row_field_number field ≡ wrong_field r → ◌≡◌ {A = Refusal} (record { number = 3; row = k; field = row_field_number field }) all
  unfolding first_wrong
  wrong_here Thickness e = rw (head, ← e) at left
  wrong_here Kind e = rw (head, ← e) at left
  wrong_here Index e = rw (head, ← e) at left
  wrong_here Saturation e = rw (head, ← e) at left
  wrong_here Zero e = rw (head, ← e) at left

  pub wrong_below : wrong_field r ≡ 0 → first_wrong (k + 1) rs ≡ all
  unfolding first_wrong
  wrong_below e = rw (head, e) at left

-- the rows that are left when i of n rows are checked
abbrev pub rest : List ℕ → ℕ → ℕ → List Row
rest s n i = rows_from s (1 + i * row_size) (n - i)

pub left_row : (s : List ℕ) (n i : ℕ) (r : Row) → i < n → r ≡ row_at s (1 + i * row_size) → rest s n i ≡ r ∷ rest s n (i + 1)
unfolding rows_from
left_row s n i r h e =
    let m : n - i ≡ suc (n - (i + 1)) = omega arith in
    let p : 1 + (i + 1) * row_size ≡ 1 + i * row_size + row_size = omega arith in
    rw (m, p, e)

-- i of the first n rows of s are right and d deep; the others have the same first refusal and the rest of the depth
pub record Checking (s : List ℕ) (n d i : ℕ) : Type 0 where
  pub few : i ≤ n
  pub small : d ≤ i * 2 ^ 16
  pub left : first_wrong (i + 1) (rest s n i) ≡ first_wrong 1 (rows_from s 1 n)
  pub deep : d + depth_of (rest s n i) ≡ depth_of (rows_from s 1 n)

pub checking_start : (s : List ℕ) (n : ℕ) → Checking s n 0 0
checking_start s n =
    let m : n - 0 ≡ n = omega arith in
    record { few = omega arith; small = omega arith; left = rw m; deep = rw m (omega arith) }

module _ (s : List ℕ) (n d i : ℕ) (k : Checking s n d i) where
  module _ (r : Row) (h : i < n) (e : r ≡ row_at s (1 + i * row_size)) where
    pub checking_wrong : (field : RowField) → row_field_number field ≡ wrong_field r → ◌≡◌ {A = Refusal} (record { number = 3; row = i + 1; field = row_field_number field }) (first_wrong 1 (rows_from s 1 n))
    checking_wrong field g = wrong_here (i + 1) r _ _ _ (left_row s n i r h e) k.left field g

    pub checking_more : (t : ℕ) → t ≡ r.thickness → wrong_field r ≡ 0 → t < 2 ^ 16 → Checking s n (d + t) (i + 1)
    unfolding depth_of
    checking_more t f w b =
        let z : depth_of (rest s n i) ≡ r.thickness + depth_of (rest s n (i + 1)) = ap depth_of (left_row s n i r h e) in
        record {
          few = omega arith;
          small = omega (arith, k.small);
          left = wrong_below (i + 1) r _ _ _ (left_row s n i r h e) k.left w;
          deep = omega (arith, k.deep);
        }

  pub checking_end : n ≤ i → (nothing ≡ first_wrong 1 (rows_from s 1 n)) × (d ≡ depth_of (rows_from s 1 n))
  unfolding first_wrong rows_from depth_of
  checking_end h =
      let m : n - i ≡ 0 = omega (arith, k.few) in
      let q : nothing ≡ first_wrong 1 (rows_from s 1 n) = rw m at k.left in
      let z : d + 0 ≡ depth_of (rows_from s 1 n) = rw m at k.deep in
      (q, omega arith)
