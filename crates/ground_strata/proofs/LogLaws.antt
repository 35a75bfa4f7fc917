-- The rows of a log one by one, and what stands below the first few.
use mathlib.Core.Path.{◌≡◌, ◌∙◌, ap}
use mathlib.Core.List.{List, [], ◌∷◌}
use Prim.Native.Nat.{ℕ, zero, suc, ◌+◌, ◌*◌, ◌-◌, ◌<◌, ◌≤◌}
use native.Mathlib.Omega.{arith}
use native.Mathlib.Numerals.{add-one}
use lib.ListN.{length, take, drop}
use lib.Seq.{take_all}
use Rattle.rules.specs.declared.Row.{Row}
use Rattle.rules.specs.Records.{row_size}
use Rattle.rules.specs.Packed.{row_at, rows_from, count_of, rows_of}
use Rattle.rules.specs.Ground.{depth_of, soil_of, soil_at}
use Rattle.rules.proofs.GroundLaws.{soil_here, soil_below}
use Rattle.rules.proofs.PassedLaws.{count_length}
use Rattle.rules.proofs.SpliceLaws.{depth_parts}

-- r is row i of the rows, and where it ends
pub record Next (rs : List Row) (i : ℕ) (r : Row) : Type 0 where
  pub left : drop i rs ≡ r ∷ drop (i + 1) rs
  pub ends : depth_of (take (i + 1) rs) ≡ depth_of (take i rs) + r.thickness
  pub inside : depth_of (take (i + 1) rs) ≤ depth_of rs

from_row : (s : List ℕ) (at n i : ℕ) → i < n → drop i (rows_from s at n) ≡ row_at s (at + i * row_size) ∷ drop (suc i) (rows_from s at n)
unfolding rows_from
from_row s at zero i h = absurd (omega arith)
from_row s at (suc n) zero h = let e : at ≡ at + 0 * row_size = omega arith in ap (λ (p : ℕ). row_at s p ∷ rows_from s (at + row_size) n) e
from_row s at (suc n) (suc i) h =
    let e : at + row_size + i * row_size ≡ at + suc i * row_size = omega arith in
    from_row s (at + row_size) n i (omega arith) ∙ ap (λ (p : ℕ). row_at s p ∷ drop (suc i) (rows_from s (at + row_size) n)) e

-- a row read at its place in the log is the next of the rows
pub row_left : (s : List ℕ) (i : ℕ) (r : Row) → i < count_of s → r ≡ row_at s (1 + i * row_size) → Next (rows_of s) i r
unfolding rows_of depth_of
row_left s i r h e =
    let rs = rows_of s in
    let l : drop i rs ≡ r ∷ drop (i + 1) rs = rw (add-one i, e) (from_row s 1 (count_of s) i h) in
    record { left = l; ends = omega (arith, depth_parts rs i, depth_parts rs (i + 1), ap depth_of l); inside = omega (arith, depth_parts rs (i + 1)) }

-- past the last row none is left
module _ (s : List ℕ) (i : ℕ) (h : count_of s ≤ i) where
  most : length (rows_of s) ≤ i
  most = omega (arith, count_length s)

  pub all_taken : depth_of (take i (rows_of s)) ≡ depth_of (rows_of s)
  all_taken = ap depth_of (take_all i (rows_of s) most)

-- below the first i rows only the others count
soil_below_rows : (i : ℕ) (rs : List Row) (m : ℕ) → depth_of (take i rs) ≤ m → soil_at rs m ≡ soil_at (drop i rs) (m - depth_of (take i rs))
unfolding depth_of
soil_below_rows zero rs m h = let e : m ≡ m - 0 = omega arith in ap (soil_at rs) e
soil_below_rows (suc i) [] m h = let e : m ≡ m - 0 = omega arith in ap (soil_at []) e
soil_below_rows (suc i) (r ∷ rs) m h =
    let e : m - r.thickness - depth_of (take i rs) ≡ m - (r.thickness + depth_of (take i rs)) = omega arith in
    soil_below r rs m (omega arith) ∙ soil_below_rows i rs (m - r.thickness) (omega arith) ∙ ap (soil_at (drop i rs)) e

-- the millimetres of a row are its soil
pub row_soil : {rs : List Row} {i : ℕ} {r : Row} → Next rs i r → (m : ℕ) → depth_of (take i rs) ≤ m → m < depth_of (take (i + 1) rs) → soil_at rs m ≡ soil_of r
row_soil {rs} {i} {r} e m h l =
    let down : ℕ = m - depth_of (take i rs) in
    soil_below_rows i rs m h ∙ ap (λ (y : List Row). soil_at y down) e.left ∙ soil_here r (drop (i + 1) rs) down (omega (arith, e.ends))
