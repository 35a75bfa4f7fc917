-- The row rule of table 7.8 against its printed depths: one computed test over every metre, and one over every row.
use mathlib.Core.Path.{◌≡◌}
use Prim.Native.Nat.{ℕ, ◌+◌, ◌*◌, ◌-◌, ◌/◌, ◌<◌, ◌≤◌, min}
use native.Mathlib.Omega.{arith}
use lib.Dec.{T, eqb, eqb→eq, leb, leb→le, ltb}
use lib.ListN.{get_or}
use Rattle.rules.specs.Base.{either}
use Rattle.rules.specs.Tables.{tip_depths, row_for}
use Rattle.rules.proofs.TableLaws.{every, at}
use Rattle.norm_spots.specs.Spots.{Deepens}
use Rattle.norm_spots.proofs.Rows.{from, deepens}

-- by millimetres
pub tip_deepens : Deepens tip_depths 1000 8
tip_deepens = deepens tip_depths 1000 8 tt tt (omega arith) (omega arith)

-- the row of a whole metre, and the depth of a row
abbrev row : ℕ → ℕ
row = row_for tip_depths 1 8 0

abbrev depth : ℕ → ℕ
depth i = get_or tip_depths i 0

-- Each branch of the two rules, whatever numbers it has: by a test at every metre, or every row, from a on and below b.
module _ (a b k : ℕ) (h : a ≤ k) (l : k < b) where
  abbrev Agree : (ℕ → ℕ) → (ℕ → ℕ) → Type 0
  Agree f g = T (every b (λ i. either (ltb i a) (eqb (f i) (g i))))

  same : (f g : ℕ → ℕ) → Agree f g → f k ≡ g k
  same f g t = eqb→eq _ _ (from a b (λ i. eqb (f i) (g i)) t k h l)

  pub row_sloped : (n less by : ℕ) → Agree (λ i. (n * i - less) / by) row → (n * k - less) / by ≡ row k
  row_sloped n less by = same (λ i. (n * i - less) / by) row

  pub row_stepped : (by : ℕ) → Agree (λ i. i / by) row → k / by ≡ row k
  row_stepped by = same (λ i. i / by) row

  pub row_last : (most by more : ℕ) → Agree (λ i. min (i / by + more) most) row → min (k / by + more) most ≡ row k
  row_last most by more = same (λ i. min (i / by + more) most) row

  pub depth_sloped : (n more by : ℕ) → Agree (λ i. (n * i + more) / by) depth → (n * k + more) / by ≡ depth k
  depth_sloped n more by = same (λ i. (n * i + more) / by) depth

  pub depth_stepped : (n : ℕ) → Agree (λ i. n * i) depth → n * k ≡ depth k
  depth_stepped n = same (λ i. n * i) depth

  pub depth_last : (n less : ℕ) → Agree (λ i. n * i - less) depth → n * k - less ≡ depth k
  depth_last n less = same (λ i. n * i - less) depth

-- no row is deeper than 40 m
pub deepest : (i : ℕ) → i < 10 → get_or tip_depths i 0 ≤ 40
deepest i h = leb→le _ _ (at 10 (λ j. leb (get_or tip_depths j 0) 40) tt i h)
