-- The row rule of table 7.3 against its printed depths: one computed test over every metre of each stretch of even steps.
use mathlib.Core.Path.{◌≡◌, refl, sym, ◌∙◌, ap}
use mathlib.Core.Bool.{Bool}
use Prim.Native.Nat.{ℕ, ◌+◌, ◌*◌, ◌-◌, ◌/◌, ◌%◌, ◌<◌, ◌≤◌, min, max}
use native.Mathlib.Nat.{mul-le-mul_left, mul_comm, mul_assoc, div-div-eq-div-mul, mod-eq-sub-div-mul}
use native.Mathlib.Omega.{arith}
use lib.Dec.{T, eqb, eqb→eq, ltb}
use lib.ListN.{get_or}
use Rattle.rules.specs.Base.{both, either}
use Rattle.rules.specs.Tables.{friction_depths, metre, row_for, spot_of}
use Rattle.rules.proofs.TableLaws.{every, both_left, both_right}
use Rattle.norm_spots.specs.Spots.{Deepens, InTable}
use Rattle.norm_spots.proofs.Rows.{from, deepens, by_metre, in_table}
use Rattle.norm_friction_rows.specs.declared.Standing.{Standing}
use Rattle.norm_friction_rows.specs.Standings.{spot_at, Stands}

-- by half millimetres
pub friction_deepens : Deepens friction_depths metre 11
friction_deepens = deepens friction_depths metre 11 tt tt (omega arith) (omega arith)

-- metre k stands in row i, which is above metres deep, and the next is below metres deep
record AtMetre (i above below k : ℕ) : Type 0 where
  is : row_for friction_depths 1 11 0 k ≡ i
  depth : get_or friction_depths i 0 ≡ above
  next : get_or friction_depths (i + 1) 0 ≡ below

abbrev row_is : ℕ → ℕ → ℕ → ℕ → Bool
row_is i above below k =
    both (eqb (row_for friction_depths 1 11 0 k) i) (both (eqb (get_or friction_depths i 0) above) (eqb (get_or friction_depths (i + 1) 0) below))

row_is_lem : (i above below k : ℕ) → T (row_is i above below k) → AtMetre i above below k
row_is_lem i above below k t =
    let a : Bool = eqb (row_for friction_depths 1 11 0 k) i in
    let b : Bool = eqb (get_or friction_depths i 0) above in
    let c : Bool = eqb (get_or friction_depths (i + 1) 0) below in
    let u : T (both b c) = both_right a (both b c) t in
    record { is = eqb→eq _ _ (both_left a (both b c) t); depth = eqb→eq _ _ (both_left b c u); next = eqb→eq _ _ (both_right b c u) }

-- rows s metres apart: k metres are k / s steps, and the row there is the one of number k / s + more, less one
abbrev evenly : ℕ → ℕ → ℕ → Bool
evenly s more k = row_is (k / s + more - 1) (k / s * s) (k / s * s + s) k

-- from 1 m on
all_counts : (mid : ℕ) → metre ≤ mid → 20000 ≡ min mid metre * 10
all_counts mid l = omega arith

-- a row, its depth and that of the next, and a share that makes 20,000 of the way between them
stands : (mid above below share : ℕ) (r : Standing) → metre ≤ mid → mid < 70000 → AtMetre r.row above below (mid / metre)
    → share * ((below - above) * metre) ≡ 20000 → r.part ≡ (mid - above * metre) * share → r.whole ≡ 20000 → Stands mid r
unfolding spot_of
stands mid above below share r l h t e f all =
    let c : max metre (min mid 70000) ≡ mid = omega arith in
    let i : row_for friction_depths metre 11 0 mid ≡ r.row = by_metre friction_depths metre 11 0 mid (omega arith) ∙ t.is in
    let row : r.row ≡ (spot_at mid).row = rw c (sym i) in
    let down : (spot_at mid).down ≡ mid - above * metre = rw (c, i, t.depth) in
    let span : (spot_at mid).span ≡ (below - above) * metre = rw (c, i, t.depth, t.next) in
    let w : InTable 11 7 (spot_at mid) = in_table friction_depths metre 11 friction_deepens 7 mid 0 in
    let s : share * (spot_at mid).span ≡ 20000 = ap (λ (x : ℕ). share * x) span ∙ e in
    let d : r.part ≡ (spot_at mid).down * share = f ∙ ap (λ (x : ℕ). x * share) (sym down) in
    record {
      row = row;
      part = ap (λ (x : ℕ). x * (spot_at mid).span) d ∙ mul_assoc (spot_at mid).down share (spot_at mid).span ∙ ap (λ (x : ℕ). (spot_at mid).down * x) s;
      whole = all ∙ all_counts mid l;
      last = omega (arith, row, w.row);
      within = omega (arith, d, mul-le-mul_left share w.weights.down, mul_comm (spot_at mid).down share, s, all);
    }

-- A stretch of the rule, whatever numbers it has: from depth low to depth high rows stand w half millimetres apart. The test is
-- at every metre that they touch.
pub stretch : (low high w more share mid : ℕ) (r : Standing) → low ≤ mid → mid < high → r.part ≡ mid % w * share → r.whole ≡ 20000 → r.row ≡ mid / w + more - 1
    → T (every ((high + metre - 1) / metre) (λ k. either (ltb k (low / metre)) (evenly (w / metre) more k)))
    → metre ≤ low → high ≤ 70000 → metre * (w / metre) ≡ w → share * w ≡ 20000 → Stands mid r
stretch low high w more share mid r l h e all f t first last even whole =
    let k : ℕ = mid / metre in
    let s : ℕ = w / metre in
    let steps : mid / w ≡ k / s = ap (λ (x : ℕ). mid / x) (sym even) ∙ sym (div-div-eq-div-mul mid metre s) in
    let apart-is : w ≡ s * metre = sym even ∙ mul_comm metre s in
    let u : T (evenly s more k) = from (low / metre) ((high + metre - 1) / metre) (evenly s more) t k (omega arith) (omega arith) in
    let apart : k / s * s + s - k / s * s ≡ s = omega arith in
    let down : mid / w * w ≡ k / s * s * metre = ap (λ (x : ℕ). x * w) steps ∙ ap (λ (x : ℕ). k / s * x) apart-is ∙ sym (mul_assoc (k / s) s metre) in
    let left : mid % w ≡ mid - k / s * s * metre = mod-eq-sub-div-mul mid w ∙ ap (λ (x : ℕ). mid - x) down in
    let i : r.row ≡ k / s + more - 1 = f ∙ ap (λ (x : ℕ). x + more - 1) steps in
    let parts : share * (s * metre) ≡ 20000 = ap (λ (x : ℕ). share * x) (sym apart-is) ∙ whole in
    stands mid (k / s * s) (k / s * s + s) share r (omega arith) (omega arith) (rw i (row_is_lem _ _ _ k u)) (rw apart parts) (e ∙ ap (λ (x : ℕ). x * share) left) all

-- in each of the three stretches; above the first row and below the last, that row alone
pub by_five_metres : (mid : ℕ) → 20000 ≤ mid → mid < 70000 → Stands mid (record { row = mid / 10000 + 5; part = mid % 10000 * 2; whole = 20000 })
unfolding row_for
by_five_metres mid h l = stretch 20000 70000 10000 6 2 mid _ h l refl refl (omega arith) tt (omega arith) (omega arith) refl refl

pub by_two_metres : (mid : ℕ) → 12000 ≤ mid → mid < 20000 → Stands mid (record { row = mid / 4000 + 2; part = mid % 4000 * 5; whole = 20000 })
unfolding row_for
by_two_metres mid h l = stretch 12000 20000 4000 3 5 mid _ h l refl refl (omega arith) tt (omega arith) (omega arith) refl refl

pub by_one_metre : (mid row : ℕ) → 2000 ≤ mid → mid < 12000 → row ≡ mid / 2000 - 1 → Stands mid (record { row = row; part = mid % 2000 * 10; whole = 20000 })
unfolding row_for
by_one_metre mid row h l e = stretch 2000 12000 2000 0 10 mid _ h l refl refl (omega arith) tt (omega arith) (omega arith) refl refl

pub above_all : (mid : ℕ) → mid < metre → Stands mid (record { row = 0; part = 0; whole = mid * 10 })
unfolding spot_of row_for
above_all mid h = let e : max metre (min mid 70000) ≡ metre = omega arith in record { row = rw e refl; part = rw e refl; whole = omega arith; last = omega arith; within = omega arith }

pub below_all : (mid : ℕ) → 70000 ≤ mid → Stands mid (record { row = 11; part = 20000; whole = 20000 })
unfolding spot_of row_for
below_all mid h = let e : max metre (min mid 70000) ≡ 70000 = omega arith in record { row = rw e refl; part = rw e refl; whole = omega arith; last = omega arith; within = omega arith }
