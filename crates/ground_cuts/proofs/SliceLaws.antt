-- One slice of a part: the next of the paper's cut, and its part of the sum; and the loop that cuts one a turn.
use mathlib.Core.Path.{◌≡◌, refl, sym, ◌∙◌, ap, ap₂}
use mathlib.Core.Logic.{⊎_elim}
use mathlib.Core.List.{List, [], ◌∷◌}
use Prim.Native.Nat.{ℕ, zero, suc, ◌+◌, ◌*◌, ◌-◌, ◌^◌, ◌<◌, ◌≤◌, max}
use native.Mathlib.Nat.{mul-le-mul, mul-le-mul_right}
use native.Mathlib.Omega.{arith}
use lib.ListN.{length}
use borrow.Author.Tests.{lt-ltb, le-ltb}
use Rattle.rules.specs.declared.Soil.{Soil}
use Rattle.rules.specs.declared.Pile.{Pile}
use Rattle.rules.specs.declared.Slice.{Slice}
use Rattle.rules.specs.Bounds.{friction_bound, factor_bound, weight_bound}
use Rattle.rules.specs.Pieces.{piece, cut_from}
use Rattle.rules.specs.Grades.{raising, lowering}
use Rattle.rules.specs.Numbers.{hundredths, mid_of, factor, slice_of, slice_each, friction_sum}
use Rattle.rules.proofs.Basics.{split}
use Rattle.norm_columns.specs.declared.Column.{Column}
use Rattle.norm_columns.specs.Across.{Across}
use Rattle.norm_grades.specs.declared.Shift.{Shift}
use Rattle.norm_friction.specs.Columns.{column_friction}
use Rattle.norm_friction.proofs.Reading.{soil_column}
use Rattle.record_slice_table.specs.Table.{put_at, put_all}
use Rattle.ground_cuts.specs.Cuts.{slices_in, thick_here, weight_of, slice_by, slices_by, left_of, Shifted, Read, Cuttable, CutOff}
use Rattle.ground_cuts.specs.declared.Cut.{Cut}
use Rattle.ground_cuts.specs.declared.slices.Slices.{Slices}

pub read_is : (column : Column) (shift : Shift) (a b t f k : ℕ) → a < b → b < 2 ^ 16 → Shifted shift a → t ≡ thick_here a b
    → (f ≡ column_friction column (a + shift.raising - shift.lowering + (a + shift.raising - shift.lowering) + t)) × (f ≤ friction_bound)
    → k ≤ factor_bound → Read column k shift a b (record { top = a; thickness = t; friction = f; factor = k })
read_is column shift a b t f k h l s e ef lk = record {
  is =
      let mid : a + shift.raising - shift.lowering + (a + shift.raising - shift.lowering) + t ≡ a + a + t + shift.raising * 2 - shift.lowering * 2 = omega (arith, s.below) in
      rw (ef.0, mid, e);
  fits = (omega arith, (omega arith, (omega (arith, ef.1), (omega arith, tt))));
  light = mul-le-mul ef.1 lk;
}

-- the shift of a pile's site
abbrev pub shift_for : Pile → Shift
shift_for p = record { raising = raising p.grade; lowering = lowering p.grade }

-- those of a soil are by its column and factor
by_soil : (p : Pile) (s : Soil) (column : Column) (k : ℕ) → Across 7 (hundredths s) column → k ≡ factor p.method s.kind
    → (n a b : ℕ) → slice_each p (cut_from (λ m. s) n a b) ≡ slices_by column k (shift_for p) n a b
unfolding cut_from slice_each slice_of slices_by
by_soil p s column k x f zero a b = refl
by_soil p s column k x f (suc n) a b =
    ⊎_elim
    (λ (z : a < b).
    let t : ℕ = thick_here a b in
    let one : slice_of p (piece a t s) ≡ slice_by column k (shift_for p) a t = λ i. record { top = a; thickness = t; friction = sym (soil_column s column (mid_of p a t) x) i; factor = sym f i } in
    rw (lt-ltb a b z) (ap₂ (λ (y : Slice) (ys : List Slice). y ∷ ys) one (by_soil p s column k x f n (a + t) b)))
    (λ (z : b ≤ a). rw (le-ltb a b z))
    (split a b)

module _ (column : Column) (factor : ℕ) (shift : Shift) where
  -- as many turns as there are millimetres do
  enough : (k j a b : ℕ) → b - a ≤ k → b - a ≤ j → slices_by column factor shift k a b ≡ slices_by column factor shift j a b
  unfolding slices_by
  enough zero zero a b h l = refl
  enough zero (suc j) a b h l = rw (le-ltb a b (omega arith))
  enough (suc k) zero a b h l = rw (le-ltb a b (omega arith))
  enough (suc k) (suc j) a b h l =
      ⊎_elim
      (λ (z : a < b). rw (lt-ltb a b z) (ap (λ (x : List Slice). slice_by column factor shift a (thick_here a b) ∷ x) (enough k j (a + thick_here a b) b (omega arith) (omega arith))))
      (λ (z : b ≤ a). rw (le-ltb a b z))
      (split a b)

  next_is : (a b : ℕ) → a < b → slices_by column factor shift (b - a) a b ≡ slice_by column factor shift a (thick_here a b) ∷ slices_by column factor shift (b - (a + thick_here a b)) (a + thick_here a b) b
  unfolding slices_by
  next_is a b h =
      let t : ℕ = thick_here a b in
      let one : b - a ≡ suc (b - a - 1) = omega arith in
      let more : slices_by column factor shift (suc (b - a - 1)) a b ≡ slice_by column factor shift a t ∷ slices_by column factor shift (b - a - 1) (a + t) b = rw (lt-ltb a b h) in
      ap (λ (k : ℕ). slices_by column factor shift k a b) one ∙ more ∙ ap (λ (x : List Slice). slice_by column factor shift a t ∷ x) (enough (b - a - 1) (b - (a + t)) (a + t) b (omega arith) (omega arith))

  none_left : (a b : ℕ) → b ≤ a → slices_by column factor shift (b - a) a b ≡ []
  unfolding slices_by
  none_left a b h = let z : b - a ≡ 0 = omega arith in rw z

-- the slice that is cut off is the first of those that were left
first_left : {s t : Slices} {c : Slice} → CutOff s c t → left_of s ≡ c ∷ left_of t
first_left {s} {t} {c} o =
    let thick : c.thickness ≡ thick_here s.at s.end = ap (λ (x : Slice). x.thickness) o.read.is in
    next_is s.column s.factor s.shift s.at s.end o.some
    ∙ (λ i. sym o.read.is i ∷ left_of (record s { at = s.at + sym thick i }))
    ∙ ap (λ (x : Slices). c ∷ left_of x) (sym o.on)

-- of a part from a on, whose slices are `all`, what is left is s: the others stand in the table from `place` on, and are counted and added up
pub record Cutting (all : List Slice) (place a b : ℕ) (bytes₀ bytes : List ℕ) (used sum : ℕ) (s : Slices) : Type 0 where
  pub can : Cuttable s
  pub table : put_all bytes₀ place all ≡ put_all bytes used (left_of s)
  pub count : place + length all ≡ used + length (left_of s)
  pub sums : friction_sum all ≡ sum + friction_sum (left_of s)
  pub small : sum ≤ weight_bound * (s.at - a)
  pub low : a ≤ s.at
  pub high : s.at ≤ max a b
  pub end_is : s.end ≡ b
  pub long : length bytes ≡ length bytes₀

pub cutting_none : (place : ℕ) (bytes : List ℕ) {all : List Slice} {a b : ℕ} (s : Slices) → Cuttable s × (left_of s ≡ all) × (s.at ≡ a) × (s.end ≡ b)
    → Cutting all place a b bytes bytes place 0 s
cutting_none place bytes s (can, l, f, e) = record {
  can = can;
  table = ap (put_all bytes place) (sym l);
  count = omega (arith, ap length l);
  sums = omega (arith, ap friction_sum l);
  small = omega arith;
  low = omega arith;
  high = omega arith;
  end_is = e;
  long = refl;
}

module _ {all : List Slice} {place a b : ℕ} {bytes₀ bytes : List ℕ} {used sum : ℕ} {s : Slices} (g : Cutting all place a b bytes₀ bytes used sum s) where
  module _ {c : Slice} {t : Slices} (o : CutOff s c t) where
    -- a place is left for the next slice
    pub one_more : used + 1 ≤ place + length all
    one_more = omega (arith, g.count, ap length (first_left o))

    -- the sum stays in its bound
    pub sum_small : sum + weight_of c ≤ weight_bound * 2 ^ 16
    sum_small =
        let can = g.can in
        let thick : c.thickness ≡ thick_here s.at s.end = ap (λ (x : Slice). x.thickness) o.read.is in
        omega (arith, g.small, thick, can.deep, o.some, mul-le-mul_right c.thickness o.read.light)

    pub cutting_more : (w : ℕ) (e : List ℕ) → Cuttable t → w ≡ weight_of c → e ≡ put_at bytes used c → length e ≡ length bytes
        → Cutting all place a b bytes₀ e (used + 1) (sum + w) t
    unfolding put_all friction_sum
    cutting_more w e can y q l =
        let n = first_left o in
        let thick : c.thickness ≡ thick_here s.at s.end = ap (λ (x : Slice). x.thickness) o.read.is in
        let at : t.at ≡ s.at + c.thickness = ap (λ (x : Slices). x.at) o.on in
        let end : t.end ≡ s.end = ap (λ (x : Slices). x.end) o.on in
        record {
          can = can;
          table = g.table ∙ ap (put_all bytes used) n ∙ ap (λ (z : List ℕ). put_all z (used + 1) (left_of t)) (sym q);
          count = omega (arith, g.count, ap length n);
          sums = g.sums ∙ omega (arith, ap friction_sum n, y);
          small = omega (arith, g.small, g.low, y, at, mul-le-mul_right c.thickness o.read.light);
          low = omega (arith, g.low, at);
          high = omega (arith, thick, at, g.high, g.end_is, o.some);
          end_is = end ∙ g.end_is;
          long = l ∙ g.long;
        }

  pub cutting_all : s.end ≤ s.at
      → (◌≡◌ {A = Cut} (record { used = used; sum = sum }) (record { used = place + length all; sum = friction_sum all }) × (sum ≤ weight_bound * (b - a))) × (bytes ≡ put_all bytes₀ place all)
  unfolding put_all friction_sum
  cutting_all h =
      let z = none_left s.column s.factor s.shift s.at s.end h in
      let u : used ≡ place + length all = omega (arith, g.count, ap length z) in
      let v : sum ≡ friction_sum all = omega (arith, g.sums, ap friction_sum z) in
      (((λ i. record { used = u i; sum = v i }), omega (arith, g.small, g.high)), sym (g.table ∙ ap (put_all bytes used) z))

-- the slices of a soil's part, by its column and factor and the site's shift
pub soil_left : (p : Pile) (s : Soil) (column : Column) (k : ℕ) (shift : Shift) (a b : ℕ) → Across 7 (hundredths s) column → k ≡ factor p.method s.kind → shift ≡ shift_for p
    → slices_by column k shift (b - a) a b ≡ slices_in p s a b
soil_left p s column k shift a b x f e = ap (λ (h : Shift). slices_by column k h (b - a) a b) e ∙ sym (by_soil p s column k x f (b - a) a b)
