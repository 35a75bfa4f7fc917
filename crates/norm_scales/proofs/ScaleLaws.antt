-- Where a reading stands on a printed scale, by the step of its whole units.
use mathlib.Core.Path.{◌≡◌, sym, ◌∙◌, ap, subst}
use mathlib.Core.Bool.{Bool, true}
use mathlib.Core.List.{List}
use Prim.Native.Nat.{ℕ, ◌+◌, ◌*◌, ◌-◌, ◌/◌, ◌<◌, ◌≤◌, min, max}
use native.Mathlib.Nat.{mul-le-mul_left, mul-le-mul_right, mul_comm, le-div_iff_mul-le, div-le_of_le-mul}
use native.Mathlib.Omega.{arith}
use lib.Dec.{T, eqb, eqb→eq, ltb, leb, leb→le}
use lib.ListN.{length, get_or}
use Rattle.rules.specs.declared.OnScale.{OnScale}
use Rattle.rules.specs.Tables.{row_for, spot_of}
use Rattle.rules.specs.SandTips.{on_scale}
use Rattle.rules.proofs.TableLaws.{every, at, both_left, both_right}
use Rattle.norm_spots.specs.Spots.{span_bound, Deepens, Clamped, Between, InTable}
use Rattle.norm_spots.proofs.Rows.{by_metre, clamped, found, in_table}
use Rattle.norm_scales.specs.declared.Step.{Step}
use Rattle.norm_scales.specs.Scales.{step_of, Marked, mark_bound, is_scale}

-- marks that rise from the first to the last, by steps that stay within bounds in the finest parts
record Scale (first last finest : ℕ) (marks : List ℕ) : Type 0 where
  begins : get_or marks 0 0 ≡ first
  ends : get_or marks (length marks - 2 + 1) 0 ≡ last
  whole : first ≤ last
  most : last * finest ≤ mark_bound
  rises : (i : ℕ) → i ≤ length marks - 2 → get_or marks i 0 < get_or marks (i + 1) 0
  apart : (i : ℕ) → i ≤ length marks - 2 → (get_or marks (i + 1) 0 - get_or marks i 0) * finest ≤ span_bound

-- by the computed test
scale : (first last finest : ℕ) (marks : List ℕ) → is_scale first last finest marks ≡ true → Scale first last finest marks
scale first last finest marks e =
    let m : ℕ = length marks - 2 in
    let rise : ℕ → Bool = λ k. ltb (get_or marks k 0) (get_or marks (k + 1) 0) in
    let near : ℕ → Bool = λ k. leb ((get_or marks (k + 1) 0 - get_or marks k 0) * finest) span_bound in
    let t : T (is_scale first last finest marks) = subst T (sym e) tt in
    let t₁ = both_right (eqb (get_or marks 0 0) first) _ t in
    let t₂ = both_right (eqb (get_or marks (m + 1) 0) last) _ t₁ in
    let t₃ = both_right (leb first last) _ t₂ in
    let t₄ = both_right (leb (last * finest) mark_bound) _ t₃ in
    record {
      begins = eqb→eq _ _ (both_left (eqb (get_or marks 0 0) first) _ t);
      ends = eqb→eq _ _ (both_left (eqb (get_or marks (m + 1) 0) last) _ t₁);
      whole = leb→le _ _ (both_left (leb first last) _ t₂);
      most = leb→le _ _ (both_left (leb (last * finest) mark_bound) _ t₃);
      rises = λ i k. leb→le _ _ (at (m + 1) rise (both_left (every (m + 1) rise) (every (m + 1) near) t₄) i (omega arith));
      apart = λ i k. leb→le _ _ (at (m + 1) near (both_right (every (m + 1) rise) (every (m + 1) near) t₄) i (omega arith));
    }

module _ (first last finest : ℕ) (marks : List ℕ) (test : is_scale first last finest marks ≡ true) (unit : ℕ) (p : 0 < unit) (h : unit ≤ finest) where
  s : Scale first last finest marks
  s = scale first last finest marks test

  rise : Deepens marks unit (length marks - 2)
  rise = record {
    step = s.rises;
    parts = λ i k. omega (arith, mul-le-mul_left (get_or marks (i + 1) 0 - get_or marks i 0) h, s.apart i k);
    whole = omega (arith, s.begins, s.ends, s.whole);
    some = p;
  }

  -- the first mark and the last in parts
  pub within : (first * unit ≤ last * unit) × (last * unit ≤ mark_bound)
  within = let r = mul-le-mul_left last h in (mul-le-mul_right unit s.whole, omega (arith, r, s.most))

  stands : (n : ℕ) → Marked (length marks - 2) (on_scale marks unit n)
  unfolding on_scale
  stands n =
      let t : InTable (length marks - 2) 0 (spot_of marks unit (length marks - 2) 0 n 0) = in_table marks unit (length marks - 2) rise 0 n 0 in
      record { place = t.row; past = t.weights.down; some = t.weights.some; span = t.weights.span }

  -- low and high: the first mark and the last, as a program has them
  module _ (n read low high : ℕ) (a : low ≡ first) (b : high ≡ last) (e : read ≡ max (low * unit) (min n (high * unit))) where
    clamp : Clamped marks unit (length marks - 2) n read
    clamp = clamped marks unit (length marks - 2) rise n _ _ read (ap (λ (x : ℕ). x * unit) (a ∙ sym s.begins)) (ap (λ (x : ℕ). x * unit) (b ∙ sym s.ends)) e

    -- its whole units have a step
    pub whole_units : (first ≤ read / unit) × (read / unit ≤ last)
    whole_units =
        let above : first * unit ≤ read = rw s.begins at clamp.low in
        let below : read ≤ last * unit = rw s.ends at clamp.high in
        (omega (arith, (le-div_iff_mul-le p).1 above), div-le_of_le-mul unit (rw (mul_comm last unit) at below))

    -- and that step has its marks around the reading
    module _ (t : Step) (q : t ≡ step_of marks (length marks - 2) (read / unit)) where
      around : Between marks unit 0 (length marks - 2) read (row_for marks 1 (length marks - 2) 0 (read / unit))
      around = found marks unit (length marks - 2) read _ clamp.low clamp.high (sym (by_metre marks unit (length marks - 2) 0 read p))

      pub fits : (t.mark * unit ≤ read) × (t.mark ≤ t.next) × ((t.next - t.mark) * unit ≤ span_bound)
      fits =
          let i = row_for marks 1 (length marks - 2) 0 (read / unit) in
          let below : i ≤ length marks - 2 = omega (arith, around.last) in
          rw q (around.low, omega (arith, s.rises i below), rise.parts i below)

      pub standing : (r : OnScale) → r ≡ record { place = t.place; past = read - t.mark * unit; span = (t.next - t.mark) * unit } → (r ≡ on_scale marks unit n) × Marked (length marks - 2) r
      unfolding on_scale spot_of
      standing r f =
          let is : r ≡ on_scale marks unit n = f ∙ rw (q, ← by_metre marks unit (length marks - 2) 0 read p, clamp.is) in
          (is, subst (Marked (length marks - 2)) (sym is) (stands n))
