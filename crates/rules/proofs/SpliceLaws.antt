-- A splice of the rows, each law once for the four edits: length, ranges, depth, and the ground that a split leaves.
use mathlib.Core.Path.{◌≡◌, sym, ◌∙◌, ap}
use mathlib.Core.Logic.{⊎_elim}
use mathlib.Core.List.{List, [], ◌∷◌, ◌++◌}
use Prim.Native.Nat.{ℕ, zero, suc, ◌+◌, ◌-◌, ◌<◌, ◌≤◌}
use native.Mathlib.Omega.{arith}
use native.Mathlib.Numerals.{add-one}
use lib.ListN.{length, get_or, take, drop, length-append, length-drop}
use lib.Seq.{drop-drop, length-take-le, split_at}
use Rattle.rules.specs.declared.Row.{Row}
use Rattle.rules.specs.Packed.{no_row}
use Rattle.rules.specs.Ground.{depth_of, soil_at, Agree}
use Rattle.rules.specs.Edits.{part, splice}
use Rattle.rules.proofs.Basics.{split}
use Rattle.rules.proofs.GroundLaws.{soil_here, soil_below}
use Rattle.rules.proofs.RangeLaws.{Fit, fit_append, fit_take, fit_drop}

pub depth_append : (rs ts : List Row) → depth_of (rs ++ ts) ≡ depth_of rs + depth_of ts
unfolding depth_of
depth_append [] ts = omega arith
depth_append (r ∷ rs) ts = omega (arith, depth_append rs ts)

pub depth_parts : (rs : List Row) (i : ℕ) → depth_of (take i rs) + depth_of (drop i rs) ≡ depth_of rs
unfolding depth_of
depth_parts rs zero = omega arith
depth_parts [] (suc i) = omega arith
depth_parts (r ∷ rs) (suc i) = omega (arith, depth_parts rs i)

module _ (i g : ℕ) (come rs : List Row) where
  pub splice_length : i + g ≤ length rs → length (splice i g come rs) + g ≡ length rs + length come
  splice_length h = simp (length-append, length-drop) (omega (arith, length-take-le i rs (omega arith)))

  pub splice_fit : Fit come → Fit rs → Fit (splice i g come rs)
  splice_fit f h = fit_append (take i rs) (come ++ drop (i + g) rs) (fit_take i rs h) (fit_append come (drop (i + g) rs) f (fit_drop (i + g) rs h))

  -- what goes and what comes
  pub splice_depth : depth_of (splice i g come rs) + depth_of (take g (drop i rs)) ≡ depth_of rs + depth_of come
  splice_depth =
      let d : depth_of (drop g (drop i rs)) ≡ depth_of (drop (i + g) rs) = ap depth_of (drop-drop g i rs) in
      omega (arith, depth_append (take i rs) (come ++ drop (i + g) rs), depth_append come (drop (i + g) rs), depth_parts rs i, depth_parts (drop i rs) g)

-- rows behind equal rows
same_below : (qs rs ts : List Row) → Agree rs ts → Agree (qs ++ rs) (qs ++ ts)
unfolding depth_of
same_below [] rs ts h = h
same_below (q ∷ qs) rs ts h =
    let i : Agree (qs ++ rs) (qs ++ ts) = same_below qs rs ts h in (
      ap (λ (x : ℕ). q.thickness + x) i.0,
      λ m l. ⊎_elim
          (λ (a : m < q.thickness). soil_here q (qs ++ rs) m a ∙ sym (soil_here q (qs ++ ts) m a))
          (λ (a : q.thickness ≤ m). soil_below q (qs ++ rs) m a ∙ i.1 (m - q.thickness) (omega arith) ∙ sym (soil_below q (qs ++ ts) m a))
          (split m q.thickness),
    )

-- a row in two parts
two_parts : (r : Row) (rs : List Row) (x : ℕ) → x ≤ r.thickness → Agree (r ∷ rs) (part x r ∷ part (r.thickness - x) r ∷ rs)
unfolding depth_of
two_parts r rs x h = (omega arith, λ m l. one m)
  where
    one : (m : ℕ) → soil_at (r ∷ rs) m ≡ soil_at (part x r ∷ part (r.thickness - x) r ∷ rs) m
    one m =
        ⊎_elim
        (λ (a : m < x). soil_here r rs m (omega arith) ∙ sym (soil_here (part x r) (part (r.thickness - x) r ∷ rs) m a))
        (λ (a : x ≤ m). ⊎_elim
        (λ (b : m < r.thickness). soil_here r rs m b ∙ sym (soil_below (part x r) (part (r.thickness - x) r ∷ rs) m a ∙ soil_here (part (r.thickness - x) r) rs (m - x) (omega arith)))
        (λ (b : r.thickness ≤ m).
        let e : m - x - (r.thickness - x) ≡ m - r.thickness = omega arith in
        soil_below r rs m b ∙ sym (soil_below (part x r) (part (r.thickness - x) r ∷ rs) m a ∙ soil_below (part (r.thickness - x) r) rs (m - x) (omega arith) ∙ ap (soil_at rs) e))
        (split m r.thickness))
        (split m x)

-- a row split in two, or two merged back into one, leave the ground as it was
pub split_agrees : (rs : List Row) (i x : ℕ) → i < length rs → x ≤ (get_or rs i no_row).thickness
    → Agree rs (splice i 1 (part x (get_or rs i no_row) ∷ part ((get_or rs i no_row).thickness - x) (get_or rs i no_row) ∷ []) rs)
split_agrees rs i x h k =
    let r : Row = get_or rs i no_row in
    let e : rs ≡ take i rs ++ r ∷ drop (i + 1) rs = rw add-one (split_at rs i no_row h) in
    let a : Agree (take i rs ++ r ∷ drop (i + 1) rs) (take i rs ++ part x r ∷ part (r.thickness - x) r ∷ drop (i + 1) rs)
    = same_below (take i rs) (r ∷ drop (i + 1) rs) (part x r ∷ part (r.thickness - x) r ∷ drop (i + 1) rs) (two_parts r (drop (i + 1) rs) x k) in
    rw (← e) at a
