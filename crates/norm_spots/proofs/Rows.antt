-- The row of a depth and the spot that it gives, for any list of depths.
use mathlib.Core.Path.{◌≡◌, refl, sym, ◌∙◌}
use mathlib.Core.Bool.{Bool}
use mathlib.Core.Logic.{⊎_elim}
use mathlib.Core.List.{List}
use Prim.Native.Nat.{ℕ, zero, suc, ◌+◌, ◌*◌, ◌-◌, ◌/◌, ◌<◌, ◌≤◌, min, max}
use native.Mathlib.Nat.{mul-le-mul_right, mul-pos, mul_comm, mul-sub, div-lt_iff_lt-mul, le-div_iff_mul-le}
use native.Mathlib.Omega.{arith}
use lib.Dec.{T, ltb, leb, leb→le}
use lib.ListN.{get_or}
use borrow.Author.Tests.{le-ltb}
use Rattle.rules.specs.Base.{either}
use Rattle.rules.specs.Tables.{row_for, spot_of}
use Rattle.rules.proofs.Basics.{split}
use Rattle.rules.proofs.TableLaws.{every, at, row_stops, row_goes}
use Rattle.norm_columns.specs.declared.Column.{Column}
use Rattle.norm_columns.specs.Across.{Across}
use Rattle.norm_spots.specs.Spots.{span_bound, Deepens, Clamped, Between, InTable}

-- a row and a column by one computed test over a whole table
pub grid : (n m : ℕ) (f : ℕ → ℕ → Bool) → T (every n (λ i. every m (f i))) → (i j : ℕ) → i < n → j < m → T (f i j)
grid n m f t i j h l = at m (f i) (at n (λ k. every m (f k)) t i h) j l

-- a test at every number from a on, below b
pub from : (a b : ℕ) (f : ℕ → Bool) → T (every b (λ k. either (ltb k a) (f k))) → (k : ℕ) → a ≤ k → k < b → T (f k)
from a b f t k h l = rw (le-ltb k a h) at (at b (λ i. either (ltb i a) (f i)) t k l)

-- depths that deepen, and by no more than the bound at once, by one computed test for each
pub deepens : (ds : List ℕ) (unit m : ℕ)
    → T (every (m + 1) (λ k. ltb (get_or ds k 0) (get_or ds (k + 1) 0)))
    → T (every (m + 1) (λ k. leb ((get_or ds (k + 1) 0 - get_or ds k 0) * unit) span_bound))
    → get_or ds 0 0 ≤ get_or ds (m + 1) 0 → 0 < unit → Deepens ds unit m
deepens ds unit m t u w h = record {
  step = λ i k. leb→le _ _ (at (m + 1) (λ j. ltb (get_or ds j 0) (get_or ds (j + 1) 0)) t i (omega arith));
  parts = λ i k. leb→le _ _ (at (m + 1) (λ j. leb ((get_or ds (j + 1) 0 - get_or ds j 0) * unit) span_bound) u i (omega arith));
  whole = w;
  some = h;
}

-- a depth between the first row and the last stands in the row that is found
between : (ds : List ℕ) (unit n i d : ℕ) → get_or ds i 0 * unit ≤ d → d ≤ get_or ds (i + n + 1) 0 * unit
    → Between ds unit i n d (row_for ds unit n i d)
unfolding row_for
between ds unit zero i d l h =
    let e : i + zero + 1 ≡ i + 1 = omega arith in
    record { first = omega arith; last = omega arith; low = l; high = rw e at h }
between ds unit (suc n) i d l h =
    ⊎_elim
    (λ (k : d < get_or ds (i + 1) 0 * unit).
    rw (row_stops ds unit n i d k) (record { first = omega arith; last = omega arith; low = l; high = omega arith }))
    (λ (k : get_or ds (i + 1) 0 * unit ≤ d).
    let e : i + suc n + 1 ≡ i + 1 + n + 1 = omega arith in
    let b : Between ds unit (i + 1) n d (row_for ds unit n (i + 1) d) = between ds unit n (i + 1) d k (rw e at h) in
    rw (row_goes ds unit n i d k) (record { first = omega arith; last = omega arith; low = b.low; high = b.high }))
    (split d (get_or ds (i + 1) 0 * unit))

spread : (a b unit : ℕ) → (b - a) * unit ≡ b * unit - a * unit
spread a b unit = mul_comm (b - a) unit ∙ mul-sub unit b a ∙ (rw (mul_comm unit b, mul_comm unit a))

pub found : (ds : List ℕ) (unit m d r : ℕ) → get_or ds 0 0 * unit ≤ d → d ≤ get_or ds (m + 1) 0 * unit → r ≡ row_for ds unit m 0 d → Between ds unit 0 m d r
found ds unit m d r l h e =
    let z : 0 + m + 1 ≡ m + 1 = omega arith in
    rw e (between ds unit m 0 d l (rw z h))

-- rows stand at whole metres: the row of a depth is that of its whole metres
pub by_metre : (ds : List ℕ) (unit n i d : ℕ) → 0 < unit → row_for ds unit n i d ≡ row_for ds 1 n i (d / unit)
unfolding row_for
by_metre ds unit zero i d p = refl
by_metre ds unit (suc n) i d p =
    let x : ℕ = get_or ds (i + 1) 0 in
    ⊎_elim
    (λ (h : d < x * unit). row_stops ds unit n i d h ∙ sym (row_stops ds 1 n i (d / unit) (omega (arith, (div-lt_iff_lt-mul p).1 h))))
    (λ (h : x * unit ≤ d). row_goes ds unit n i d h ∙ by_metre ds unit n (i + 1) d p ∙ sym (row_goes ds 1 n i (d / unit) (omega (arith, (le-div_iff_mul-le p).1 h))))
    (split d (x * unit))

module _ (ds : List ℕ) (unit m : ℕ) (t : Deepens ds unit m) where
  -- the depth read lies between the first row and the last
  pub clamped : (d first last depth : ℕ) → first ≡ get_or ds 0 0 * unit → last ≡ get_or ds (m + 1) 0 * unit
      → depth ≡ max first (min d last) → Clamped ds unit m d depth
  clamped d first last depth e₁ e₂ e₃ =
      rw (e₃, e₂, e₁)
      (let h : get_or ds 0 0 * unit ≤ get_or ds (m + 1) 0 * unit = mul-le-mul_right unit t.whole in
      record { is = refl; low = omega arith; high = omega arith })

  pub in_table : (c d q : ℕ) → InTable m c (spot_of ds unit m c d q)
  unfolding spot_of
  in_table c d q =
      let e : ℕ = max (get_or ds 0 0 * unit) (min d (get_or ds (m + 1) 0 * unit)) in
      let r : ℕ = row_for ds unit m 0 e in
      let l = clamped d _ _ e refl refl refl in
      let b : Between ds unit 0 m e r = found ds unit m e r l.low l.high refl in
      let h : r ≤ m = omega arith in
      let s : 0 < get_or ds (r + 1) 0 - get_or ds r 0 = omega (arith, t.step r h) in
      record {
        row = h;
        column = omega arith;
        weights = record {
          down = omega (arith, spread (get_or ds r 0) (get_or ds (r + 1) 0) unit);
          some = mul-pos s t.some;
          span = t.parts r h;
          across = omega arith;
        };
      }

-- the spot as it is worked out, step by step
pub spot_is : (ds : List ℕ) (unit m c d q depth i : ℕ) (col : Column) (above below : ℕ)
    → Clamped ds unit m d depth → i ≡ row_for ds unit m 0 depth → Across c q col → above ≡ get_or ds i 0 * unit → below ≡ get_or ds (i + 1) 0 * unit
    → record { row = i; column = col.number; down = depth - above; span = below - above; across = col.across }
    ≡ spot_of ds unit m c d q
unfolding spot_of
spot_is ds unit m c d q depth i col above below k e t f g =
    rw (g, f, ← spread (get_or ds i 0) (get_or ds (i + 1) 0) unit, t.across, t.number, e, k.is)
