-- Pieces by rows are the pieces by millimetres.
use mathlib.Core.Path.{◌≡◌, refl, sym, ◌∙◌, ap, ap₂}
use mathlib.Core.Bool.{Bool, true, false}
use mathlib.Core.Logic.{⊎_elim}
use mathlib.Core.List.{List, [], ◌∷◌}
use Prim.Native.Nat.{ℕ, zero, suc, ◌+◌, ◌-◌, ◌<◌, ◌≤◌}
use native.Mathlib.Omega.{arith}
use lib.Dec.{eqb}
use borrow.Author.Tests.{lt-ltb, le-ltb, eq-eqb}
use Rattle.rules.specs.Base.{either, neg}
use Rattle.rules.specs.Limits.{slice_thickness}
use Rattle.rules.specs.Ground.{depth_of, same, soil_of, soil_at}
use Rattle.rules.specs.Pieces.{Piece, piece, ends, pieces_from}
use Rattle.rules.proofs.ByRows.{Positive, lead, extent, thick_at, cuts}
use Rattle.rules.specs.declared.Soil.{Soil}
use Rattle.rules.specs.declared.Row.{Row}
use Rattle.rules.proofs.Basics.{split, sure, same_eq}
use Rattle.rules.proofs.GroundLaws.{soil_here, soil_below}
use Rattle.rules.proofs.PieceLaws.{turn}

lead_on : (s : Soil) (r : Row) (rs : List Row) → same s (soil_of r) ≡ true → lead s (r ∷ rs) ≡ r.thickness + lead s rs
unfolding lead
lead_on s r rs e = rw e

lead_off : (s : Soil) (r : Row) (rs : List Row) → same s (soil_of r) ≡ false → lead s (r ∷ rs) ≡ 0
unfolding lead
lead_off s r rs e = rw e

extent_here : (r : Row) (rs : List Row) (m : ℕ) → m < r.thickness → extent (r ∷ rs) m ≡ r.thickness - m + lead (soil_of r) rs
unfolding extent
extent_here r rs m h = rw (lt-ltb m r.thickness h)

extent_below : (r : Row) (rs : List Row) (m : ℕ) → r.thickness ≤ m → extent (r ∷ rs) m ≡ extent rs (m - r.thickness)
unfolding extent
extent_below r rs m h = rw (le-ltb m r.thickness h)

lead_in : (s : Soil) (rs : List Row) (i : ℕ) → i < lead s rs → soil_at rs i ≡ s
unfolding lead
lead_in s [] i h = absurd (omega arith)
lead_in s (r ∷ rs) i h =
    ⊎_elim
    (λ (e : same s (soil_of r) ≡ true).
    let l : lead s (r ∷ rs) ≡ r.thickness + lead s rs = lead_on s r rs e in
    ⊎_elim (λ (q : i < r.thickness). soil_here r rs i q ∙ sym (same_eq s (soil_of r) e))
    (λ (q : r.thickness ≤ i). soil_below r rs i q ∙ lead_in s rs (i - r.thickness) (omega arith))
    (split i r.thickness))
    (λ (e : same s (soil_of r) ≡ false). let l : lead s (r ∷ rs) ≡ 0 = lead_off s r rs e in absurd (omega arith))
    (sure (same s (soil_of r)))

lead_out : (s : Soil) (rs : List Row) → Positive rs → lead s rs < depth_of rs → same s (soil_at rs (lead s rs)) ≡ false
unfolding depth_of
lead_out s [] p h = absurd (omega arith)
lead_out s (r ∷ rs) p h =
    ⊎_elim
    (λ (e : same s (soil_of r) ≡ true).
    let l : lead s (r ∷ rs) ≡ r.thickness + lead s rs = lead_on s r rs e in
    let b : lead s (r ∷ rs) - r.thickness ≡ lead s rs = omega arith in
    ap (same s) (soil_below r rs (lead s (r ∷ rs)) (omega arith) ∙ ap (soil_at rs) b) ∙ lead_out s rs p.1 (omega arith))
    (λ (e : same s (soil_of r) ≡ false).
    let l : lead s (r ∷ rs) ≡ 0 = lead_off s r rs e in
    ap (same s) (soil_here r rs (lead s (r ∷ rs)) (omega (arith, p.0))) ∙ e)
    (sure (same s (soil_of r)))

pub extent_in : (rs : List Row) (m i : ℕ) → m ≤ i → i < m + extent rs m → soil_at rs i ≡ soil_at rs m
unfolding extent
extent_in [] m i h l = absurd (omega arith)
extent_in (r ∷ rs) m i h l =
    ⊎_elim
    (λ (q : m < r.thickness).
    let e : extent (r ∷ rs) m ≡ r.thickness - m + lead (soil_of r) rs = extent_here r rs m q in
    ⊎_elim (λ (k : i < r.thickness). soil_here r rs i k ∙ sym (soil_here r rs m q))
    (λ (k : r.thickness ≤ i). soil_below r rs i k ∙ lead_in (soil_of r) rs (i - r.thickness) (omega arith) ∙ sym (soil_here r rs m q))
    (split i r.thickness))
    (λ (q : r.thickness ≤ m).
    let e : extent (r ∷ rs) m ≡ extent rs (m - r.thickness) = extent_below r rs m q in
    soil_below r rs i (omega arith) ∙ extent_in rs (m - r.thickness) (i - r.thickness) (omega arith) (omega arith) ∙ sym (soil_below r rs m q))
    (split m r.thickness)

pub extent_pos : (rs : List Row) (m : ℕ) → m < depth_of rs → 0 < extent rs m
unfolding depth_of
extent_pos [] m h = absurd (omega arith)
extent_pos (r ∷ rs) m h =
    ⊎_elim
    (λ (q : m < r.thickness). let e : extent (r ∷ rs) m ≡ r.thickness - m + lead (soil_of r) rs = extent_here r rs m q in omega arith)
    (λ (q : r.thickness ≤ m). rw (extent_below r rs m q) (extent_pos rs (m - r.thickness) (omega arith)))
    (split m r.thickness)

pub extent_out : (rs : List Row) (m : ℕ) → Positive rs → m + extent rs m < depth_of rs → same (soil_at rs m) (soil_at rs (m + extent rs m)) ≡ false
unfolding depth_of
extent_out [] m p h = absurd (omega arith)
extent_out (r ∷ rs) m p h =
    ⊎_elim
    (λ (q : m < r.thickness).
    let e : extent (r ∷ rs) m ≡ r.thickness - m + lead (soil_of r) rs = extent_here r rs m q in
    let b : m + extent (r ∷ rs) m - r.thickness ≡ lead (soil_of r) rs = omega arith in
    ap₂ same (soil_here r rs m q) (soil_below r rs (m + extent (r ∷ rs) m) (omega arith) ∙ ap (soil_at rs) b) ∙ lead_out (soil_of r) rs p.1 (omega arith))
    (λ (q : r.thickness ≤ m).
    let e : extent (r ∷ rs) m ≡ extent rs (m - r.thickness) = extent_below r rs m q in
    let b : m + extent (r ∷ rs) m - r.thickness ≡ m - r.thickness + extent rs (m - r.thickness) = omega arith in
    ap₂ same (soil_below r rs m q) (soil_below r rs (m + extent (r ∷ rs) m) (omega arith) ∙ ap (soil_at rs) b) ∙ extent_out rs (m - r.thickness) p.1 (omega arith))
    (split m r.thickness)

-- a piece ends where the soil changes
pub changed : (t b : Bool) → b ≡ false → either t (neg b) ≡ true
changed true b h = refl
changed false b h = rw h

-- the next piece, by rows
next : (rs : List Row) (a n : ℕ) → Positive rs → 0 < n → a + n ≤ depth_of rs
    → pieces_from (soil_at rs) a n ≡ piece a (thick_at rs a n) (soil_at rs a) ∷ pieces_from (soil_at rs) (a + thick_at rs a n) (n - thick_at rs a n)
next rs a n p z l =
    let v : 0 < extent rs a = extent_pos rs a (omega arith) in
    turn (soil_at rs) a n (thick_at rs a n) (omega arith) (omega arith) (omega arith)
    (λ k q w. extent_in rs a k q (omega arith))
    (λ w. ⊎_elim (short w) (long w) (split (extent rs a) slice_thickness))
  where
    short : thick_at rs a n < n → extent rs a < slice_thickness → ends (thick_at rs a n) (soil_at rs a) (soil_at rs (a + thick_at rs a n)) ≡ true
    short w q =
        let e : thick_at rs a n ≡ extent rs a = omega arith in
        rw e (changed (eqb (extent rs a) slice_thickness) (same (soil_at rs a) (soil_at rs (a + extent rs a))) (extent_out rs a p (omega arith)))

    long : thick_at rs a n < n → slice_thickness ≤ extent rs a → ends (thick_at rs a n) (soil_at rs a) (soil_at rs (a + thick_at rs a n)) ≡ true
    long w q = rw (eq-eqb (thick_at rs a n) slice_thickness (omega arith))

pub by_rows : (rs : List Row) (k a n : ℕ) → Positive rs → n ≤ k → a + n ≤ depth_of rs → cuts rs k a n ≡ pieces_from (soil_at rs) a n
unfolding cuts pieces_from
by_rows rs zero a n p f l = let e : n ≡ 0 = omega arith in rw e
by_rows rs (suc k) a n p f l =
    ⊎_elim
    (λ (z : 0 < n).
    let v : 0 < extent rs a = extent_pos rs a (omega arith) in
    let t : ℕ = thick_at rs a n in
    rw (lt-ltb 0 n z) (ap (λ (x : List Piece). piece a t (soil_at rs a) ∷ x) (by_rows rs k (a + t) (n - t) p (omega arith) (omega arith)) ∙ sym (next rs a n p z l)))
    (λ (z : n ≤ 0). let e : n ≡ 0 = omega arith in rw e)
    (split 0 n)
