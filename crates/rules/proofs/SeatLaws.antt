-- The top of the tip's stratum by rows is the one by millimetres.
use mathlib.Core.Path.{◌≡◌, refl, sym, ◌∙◌, ap, ap₂}
use mathlib.Core.Bool.{true, false, true≢false}
use mathlib.Core.Logic.{⊎_elim}
use mathlib.Core.List.{List, [], ◌∷◌}
use Prim.Native.Nat.{ℕ, zero, suc, ◌+◌, ◌-◌, ◌<◌, ◌≤◌}
use native.Mathlib.Omega.{arith}
use borrow.Author.Tests.{lt-ltb, le-ltb}
use Rattle.rules.specs.Base.{pick}
use Rattle.rules.specs.Ground.{depth_of, same, none, soil_of, soil_at}
use Rattle.rules.specs.Pieces.{run_top}
use Rattle.rules.proofs.ByRows.{Positive, top_from, top_at}
use Rattle.rules.specs.declared.Soil.{Soil}
use Rattle.rules.specs.declared.Row.{Row}
use Rattle.rules.proofs.Basics.{split, sure, same_eq, same_of}
use Rattle.rules.proofs.GroundLaws.{soil_here, soil_below}

-- a run goes on over its own soil
pub run_on : (g : ℕ → Soil) (s : Soil) (b m : ℕ) → ((k : ℕ) → b ≤ k → k < b + m → g k ≡ s) → run_top g s (b + m) ≡ run_top g s b
unfolding run_top
run_on g s b zero c = let e : b + zero ≡ b = omega arith in rw e
run_on g s b (suc m) c =
    let e : b + suc m ≡ suc (b + m) = omega arith in
    rw (e, same_of s (g (b + m)) (sym (c (b + m) (omega arith) (omega arith)))) (run_on g s b m (λ k p q. c k p (omega arith)))

-- and begins where another soil ends
pub apart : (g : ℕ → Soil) (s r : Soil) (b : ℕ) → (0 < b → g (b - 1) ≡ s) → same s r ≡ false → run_top g r b ≡ b
unfolding run_top
apart g s r zero k e = refl
apart g s r (suc b) k e =
    let p : suc b - 1 ≡ b = omega arith in
    let q : g b ≡ s = rw p at (k (omega arith)) in
    ⊎_elim
    (λ (x : same r (g b) ≡ true). absurd (true≢false (sym (same_of s r (sym (same_eq r (g b) x ∙ q))) ∙ e)))
    (λ (x : same r (g b) ≡ false). rw x)
    (sure (same r (g b)))

-- the run above b, for the soil of the row that begins at b
turned : (g : ℕ → Soil) (s r : Soil) (q b : ℕ) → run_top g s b ≡ q → (0 < b → g (b - 1) ≡ s) → run_top g r b ≡ pick (same s r) q b
turned g s r q b h k =
    ⊎_elim
    (λ (e : same s r ≡ true). rw e (ap (λ (x : Soil). run_top g x b) (sym (same_eq s r e)) ∙ h))
    (λ (e : same s r ≡ false). rw e (apart g s r b k e))
    (sure (same s r))

top_here : (r : Row) (rs : List Row) (s : Soil) (q b m : ℕ) → m < b + r.thickness → top_from (r ∷ rs) s q b m ≡ pick (same s (soil_of r)) q b
unfolding top_from
top_here r rs s q b m h = rw (lt-ltb m (b + r.thickness) h)

top_below : (r : Row) (rs : List Row) (s : Soil) (q b m : ℕ) → b + r.thickness ≤ m → top_from (r ∷ rs) s q b m ≡ top_from rs (soil_of r) (pick (same s (soil_of r)) q b) (b + r.thickness) m
unfolding top_from
top_below r rs s q b m h = rw (le-ltb m (b + r.thickness) h)

top_from_is : (rs : List Row) (g : ℕ → Soil) (s : Soil) (q b m : ℕ) → Positive rs → b ≤ m → m < b + depth_of rs
    → ((k : ℕ) → b ≤ k → g k ≡ soil_at rs (k - b)) → run_top g s b ≡ q → (0 < b → g (b - 1) ≡ s) → top_from rs s q b m ≡ run_top g (g m) m
unfolding depth_of
top_from_is [] g s q b m p l h c a d = absurd (omega arith)
top_from_is (r ∷ rs) g s q b m p l h c a d =
    let v : ℕ = pick (same s (soil_of r)) q b in
    let z : 0 < r.thickness = p.0 in
    let t : run_top g (soil_of r) b ≡ v = turned g s (soil_of r) q b a d in
    let own : (k : ℕ) → b ≤ k → k < b + r.thickness → g k ≡ soil_of r = λ k x y. c k x ∙ soil_here r rs (k - b) (omega arith) in
    ⊎_elim
    (λ (i : m < b + r.thickness).
    let e : b + (m - b) ≡ m = omega arith in
    top_here r rs s q b m i ∙ sym t ∙ sym (run_on g (soil_of r) b (m - b) (λ k x y. own k x (omega arith)))
    ∙ ap₂ (run_top g) (sym (own m l i)) e)
    (λ (i : b + r.thickness ≤ m).
    top_below r rs s q b m i
    ∙ top_from_is rs g (soil_of r) v (b + r.thickness) m p.1 i (omega arith)
    (λ k x. let f : k - b - r.thickness ≡ k - (b + r.thickness) = omega arith in c k (omega arith) ∙ soil_below r rs (k - b) (omega arith) ∙ ap (soil_at rs) f)
    (run_on g (soil_of r) b r.thickness own ∙ t)
    (λ x. own (b + r.thickness - 1) (omega arith) (omega arith)))
    (split m (b + r.thickness))

pub top_is : (rs : List Row) (m : ℕ) → Positive rs → m < depth_of rs → top_at rs m ≡ run_top (soil_at rs) (soil_at rs m) m
unfolding run_top
top_is rs m p h =
    top_from_is rs (soil_at rs) none 0 0 m p (omega arith) (omega arith) (λ k x. let f : k ≡ k - 0 = omega arith in ap (soil_at rs) f) refl (λ x. absurd (omega arith))
