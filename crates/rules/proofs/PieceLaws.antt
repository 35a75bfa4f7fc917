-- The walk over millimetres, a piece at a time.
use mathlib.Core.Path.{◌≡◌, sym, ◌∙◌, ap}
use mathlib.Core.Bool.{true, false}
use mathlib.Core.Logic.{⊎_elim}
use mathlib.Core.List.{◌∷◌}
use Prim.Native.Nat.{ℕ, zero, suc, ◌+◌, ◌-◌, ◌<◌, ◌≤◌}
use native.Mathlib.Omega.{arith}
use borrow.Author.Tests.{ne_eqb}
use Rattle.rules.specs.declared.Soil.{Soil}
use Rattle.rules.specs.Limits.{slice_thickness}
use Rattle.rules.specs.Pieces.{piece, ends, walk, pieces_from}
use Rattle.rules.proofs.Basics.{split, same_of}

-- an open piece goes on over its own soil
pub stays : (t : ℕ) (s u : Soil) → t < slice_thickness → u ≡ s → ends t s u ≡ false
stays t s u h e =
    let n : t ≡ slice_thickness → ⊥ = λ (q : t ≡ slice_thickness). omega arith in
    rw (ne_eqb t slice_thickness n, same_of s u (sym e))

pub hold : (g : ℕ → Soil) (s : Soil) (a n m t : ℕ) → t + n ≤ slice_thickness → ((k : ℕ) → a + t ≤ k → k < a + t + n → g k ≡ s) → walk g (n + m) a t s ≡ walk g m a (t + n) s
unfolding walk
hold g s a zero m t h c =
    let e : zero + m ≡ m = omega arith in
    let f : t + zero ≡ t = omega arith in
    rw (e, f)
hold g s a (suc n) m t h c =
    let e : suc n + m ≡ suc (n + m) = omega arith in
    let f : t + suc n ≡ t + 1 + n = omega arith in
    rw (e, f, stays t s (g (a + t)) (omega arith) (c (a + t) (omega arith) (omega arith)))
    (hold g s a n m (t + 1) (omega arith) (λ k p q. c k (omega arith) (omega arith)))

-- the next piece is t thick if its soil goes on that far, and it ends there
pub turn : (g : ℕ → Soil) (a n t : ℕ) → 0 < t → t ≤ slice_thickness → t ≤ n → ((k : ℕ) → a ≤ k → k < a + t → g k ≡ g a)
    → (t < n → ends t (g a) (g (a + t)) ≡ true)
    → pieces_from g a n ≡ piece a t (g a) ∷ pieces_from g (a + t) (n - t)
unfolding pieces_from walk
turn g a n t z h l c d = ⊎_elim inside last (split t n)
  where
    inside : t < n → pieces_from g a n ≡ piece a t (g a) ∷ pieces_from g (a + t) (n - t)
    inside b =
        let e : n ≡ suc ((t - 1) + suc (n - t - 1)) = omega arith in
        let f : n - t ≡ suc (n - t - 1) = omega arith in
        let j : 1 + (t - 1) ≡ t = omega arith in
        let w : walk g ((t - 1) + suc (n - t - 1)) a 1 (g a) ≡ walk g (suc (n - t - 1)) a t (g a)
        = rw j at (hold g (g a) a (t - 1) (suc (n - t - 1)) 1 (omega arith) (λ k p q. c k (omega arith) (omega arith))) in
        let x : pieces_from g a n ≡ walk g (suc (n - t - 1)) a t (g a) = ap (pieces_from g a) e ∙ w in
        let y : walk g (suc (n - t - 1)) a t (g a) ≡ piece a t (g a) ∷ walk g (n - t - 1) (a + t) 1 (g (a + t)) = rw (d b) in
        x ∙ y ∙ ap (λ (k : ℕ). piece a t (g a) ∷ pieces_from g (a + t) k) (sym f)

    last : n ≤ t → pieces_from g a n ≡ piece a t (g a) ∷ pieces_from g (a + t) (n - t)
    last b =
        let e : n ≡ suc ((t - 1) + 0) = omega arith in
        let f : n - t ≡ 0 = omega arith in
        let j : 1 + (t - 1) ≡ t = omega arith in
        let w : walk g ((t - 1) + 0) a 1 (g a) ≡ walk g 0 a t (g a)
        = rw j at (hold g (g a) a (t - 1) 0 1 (omega arith) (λ k p q. c k (omega arith) (omega arith))) in
        ap (pieces_from g a) e ∙ w ∙ ap (λ (k : ℕ). piece a t (g a) ∷ pieces_from g (a + t) k) (sym f)
