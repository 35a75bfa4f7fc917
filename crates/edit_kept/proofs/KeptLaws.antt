-- The law of kept: so many slices are the same, and the next of those that are used differs.
use mathlib.Core.Path.{◌≡◌, refl, ap, sym, ◌∙◌}
use mathlib.Core.Bool.{Bool, true, false}
use mathlib.Core.List.{List, [], ◌∷◌}
use mathlib.Core.Logic.{◌⊎◌, inl, inr, ⊎_elim}
use Prim.Native.Nat.{ℕ, zero, suc, ◌+◌, ◌*◌, ◌<◌, ◌≤◌}
use native.Mathlib.Omega.{arith}
use lib.ListN.{take, drop}
use lib.Seq.{drop-drop}
use lib.Dec.{eqb}
use borrow.Author.Tests.{eq-eqb, eqb-true}
use Rattle.rules.specs.Records.{slice_size}
use Rattle.rules.specs.EditReplies.{same_bytes, kept}

-- slice k of a table
abbrev pub slice_of : List ℕ → ℕ → List ℕ
slice_of s k = take slice_size (drop (k * slice_size) s)

next : (s : List ℕ) (k : ℕ) → slice_of (drop slice_size s) k ≡ slice_of s (suc k)
next s k =
    let e : slice_size + k * slice_size ≡ suc k * slice_size = omega arith in
    rw (drop-drop (k * slice_size) slice_size s, e)

same_self : (s : List ℕ) → same_bytes s s ≡ true
unfolding same_bytes
same_self [] = refl
same_self (b ∷ s) = rw (eq-eqb b b refl, same_self s)

known : (t : Bool) → (t ≡ true) ⊎ (t ≡ false)
known true = inl refl
known false = inr refl

same_never : (s t : List ℕ) → (s ≡ t → ⊥) → same_bytes s t ≡ false
unfolding same_bytes
same_never [] [] h = absurd (h refl)
same_never [] (b ∷ t) h = refl
same_never (b ∷ s) [] h = refl
same_never (b ∷ s) (a ∷ t) h = ⊎_elim (λ (e : eqb b a ≡ true). rw (e, same_never s t (λ f. h (cc (eqb-true b a e, f))))) (λ (e : eqb b a ≡ false). rw e) (known (eqb b a))

pub kept_is : (n : ℕ) (new lent : List ℕ) (m : ℕ) → m ≤ n → ((k : ℕ) → k < m → slice_of new k ≡ slice_of lent k) → (m < n → slice_of new m ≡ slice_of lent m → ⊥) → m ≡ kept n new lent
unfolding kept
kept_is zero new lent m h s d = omega arith
kept_is (suc n) new lent zero h s d = rw (same_never (take slice_size new) (take slice_size lent) (d (omega arith)))
kept_is (suc n) new lent (suc m) h s d =
    let e : take slice_size new ≡ take slice_size lent = s 0 (omega arith) in
    let on : m ≡ kept n (drop slice_size new) (drop slice_size lent) =
    kept_is n (drop slice_size new) (drop slice_size lent) m (omega arith) (λ k g. next new k ∙ s (suc k) (omega arith) ∙ sym (next lent k)) (λ g f. d (omega arith) (sym (next new m) ∙ f ∙ next lent m)) in
    rw (e, same_self (take slice_size lent)) (ap suc on)
