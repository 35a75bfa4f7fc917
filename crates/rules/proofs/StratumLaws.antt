-- The pieces of a shaft are those of its ground's strata, and the tip's run begins at the top of its stratum.
use mathlib.Core.Path.{◌≡◌, refl, sym, ◌∙◌, ap}
use mathlib.Core.Bool.{true, false}
use mathlib.Core.Logic.{⊎_elim}
use mathlib.Core.List.{List, [], ◌∷◌, ◌++◌}
use Prim.Native.Nat.{ℕ, zero, suc, ◌+◌, ◌-◌, ◌<◌, ◌≤◌, min, max}
use native.Mathlib.Omega.{arith}
use lib.Dec.{eqb}
use borrow.Author.Tests.{lt-ltb, le-ltb, eq-eqb}
use Rattle.rules.specs.declared.Soil.{Soil}
use Rattle.rules.specs.Limits.{slice_thickness}
use Rattle.rules.specs.Ground.{same}
use Rattle.rules.specs.Pieces.{Piece, piece, stratum, strata_from, strata, top_of, cut_from, cut_part, cut_parts, ends, pieces_from, pieces, run_top}
use Rattle.rules.proofs.Basics.{split, sure, same_eq}
use Rattle.rules.proofs.PieceLaws.{turn}
use Rattle.rules.proofs.RowLaws.{changed}
use Rattle.rules.proofs.SeatLaws.{run_on, apart}

-- one soil from a to b
abbrev pub Alike : (ℕ → Soil) → Soil → ℕ → ℕ → Type 0
Alike g s a b = (m : ℕ) → a ≤ m → m < b → g m ≡ s

pub no_pieces : (g : ℕ → Soil) (a n : ℕ) → n ≡ 0 → pieces_from g a n ≡ []
unfolding pieces_from
no_pieces g a n e = rw e

-- a run of soil s from a to b that ends there is cut from a, then the rest down to the tip
run_cut : (g : ℕ → Soil) (s : Soil) (tip k a b : ℕ) → a ≤ b → b ≤ tip → b - a ≤ k → Alike g s a b → (b < tip → same s (g b) ≡ false)
    → cut_from g k a b ++ pieces_from g b (tip - b) ≡ pieces_from g a (tip - a)
unfolding cut_from
run_cut g s tip zero a b h l f c d = let e : b ≡ a = omega arith in rw e
run_cut g s tip (suc k) a b h l f c d =
    ⊎_elim
    (λ (z : a < b).
    let t : ℕ = min slice_thickness (b - a) in
    let e : tip - (a + t) ≡ tip - a - t = omega arith in
    rw (lt-ltb a b z)
    (ap (λ (x : List Piece). piece a t (g a) ∷ x) (run_cut g s tip k (a + t) b (omega arith) l (omega arith) (λ m p q. c m (omega arith) q) d)
    ∙ ap (λ (n : ℕ). piece a t (g a) ∷ pieces_from g (a + t) n) e
    ∙ sym (turn g a (tip - a) t (omega arith) (omega arith) (omega arith) (λ m p q. c m p (omega arith) ∙ sym (c a (omega arith) z)) (λ w. ⊎_elim (short z w) (long w) (split (b - a) slice_thickness)))))
    (λ (z : b ≤ a). let e : b ≡ a = omega arith in rw (le-ltb a b z, e))
    (split a b)
  where
    short : a < b → min slice_thickness (b - a) < tip - a → b - a < slice_thickness → ends (min slice_thickness (b - a)) (g a) (g (a + min slice_thickness (b - a))) ≡ true
    short z w q =
        let e : a + min slice_thickness (b - a) ≡ b = omega arith in
        rw (e, c a (omega arith) z) (changed (eqb (min slice_thickness (b - a)) slice_thickness) (same s (g b)) (d (omega arith)))

    long : min slice_thickness (b - a) < tip - a → slice_thickness ≤ b - a → ends (min slice_thickness (b - a)) (g a) (g (a + min slice_thickness (b - a))) ≡ true
    long w q = rw (eq-eqb (min slice_thickness (b - a)) slice_thickness (omega arith))

-- down to the tip from u and from v: the same place, or neither above the tip
from_there : (g : ℕ → Soil) (tip u v : ℕ) → (u < tip → u ≡ v) → (tip ≤ u → tip ≤ v) → pieces_from g u (tip - u) ≡ pieces_from g v (tip - v)
from_there g tip u v h l =
    ⊎_elim
    (λ (z : u < tip). ap (λ (a : ℕ). pieces_from g a (tip - a)) (h z))
    (λ (z : tip ≤ u). let y : tip ≤ v = l z in no_pieces g u (tip - u) (omega arith) ∙ sym (no_pieces g v (tip - v) (omega arith)))
    (split u tip)

-- the part of the stratum from a to b, then the pieces below it
part_cut : (g : ℕ → Soil) (s : Soil) (head tip a b : ℕ) (rest : List Piece) → a < b → Alike g s a b → (b < tip → same s (g b) ≡ false)
    → rest ≡ pieces_from g (max head b) (tip - max head b)
    → cut_part g head tip (stratum a b) ++ rest ≡ pieces_from g (max head a) (tip - max head a)
unfolding cut_part cut_from
part_cut g s head tip a b rest h c d e =
    ⊎_elim
    (λ (z : max head a < min tip b).
    ap (λ (x : List Piece). cut_from g (min tip b - max head a) (max head a) (min tip b) ++ x) (e ∙ from_there g tip (max head b) (min tip b) (λ w. omega arith) (λ w. omega arith))
    ∙ run_cut g s tip (min tip b - max head a) (max head a) (min tip b) (omega arith) (omega arith) (omega arith) (λ m p q. c m (omega arith) (omega arith))
    (λ w. let f : min tip b ≡ b = omega arith in rw f (d (omega arith))))
    (λ (z : min tip b ≤ max head a).
    let f : min tip b - max head a ≡ 0 = omega arith in
    rw f (e ∙ from_there g tip (max head b) (max head a) (λ w. omega arith) (λ w. omega arith)))
    (split (max head a) (min tip b))

-- a part of one soil is cut as if all the ground were that soil
alike_cut : (g : ℕ → Soil) (s : Soil) (k a b : ℕ) → Alike g s a b → cut_from g k a b ≡ cut_from (λ m. s) k a b
unfolding cut_from
alike_cut g s zero a b c = refl
alike_cut g s (suc k) a b c =
    ⊎_elim
    (λ (z : a < b).
    let t : ℕ = min slice_thickness (b - a) in
    rw (lt-ltb a b z, c a (omega arith) z) (ap (λ (x : List Piece). piece a t s ∷ x) (alike_cut g s k (a + t) b (λ m p q. c m (omega arith) q))))
    (λ (z : b ≤ a). rw (le-ltb a b z))
    (split a b)

-- what is left of the shaft from a stratum's top on: its part of the shaft, then what is left from its bottom on
pub stratum_cut : (g : ℕ → Soil) (s : Soil) (head tip a b : ℕ) → a < b → Alike g s a b → (b < tip → same s (g b) ≡ false)
    → pieces_from g (max head a) (tip - max head a) ≡ cut_from (λ m. s) (min tip b - max head a) (max head a) (min tip b) ++ pieces_from g (max head b) (tip - max head b)
unfolding cut_part
stratum_cut g s head tip a b h c d =
    sym (part_cut g s head tip a b _ h c d refl)
    ∙ ap (λ (x : List Piece). x ++ pieces_from g (max head b) (tip - max head b)) (alike_cut g s (min tip b - max head a) (max head a) (min tip b) (λ m p q. c m (omega arith) (omega arith)))

-- an open stratum with one more millimetre of its soil, and one that begins
longer : (g : ℕ → Soil) (a b : ℕ) → Alike g (g a) a b → g b ≡ g a → Alike g (g a) a (b + 1)
longer g a b c e m p q = ⊎_elim (λ (z : m < b). c m p z) (λ (z : b ≤ m). let f : m ≡ b = omega arith in ap g f ∙ e) (split m b)

opened : (g : ℕ → Soil) (b : ℕ) → Alike g (g b) b (b + 1)
opened g b m p q = let f : m ≡ b = omega arith in ap g f

module _ (g : ℕ → Soil) (head tip : ℕ) where
  parts_cut : (n a b : ℕ) → a < b → tip ≤ b + n → Alike g (g a) a b → cut_parts g head tip (strata_from g n a b) ≡ pieces_from g (max head a) (tip - max head a)
  unfolding strata_from cut_parts
  parts_cut zero a b h l c = part_cut g (g a) head tip a b [] h c (λ w. absurd (omega arith)) (sym (no_pieces g (max head b) (tip - max head b) (omega arith)))
  parts_cut (suc n) a b h l c =
      ⊎_elim
      (λ (e : same (g a) (g b) ≡ true). rw e (parts_cut n a (b + 1) (omega arith) (omega arith) (longer g a b c (sym (same_eq (g a) (g b) e)))))
      (λ (e : same (g a) (g b) ≡ false). rw e (part_cut g (g a) head tip a b _ h c (λ w. e) (parts_cut n b (b + 1) (omega arith) (omega arith) (opened g b))))
      (sure (same (g a) (g b)))

  -- "The part of each stratum between head and tip is cut from its top into slices of 2,000 mm; the last takes what is left"
  pub cut_by_strata : (depth : ℕ) → tip ≤ depth → pieces g head tip ≡ cut_parts g head tip (strata g depth)
  unfolding pieces strata cut_parts
  cut_by_strata zero l = no_pieces g head (tip - head) (omega arith)
  cut_by_strata (suc n) l =
      let e : max head 0 ≡ head = omega arith in
      sym (rw e at (parts_cut n 0 1 (omega arith) (omega arith) (opened g 0)))

-- a run that begins at a stratum's top ends there, going up
begins : (g : ℕ → Soil) (a : ℕ) → (0 < a → same (g (a - 1)) (g a) ≡ false) → run_top g (g a) a ≡ a
unfolding run_top
begins g zero d = refl
begins g (suc n) d = apart g (g (suc n - 1)) (g (suc n)) (suc n) (λ w. refl) (d (omega arith))

module _ (g : ℕ → Soil) (m : ℕ) where
  pub top_here : (a b : ℕ) → a ≤ m → m < b → Alike g (g a) a b → (0 < a → same (g (a - 1)) (g a) ≡ false) → run_top g (g m) m ≡ a
  top_here a b h l c d =
      let e : a + (m - a) ≡ m = omega arith in
      rw (c m h l) (rw e at (run_on g (g a) a (m - a) (λ k p q. c k p (omega arith))) ∙ begins g a d)

  top_from_lem : (n a b : ℕ) → a < b → a ≤ m → m < b + n → Alike g (g a) a b → (0 < a → same (g (a - 1)) (g a) ≡ false) → run_top g (g m) m ≡ top_of (strata_from g n a b) m
  unfolding strata_from top_of
  top_from_lem zero a b h k l c d = rw (lt-ltb m b (omega arith)) (top_here a b k (omega arith) c d)
  top_from_lem (suc n) a b h k l c d =
      ⊎_elim
      (λ (e : same (g a) (g b) ≡ true). rw e (top_from_lem n a (b + 1) (omega arith) k (omega arith) (longer g a b c (sym (same_eq (g a) (g b) e))) d))
      (λ (e : same (g a) (g b) ≡ false).
      ⊎_elim
      (λ (z : m < b). rw (e, lt-ltb m b z) (top_here a b k z c d))
      (λ (z : b ≤ m). rw (e, le-ltb m b z) (top_from_lem n b (b + 1) (omega arith) z (omega arith) (opened g b) (λ w. rw (c (b - 1) (omega arith) (omega arith)) e)))
      (split m b))
      (sure (same (g a) (g b)))

  -- The run of its soil above a millimetre begins at the top of the stratum that holds it.
  pub top_of_stratum : (depth : ℕ) → m < depth → run_top g (g m) m ≡ top_of (strata g depth) m
  unfolding strata
  top_of_stratum zero l = absurd (omega arith)
  top_of_stratum (suc n) l = top_from_lem n 0 1 (omega arith) (omega arith) (omega arith) (opened g 0) (λ w. absurd (omega arith))
