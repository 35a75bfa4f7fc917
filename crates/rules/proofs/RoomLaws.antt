-- The table has places enough: in a log of at most n rows that goes down to the tip, a shaft down to at most 40,000 mm has at most n + 19 slices.
use Rattle.rules.specs.declared.SandNumbers.{SandNumbers}
use Rattle.std.specs.Prelude.{Option}
use mathlib.Core.Path.{◌≡◌, refl, sym, ◌∙◌, ap}
use mathlib.Core.Bool.{Bool, true, false, true≢false}
use mathlib.Core.Logic.{◌⊎◌, inl, inr, ⊎_elim}
use mathlib.Core.List.{List, [], ◌∷◌}
use Prim.Native.Nat.{ℕ, zero, suc, ◌+◌, ◌-◌, ◌/◌, ◌<◌, ◌≤◌}
use native.Mathlib.Omega.{arith}
use lib.ListN.{length}
use lib.Dec.{ltb, eqb}
use borrow.Author.Tests.{lt-ltb, le-ltb, eqb-true, eqb-false}
use Rattle.rules.specs.Base.{pick, either, neg, refuses}
use Rattle.rules.specs.Limits.{limit_of, places_for, tip_limit, slice_thickness}
use Rattle.rules.specs.Packed.{rows_of, pile_of}
use Rattle.rules.specs.Ground.{depth_of, same, soil_at}
use Rattle.rules.specs.Pieces.{Piece, piece, ends, walk, pieces_from, pieces}
use Rattle.rules.specs.Numbers.{slice_each, shaft_slices}
use Rattle.rules.specs.Checks.{ground_checks, Passed}
use Rattle.rules.specs.Answers.{held_slices}
use Rattle.rules.specs.Calculation.{held_slices_of}
use Rattle.rules.specs.declared.Soil.{Soil}
use Rattle.rules.specs.declared.Row.{Row}
use Rattle.rules.specs.declared.Pile.{Pile}
use Rattle.rules.proofs.Basics.{split, same_eq, same_of}
use Rattle.rules.proofs.GroundLaws.{soil_here, soil_below}
use Rattle.rules.proofs.RefusalLaws.{first_off}
use Rattle.rules.proofs.Groups.{early, checks_from, ground_grouped}
use Rattle.rules.proofs.PassedLaws.{known}
use Rattle.rules.proofs.AnswerLaws.{clear}

-- the rows from the one that holds millimetre m down
unfoldable rank : List Row → ℕ → ℕ
rank [] m = 0
rank (r ∷ rs) m = let below = rank rs (m - r.thickness) in pick (ltb m r.thickness) (suc (length rs)) below

rank_here : (r : Row) (rs : List Row) (m : ℕ) → m < r.thickness → rank (r ∷ rs) m ≡ suc (length rs)
unfolding rank
rank_here r rs m h = rw (lt-ltb m r.thickness h)

rank_below : (r : Row) (rs : List Row) (m : ℕ) → r.thickness ≤ m → rank (r ∷ rs) m ≡ rank rs (m - r.thickness)
unfolding rank
rank_below r rs m h = rw (le-ltb m r.thickness h)

rank_most : (rs : List Row) (m : ℕ) → rank rs m ≤ length rs
unfolding rank
rank_most [] m = omega arith
rank_most (r ∷ rs) m =
    ⊎_elim (λ (q : m < r.thickness). omega (arith, rank_here r rs m q))
    (λ (q : r.thickness ≤ m). omega (arith, rank_below r rs m q, rank_most rs (m - r.thickness)))
    (split m r.thickness)

rank_some : (rs : List Row) (m : ℕ) → m < depth_of rs → 0 < rank rs m
unfolding depth_of
rank_some [] m h = absurd (omega arith)
rank_some (r ∷ rs) m h =
    ⊎_elim (λ (q : m < r.thickness). omega (arith, rank_here r rs m q))
    (λ (q : r.thickness ≤ m). omega (arith, rank_below r rs m q, rank_some rs (m - r.thickness) (omega arith)))
    (split m r.thickness)

-- a millimetre on: the soil stays, or a row is left behind
abbrev Onward : (ℕ → Soil) → (ℕ → ℕ) → Type 0
Onward g c = (m : ℕ) → (c (m + 1) < c m) ⊎ ((g (m + 1) ≡ g m) × (c (m + 1) ≡ c m))

onward : (rs : List Row) → Onward (soil_at rs) (rank rs)
unfolding soil_at rank
onward [] m = inr (refl, refl)
onward (r ∷ rs) m =
    ⊎_elim
    (λ (q : m + 1 < r.thickness).
    inr (soil_here r rs (m + 1) q ∙ sym (soil_here r rs m (omega arith)), rank_here r rs (m + 1) q ∙ sym (rank_here r rs m (omega arith))))
    (λ (q : r.thickness ≤ m + 1).
    ⊎_elim (λ (k : m < r.thickness). inl (omega (arith, rank_below r rs (m + 1) q, rank_most rs (m + 1 - r.thickness), rank_here r rs m k)))
    (λ (k : r.thickness ≤ m).
    let e : m + 1 - r.thickness ≡ m - r.thickness + 1 = omega arith in
    let x : soil_at (r ∷ rs) (m + 1) ≡ soil_at rs (m - r.thickness + 1) = soil_below r rs (m + 1) q ∙ ap (soil_at rs) e in
    let y : rank (r ∷ rs) (m + 1) ≡ rank rs (m - r.thickness + 1) = rank_below r rs (m + 1) q ∙ ap (rank rs) e in
    let z : rank (r ∷ rs) m ≡ rank rs (m - r.thickness) = rank_below r rs m k in
    ⊎_elim (λ l. inl (rw (y, z) l)) (λ l. inr (x ∙ l.0 ∙ sym (soil_below r rs m k), y ∙ l.1 ∙ sym z)) (onward rs (m - r.thickness)))
    (split m r.thickness))
    (split (m + 1) r.thickness)

pick_length : {A : Type 0} (b : Bool) (xs ys : List A) (n : ℕ) → (b ≡ true → length xs ≤ n) → (b ≡ false → length ys ≤ n) → length (pick b xs ys) ≤ n
pick_length true xs ys n p q = p refl
pick_length false xs ys n p q = q refl

either_off : (a b : Bool) → either a (neg b) ≡ false → (a ≡ false) × (b ≡ true)
either_off true b e = absurd (true≢false e)
either_off false true e = (refl, refl)
either_off false false e = absurd (true≢false e)

either_on : (a b : Bool) → b ≡ true → either a (neg b) ≡ true → a ≡ true
either_on true b h e = refl
either_on false b h e = absurd (true≢false (sym e ∙ ap neg h))

-- the open piece has t millimetres, the last of them m
module _ (g : ℕ → Soil) (c : ℕ → ℕ) (e : ℕ) (on : Onward g c) (some : (m : ℕ) → m < e → 0 < c m) where
  room_walk : (n a t m : ℕ) (s : Soil) → a + t ≡ m + 1 → t ≤ slice_thickness → s ≡ g m → m + n < e → length (walk g n a t s) ≤ c m + (t + n - 1) / slice_thickness
  unfolding walk
  room_walk zero a t m s p h q l = omega (arith, some m (omega arith))
  room_walk (suc n) a t m s p h q l =
      rw p
      (pick_length (ends t s (g (m + 1))) (piece a t s ∷ walk g n (m + 1) 1 (g (m + 1))) (walk g n a (t + 1) s) (c m + (t + suc n - 1) / slice_thickness)
      (λ b.
      let i : length (walk g n (m + 1) 1 (g (m + 1))) ≤ c (m + 1) + (1 + n - 1) / slice_thickness = room_walk n (m + 1) 1 (m + 1) (g (m + 1)) (omega arith) (omega arith) refl (omega arith) in
      ⊎_elim (λ (k : c (m + 1) < c m). omega arith)
      (λ (k : (g (m + 1) ≡ g m) × (c (m + 1) ≡ c m)).
      let f : t ≡ slice_thickness = eqb-true t slice_thickness (either_on (eqb t slice_thickness) (same s (g (m + 1))) (same_of s (g (m + 1)) (q ∙ sym k.0)) b) in
      omega (arith, k.1))
      (on m))
      (λ b.
      let o = either_off (eqb t slice_thickness) (same s (g (m + 1))) b in
      let f : t ≡ slice_thickness → ⊥ = eqb-false t slice_thickness o.0 in
      let i : length (walk g n a (t + 1) s) ≤ c (m + 1) + (t + 1 + n - 1) / slice_thickness
      = room_walk n a (t + 1) (m + 1) s (omega arith) (omega (arith, f)) (same_eq s (g (m + 1)) o.1) (omega arith) in
      ⊎_elim (λ (k : c (m + 1) < c m). omega arith) (λ (k : (g (m + 1) ≡ g m) × (c (m + 1) ≡ c m)). omega (arith, k.1)) (on m)))

  room_from : (a n : ℕ) → n ≤ e - a → n ≤ tip_limit → length (pieces_from g a n) ≤ places_for (c a)
  unfolding pieces_from
  room_from a zero l h = omega arith
  room_from a (suc n) l h = omega (arith, room_walk n a 1 a (g a) refl (omega arith) refl (omega arith))

-- a log of at most n rows that goes down to the tip, a tip of at most 40,000: at most n + 19 slices
pub room : (rs : List Row) (head tip n : ℕ) → length rs ≤ n → tip ≤ depth_of rs → tip ≤ tip_limit → length (pieces (soil_at rs) head tip) ≤ places_for n
unfolding pieces
room rs head tip n k d h =
    omega (arith, room_from (soil_at rs) (rank rs) (depth_of rs) (onward rs) (rank_some rs) head (tip - head) (omega arith) (omega arith), rank_most rs head)

-- as many slices as pieces
slices_length : (p : Pile) (cs : List Piece) → length (slice_each p cs) ≡ length cs
unfolding slice_each
slices_length p [] = refl
slices_length p (c ∷ cs) = ap suc (slices_length p cs)

pub slices_room : (rs : List Row) (p : Pile) (n : ℕ) → length rs ≤ n → p.tip ≤ depth_of rs → p.tip ≤ tip_limit → length (shaft_slices (soil_at rs) p) ≤ places_for n
slices_room rs p n k d h = rw (slices_length p (pieces (soil_at rs) p.head p.tip)) (room rs p.head p.tip n k d h)

-- what is held has places: 7 and 8 see to the tip's limit and the log's depth, and where a check refuses nothing is held
pub held_room : (rs : List Row) (p : Pile) (extra : Option SandNumbers) (n : ℕ) → length rs ≤ n → length (held_slices_of rs p extra) ≤ places_for n
unfolding held_slices_of held_slices checks_from
held_room rs p extra n k =
    pick_length (refuses (ground_checks (soil_at rs) (depth_of rs) p extra)) [] (shaft_slices (soil_at rs) p) (places_for n)
    (λ h. omega arith)
    (λ h.
    let c = clear (depth_of rs) p (first_off (early (depth_of rs) p) _ (rw (ground_grouped (soil_at rs) (depth_of rs) p extra) at h)).0 in
    slices_room rs p n k (omega (arith, c.deep)) c.near)

-- of a log past its checks, by its own form
pub log_room : (log pile : List ℕ) (extra : Option SandNumbers) → Passed log → length (held_slices_of (rows_of log) (pile_of pile) extra) ≤ places_for (limit_of log)
log_room log pile extra h = let k = known log h in held_room (rows_of log) (pile_of pile) extra (limit_of log) (omega (arith, k.rows, k.few))
