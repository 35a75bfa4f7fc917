-- The answer and the slices by rows are those by millimetres; only millimetres matter.
use Rattle.rules.specs.declared.SandNumbers.{SandNumbers}
use Rattle.std.specs.Prelude.{Option}
use mathlib.Core.Path.{◌≡◌, refl, sym, ◌∙◌, ap, ap₂}
use mathlib.Core.Bool.{Bool, true, false, true≢false}
use mathlib.Core.Logic.{⊎_elim}
use mathlib.Core.List.{List, []}
use Prim.Native.Nat.{ℕ, ◌+◌, ◌-◌, ◌<◌, ◌≤◌}
use native.Mathlib.Omega.{arith}
use lib.Dec.{ltb, leb}
use borrow.Author.Tests.{ltb-false, leb-false}
use Rattle.rules.specs.declared.Soil.{Soil}
use Rattle.rules.specs.declared.Row.{Row}
use Rattle.rules.specs.declared.Pile.{Pile}
use Rattle.rules.specs.declared.Slice.{Slice}
use Rattle.rules.specs.declared.Answer.{Answer}
use Rattle.rules.specs.declared.Refusal.{Refusal}
use Rattle.rules.specs.Base.{pick, refuses, first, when}
use Rattle.rules.specs.Limits.{tip_limit}
use Rattle.rules.specs.Grades.{cut_depth}
use Rattle.rules.specs.Ground.{depth_of, soil_at, Agree}
use Rattle.rules.specs.Pieces.{pieces, run_top}
use Rattle.rules.specs.Numbers.{slice_each, resistance, line_of, below_tip, shaft_slices}
use Rattle.rules.specs.Checks.{depths_wrong, log_short, ground_checks}
use Rattle.rules.specs.Answers.{refused, numbers, answer, held_slices}
use Rattle.rules.specs.Calculation.{answer_of, held_slices_of}
use Rattle.rules.proofs.Groups.{pile_checks, early, checks_from, answer_from, slices_from, answer_grouped, slices_grouped}
use Rattle.rules.proofs.ByRows.{Positive, cuts_of, top_at, answer_rows, slices_rows}
use Rattle.rules.proofs.Basics.{sure}
use Rattle.rules.proofs.RefusalLaws.{first_off, when_off, either_left, either_right}
use Rattle.rules.proofs.GroundLaws.{one_ground}
use Rattle.rules.proofs.RowLaws.{by_rows}
use Rattle.rules.proofs.SeatLaws.{top_is}

-- what holds where 5 to 8 refuse nothing
pub record Clear (depth : ℕ) (p : Pile) : Type 0 where
  pub good : refuses (pile_checks p) ≡ false
  pub order : p.head < p.tip
  pub far : 3000 ≤ p.tip
  pub near : p.tip ≤ tip_limit
  pub level : cut_depth p.grade ≤ p.head
  pub deep : p.tip + 5000 ≤ depth

pub clear : (depth : ℕ) (p : Pile) → refuses (early depth p) ≡ false → Clear depth p
unfolding early
clear depth p e =
    let r = first_off (pile_checks p) (first (when (depths_wrong p) 7) (when (log_short depth p) 8)) e in
    let q = first_off (when (depths_wrong p) 7) (when (log_short depth p) 8) r.1 in
    let a : depths_wrong p ≡ false = when_off 6 (depths_wrong p) q.0 in
    let b = either_right (leb p.tip p.head) _ a in
    let d = either_right (ltb p.tip 3000) _ b in
    let graded = either_right (ltb tip_limit p.tip) _ d in
    record {
      good = r.0;
      order = leb-false p.tip p.head (either_left _ _ a);
      far = ltb-false p.tip 3000 (either_left _ _ b);
      near = ltb-false tip_limit p.tip (either_left _ _ d);
      level = ltb-false p.head (cut_depth p.grade) (either_left _ _ graded);
      deep = ltb-false depth (p.tip + 5000) (when_off 7 (log_short depth p) q.1);
    }

-- a refusal by 5 to 8 asks for nothing else
early_alone : (depth : ℕ) (at at' : Soil) (top top' : ℕ) (cut cut' : List Slice) (p : Pile) (extra : Option SandNumbers) → refuses (early depth p) ≡ true
    → (answer_from depth at top cut p extra ≡ answer_from depth at' top' cut' p extra) × (slices_from depth at top cut p extra ≡ slices_from depth at' top' cut' p extra)
unfolding answer_from slices_from checks_from first
early_alone depth at at' top top' cut cut' p extra h = (simp h, simp h)

module _ (rs : List Row) (p : Pile) (w : Positive rs) where
  pub cuts_are : Clear (depth_of rs) p → cuts_of rs p ≡ slice_each p (pieces (soil_at rs) p.head p.tip)
  unfolding pieces
  cuts_are c = ap (slice_each p) (by_rows rs (p.tip - p.head) p.head (p.tip - p.head) w (omega arith) (omega (arith, c.order, c.deep)))

module _ (rs : List Row) (p : Pile) (extra : Option SandNumbers) (w : Positive rs) where
  both_rows : (answer_rows rs p extra ≡ answer_of rs p extra) × (slices_rows rs p extra ≡ held_slices_of rs p extra)
  unfolding answer_rows answer_of slices_rows held_slices_of
  both_rows =
      rw (answer_grouped (soil_at rs) (depth_of rs) p extra, slices_grouped (soil_at rs) (depth_of rs) p extra)
      (⊎_elim
      (λ (h : refuses (early (depth_of rs) p) ≡ true). early_alone (depth_of rs) _ _ _ _ _ _ p extra h)
      (λ (h : refuses (early (depth_of rs) p) ≡ false).
      let c : Clear (depth_of rs) p = clear (depth_of rs) p h in
      let t : top_at rs (below_tip p) ≡ run_top (soil_at rs) (soil_at rs (below_tip p)) (below_tip p) = top_is rs (below_tip p) w (omega (arith, c.deep)) in (
        ap₂ (λ (t : ℕ) (l : List Slice). answer_from (depth_of rs) (soil_at rs (below_tip p)) t l p extra) t (cuts_are rs p w c),
        ap₂ (λ (t : ℕ) (l : List Slice). slices_from (depth_of rs) (soil_at rs (below_tip p)) t l p extra) t (cuts_are rs p w c),
      ))
      (sure (refuses (early (depth_of rs) p))))

  -- typing does not matter: the answer along the rows is the answer of the ground
  pub answer_by_rows : answer_rows rs p extra ≡ answer_of rs p extra
  answer_by_rows = both_rows.0

  pub slices_by_rows : slices_rows rs p extra ≡ held_slices_of rs p extra
  slices_by_rows = both_rows.1

-- Two logs that are equally deep and agree at every millimetre have equal answers and equal slices for the same pile record.
pub only_millimetres : (rs ts : List Row) (p : Pile) (extra : Option SandNumbers) → Agree rs ts → (answer_of rs p extra ≡ answer_of ts p extra) × (held_slices_of rs p extra ≡ held_slices_of ts p extra)
unfolding answer_of held_slices_of
only_millimetres rs ts p extra h = (
  ap₂ (λ (g : ℕ → Soil) (d : ℕ). answer g d p extra) (one_ground rs ts h) h.0,
  ap₂ (λ (g : ℕ → Soil) (d : ℕ). held_slices g d p extra) (one_ground rs ts h) h.0,
)

-- under 5 to 12 and 17 every number is zero, and no slice is held
module _ (g : ℕ → Soil) (depth : ℕ) (p : Pile) (extra : Option SandNumbers) where
  refused_by_lem : (t : Bool) (r : Refusal) (full : Answer) → refuses full.refusal ≡ false → t ≡ refuses r → refuses (pick t (refused r) full).refusal ≡ true
      → (pick t (refused r) full ≡ refused (pick t (refused r) full).refusal) × (pick t [] (shaft_slices g p) ≡ [])
  refused_by_lem true r full f e h = (refl, refl)
  refused_by_lem false r full f e h = absurd (true≢false (sym h ∙ f))

  pub refused_ground : refuses (answer g depth p extra).refusal ≡ true → (answer g depth p extra ≡ refused (answer g depth p extra).refusal) × (held_slices g depth p extra ≡ [])
  unfolding answer held_slices numbers
  refused_ground h =
      let r : Refusal = ground_checks g depth p extra in
      let soil = g (below_tip p) in
      refused_by_lem (refuses r) r (numbers soil p (resistance p extra soil) (line_of (shaft_slices g p))) refl refl h
