-- The refusal of a reply is the first of its checks in order.
use Rattle.rules.specs.declared.SandNumbers.{SandNumbers}
use Rattle.std.specs.Prelude.{Option}
use mathlib.Core.Path.{◌≡◌, refl, sym, ◌∙◌, ap}
use mathlib.Core.Bool.{Bool, true, false}
use mathlib.Core.List.{List, [], ◌∷◌, ◌++◌}
use Prim.Native.Nat.{ℕ}
use lib.ListN.{drop}
use Rattle.rules.specs.declared.Answer.{Answer}
use Rattle.rules.specs.declared.Refusal.{Refusal}
use Rattle.rules.specs.declared.Soil.{Soil}
use Rattle.rules.specs.declared.Pile.{Pile}
use Rattle.rules.specs.Base.{pick, nothing, refuses, first, when, first_of}
use Rattle.rules.specs.Packed.{rows_of, pile_of}
use Rattle.rules.specs.Ground.{soil_at, depth_of}
use Rattle.rules.specs.Numbers.{shaft_slices, below_tip, resistance, line_of}
use Rattle.rules.specs.Edits.{Edit, edited_log}
use Rattle.rules.specs.Checks.{one_to_four, five_on, section_check, lengths_wrong, lent_checks, ground_checks, calculation_checks, edit_checks}
use Rattle.rules.specs.Answers.{refused, numbers, answer}
use Rattle.rules.specs.Calculation.{answer_of, fresh_answer, calculated}
use Rattle.rules.specs.EditReplies.{edit_answer, edit_reply}
use Rattle.rules.proofs.RefusalLaws.{first_off, first_right, first_assoc, when_off, when_false}

-- one list of checks after another
pub order_append : (r : Refusal) (rs : List Refusal) (t : Refusal) (ts : List Refusal) → first_of r (rs ++ (t ∷ ts)) ≡ first (first_of r rs) (first_of t ts)
order_append r [] t ts = refl
order_append r (x ∷ rs) t ts = ap (first r) (order_append x rs t ts) ∙ sym (first_assoc r (first_of x rs) (first_of t ts))

-- where no check refuses, the last tells nothing
pub last_off : (r : Refusal) (rs : List Refusal) (t : Refusal) → (refuses t ≡ false → t ≡ nothing) → refuses (first_of r (rs ++ (t ∷ []))) ≡ false → first_of r (rs ++ (t ∷ [])) ≡ nothing
last_off r [] t h k = let o = first_off r t k in first_right r t o.0 ∙ h o.1
last_off r (x ∷ rs) t h k = let o = first_off r (first_of x (rs ++ (t ∷ []))) k in first_right r _ o.0 ∙ last_off x rs t h o.1

pick_refusal : (r : Refusal) (full : Answer) → full.refusal ≡ nothing → (refuses r ≡ false → r ≡ nothing) → (pick (refuses r) (refused r) full).refusal ≡ r
pick_refusal r full f h = go (refuses r) refl
  where
    go : (t : Bool) → refuses r ≡ t → (pick t (refused r) full).refusal ≡ r
    go true e = refl
    go false e = f ∙ sym (h e)

then_refusal : (r : Refusal) (a : Answer) → (pick (refuses r) (refused r) a).refusal ≡ first r a.refusal
unfolding first
then_refusal r a = go (refuses r)
  where
    go : (t : Bool) → (pick t (refused r) a).refusal ≡ pick t r a.refusal
    go true = refl
    go false = refl

ground_none : (g : ℕ → Soil) (depth : ℕ) (p : Pile) (extra : Option SandNumbers) → refuses (ground_checks g depth p extra) ≡ false → ground_checks g depth p extra ≡ nothing
unfolding ground_checks
ground_none g depth p extra h = last_off _ (_ ∷ _ ∷ _ ∷ _ ∷ _ ∷ _ ∷ _ ∷ []) (when _ 12) (λ k. when_false 12 _ (when_off 11 _ k)) h

pub answer_refusal : (g : ℕ → Soil) (depth : ℕ) (p : Pile) (extra : Option SandNumbers) → (answer g depth p extra).refusal ≡ ground_checks g depth p extra
unfolding answer numbers
answer_refusal g depth p extra =
    let soil = g (below_tip p) in
    pick_refusal (ground_checks g depth p extra) (numbers soil p (resistance p extra soil) (line_of (shaft_slices g p))) refl (ground_none g depth p extra)

-- of a calculation: of what is lent, then of the pile in its ground; and as one list
module _ (log pile : List ℕ) (extra : Option SandNumbers) (table : List ℕ) where
  pub two_groups : (calculated log pile extra table).refusal ≡ first (lent_checks log pile table) (ground_checks (soil_at (rows_of log)) (depth_of (rows_of log)) (pile_of pile) extra)
  unfolding calculated fresh_answer answer_of
  two_groups = then_refusal (lent_checks log pile table) (fresh_answer log pile extra) ∙ ap (first (lent_checks log pile table)) (answer_refusal (soil_at (rows_of log)) (depth_of (rows_of log)) (pile_of pile) extra)

  pub calculation_refusal : (calculated log pile extra table).refusal ≡ calculation_checks log pile extra table
  unfolding calculation_checks lent_checks ground_checks
  calculation_refusal =
      let p = pile_of pile in
      two_groups ∙ sym (order_append _ (drop 1 (one_to_four (lengths_wrong log pile table) log)) (section_check p) (drop 1 (five_on (soil_at (rows_of log)) (depth_of (rows_of log)) p extra)))

-- of an edit: its own checks, then those of the pile in the ground that it leaves
pub edit_refusal : (e : Edit) (log pile : List ℕ) (extra : Option SandNumbers) (table : List ℕ)
    → (edit_reply e log pile extra table).refusal ≡ first (edit_checks e log pile table) (ground_checks (soil_at (rows_of (edited_log e log))) (depth_of (rows_of (edited_log e log))) (pile_of pile) extra)
unfolding edit_reply edit_answer fresh_answer answer_of
edit_refusal e log pile extra table =
    then_refusal (edit_checks e log pile table) (edit_answer (edited_log e log) pile extra table)
    ∙ ap (first (edit_checks e log pile table)) (answer_refusal _ _ (pile_of pile) extra)
