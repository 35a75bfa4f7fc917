-- What is worked out, check by check: the first check that refuses decides, and past them all the numbers stand.
use Rattle.rules.specs.declared.SandNumbers.{SandNumbers}
use Rattle.std.specs.Prelude.{Option, Result, Ok, Err}
use Rattle.std.specs.Result.{is_err}
use mathlib.Core.Path.{◌≡◌, refl, sym, ◌∙◌, ap}
use mathlib.Core.Bool.{Bool, true, false, true≢false}
use mathlib.Core.List.{List, []}
use Prim.Native.Nat.{ℕ, zero, suc, ◌/◌, ◌≤◌}
use native.Mathlib.Omega.{arith}
use Rattle.rules.specs.declared.Refusal.{Refusal}
use Rattle.rules.specs.declared.Row.{Row}
use Rattle.rules.specs.declared.Soil.{Soil}
use Rattle.rules.specs.declared.Pile.{Pile}
use Rattle.rules.specs.declared.faults.Fault.{Fault}
use Rattle.rules.specs.declared.faults.Fault.TheVariants.{Length, Unused, Row as RowFault, TooDeep, Section, Method, Depths, LogShort, SandUnread, SeatShort, TooSoft, Dashed, NamesNothing, Full, SandWrong}
use Rattle.rules.specs.Base.{pick, nothing, refuses, first}
use Rattle.rules.specs.Faults.{refusal_of, refusal_in}
use Rattle.rules.specs.Ground.{depth_of, same, soil_at}
use Rattle.rules.specs.Pieces.{run_top}
use Rattle.rules.specs.Numbers.{resistance}
use Rattle.rules.specs.Checks.{ground_checks}
use Rattle.rules.specs.Answers.{numbers, answer, held_slices}
use Rattle.rules.specs.Calculation.{answer_of, held_slices_of}
use Rattle.rules.proofs.Groups.{pile_checks, early, late, checks_from, ground_grouped}
use Rattle.rules.proofs.AnswerLaws.{Clear, clear}
use Rattle.ground_shaft.specs.declared.Shaft.{Shaft}
use Rattle.ground_shaft.specs.Shafts.{cut_of, shaft_of}
use Rattle.answer_work.specs.declared.Worked.{Worked}
use Rattle.answer_work.specs.Outcomes.{answer_in, used_in}
use Rattle.answer_checks.specs.Depths.{depth_checks}

top_le : (g : ℕ → Soil) (s : Soil) (n : ℕ) → run_top g s n ≤ n
unfolding run_top
top_le g s zero = omega arith
top_le g s (suc n) = go (same s (g n)) (top_le g s n)
  where
    go : (t : Bool) → run_top g s n ≤ n → pick t (run_top g s n) (suc n) ≤ suc n
    go true h = omega arith
    go false h = omega arith

-- a stratum begins above what it holds
pub shaft_top : (rs : List Row) (p : Pile) (c : Shaft) → c ≡ shaft_of rs p → c.top ≤ p.tip
unfolding shaft_of
shaft_top rs p c e = rw e (top_le (soil_at rs) (soil_at rs p.tip) p.tip)

-- each fault refuses
pub fault_refuses : (fault : Fault) → refuses (refusal_of fault) ≡ true
fault_refuses Length = refl
fault_refuses Unused = refl
fault_refuses (RowFault row field) = refl
fault_refuses TooDeep = refl
fault_refuses (Section field) = refl
fault_refuses Method = refl
fault_refuses Depths = refl
fault_refuses LogShort = refl
fault_refuses SandUnread = refl
fault_refuses SeatShort = refl
fault_refuses TooSoft = refl
fault_refuses Dashed = refl
fault_refuses NamesNothing = refl
fault_refuses Full = refl
fault_refuses SandWrong = refl

module _ (p : Pile) (depth : ℕ) where
  early_is : nothing ≡ pile_checks p → early depth p ≡ depth_checks depth p
  unfolding early first depth_checks
  early_is a = rw (← a)

  -- past checks 5 to 8
  pub cleared : nothing ≡ pile_checks p → nothing ≡ depth_checks depth p → Clear depth p
  cleared a b = clear depth p (ap refuses (early_is a ∙ sym b))

module _ (rs : List Row) (p : Pile) (extra : Option SandNumbers) where
  abbrev checks : Refusal
  checks = ground_checks (soil_at rs) (depth_of rs) p extra

  -- by 5 or 6
  pub by_pile : (fault : Fault) → refusal_of fault ≡ pile_checks p → refusal_of fault ≡ checks
  unfolding checks_from early first
  by_pile fault a = rw (ground_grouped (soil_at rs) (depth_of rs) p extra, ← a, fault_refuses fault, fault_refuses fault)

  -- by 7 or 8
  pub by_depth : (fault : Fault) → nothing ≡ pile_checks p → refusal_of fault ≡ depth_checks (depth_of rs) p → refusal_of fault ≡ checks
  unfolding checks_from first
  by_depth fault a b = rw (ground_grouped (soil_at rs) (depth_of rs) p extra, early_is p (depth_of rs) a, ← b, fault_refuses fault)

  -- by the checks of the tip, or by none
  pub by_tip : nothing ≡ pile_checks p → nothing ≡ depth_checks (depth_of rs) p → late (shaft_of rs p).soil (shaft_of rs p).top p extra ≡ checks
  unfolding checks_from first shaft_of
  by_tip a b = rw (ground_grouped (soil_at rs) (depth_of rs) p extra, early_is p (depth_of rs) a, ← b)

  -- what stands past all checks
  pub answer_is : nothing ≡ checks → answer_of rs p extra ≡ numbers (shaft_of rs p).soil p (resistance p extra (shaft_of rs p).soil) ((shaft_of rs p).sum / 2000000)
  unfolding answer_of answer shaft_of
  answer_is e = rw (← e)

  pub slices_are : nothing ≡ checks → held_slices_of rs p extra ≡ cut_of rs p
  unfolding held_slices_of held_slices
  slices_are e = rw (← e)

  -- and what a refusal leaves
  pub none_worked : (r : Result Worked Fault) → refusal_in r ≡ checks → is_err r ≡ true → (answer_of rs p extra ≡ answer_in r) × (held_slices_of rs p extra ≡ []) × (used_in r ≡ 0)
  unfolding answer_of answer held_slices_of held_slices
  none_worked (Ok work) e h = absurd (true≢false (sym h))
  none_worked (Err fault) e h = (rw (← e, fault_refuses fault), rw (← e, fault_refuses fault), refl)
