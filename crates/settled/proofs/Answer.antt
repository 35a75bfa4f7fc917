-- That each contract of the layer answer settles its reply.
use Rattle.std.specs.Prelude.{ℕ, Option, Some, Result, IfOk, unwrap_or}
use mathlib.Core.Path.{◌≡◌, sym, ◌∙◌, ap, subst}
use Rattle.rules.specs.declared.faults.Fault.{Fault}
use Rattle.rules.specs.Faults.{refusal_in}
use Rattle.answer_work.specs.Outcomes.{answer_in, used_in}
use Rattle.settled.proofs.Outcomes.{one_check, one_outcome, one_reply}
use Rattle.answer_work.specs.declared.Worked.{Worked}
use Rattle.settled.proofs.Settled.{Settled}
use Rattle.answer_numbers.proofs as answer_numbers
use Rattle.answer_checks.proofs as answer_checks
use Rattle.answer_tips.proofs as answer_tips
use Rattle.answer_work.proofs as answer_work
use Rattle.answer_calculation.proofs as answer_calculation

pub line_of : Settled answer_numbers.line_of.Kinds.ps answer_numbers.line_of.Kinds.r answer_numbers.line_of.Reads.Pre answer_numbers.line_of.Reads.Learnt
line_of _ _ _ h g = cc

pub five_numbers : Settled answer_numbers.five_numbers.Kinds.ps answer_numbers.five_numbers.Kinds.r answer_numbers.five_numbers.Reads.Pre answer_numbers.five_numbers.Reads.Learnt
five_numbers _ _ _ h g = cc

pub depth_refusal : Settled answer_checks.depth_refusal.Kinds.ps answer_checks.depth_refusal.Kinds.r answer_checks.depth_refusal.Reads.Pre answer_checks.depth_refusal.Reads.Learnt
depth_refusal _ b d h g = one_check b.value d.value (h ∙ sym g)

pub sand_refusal : Settled answer_checks.sand_refusal.Kinds.ps answer_checks.sand_refusal.Kinds.r answer_checks.sand_refusal.Reads.Pre answer_checks.sand_refusal.Reads.Learnt
sand_refusal _ b d h g = one_check b.value d.value (h ∙ sym g)

one_read : (read : Option ℕ) (r q : Result ℕ Fault) → refusal_in r ≡ refusal_in q → IfOk r (λ x. read ≡ Some x) → IfOk q (λ x. read ≡ Some x) → r ≡ q
one_read read r q h x y = one_reply r q h (λ a b e f. ap (λ o. unwrap_or o a) (sym (subst (λ t. IfOk t (λ x. read ≡ Some x)) e x) ∙ subst (λ t. IfOk t (λ x. read ≡ Some x)) f y))

pub clay_refusal : Settled answer_checks.clay_refusal.Kinds.ps answer_checks.clay_refusal.Kinds.r answer_checks.clay_refusal.Reads.Pre answer_checks.clay_refusal.Reads.Learnt
clay_refusal _ b d h g = one_read _ b.value d.value (h.0 ∙ sym g.0) h.1 g.1

pub work_tip : Settled answer_tips.work_tip.Kinds.ps answer_tips.work_tip.Kinds.r answer_tips.work_tip.Reads.Pre answer_tips.work_tip.Reads.Learnt
work_tip _ b d h g = one_outcome _ b.value d.value (h.refusal ∙ sym g.refusal) h.resistance g.resistance

worked : {r q : Worked} → r.answer ≡ q.answer → r.used ≡ q.used → r ≡ q
worked a u = λ i. record { answer = a i; used = u i }

one_work : (r q : Result Worked Fault) → refusal_in r ≡ refusal_in q → answer_in r ≡ answer_in q → used_in r ≡ used_in q → r ≡ q
one_work r q h x y = one_reply r q h (λ a b e f. worked (sym (ap answer_in e) ∙ x ∙ ap answer_in f) (sym (ap used_in e) ∙ y ∙ ap used_in f))

pub work_out : Settled answer_work.work_out.Kinds.ps answer_work.work_out.Kinds.r answer_work.work_out.Reads.Pre answer_work.work_out.Reads.Learnt
work_out _ b d h g = (one_work b.value d.value (cc) (cc) (cc), cc)

pub calculate : Settled answer_calculation.calculate.Kinds.ps answer_calculation.calculate.Kinds.r answer_calculation.calculate.Reads.Pre answer_calculation.calculate.Reads.Learnt
calculate _ _ _ h g = (cc, cc)
