-- A refusal leaves no number and no slice.
use Rattle.std.proofs.Common.{refl, sym, ◌∙◌}
use Rattle.rules.specs.Packed.{rows_of}
use Rattle.rules.specs.Calculation.{fresh_answer}
use Rattle.record_slice_table.proofs.TableLaws.{filled_none}
use Rattle.answer_work.proofs.WorkLaws.{none_worked}
use Rattle.answer_work.proofs.work_out.Goals as goal

pub returns-then-is_err : goal.returns-then-is_err
unfolding fresh_answer
returns-then-is_err c =
    let w = none_worked (rows_of c.args.checked.log.bytes.now) _ c.args.extra _ c.work_pile-work.ensures.refusal (sym c.is_err.ensures.value ∙ c.if-is_err.true) in
    record {
      refusal = rw (← c.take_pile.ensures) c.work_pile-work.ensures.refusal;
      worked = rw (← c.take_pile.ensures, w.0, w.1, w.2) (refl, refl);
      table = rw (← c.take_pile.ensures, w.1, c.clear_table.ensures, c.work_pile-work.auto.table) (filled_none _).1;
    }
