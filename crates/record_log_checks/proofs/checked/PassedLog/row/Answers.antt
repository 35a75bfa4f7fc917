-- The bytes of a row that a log has lie in it.
use Rattle.std.proofs.Common.{arith}
use Rattle.record_log_checks.proofs.CheckedLaws.{row_fits}
use Rattle.record_log_checks.proofs.checked.PassedLog.row.Goals as goal

pub overflow_mul-number : goal.overflow_mul-number
overflow_mul-number c = omega (arith, row_fits _ _ c.args.self.passed c.requires)

pub overflow_add-number : goal.overflow_add-number
overflow_add-number c = omega (arith, row_fits _ _ c.args.self.passed c.requires)

pub row_inside-requires : goal.row_inside-requires
row_inside-requires c = row_fits _ _ c.args.self.passed c.requires
