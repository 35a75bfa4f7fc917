-- The table is copied before the log is worked out into it; kept is counted in what that leaves against the copy, and is 0 under a refusal.
use Rattle.std.proofs.Common.{ℕ, List, length, ◌∙◌, ap, arith}
use Rattle.rules.specs.Answers.{refused}
use Rattle.rules.specs.Faults.{refusal_of}
use Rattle.edit_hold.proofs.HoldLaws.{room, few, held, none_held}
use Rattle.edit_hold.proofs.hold.Goals as goal

pub table_copy-old-requires : goal.table_copy-old-requires
table_copy-old-requires c = room c.args.checked.log.bytes.now c.args.table.now c.args.checked.log.passed c.requires

pub kept_count-kept-requires : goal.kept_count-kept-requires
kept_count-kept-requires c =
    let n = few c.args.checked.log.bytes.now c.args.pile.now _ _ c.args.checked.log.passed c.in-Ok.ensures.worked.1 in
    let l = room c.args.checked.log.bytes.now c.args.table.now c.args.checked.log.passed c.requires in
    (omega (arith, n, l), omega (arith, n, l, ap (λ (t : List ℕ). length t) c.table_copy-old.ensures))

pub overflow_cast-kept : goal.overflow_cast-kept
overflow_cast-kept c = omega (arith, few c.args.checked.log.bytes.now c.args.pile.now _ _ c.args.checked.log.passed c.in-Ok.ensures.worked.1, c.kept_count-kept.ensures.1)

pub returns-in-Ok : goal.returns-in-Ok
returns-in-Ok c =
    let w = c.in-Ok.ensures in
    let r = held _ _ _ _ _ _ _ _ _ c.requires w.worked.0 w.worked.1 w.table c.table_copy-old.ensures c.kept_count-kept.ensures.0 in
    record { reply = r.0; table = r.1 }

pub returns-in-Err : goal.returns-in-Err
returns-in-Err c =
    let w = c.in-Err.ensures in
    let r = none_held _ _ _ c.args.table.now (refusal_of c.in-Err.fault) _ c.requires w.worked.0 w.worked.1 w.table in
    record { reply = c.from-in-Err.ensures ∙ (ap refused c.from.ensures ∙ r.0); table = r.1 }
