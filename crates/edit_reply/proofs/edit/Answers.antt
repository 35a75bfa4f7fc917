-- A refused edit leaves everything as it is; an accepted one changes the log, which then passes its checks again and is worked out and held.
use Rattle.std.proofs.Common.{◌∙◌, ap, sym}
use Rattle.rules.specs.Base.{refuses}
use Rattle.rules.specs.Answers.{refused}
use Rattle.edit_reply.proofs.ReplyLaws.{refused_edit_lem, allowed, now_passed, now_deep, now_long, accepted_edit}
use Rattle.edit_reply.proofs.edit.Goals as goal

pub change-requires-clause-passed : goal.change-requires-clause-passed
change-requires-clause-passed c = let a = allowed _ _ _ _ (ap refuses (sym c.in-Ok.ensures.refusal)) in (a.passed, a.change)

pub change-requires-clause-brought : goal.change-requires-clause-brought
change-requires-clause-brought c = (allowed _ _ _ _ (ap refuses (sym c.in-Ok.ensures.refusal))).row

pub invariant_of-log : goal.invariant_of-log
invariant_of-log c = record { passed = now_passed _ _ _ _ (ap refuses (sym c.in-Ok.ensures.refusal)) _ c.change.ensures }

pub invariant_of-hold : goal.invariant_of-hold
invariant_of-hold c = record { deep = now_deep _ _ _ _ (ap refuses (sym c.in-Ok.ensures.refusal)) _ c.change.ensures _ c.in-Ok.ensures.depth }

pub hold-requires : goal.hold-requires
hold-requires c = now_long _ _ _ _ (ap refuses (sym c.in-Ok.ensures.refusal)) _ c.change.ensures

pub returns-in-Ok : goal.returns-in-Ok
returns-in-Ok c =
    let r = accepted_edit _ _ _ _ (ap refuses (sym c.in-Ok.ensures.refusal)) _ c.change.ensures _ _ _ c.hold.ensures.reply c.hold.ensures.table in
    record { reply = r.0; log = r.1.0; table = r.1.1 }

pub returns-in-Err : goal.returns-in-Err
returns-in-Err c =
    let r = refused_edit_lem _ _ _ _ _ _ _ c.in-Err.ensures.refusal (c.from-in-Err.ensures ∙ ap refused c.from.ensures) in
    record { reply = r.0; log = r.1.0; table = r.1.1 }
