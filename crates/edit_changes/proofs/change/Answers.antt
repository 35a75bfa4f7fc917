-- Kind by kind: the checks see to the places that the move needs, and what it leaves of the bytes is the log of the spliced rows.
use Rattle.std.proofs.Common.{◌≡◌, subst, Option, Some, rules}
use Rattle.rules.specs.Widths.{Bytes}
use Rattle.rules.proofs.PassedLaws.{known}
use Rattle.edit_naming.specs.declared.EditKind.{EditKind}
use Rattle.edit_naming.specs.Asked.{number_of}
use Rattle.edit_changes.proofs.ChangeLaws.{place, place_before, place_two, some_kind, replacing, inserting, removing, splitting}
use Rattle.edit_changes.proofs.change.Goals as goal

-- the number of the kind that an arm takes
of : (kind : Option EditKind) (v w : EditKind) → kind ≡ Some v → v ≡ w → number_of kind ≡ number_of (Some w)
of kind v w e f = rw (e, f)

pub unreachable-requires : goal.unreachable-requires
unreachable-requires c = some_kind _ _ _ _ _ c.requires.passed (rw c.in_default.is)

pub replace_row-requires : goal.replace_row-requires
replace_row-requires c = place _ _ _ _ _ c.requires.passed (rw (of _ _ _ c.in-Some.is c.in-Replace.is))

pub insert_row-requires-clause-place : goal.insert_row-requires-clause-place
insert_row-requires-clause-place c = (place_before _ _ _ _ _ c.requires.passed (of _ _ _ c.in-Some.is c.in-Insert.is)).0

pub insert_row-requires-clause-room : goal.insert_row-requires-clause-room
insert_row-requires-clause-room c = (place_before _ _ _ _ _ c.requires.passed (of _ _ _ c.in-Some.is c.in-Insert.is)).1

pub remove_row-requires-clause-place : goal.remove_row-requires-clause-place
remove_row-requires-clause-place c = place _ _ _ _ _ c.requires.passed (rw (of _ _ _ c.in-Some.is c.in-Remove.is))

pub remove_row-requires-clause-rows : goal.remove_row-requires-clause-rows
remove_row-requires-clause-rows c = (known _ c.requires.passed.0).some

pub split-requires-clause-place : goal.split-requires-clause-place
split-requires-clause-place c = (place_two _ _ _ _ _ c.requires.passed (of _ _ _ c.in-Some.is c.in-Split.is)).0

pub split-requires-clause-point : goal.split-requires-clause-point
split-requires-clause-point c = (place_two _ _ _ _ _ c.requires.passed (of _ _ _ c.in-Some.is c.in-Split.is)).1

pub returns-in-Replace : goal.returns-in-Replace
returns-in-Replace c =
    let b : Bytes c.args.log.now = search rules in
    let e = of _ _ _ c.in-Some.is c.in-Replace.is in
    let n : Bytes c.brought.result = search rules in
    replacing _ _ _ _ _ c.requires.passed b _ _ (c.requires.brought (rw e)) c.brought.ensures (subst Bytes c.brought.ensures n) e c.replace_row.ensures

pub returns-in-Insert : goal.returns-in-Insert
returns-in-Insert c =
    let b : Bytes c.args.log.now = search rules in
    let e = of _ _ _ c.in-Some.is c.in-Insert.is in
    let n : Bytes c.brought-in-Insert.result = search rules in
    inserting _ _ _ _ _ c.requires.passed b _ _ (c.requires.brought (rw e)) c.brought-in-Insert.ensures (subst Bytes c.brought-in-Insert.ensures n) e c.insert_row.ensures

pub returns-in-Remove : goal.returns-in-Remove
returns-in-Remove c =
    let b : Bytes c.args.log.now = search rules in
    removing _ _ _ _ _ c.requires.passed b _ (of _ _ _ c.in-Some.is c.in-Remove.is) c.remove_row.ensures

pub returns-in-Split : goal.returns-in-Split
returns-in-Split c =
    let b : Bytes c.args.log.now = search rules in
    splitting _ _ _ _ _ c.requires.passed b _ (of _ _ _ c.in-Some.is c.in-Split.is) c.split.ensures
