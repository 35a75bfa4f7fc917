-- An edit of the code as an edit of the rules: the number of its kind, 0 where it has none of the four.
use Rattle.std.specs.Prelude.{ℕ, Option, None, Some}
use Rattle.rules.specs.Base.{pick, within}
use Rattle.rules.specs.Edits as rule
use Rattle.edit_naming.specs.declared.EditKind.{EditKind}
use Rattle.edit_naming.specs.declared.EditKind.TheVariants.{Replace, Insert, Remove, Split}
use Rattle.edit_naming.specs.declared.Edit.{Edit}

abbrev pub number_of : Option EditKind → ℕ
number_of None = 0
number_of (Some Replace) = 1
number_of (Some Insert) = 2
number_of (Some Remove) = 3
number_of (Some Split) = 4

abbrev pub edit_of : Edit → rule.Edit
edit_of e = rule.asked (number_of e.kind) e.k e.x e.row.now

-- a number that is one of the four, else 0
abbrev pub known : ℕ → ℕ
known kind = pick (within 1 4 kind) kind 0
