-- Checks 7 and 8, which look at the pile's depths.
use Rattle.std.specs.Prelude.{ℕ}
use Rattle.rules.specs.declared.Refusal.{Refusal}
use Rattle.rules.specs.declared.Pile.{Pile}
use Rattle.rules.specs.Base.{when, first}
use Rattle.rules.specs.Checks.{depths_wrong, log_short}

unfoldable pub depth_checks : ℕ → Pile → Refusal
depth_checks depth p = first (when (depths_wrong p) 7) (when (log_short depth p) 8)
