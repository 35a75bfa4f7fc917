-- A log past checks 1 to 4: what the checks of its content leave, and that its rows lie in it.
use mathlib.Core.Path.{◌≡◌}
use mathlib.Core.Bool.{false}
use mathlib.Core.List.{List}
use Prim.Native.Nat.{ℕ, ◌+◌, ◌*◌, ◌<◌, ◌≤◌}
use native.Mathlib.Omega.{arith}
use lib.ListN.{length}
use borrow.Author.Tests.{ne_eqb}
use Rattle.rules.specs.Base.{nothing, when, first}
use Rattle.rules.specs.Records.{row_size}
use Rattle.rules.specs.Limits.{limit_of}
use Rattle.rules.specs.Packed.{count_of}
use Rattle.rules.specs.Checks.{Passed, formless}
use Rattle.rules.proofs.Groups.{content_checks, log_grouped}
use Rattle.rules.proofs.PassedLaws.{known}

-- of some form's length, and checks 2 to 4 tell nothing
pub passed : (s : List ℕ) → 0 < limit_of s → nothing ≡ content_checks s → Passed s
unfolding first when
passed s h e = let formed : formless s ≡ false = ne_eqb (limit_of s) 0 (λ z. omega arith) in rw (log_grouped s, formed, ← e)

-- its rows' bytes lie in it
pub row_fits : (s : List ℕ) (i : ℕ) → Passed s → i < count_of s → 1 + i * row_size + row_size ≤ length s
row_fits s i p h = let k = known s p in omega arith
