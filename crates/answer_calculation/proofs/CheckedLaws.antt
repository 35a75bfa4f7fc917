-- The log checks of lent pieces, as the code makes them: check 1, then the checks of the log alone; and what a log that passes them is.
use mathlib.Core.Path.{◌≡◌}
use mathlib.Core.Bool.{true, false}
use mathlib.Core.List.{List}
use Prim.Native.Nat.{ℕ, ◌<◌}
use native.Mathlib.Omega.{arith}
use lib.ListN.{length}
use borrow.Author.Tests.{eqb-false}
use Rattle.rules.specs.Base.{refuse, when, first}
use Rattle.rules.specs.Limits.{limit_of, table_size}
use Rattle.rules.specs.Checks.{formless, pile_length_wrong, lengths_wrong, lent_checks}
use Rattle.rules.proofs.Groups.{content_checks, lent_grouped}
use Rattle.rules.proofs.RefusalLaws.{either_left, either_right, right_long}

-- check 1 comes first
pub lent_wrong : (log pile table : List ℕ) → lengths_wrong log pile table ≡ true → lent_checks log pile table ≡ refuse 1
unfolding lent_checks first when
lent_wrong log pile table h = rw h

-- what check 1 sees to
pub record Long (log pile table : List ℕ) : Type 0 where
  pub right : lengths_wrong log pile table ≡ false
  pub formed : formless log ≡ false
  pub form : 0 < limit_of log
  pub size : length table ≡ table_size (limit_of log)

pub long : (log pile table : List ℕ) → lengths_wrong log pile table ≡ false → Long log pile table
long log pile table h =
    let formed : formless log ≡ false = either_left (formless log) _ h in
    record {
      right = h;
      formed = formed;
      form = omega (arith, eqb-false (limit_of log) 0 formed);
      size = right_long (table_size (limit_of log)) table (either_right (pile_length_wrong pile) _ (either_right (formless log) _ h));
    }

-- and what checks 2 to 4 tell then
pub lent_content : (log pile table : List ℕ) → lengths_wrong log pile table ≡ false → lent_checks log pile table ≡ content_checks log
unfolding first when
lent_content log pile table h = rw (lent_grouped log pile table, h)
