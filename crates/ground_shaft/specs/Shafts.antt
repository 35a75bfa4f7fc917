-- The shaft cut into slices, said of millimetres: what is asked before, and what is replied of it.
use Rattle.std.specs.Prelude.{List, ℕ, ◌<◌, ◌≤◌, length}
use Rattle.rules.specs.declared.Row.{Row}
use Rattle.rules.specs.declared.Pile.{Pile}
use Rattle.rules.specs.declared.Slice.{Slice}
use Rattle.rules.specs.Limits.{limit_of, table_size, tip_limit}
use Rattle.rules.specs.Grades.{cut_depth}
use Rattle.rules.specs.Packed.{rows_of}
use Rattle.rules.specs.Ground.{depth_of, soil_at}
use Rattle.rules.specs.Pieces.{run_top}
use Rattle.rules.specs.Numbers.{below_tip, shaft_slices, friction_sum}
use Rattle.record_log_checks.specs.declared.checked.PassedLog.{PassedLog}
use Rattle.ground_shaft.specs.declared.Shaft.{Shaft}

-- a log past its checks that goes on below the tip, a head that no cut bares, and a table of so many bytes, which has the places of the log's form
pub record Ready (log : PassedLog) (p : Pile) (size : ℕ) : Type 0 where
  pub near : p.tip ≤ tip_limit
  pub level : cut_depth p.grade ≤ p.head
  pub deep : p.tip < depth_of (rows_of log.bytes.now)
  pub room : table_size (limit_of log.bytes.now) ≤ size

-- the slices between head and tip
abbrev pub cut_of : List Row → Pile → List Slice
cut_of rs p = shaft_slices (soil_at rs) p

-- how many they are and their sum, the soil of the millimetre just below the tip, and the top of its stratum
unfoldable pub shaft_of : List Row → Pile → Shaft
shaft_of rs p = record {
  used = length (cut_of rs p);
  sum = friction_sum (cut_of rs p);
  soil = soil_at rs (below_tip p);
  top = run_top (soil_at rs) (soil_at rs (below_tip p)) (below_tip p);
}
