-- The stratum that begins at a row, said of millimetres.
use Rattle.std.specs.Prelude.{◌≡◌, false, List, ℕ, ◌+◌, ◌*◌, ◌-◌, ◌<◌, ◌≤◌, take, Option, MatchOption}
use Rattle.rules.specs.Records.{row_size}
use Rattle.rules.specs.Packed.{count_of, row_at, rows_of}
use Rattle.rules.specs.Ground.{depth_of, same, soil_of, soil_at}
use Rattle.record_log_checks.specs.declared.checked.PassedLog.{PassedLog}
use Rattle.ground_strata.specs.declared.StratumFound.{StratumFound}
use Rattle.ground_strata.specs.declared.Stratum.{Stratum}
use Rattle.ground_strata.specs.declared.Strata.{Strata}

-- row `first` of the log begins at depth top, at or above the tip, and more than the tip lies above the log's end
pub record Begins (log : List ℕ) (first top tip : ℕ) : Type 0 where
  pub top_is : top ≡ depth_of (take first (rows_of log))
  pub high : top ≤ tip
  pub deep : tip < depth_of (rows_of log)

-- from there down to r's bottom all is that row's soil; where that is not below the tip, another soil begins there; and its last row begins
-- at or above the tip
pub record Reaches (log : List ℕ) (first top tip : ℕ) (r : StratumFound) : Type 0 where
  pub own : r.soil ≡ soil_of (row_at log (1 + first * row_size))
  pub row : first < count_of log
  pub some : top < r.bottom
  pub bottom_is : r.bottom ≡ depth_of (take r.next (rows_of log))
  pub alike : (m : ℕ) → top ≤ m → m < r.bottom → soil_at (rows_of log) m ≡ r.soil
  pub least : depth_of (take (r.next - 1) (rows_of log)) ≤ tip
  pub behind : depth_of (take (r.next - 1) (rows_of log)) < r.bottom
  pub parted : r.bottom ≤ tip → same r.soil (soil_at (rows_of log) r.bottom) ≡ false

-- the walk down a log's strata: row `next` begins where the next stratum does, and more than the tip lies above the log's end
pub record Walks (s : Strata) : Type 0 where
  pub deep : s.tip < depth_of (rows_of s.log.bytes.now)
  pub top_is : s.top ≡ depth_of (take s.next (rows_of s.log.bytes.now))

-- all of them are left
abbrev pub from_ground : PassedLog → ℕ → Strata
from_ground log tip = record { log = log; tip = tip; next = 0; top = 0 }

-- x is the stratum that s begins with, and t has those below it
pub record Next (s : Strata) (x : Stratum) (t : Strata) : Type 0 where
  pub high : s.top ≤ s.tip
  pub reaches : Reaches s.log.bytes.now s.next s.top s.tip (record { soil = x.soil; bottom = x.bottom; next = t.next })
  pub first_is : x.first ≡ s.next
  pub top_is : x.top ≡ s.top
  pub on : t ≡ record { log = s.log; tip = s.tip; next = t.next; top = x.bottom }

-- none is left where the tip stands on the stratum above
abbrev pub Goes : Strata → Option Stratum → Strata → Type 0
Goes s r t = MatchOption r ((s.tip < s.top) × (t ≡ s)) (λ x. Next s x t)
