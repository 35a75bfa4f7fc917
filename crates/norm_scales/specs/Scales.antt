-- Where a reading stands on a printed scale, and how large what is read may be.
use Rattle.std.specs.Prelude.{Bool, eqb, ltb, leb, List, ℕ, ◌+◌, ◌*◌, ◌-◌, ◌<◌, ◌≤◌, length, get_or}
use Rattle.rules.specs.declared.OnScale.{OnScale}
use Rattle.rules.specs.Base.{both}
use Rattle.rules.specs.Limits.{tip_limit}
use Rattle.rules.specs.Tables.{row_for}
use Rattle.rules.proofs.TableLaws.{every}
use Rattle.norm_spots.specs.Spots.{span_bound}
use Rattle.norm_scales.specs.declared.Step.{Step}

-- the largest diameter of a circle: two and a half of h/d, five halves, are then 10,000 parts
abbrev pub diameter_bound : ℕ
diameter_bound = 2000

-- no tip is deeper
abbrev pub height_bound : ℕ
height_bound = tip_limit

-- the place of a whole unit on a scale of m + 2 marks, its mark and the next
abbrev pub step_at : List ℕ → ℕ → Step
step_at marks i = record { place = i; mark = get_or marks i 0; next = get_or marks (i + 1) 0 }

abbrev pub step_of : List ℕ → ℕ → ℕ → Step
step_of marks m k = step_at marks (row_for marks 1 m 0 k)

-- at one of the places 0 to m, each of which has a mark after it
pub record Marked (m : ℕ) (s : OnScale) : Type 0 where
  pub place : s.place ≤ m
  pub past : s.past ≤ s.span
  pub some : 0 < s.span
  pub span : s.span ≤ span_bound

-- no mark is further, in parts: 50 halves of h/d in parts of 2,000
abbrev pub mark_bound : ℕ
mark_bound = 50 * diameter_bound

-- marks that rise from the first to the last, in parts of which a unit has at most this many
abbrev pub is_scale : ℕ → ℕ → ℕ → List ℕ → Bool
is_scale first last finest marks =
    both (eqb (get_or marks 0 0) first)
    (both (eqb (get_or marks (length marks - 2 + 1) 0) last)
    (both (leb first last)
    (both (leb (last * finest) mark_bound)
    (both (every (length marks - 2 + 1) (λ k. ltb (get_or marks k 0) (get_or marks (k + 1) 0)))
    (every (length marks - 2 + 1) (λ k. leb ((get_or marks (k + 1) 0 - get_or marks k 0) * finest) span_bound))))))
