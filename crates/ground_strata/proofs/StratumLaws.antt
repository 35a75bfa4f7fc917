-- The stratum while its rows are taken: all is one soil down to its bottom.
use mathlib.Core.Path.{◌≡◌, refl, sym, ◌∙◌, ap}
use mathlib.Core.Bool.{Bool, true, false, not, ◌&&◌}
use mathlib.Core.Logic.{⊎_elim}
use mathlib.Core.List.{List}
use Prim.Native.Nat.{ℕ, ◌+◌, ◌*◌, ◌-◌, ◌<◌, ◌≤◌}
use native.Mathlib.Omega.{arith}
use lib.Dec.{eqb}
use lib.ListN.{take}
use Rattle.rules.specs.declared.Row.{Row}
use Rattle.rules.specs.declared.Soil.{Soil}
use Rattle.rules.specs.Records.{row_size}
use Rattle.rules.specs.Base.{both}
use Rattle.rules.specs.Limits.{depth_limit}
use Rattle.rules.specs.Packed.{count_of, row_at, rows_of}
use Rattle.rules.specs.Ground.{depth_of, same, soil_of, soil_at}
use Rattle.rules.specs.Checks.{Passed}
use Rattle.rules.proofs.Basics.{split, same_eq}
use Rattle.rules.proofs.PassedLaws.{known}
use Rattle.rules.proofs.RangeLaws.{fit_drop, fit_thickness}
use Rattle.rules.proofs.SpliceLaws.{depth_parts}
use Rattle.ground_strata.specs.Strata.{Begins, Reaches}
use Rattle.ground_strata.proofs.LogLaws.{Next, row_left, row_soil, all_taken}

and_both : (a b : Bool) → (a && b) ≡ both a b
and_both true b = refl
and_both false b = refl

twice : (b : Bool) → not (not b) ≡ b
twice true = refl
twice false = refl

-- soils compared as their derive compares them, field by field: they are the same where it does not tell them apart
pub told : (s t : Soil) {u : Soil} {apart : Bool} → apart ≡ not (eqb s.kind t.kind && (eqb s.index t.index && eqb s.saturation t.saturation)) → t ≡ u → same s u ≡ not apart
unfolding same
told s t e q =
    let fields = and_both (eqb s.kind t.kind) _ ∙ ap (both (eqb s.kind t.kind)) (and_both (eqb s.index t.index) (eqb s.saturation t.saturation)) in
    ap (same s) (sym q) ∙ sym fields ∙ sym (ap not e ∙ twice _)

-- a row that begins at or above the tip is one of the log's
pub row_there : (log : List ℕ) (i tip : ℕ) → depth_of (take i (rows_of log)) ≤ tip → tip < depth_of (rows_of log) → i < count_of log
row_there log i tip h d = ⊎_elim (λ (l : i < count_of log). l) (λ (l : count_of log ≤ i). absurd (omega (arith, all_taken log i l))) (split i (count_of log))

-- and has some thickness
thick : (log : List ℕ) (i : ℕ) (r : Row) → Passed log → Next (rows_of log) i r → 1 ≤ r.thickness
thick log i r p e = (fit_thickness r (rw e.left at (fit_drop i (rows_of log) (known log p).fit)).0).0

-- the rows from `first` to before `next`, the last of which begins at or above the tip, are soil s, and go from top down to bottom
pub record Open (log : List ℕ) (first top tip next bottom : ℕ) (s : Soil) : Type 0 where
  pub passed : Passed log
  pub begins : Begins log first top tip
  pub own : s ≡ soil_of (row_at log (1 + first * row_size))
  pub row : first < count_of log
  pub some : top < bottom
  pub bottom_is : bottom ≡ depth_of (take next (rows_of log))
  pub least : depth_of (take (next - 1) (rows_of log)) ≤ tip
  pub behind : depth_of (take (next - 1) (rows_of log)) < bottom
  pub alike : (m : ℕ) → top ≤ m → m < bottom → soil_at (rows_of log) m ≡ s

module _ {log : List ℕ} {first top tip : ℕ} (p : Passed log) (b : Begins log first top tip) where
  pub first_there : first < count_of log
  first_there = row_there log first tip (omega (arith, b.top_is, b.high)) b.deep

  -- the first row
  pub open_one : (r : Row) (s : Soil) (next bottom : ℕ) → r ≡ row_at log (1 + first * row_size) → s ≡ soil_of r → next ≡ first + 1 → bottom ≡ top + r.thickness
      → Open log first top tip next bottom s
  open_one r s next bottom w q n y =
      let l = row_left log first r first_there w in
      let z = thick log first r p l in
      let e : next - 1 ≡ first = omega arith in
      let d : bottom ≡ depth_of (take next (rows_of log)) = rw n (omega (arith, l.ends, b.top_is)) in
      record {
        passed = p;
        begins = b;
        own = q ∙ ap soil_of w;
        row = first_there;
        some = omega arith;
        bottom_is = d;
        least = rw e (omega (arith, b.top_is, b.high));
        behind = rw e (omega (arith, b.top_is));
        alike = λ m h k. row_soil l m (omega (arith, b.top_is)) (omega (arith, l.ends, b.top_is)) ∙ sym q;
      }

module _ {log : List ℕ} {first top tip next bottom : ℕ} {s : Soil} (o : Open log first top tip next bottom s) where
  -- it ends where the log ends at the latest
  pub open_deep : bottom ≤ depth_limit
  open_deep = omega (arith, o.bottom_is, depth_parts (rows_of log) next, (known log o.passed).deep)

  module _ (h : bottom ≤ tip) where
    -- the row below the stratum
    pub next_there : next < count_of log
    next_there = row_there log next tip (omega (arith, o.bottom_is)) o.begins.deep

    module _ (r : Row) (e : r ≡ row_at log (1 + next * row_size)) where
      below : Next (rows_of log) next r
      below = row_left log next r next_there e

      deeper : bottom + r.thickness ≡ depth_of (take (next + 1) (rows_of log))
      deeper = omega (arith, below.ends, o.bottom_is)

      -- it has some thickness, and ends where the log ends at the latest
      pub row_deep : (1 ≤ r.thickness) × (bottom + r.thickness ≤ depth_limit)
      row_deep = (thick log next r o.passed below, omega (arith, deeper, depth_parts (rows_of log) (next + 1), (known log o.passed).deep))

      here : (m : ℕ) → bottom ≤ m → m < bottom + r.thickness → soil_at (rows_of log) m ≡ soil_of r
      here m k l = row_soil below m (omega (arith, o.bottom_is)) (omega (arith, deeper))

      -- it has the stratum's soil
      pub open_more : (deep : ℕ) → same s (soil_of r) ≡ true → deep ≡ bottom + r.thickness → Open log first top tip (next + 1) deep s
      open_more deep t d = let f : next + 1 - 1 ≡ next = omega arith in record {
        passed = o.passed;
        begins = o.begins;
        own = o.own;
        row = o.row;
        some = omega (arith, o.some);
        bottom_is = d ∙ deeper;
        least = rw f (omega (arith, o.bottom_is));
        behind = rw f (omega (arith, o.bottom_is, row_deep.0));
        alike = λ m k l. ⊎_elim (λ (z : m < bottom). o.alike m k z) (λ (z : bottom ≤ m). here m z (omega arith) ∙ sym (same_eq s (soil_of r) t)) (split m bottom);
      }

      -- it has another
      pub reaches_parted : same s (soil_of r) ≡ false → Reaches log first top tip (record { soil = s; bottom = bottom; next = next })
      reaches_parted t = record { own = o.own; row = o.row; some = o.some; bottom_is = o.bottom_is; least = o.least; behind = o.behind; alike = o.alike; parted = λ k. ap (same s) (here bottom (omega arith) (omega (arith, row_deep.0))) ∙ t }

  -- the tip stands on the stratum
  pub reaches_past : tip < bottom → Reaches log first top tip (record { soil = s; bottom = bottom; next = next })
  reaches_past h = record { own = o.own; row = o.row; some = o.some; bottom_is = o.bottom_is; least = o.least; behind = o.behind; alike = o.alike; parted = λ k. absurd (omega arith) }
