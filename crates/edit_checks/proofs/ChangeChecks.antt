-- Laws of checks 13, 14, 3 and 4 of an edit of a log that passes: one by one, and the depth of the new log.
use mathlib.Core.Path.{◌≡◌}
use mathlib.Core.Bool.{true, false}
use mathlib.Core.Logic.{◌⊎◌, ⊎_elim}
use mathlib.Core.List.{List, [], ◌∷◌}
use Prim.Native.Nat.{ℕ, ◌+◌, ◌-◌, ◌<◌, ◌≤◌}
use native.Mathlib.Omega.{arith}
use lib.ListN.{length, take, drop}
use lib.Seq.{drop-cons}
use borrow.Author.Tests.{lt-ltb, le-ltb}
use Rattle.rules.specs.declared.Row.{Row}
use Rattle.rules.specs.Base.{refuse, nothing, when, first}
use Rattle.rules.specs.Limits.{limit_of, depth_limit}
use Rattle.rules.specs.Packed.{no_row, row_at, rows_of}
use Rattle.rules.specs.Ground.{depth_of}
use Rattle.rules.specs.Edits.{Edit, asked, row_named, part, stands, edited_rows}
use Rattle.rules.specs.Checks.{full, new_row_check}
use Rattle.rules.proofs.Groups.{change_checks}
use Rattle.rules.proofs.SpliceLaws.{depth_parts, splice_depth}
use Rattle.rules.proofs.EditLaws.{Standing, replaces, inserts, removes, splits}
use Rattle.edit_checks.specs.Depths.{goes, comes}

-- what row k takes of the depth
row_depth : (rs : List Row) (k : ℕ) → 1 ≤ k → k ≤ length rs → (depth_of (take 1 (drop (k - 1) rs)) ≡ (row_named rs k).thickness) × ((row_named rs k).thickness ≤ depth_of rs)
unfolding depth_of
row_depth rs k h g =
    let e : depth_of (take 1 (drop (k - 1) rs)) ≡ (row_named rs k).thickness = rw (drop-cons rs (k - 1) no_row (omega arith)) (omega arith) in
    (e, omega (arith, depth_parts rs (k - 1), depth_parts (drop (k - 1) rs) 1))

-- the new log is as deep as the lent one, less what goes and with what comes
pub record Deep (kind k x : ℕ) (row : List ℕ) (rs : List Row) : Type 0 where
  pub less : goes kind k rs ≤ depth_of rs
  pub new : depth_of (edited_rows (asked kind k x row) rs) ≡ depth_of rs - goes kind k rs + comes kind row

module _ (kind k x : ℕ) (row : List ℕ) (rs : List Row) where
  pub deep : Standing kind k x rs → Deep kind k x row rs
  unfolding edited_rows depth_of
  deep (replaces e h g) =
      let d = row_depth rs k h g in
      rw e (record { less = d.1; new = omega (arith, d, splice_depth (k - 1) 1 (row_at row 0 ∷ []) rs) })
  deep (inserts e h g) = rw e (record { less = omega arith; new = omega (arith, splice_depth (k - 1) 0 (row_at row 0 ∷ []) rs) })
  deep (removes e h g m) =
      let d = row_depth rs k h g in
      rw e (record { less = d.1; new = omega (arith, d, splice_depth (k - 1) 1 [] rs) })
  deep (splits e h g a b) =
      let d = row_depth rs k h g in
      let r : Row = row_named rs k in
      rw e (record { less = omega arith; new = omega (arith, d, splice_depth (k - 1) 1 (part x r ∷ part (r.thickness - x) r ∷ []) rs) })

  -- replace and remove name a row that is there
  pub named : Standing kind k x rs → (kind ≡ 1) ⊎ (kind ≡ 3) → (1 ≤ k) × (k ≤ length rs)
  named (replaces e h g) o = (h, g)
  named (inserts e h g) o = absurd (⊎_elim (λ (i : kind ≡ 1). omega arith) (λ (i : kind ≡ 3). omega arith) o)
  named (removes e h g m) o = (h, g)
  named (splits e h g a b) o = (h, g)

-- 13, 14, 3 and 4, where the first three refuse nothing and the new log is d mm deep
module _ (e : Edit) (l : List ℕ) (s : stands e (rows_of l) ≡ true) (f : full e.kind (limit_of l) (length (rows_of l)) ≡ false) (n : nothing ≡ new_row_check e) (d : ℕ) (new : depth_of (edited_rows e (rows_of l)) ≡ d) where
  pub change_4 : depth_limit < d → refuse 4 ≡ change_checks e l
  unfolding change_checks when first
  change_4 g = rw (s, f, ← n, new, lt-ltb depth_limit d g)

  pub change_none : d ≤ depth_limit → nothing ≡ change_checks e l
  unfolding change_checks when first
  change_none g = rw (s, f, ← n, new, le-ltb depth_limit d g)
