-- Laws of a change: what each of the four moves asks, and that the log it leaves is that of the spliced rows.
use mathlib.Core.Path.{◌≡◌, sym, ◌∙◌, ap, ap₂}
use mathlib.Core.Bool.{true, false}
use mathlib.Core.List.{List, [], ◌∷◌}
use Prim.Native.Nat.{ℕ, ◌+◌, ◌*◌, ◌-◌, ◌<◌, ◌≤◌}
use native.Mathlib.Omega.{arith}
use lib.ListN.{length}
use lib.Seq.{take_all}
use Rattle.rules.specs.declared.Row.{Row}
use Rattle.rules.specs.Base.{refuses}
use Rattle.rules.specs.Widths.{Bytes}
use Rattle.rules.specs.Records.{row_size}
use Rattle.rules.specs.Limits.{limit_of, thickness_limit}
use Rattle.rules.specs.Packed.{count_of, row_at, rows_of, row_bytes, log_for}
use Rattle.rules.specs.Edits.{asked, grows, gone, row_named, part, edited_rows, edited_log}
use Rattle.rules.specs.Checks.{Passed}
use Rattle.rules.proofs.Groups.{change_checks}
use Rattle.rules.proofs.FormLaws.{limit_most}
use Rattle.rules.proofs.PlacesLaws.{row_back}
use Rattle.rules.proofs.RangeLaws.{Fit, fit_thickness}
use Rattle.rules.proofs.PassedLaws.{Known, known, whole}
use Rattle.rules.proofs.EditLaws.{Lands, lands, Free, free, Standing, replaces, inserts, removes, splits, standing, room}
use Rattle.edit_moves.specs.Moves.{replaced_log, inserted_log, removed_log, divided_log}
use Rattle.edit_moves.proofs.MoveLaws.{replaced_is, inserted_is, removed_is, divided_is}
use Rattle.edit_changes.specs.Split.{split_log}

module _ (kind k x : ℕ) (row l : List ℕ) (past : Passed l × (refuses (change_checks (asked kind k x row) l) ≡ false)) where
  q : Known l
  q = known l past.0

  f : Free (asked kind k x row) l
  f = free (asked kind k x row) l past.1

  it : Standing kind k x (rows_of l)
  it = standing kind k x row (rows_of l) f.named

  -- where the splice is made, and what comes
  pub ready : Lands (asked kind k x row) (limit_of l) (rows_of l)
  ready = lands (limit_of l) (rows_of l) (omega (arith, q.rows, q.some)) (omega (arith, q.rows, q.few)) q.fit kind k x row it f.room f.fits

  some : 1 ≤ k
  some = ready.low

  -- an edit that takes row k away names a row that is there; one that grows finds a place
  there : gone kind ≡ 1 → k ≤ length (rows_of l)
  there e = let s : k - 1 + 1 ≤ length (rows_of l) = rw e at ready.span in omega (arith, some)

  more : grows kind ≡ true → length (rows_of l) < limit_of l
  more e = room kind (limit_of l) (length (rows_of l)) f.room e

  -- the place of row k, as each move asks for it
  pub place : gone kind ≡ 1 → (1 ≤ k) × (1 + k * row_size ≤ length l)
  place e = (some, omega (arith, there e, q.rows, q.inside))

  pub place_before : kind ≡ 2 → ((1 ≤ k) × (1 + k * row_size ≤ length l)) × (count_of l < 255)
  place_before e =
      let s : k - 1 + 0 ≤ length (rows_of l) = rw e at ready.span in
      ((some, omega (arith, more (rw e), q.long)), omega (arith, more (rw e), q.rows, limit_most l))

  -- an edit that stands is of one of the four kinds
  pub some_kind : kind ≡ 0 → ⊥
  some_kind z = go it
    where
      go : Standing kind k x (rows_of l) → ⊥
      go (replaces e _ _) = omega arith
      go (inserts e _ _) = omega arith
      go (removes e _ _ _) = omega arith
      go (splits e _ _ _ _) = omega arith

  pub place_two : kind ≡ 4
      → ((1 ≤ k) × (k ≤ count_of l) × (1 + (count_of l + 1) * row_size ≤ length l)) × ((count_of l < 255) × (x < (row_named (rows_of l) k).thickness) × (x ≤ thickness_limit))
  place_two e =
      let r : Row = row_named (rows_of l) k in
      let g : Fit (part x r ∷ part (r.thickness - x) r ∷ []) = rw e at ready.fit in
      let m : count_of l < limit_of l = omega (arith, more (rw e), q.rows) in (
        (some, omega (arith, there (rw e), q.rows), omega (arith, q.long)),
        (omega (arith, limit_most l), omega (arith, fit_thickness (part (r.thickness - x) r) g.1.0), (fit_thickness (part x r) g.0).1),
      )

  -- the log is that of its rows, and the bytes that are brought are those of the row in them
  module _ (b : Bytes l) where
    own : l ≡ log_for (limit_of l) (rows_of l)
    own = sym (whole l past.0 b)

    few : length (rows_of l) ≤ limit_of l
    few = omega (arith, q.rows, q.few)

    module _ (array new : List ℕ) (long : length row ≡ row_size) (w : array ≡ row) (c : Bytes row) where
      bytes : array ≡ row_bytes (row_at row 0)
      bytes = w ∙ sym (row_back row (omega arith) c ∙ take_all row_size row (omega arith))

      pub replacing : kind ≡ 1 → new ≡ replaced_log (k - 1) array l → new ≡ edited_log (asked kind k x row) l
      unfolding edited_log edited_rows
      replacing e g =
          g ∙ ap₂ (λ (r t : List ℕ). replaced_log (k - 1) r t) bytes own
          ∙ replaced_is (limit_of l) (rows_of l) few (k - 1) (omega (arith, there (rw e))) (row_at row 0) (omega (arith, some, there (rw e))) ∙ rw e

      pub inserting : kind ≡ 2 → new ≡ inserted_log (k - 1) array l → new ≡ edited_log (asked kind k x row) l
      unfolding edited_log edited_rows
      inserting e g =
          let s : k - 1 + 0 ≤ length (rows_of l) = rw e at ready.span in
          g ∙ ap₂ (λ (r t : List ℕ). inserted_log (k - 1) r t) bytes own ∙ inserted_is (limit_of l) (rows_of l) few (k - 1) (omega arith) (row_at row 0) (more (rw e)) ∙ rw e

    pub removing : (new : List ℕ) → kind ≡ 3 → new ≡ removed_log (k - 1) l → new ≡ edited_log (asked kind k x row) l
    unfolding edited_log edited_rows
    removing new e g =
        g ∙ ap (removed_log (k - 1)) own ∙ removed_is (limit_of l) (rows_of l) few (k - 1) (omega (arith, there (rw e))) (omega (arith, some, there (rw e))) ∙ rw e

    pub splitting : (new : List ℕ) → kind ≡ 4 → new ≡ split_log k x l → new ≡ edited_log (asked kind k x row) l
    unfolding edited_log edited_rows
    splitting new e g =
        let r : Row = row_named (rows_of l) k in
        let u : Row = part x r in
        let v : Row = part (r.thickness - x) r in
        g ∙ ap (divided_log (k - 1) (row_bytes u) (row_bytes v)) own
        ∙ divided_is (limit_of l) (rows_of l) few (k - 1) (omega (arith, there (rw e))) u v (omega (arith, some, there (rw e))) (more (rw e)) ∙ rw e
