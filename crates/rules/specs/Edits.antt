-- The four edits of a log: what an edit is, which row and split point it may name, and the log it leaves.
use Rattle.std.specs.Prelude.{Bool, false, List, [], ◌∷◌, ◌++◌, ℕ, ◌+◌, ◌-◌, ltb, leb, eqb, length, get_or, take, drop}
use Rattle.rules.specs.declared.Row.{Row}
use Rattle.rules.specs.Base.{pick, both, either, within}
use Rattle.rules.specs.Limits.{limit_of}
use Rattle.rules.specs.Packed.{row_at, rows_of, no_row, log_for}

-- An edit as it comes: kind 1 replace, 2 insert, 3 remove, 4 split; k names a row from 1; x mm is the split point; row is the new row's bytes.
pub record Edit : Type 0 where
  pub kind : ℕ
  pub k : ℕ
  pub x : ℕ
  pub row : List ℕ

abbrev pub asked : ℕ → ℕ → ℕ → List ℕ → Edit
asked kind k x row = record { kind = kind; k = k; x = x; row = row }

-- "Replace and insert bring the new row as its five packed bytes"
abbrev pub brings : ℕ → Bool
brings kind = within 1 2 kind

-- insert and split need one more place
abbrev pub grows : ℕ → Bool
grows kind = either (eqb kind 2) (eqb kind 4)

-- row k of the rows, counted from 1 (k = 0 reads as 1, past the last a row of zeros: 13 looks first)
abbrev pub row_named : List Row → ℕ → Row
row_named rs k = get_or rs (k - 1) no_row

-- "Replace row k; insert before row k (k up to count plus 1); remove row k; split row k at x mm, x from 1 to its thickness less 1"
abbrev pub names : ℕ → ℕ → Bool
names k n = within 1 n k

unfoldable pub stands : Edit → List Row → Bool
stands e rs =
    pick (eqb e.kind 1) (names e.k (length rs))
    (pick (eqb e.kind 2) (names e.k (length rs + 1))
    (pick (eqb e.kind 3) (both (names e.k (length rs)) (ltb 1 (length rs)))
    (pick (eqb e.kind 4) (both (names e.k (length rs)) (both (leb 1 e.x) (ltb e.x (row_named rs e.k).thickness)))
    false)))

-- "both parts of the same soil"
abbrev pub part : ℕ → Row → Row
part t r = record { thickness = t; kind = r.kind; index = r.index; saturation = r.saturation; zero = r.zero }

-- the first i rows; then new ones in the stead of the n rows below them; then the rest
abbrev pub splice : ℕ → ℕ → List Row → List Row → List Row
splice i n new rs = take i rs ++ (new ++ drop (i + n) rs)

-- how many rows go. Insert: none; the other three take row k away
abbrev pub gone : ℕ → ℕ
gone kind = pick (eqb kind 2) 0 1

-- what comes. Replace and insert: the new row. Remove: nothing. Split: row k in two parts, x mm and the rest. (No other kind gets here: 13.)
abbrev pub come : Edit → List Row → List Row
come e rs =
    pick (brings e.kind) (row_at e.row 0 ∷ [])
    (pick (eqb e.kind 3) []
    (part e.x (row_named rs e.k) ∷ part ((row_named rs e.k).thickness - e.x) (row_named rs e.k) ∷ []))

unfoldable pub edited_rows : Edit → List Row → List Row
edited_rows e rs = splice (e.k - 1) (gone e.kind) (come e rs) rs

-- "An accepted edit changes the log, closes or opens the place by moving the rows below": a log of the same form with the rows that are then
-- there. (That moving the bytes of the lent log comes to this is proved in edit_moves.)
unfoldable pub edited_log : Edit → List ℕ → List ℕ
edited_log e log = log_for (limit_of log) (edited_rows e (rows_of log))
