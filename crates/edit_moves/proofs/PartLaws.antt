-- A part of a log that runs to its end, put back after a move.
use mathlib.Core.Path.{◌≡◌, ap, sym, ◌∙◌}
use mathlib.Core.List.{List, ◌++◌, append_assoc}
use Prim.Native.Nat.{ℕ, ◌+◌}
use lib.ListN.{take, drop, length}
use lib.Seq.{drop-drop}
use Rattle.rules.specs.Records.{row_size}
use Rattle.base_copies.proofs.CopyLaws.{with}
use Rattle.edit_row_places.specs.Places.{put}

-- a row put over the first place of the part
pub row_put : (l row : List ℕ) (a : ℕ) → length row ≡ row_size → with l a row ≡ take a l ++ put row (drop a l)
row_put l row a e =
    rw e
    (append_assoc (take a l) row (drop (a + row_size) l) ∙ ap (λ (t : List ℕ). take a l ++ (row ++ t)) (sym (drop-drop row_size a l)))
