-- A law of the moves by the bytes of a row: a place given to two rows.
use mathlib.Core.Path.{◌≡◌, ◌∙◌}
use mathlib.Core.List.{List}
use Prim.Native.Nat.{ℕ, ◌+◌, ◌*◌, ◌-◌, ◌≤◌}
use native.Mathlib.Omega.{arith}
use lib.ListN.{take, drop, length, length-drop}
use lib.Seq.{take-add, drop_at, length-take-le}
use Rattle.rules.specs.Records.{row_size}
use Rattle.base_copies.proofs.CopyLaws.{with, with_behind}
use Rattle.edit_row_places.specs.Places.{front, inserted, divided}

-- the lower part over the second place, where the upper part came in before the first
pub divided_is : (t upper lower o : List ℕ) → length upper ≡ row_size → length lower ≡ row_size → 2 * row_size ≤ length t → o ≡ inserted upper t
    → with o row_size lower ≡ divided upper lower t
divided_is t upper lower o long f h e =
    let n : ℕ = length t - row_size - row_size in
    let m : length t - row_size ≡ row_size + n = omega arith in
    rw e
    (with_behind upper (front t) lower row_size row_size long f
    ∙ rw (m, take-add row_size n t, drop_at (take row_size t) (take n (drop row_size t)) row_size (length-take-le row_size t (omega arith)), length-drop row_size t))
