-- Slices that a table holds are read from their places, and what is read of a place packs to its bytes.
use mathlib.Core.Path.{◌≡◌, refl, ap, ◌∙◌}
use mathlib.Core.Logic.{⊎_elim}
use mathlib.Core.List.{List, [], ◌∷◌, ◌++◌}
use Prim.Native.Nat.{ℕ, zero, suc, ◌+◌, ◌*◌, ◌-◌, ◌<◌, ◌≤◌}
use native.Mathlib.Omega.{arith}
use lib.ListN.{length, get_or, take, drop, replicate, get_or-eq_default}
use borrow.Author.Tests.{lt-ltb, le-ltb}
use Rattle.rules.specs.declared.Slice.{Slice}
use Rattle.rules.specs.Widths.{fields_of, Fits, Bytes}
use Rattle.rules.specs.Records.{slice_fields, slice_from, slice_size, slice_widths}
use Rattle.rules.specs.Limits.{row_limit, place_limit, table_size, table_limit}
use Rattle.rules.specs.Packed.{slice_at, slice_bytes, slices_bytes, table_bytes}
use Rattle.rules.specs.Reading.{no_slice, read_slice}
use Rattle.rules.proofs.Basics.{split}
use Rattle.rules.proofs.WidthLaws.{number_part, zeros_behind}
use Rattle.record_bits.proofs.BitLaws.{number_blank}
use Rattle.record_slices.proofs.RoundTrip.{slice_there, slice_back}
use Rattle.record_slice_table.proofs.TableLaws.{filled_long}

-- every slice's numbers fit their bits
abbrev pub EachFits : List Slice → Type 0
EachFits cs = (k : ℕ) → k < length cs → Fits slice_widths (slice_fields (get_or cs k no_slice))

abbrev slice_in : ℕ → Slice
slice_in w = slice_from (fields_of slice_widths w)

-- place i + 1 of a table is place i of what stands behind a slice
slice_behind : (c : Slice) (s : List ℕ) (i : ℕ) → slice_at (slice_bytes c ++ s) (suc i) ≡ slice_at s i
unfolding slice_at slice_bytes
slice_behind c s i =
    let e : suc i * slice_size ≡ slice_size + i * slice_size = omega arith in
    ap slice_in (rw (e, ← number_part (slice_bytes c ++ s) slice_size (i * slice_size) slice_size))

-- slices packed one after another, and k zeros
pub places_there : (cs : List Slice) (k i : ℕ) → EachFits cs → slice_at (slices_bytes cs ++ replicate k 0) i ≡ get_or cs i no_slice
unfolding slices_bytes slice_bytes slice_at
places_there [] k i f = ap slice_in (number_blank (replicate k 0) 0 (i * slice_size) slice_size (λ j h. zeros_behind [] k j) (omega arith))
places_there (c ∷ cs) k zero f = slice_there c (slices_bytes cs ++ replicate k 0) (f 0 (omega arith))
places_there (c ∷ cs) k (suc i) f = slice_behind c (slices_bytes cs ++ replicate k 0) i ∙ places_there cs k i (λ j h. f (suc j) (omega arith))

right_table : (s : List ℕ) → length s ≡ table_size row_limit → table_limit s ≡ row_limit
unfolding table_limit
right_table s h = rw h

pub table_there : (cs : List Slice) (i : ℕ) → EachFits cs → length cs ≤ place_limit
    → read_slice (table_bytes (table_size row_limit) cs) i ≡ record { refusal = 0; slice = get_or cs i no_slice }
unfolding read_slice table_bytes
table_there cs i f h =
    let size = table_size row_limit in
    let t = table_bytes size cs in
    let form : table_limit t ≡ row_limit = right_table t (filled_long size cs t (length cs) (omega arith) (refl, refl)) in
    ⊎_elim (λ (l : i < place_limit). rw (form, lt-ltb i place_limit l, places_there cs (size - length cs * slice_size) i f))
    (λ (l : place_limit ≤ i). let past : length cs ≤ i = omega arith in rw (form, le-ltb i place_limit l, get_or-eq_default cs no_slice past))
    (split i place_limit)

pub place_back : (s : List ℕ) (i : ℕ) → Bytes s → length s ≡ table_size row_limit → i < place_limit
    → ((read_slice s i).refusal ≡ 0) × (slice_bytes (read_slice s i).slice ≡ take slice_size (drop (i * slice_size) s))
unfolding read_slice
place_back s i b h l = let form = right_table s h in (rw form, rw (form, lt-ltb i place_limit l) (slice_back s i b (omega arith)))
