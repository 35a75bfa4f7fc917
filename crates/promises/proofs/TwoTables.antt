-- Kept of the two tables alone: the used places of a table of slices are those that have a thickness.
use Rattle.rules.specs.declared.SandNumbers.{SandNumbers}
use Rattle.std.specs.Prelude.{Option}
use mathlib.Core.Path.{◌≡◌, refl, sym}
use mathlib.Core.List.{List, [], ◌∷◌, ◌++◌, append_assoc}
use Prim.Native.Nat.{ℕ, zero, suc, ◌+◌, ◌*◌, ◌-◌, ◌/◌, ◌<◌, ◌≤◌}
use native.Mathlib.Omega.{arith}
use lib.ListN.{length, drop, replicate, length-append, length-replicate}
use borrow.Author.Tests.{lt-ltb}
use Rattle.rules.specs.declared.Slice.{Slice}
use Rattle.rules.specs.Widths.{Fits}
use Rattle.rules.specs.Records.{slice_size, slice_widths, slice_fields}
use Rattle.rules.specs.Limits.{limit_of, places_for}
use Rattle.rules.specs.Packed.{number_at, rows_of, pile_of, slice_at, slice_bytes, slices_bytes, table_bytes}
use Rattle.rules.specs.Ranges.{SlicesFit}
use Rattle.rules.specs.Checks.{Passed}
use Rattle.rules.specs.Calculation.{held_slices_of, fresh_table}
use Rattle.rules.specs.EditReplies.{kept, kept_in, kept_of, used_slices}
use Rattle.rules.proofs.RoomLaws.{log_room}
use Rattle.record_slice_table.proofs.TableLaws.{bytes_long}
use Rattle.record_slices.proofs.RoundTrip.{slice_there}
use Rattle.ground_cuts.proofs.FitLaws.{rows_fit}

-- a zero place ends the count
zeros_end : (m : ℕ) (lent : List ℕ) → kept_in m (replicate (m * slice_size) 0) lent ≡ 0
unfolding kept_in slice_at number_at
zeros_end zero lent = refl
zeros_end (suc m) lent = let e : suc m * slice_size ≡ suc (suc (suc (suc (suc (suc (suc (m * slice_size))))))) = omega arith in rw e

slice_behind : (c : Slice) (s : List ℕ) → drop slice_size (slice_bytes c ++ s) ≡ s
unfolding slice_bytes
slice_behind c s = refl

-- a slice with some thickness is counted by its bytes alone
one_more : (c : Slice) (k n : ℕ) (s lent : List ℕ) → 0 < c.thickness → Fits slice_widths (slice_fields c) → kept_in k s (drop slice_size lent) ≡ kept n s (drop slice_size lent)
    → kept_in (suc k) (slice_bytes c ++ s) lent ≡ kept (suc n) (slice_bytes c ++ s) lent
unfolding kept_in kept
one_more c k n s lent t f h = rw (slice_there c s f, lt-ltb 0 c.thickness t, slice_behind c s, h)

-- m zero places behind the slices
in_places : (cs : List Slice) (m : ℕ) (lent : List ℕ) → SlicesFit cs
    → kept_in (length cs + m) (slices_bytes cs ++ replicate (m * slice_size) 0) lent ≡ kept (length cs) (slices_bytes cs ++ replicate (m * slice_size) 0) lent
unfolding slices_bytes kept
in_places [] m lent f = let e : 0 + m ≡ m = omega arith in rw e (zeros_end m lent)
in_places (c ∷ cs) m lent f =
    let e : suc (length cs) + m ≡ suc (length cs + m) = omega arith in
    let z = replicate {A = ℕ} (m * slice_size) 0 in
    rw (e, append_assoc (slice_bytes c) (slices_bytes cs) z) (one_more c (length cs + m) (length cs) (slices_bytes cs ++ z) lent f.0 f.1 (in_places cs m (drop slice_size lent) f.2))

kept_of_lem : (places : ℕ) (cs : List Slice) (lent : List ℕ) → SlicesFit cs → length cs ≤ places
    → kept_of (table_bytes (places * slice_size) cs) lent ≡ kept (length cs) (table_bytes (places * slice_size) cs) lent
unfolding kept_of table_bytes
kept_of_lem places cs lent f h =
    let m = places - length cs in
    let e : places * slice_size - length cs * slice_size ≡ m * slice_size = omega arith in
    let long : length (slices_bytes cs ++ replicate {A = ℕ} (m * slice_size) 0) / slice_size ≡ length cs + m = rw (length-append, length-replicate, bytes_long) (omega arith) in
    rw (e, long) (in_places cs m lent f)

-- of the table that a log past its checks gives
pub kept_is : (log pile : List ℕ) (extra : Option SandNumbers) (table : List ℕ) → Passed log → kept (used_slices log pile extra) (fresh_table log pile extra) table ≡ kept_of (fresh_table log pile extra) table
unfolding fresh_table
kept_is log pile extra table p =
    let cs = held_slices_of (rows_of log) (pile_of pile) extra in
    sym (kept_of_lem (places_for (limit_of log)) cs table (rows_fit (rows_of log) pile extra) (log_room log pile extra p))
