-- A slice that was packed is read, whatever bytes follow, and one that was read packs to the bytes of its place.
use mathlib.Core.Path.{◌≡◌, refl, ap, sym, ◌∙◌}
use mathlib.Core.List.{List, ◌++◌}
use Prim.Native.Nat.{ℕ, ◌+◌, ◌*◌, ◌≤◌}
use native.Mathlib.Nat.{add-zero}
use native.Mathlib.Omega.{arith}
use lib.ListN.{length, take, drop, length-drop, take-append-drop}
use lib.Seq.{length-take-le}
use Rattle.rules.specs.declared.Slice.{Slice}
use Rattle.rules.specs.Widths.{fields_of, join, bytes, Fits, Bytes}
use Rattle.rules.specs.Records.{slice_fields, slice_from, slice_size, slice_widths}
use Rattle.rules.specs.Packed.{number_at, slice_at, slice_bytes}
use Rattle.rules.proofs.PlacesLaws.{bytes_take, bytes_drop}
use Rattle.rules.proofs.WidthLaws.{there, back, number_part, number_front}

pub slice_there : (c : Slice) (s : List ℕ) → Fits slice_widths (slice_fields c) → slice_at (slice_bytes c ++ s) 0 ≡ c
unfolding slice_at slice_bytes
slice_there c s f = ap slice_from (there slice_size slice_widths (slice_fields c) s refl f)

pub slice_back : (s : List ℕ) (i : ℕ) → Bytes s → i * slice_size + slice_size ≤ length s → slice_bytes (slice_at s i) ≡ take slice_size (drop (i * slice_size) s)
unfolding slice_at slice_bytes
slice_back s i b h =
    let at = i * slice_size in
    let t = drop at s in
    let l : slice_size ≤ length t = simp length-drop (omega arith) in
    let seven : length (take slice_size t) ≡ slice_size = length-take-le slice_size t l in
    ap (λ (w : ℕ). fields_of (bytes slice_size) (join slice_widths (fields_of slice_widths w)))
    (sym (rw add-zero at (number_part s at 0 slice_size)) ∙ ap (λ (x : List ℕ). number_at x 0 slice_size) (sym (take-append-drop slice_size t))
    ∙ number_front slice_size (take slice_size t) (drop slice_size t) (omega arith))
    ∙ back slice_size slice_widths (take slice_size t) refl seven (bytes_take slice_size t (bytes_drop at s b))
