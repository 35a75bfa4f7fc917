-- The table while it is filled: the bytes of the slices, in order, and zeros behind them.
use mathlib.Core.Path.{◌≡◌, refl, sym, ◌∙◌, ap}
use mathlib.Core.List.{List, [], ◌∷◌, ◌++◌, append_assoc, append-nil}
use Prim.Native.Nat.{ℕ, ◌+◌, ◌*◌, ◌-◌, ◌≤◌}
use native.Mathlib.Omega.{arith}
use lib.ListN.{length, drop, replicate, length-append, length-replicate, replicate-append-replicate}
use Rattle.rules.specs.declared.Slice.{Slice}
use Rattle.rules.specs.Records.{slice_size}
use Rattle.rules.specs.Packed.{slice_bytes, slices_bytes, table_bytes}
use Rattle.base_copies.proofs.CopyLaws.{with, with_behind}
use Rattle.record_slice_table.specs.Table.{put_at, put_all}

pub slice_long : (c : Slice) → length (slice_bytes c) ≡ slice_size
unfolding slice_bytes
slice_long c = refl

module _ (n : ℕ) (c : Slice) where
  pub put_is : (t v : List ℕ) → v ≡ slice_bytes c → with t (n * slice_size) v ≡ put_at t n c
  unfolding put_at
  put_is t v e = rw (e, slice_long c)

  -- the slice behind the first n
  put_behind : (p q : List ℕ) → length p ≡ n * slice_size → put_at (p ++ q) n c ≡ p ++ slice_bytes c ++ drop slice_size q
  put_behind p q h = sym (put_is (p ++ q) (slice_bytes c) refl) ∙ with_behind p q (slice_bytes c) (n * slice_size) slice_size h (slice_long c)

-- one slice more
more_bytes : (cs : List Slice) (c : Slice) → slices_bytes (cs ++ (c ∷ [])) ≡ slices_bytes cs ++ slice_bytes c
unfolding slices_bytes
more_bytes [] c = append-nil (slice_bytes c)
more_bytes (x ∷ cs) c = ap (λ (y : List ℕ). slice_bytes x ++ y) (more_bytes cs c) ∙ sym (append_assoc (slice_bytes x) (slices_bytes cs) (slice_bytes c))

pub bytes_long : (cs : List Slice) → length (slices_bytes cs) ≡ length cs * slice_size
unfolding slices_bytes
bytes_long [] = refl
bytes_long (c ∷ cs) = omega (arith, length-append (slice_bytes c) (slices_bytes cs), slice_long c, bytes_long cs)

-- the first n places of a table of so many bytes are filled with these slices
abbrev pub Filled : ℕ → List Slice → List ℕ → ℕ → Type 0
Filled size cs b n = (length cs ≡ n) × (b ≡ table_bytes size cs)

pub filled_none : (size : ℕ) → Filled size [] (replicate size 0) 0
unfolding table_bytes slices_bytes
filled_none size = let all : size - 0 ≡ size = omega arith in (refl, rw all)

pub filled_long : (size : ℕ) (cs : List Slice) (b : List ℕ) (n : ℕ) → n * slice_size ≤ size → Filled size cs b n → length b ≡ size
unfolding table_bytes
filled_long size cs b n h f = rw (f.1, length-append, length-replicate, bytes_long) (omega (arith, f.0))

pub filled_more : (size : ℕ) (cs : List Slice) (b e : List ℕ) (n : ℕ) (c : Slice) → n * slice_size + slice_size ≤ size → e ≡ put_at b n c → Filled size cs b n → Filled size (cs ++ (c ∷ [])) e (n + 1)
unfolding table_bytes
filled_more size cs b e n c h q f =
    let after = size - (n + 1) * slice_size in
    let zeros = replicate {A = ℕ} after 0 in
    let bytes = slices_bytes cs in
    let long : length bytes ≡ n * slice_size = omega (arith, bytes_long cs, f.0) in
    let more : length (cs ++ (c ∷ [])) ≡ n + 1 = omega (arith, length-append cs (c ∷ []), f.0) in
    let left : size - length cs * slice_size ≡ slice_size + after = omega (arith, f.0) in
    let all : b ≡ bytes ++ (replicate slice_size 0 ++ zeros) = rw (f.1, left, ← replicate-append-replicate {A = ℕ} slice_size after 0) in
    (more, rw (more, q, all, more_bytes cs c) (put_behind n c bytes (replicate slice_size 0 ++ zeros) long))

-- and any number of slices more
pub filled_all : (size : ℕ) (cs ds : List Slice) (b : List ℕ) (n : ℕ) → (n + length ds) * slice_size ≤ size → Filled size cs b n → Filled size (cs ++ ds) (put_all b n ds) (n + length ds)
unfolding put_all
filled_all size cs [] b n h f = let e : n + 0 ≡ n = omega arith in rw (append-nil cs, e) f
filled_all size cs (d ∷ ds) b n h f =
    let e : n + length (d ∷ ds) ≡ n + 1 + length ds = omega arith in
    rw (e, ← append_assoc cs (d ∷ []) ds) (filled_all size (cs ++ (d ∷ [])) ds (put_at b n d) (n + 1) (omega arith) (filled_more size cs b (put_at b n d) n d (omega arith) refl f))
