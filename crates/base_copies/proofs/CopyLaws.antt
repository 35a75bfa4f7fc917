-- Bytes copied into a buffer: what they leave behind known bytes or over a whole buffer.
use mathlib.Core.Path.{◌≡◌, refl}
use mathlib.Core.List.{List, [], ◌++◌, append-nil}
use Prim.Native.Nat.{ℕ, ◌+◌, ◌≤◌}
use lib.ListN.{length, take, drop, drop_of_length-le}
use lib.Seq.{take_at, drop_at, drop-drop}

-- d₀ with v from byte `at` on
abbrev pub with : List ℕ → ℕ → List ℕ → List ℕ
with d₀ at v = take at d₀ ++ v ++ drop (at + length v) d₀

-- v put behind p
pub with_behind : (p q v : List ℕ) (at n : ℕ) → length p ≡ at → length v ≡ n → with (p ++ q) at v ≡ p ++ v ++ drop n q
with_behind p q v at n h k = rw (k, take_at p q at h, ← drop-drop n at (p ++ q), drop_at p q at h)

-- v put over all of s
pub with_over : (s v : List ℕ) → length s ≤ length v → with s 0 v ≡ v
with_over s v h = rw (with_behind [] s v 0 (length v) refl refl, drop_of_length-le s h) (append-nil v)
