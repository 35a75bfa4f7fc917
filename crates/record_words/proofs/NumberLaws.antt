-- Bytes as one number, as the library adds them up: of a whole word, behind zeros, and before zeros.
use mathlib.Core.Path.{◌≡◌, sym, ◌∙◌, ap}
use mathlib.Core.List.{List, ◌++◌, append-nil}
use Prim.Native.Nat.{ℕ, zero, suc, ◌+◌, ◌*◌, ◌-◌, ◌≤◌}
use native.Mathlib.Nat.{zero-mul, zero-add}
use native.Mathlib.Omega.{arith}
use lib.ListN.{get_or, length, take, drop, replicate, take-append-drop}
use lib.Seq.{get_or-drop, length-take-le}
use Rattle.std.proofs.lemmas.List.{take-replicate, drop-replicate}
use Rattle.std.specs.Int.{from_be_bytes, w64}
use Rattle.rules.specs.Records.{row_size}
use Rattle.rules.specs.Packed.{number_at}
use Rattle.rules.proofs.WidthLaws.{number_front, number_behind}
use Rattle.record_bits.specs.Word.{word_size}
use Rattle.base_copies.proofs.CopyLaws.{with}

pub word_is : (b : List ℕ) → from_be_bytes w64 b ≡ number_at b 0 word_size
unfolding number_at
word_is b = simp get_or-drop (omega arith)

-- a row's thickness and its soil, joined apart
pub five_are : (s : List ℕ)
    → (get_or s 0 0 * 256 + get_or s 1 0) * 16777216 + ((get_or s 2 0 * 256 + get_or s 3 0) * 256 + get_or s 4 0) ≡ number_at s 0 row_size
unfolding number_at
five_are s = simp get_or-drop (omega arith)

-- zeros before a number
zeros_before : (k n m : ℕ) (s : List ℕ) → m ≡ k + n → number_at (replicate k 0 ++ s) 0 m ≡ number_at s 0 n
unfolding number_at
zeros_before zero n m s e = rw (e, zero-add)
zeros_before (suc k) n zero s e = let z : ⊥ = omega arith in absurd z
zeros_before (suc k) n (suc m) s e = rw (zero-mul, zero-add) (zeros_before k n m s (omega arith))

-- v put at the end of m zeros, and at their beginning
end_of_zeros : (m n : ℕ) (v : List ℕ) → length v ≡ n → n ≤ m → with (replicate m 0) (m - n) v ≡ replicate (m - n) 0 ++ v
end_of_zeros m n v long h =
    let none : m - (m - n + n) ≡ 0 = omega arith in
    rw (long, take-replicate {X = ℕ} (m - n) m 0 (omega arith), drop-replicate, none, append-nil)

start_of_zeros : (m : ℕ) (v : List ℕ) → with (replicate m 0) 0 v ≡ v ++ replicate (m - length v) 0
start_of_zeros m v = rw (zero-add, drop-replicate)

-- the first n bytes of s put at the end of a word of zeros
pub at_end : (n : ℕ) (s b : List ℕ) → n ≤ word_size → n ≤ length s → b ≡ with (replicate word_size 0) (word_size - n) (take n s) → from_be_bytes w64 b ≡ number_at s 0 n
at_end n s b h k e =
    let v = take n s in
    let long : length v ≡ n = length-take-le n s k in
    let put : b ≡ replicate (word_size - n) 0 ++ v = e ∙ end_of_zeros word_size n v long h in
    let inside : n ≤ length v = rw long (omega arith) in
    word_is b ∙ rw put (zeros_before (word_size - n) n word_size v (omega arith)) ∙ sym (number_front n v (drop n s) inside)
    ∙ ap (λ (x : List ℕ). number_at x 0 n) (take-append-drop n s)

-- s put over a word of zeros
pub before_zeros : (n : ℕ) (s b : List ℕ) → b ≡ with (replicate word_size 0) 0 s → number_at b 0 n ≡ number_at s 0 n
before_zeros n s b e = ap (λ (x : List ℕ). number_at x 0 n) (e ∙ start_of_zeros word_size s) ∙ number_behind s (word_size - length s) n
