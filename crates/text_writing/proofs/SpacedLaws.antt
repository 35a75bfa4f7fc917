-- Laws of numbers behind single spaces: how they are put, one by one, and how long they are.
use mathlib.Core.Path.{◌≡◌, refl}
use mathlib.Core.List.{List, [], ◌∷◌, ◌++◌}
use Prim.Native.Nat.{ℕ, ◌+◌, ◌<◌, ◌≤◌, ◌^◌}
use native.Mathlib.Numerals.{add-one}
use native.Mathlib.Omega.{arith}
use lib.ListN.{length, get_or, take, length-append}
use Rattle.rules.specs.Sheet.{decimal, spaced}
use Rattle.text_writing.specs.declared.Writer.{Writer}
use Rattle.text_writing.specs.Text.{Puts}
use Rattle.text_writing.proofs.PutLaws.{puts_then, piece_more}
use Rattle.text_writing.proofs.DigitLaws.{decimal_short}

spaced_more : (xs : List ℕ) (i : ℕ) → i < length xs → spaced (take (i + 1) xs) ≡ spaced (take i xs) ++ (32 ∷ decimal (get_or xs i 0))
unfolding spaced
spaced_more xs i h = rw (add-one i) (piece_more spaced (λ x. 32 ∷ decimal x) refl (λ x xs. refl) xs i 0 h)

-- a turn of the loop that puts numbers: a space, and number i
pub number_more : {start turn behind next : Writer} (xs : List ℕ) (i : ℕ) → i < length xs → Puts start (spaced (take i xs)) turn
    → Puts turn (32 ∷ []) behind → Puts behind (decimal (get_or xs i 0)) next → Puts start (spaced (take (i + 1) xs)) next
number_more xs i h p space q = rw (spaced_more xs i h) (puts_then p (puts_then space q))

-- numbers of at most so many digits each, and of 20 at most
abbrev pub HaveDigits : List ℕ → List ℕ → Type 0
HaveDigits [] [] = Unit {0}
HaveDigits [] (x ∷ xs) = ⊥
HaveDigits (k ∷ ks) [] = ⊥
HaveDigits (k ∷ ks) (x ∷ xs) = (0 < k) × (x < 10 ^ k) × (x < 10 ^ 20) × HaveDigits ks xs

-- the longest that they can be, each with its space
abbrev pub room_for : List ℕ → ℕ
room_for [] = 0
room_for (k ∷ ks) = 1 + k + room_for ks

pub spaced_fits : (ks xs : List ℕ) → HaveDigits ks xs → length (spaced xs) ≤ room_for ks
unfolding spaced
spaced_fits [] [] h = omega arith
spaced_fits [] (x ∷ xs) h = absurd h
spaced_fits (k ∷ ks) [] h = absurd h
spaced_fits (k ∷ ks) (x ∷ xs) h =
    omega (arith, length-append (decimal x) (spaced xs), decimal_short k x h.0 h.1 h.2, spaced_fits ks xs h.3)
