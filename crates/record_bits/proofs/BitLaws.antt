-- Zero bytes, the remainder by a power of two, and a part of a list that goes to its end.
use Rattle.std.proofs.Common.{◌≡◌, ℕ, ◌+◌, ◌-◌, ◌%◌, ◌^◌, ◌<◌, ◌≤◌, List, [], ◌∷◌, length, get_or, take, drop, refl, zero-mul, mod-lt, pow_pos, arith, length-drop, get_or-drop, take_all}
use Rattle.rules.specs.Widths.{join, bytes}
use Rattle.rules.specs.Packed.{number_at}

-- every byte from i on is 0
abbrev pub Blank : List ℕ → ℕ → Type 0
Blank s i = (k : ℕ) → i ≤ k → get_or s k 0 ≡ 0

pub number_blank : (s : List ℕ) (i at n : ℕ) → Blank s i → i ≤ at → number_at s at n ≡ 0
unfolding number_at
number_blank s i at n b h = join_blank (bytes n) (drop at s) (λ (k : ℕ). rw get_or-drop (b (at + k) (omega arith)))
  where
    join_blank : (ws t : List ℕ) → ((k : ℕ) → get_or t k 0 ≡ 0) → join ws t ≡ 0
    join_blank [] t z = refl
    join_blank (w ∷ ws) t z = rw (z 0, zero-mul, join_blank ws (drop 1 t) (λ (k : ℕ). rw get_or-drop (z (1 + k))))

pub remainder_small : (w n : ℕ) → w % 2 ^ n < 2 ^ n
remainder_small w n = mod-lt w (pow_pos n)

pub part_whole : (s : List ℕ) (i : ℕ) → take (length s - i) (drop i s) ≡ drop i s
part_whole s i = take_all (length s - i) (drop i s) (rw length-drop (omega arith))
