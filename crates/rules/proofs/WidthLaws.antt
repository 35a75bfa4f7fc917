-- Fields and the number that they make, each from the other; and one record's fields through another's: the round trip of any record.
use mathlib.Core.Path.{◌≡◌, refl, sym, ◌∙◌, ap, ap₂}
use mathlib.Core.List.{List, [], ◌∷◌, ◌++◌}
use Prim.Native.Nat.{ℕ, zero, suc, ◌+◌, ◌*◌, ◌/◌, ◌%◌, ◌^◌, ◌<◌, ◌≤◌}
use native.Mathlib.Nat.{mod-lt, mod-one, mod-eq_of_lt, add_assoc, zero-add, zero-mul, add-mul, mul_assoc, mul_comm, mul_left_comm, mul-le-mul_right}
use native.Mathlib.Omega.{arith}
use lib.ListN.{length, get_or, drop, replicate}
use lib.Seq.{drop-drop, get_or-drop}
use lib.Pow.{pow_pos, pow-add, high, low, field, mod-pow-add, mod-mod-pow, shr-shr}
use Rattle.rules.specs.Widths.{bits_of, fields_of, join, bytes, Fits}
use Rattle.rules.specs.Packed.{number_at}

pub cut_fits : (ws : List ℕ) (w : ℕ) → Fits ws (fields_of ws w)
cut_fits [] w = tt
cut_fits (n ∷ ns) w = (mod-lt _ (pow_pos n), cut_fits ns w)

pub join_small : (ws vs : List ℕ) → Fits ws vs → join ws vs < 2 ^ bits_of ws
join_small [] [] f = omega arith
join_small [] (v ∷ vs) f = absurd f
join_small (n ∷ ns) [] f = absurd f
join_small (n ∷ ns) (v ∷ vs) f = rw (pow-add 2 n (bits_of ns)) (under v (2 ^ n) (2 ^ bits_of ns) (join ns vs) f.0 (join_small ns vs f.1))
  where
    under : (a b c d : ℕ) → a < b → d < c → a * c + d < b * c
    under a b c d h k = omega (arith, mul-le-mul_right c h)

-- bits above the record's are not looked at
pub cut_mod : (ws : List ℕ) (j w : ℕ) → fields_of ws (w % 2 ^ (j + bits_of ws)) ≡ fields_of ws w
cut_mod [] j w = refl
cut_mod (n ∷ ns) j w =
    rw (← add_assoc j n (bits_of ns))
    (ap₂ (λ (x : ℕ) (l : List ℕ). x ∷ l) (ap (λ (x : ℕ). x % 2 ^ n) (field w (j + n) (bits_of ns)) ∙ mod-mod-pow (w / 2 ^ bits_of ns) j n) (cut_mod ns (j + n) w))

pub cut_join : (ws vs : List ℕ) → Fits ws vs → fields_of ws (join ws vs) ≡ vs
cut_join [] [] f = refl
cut_join [] (v ∷ vs) f = absurd f
cut_join (n ∷ ns) [] f = absurd f
cut_join (n ∷ ns) (v ∷ vs) f =
    let l : join ns vs < 2 ^ bits_of ns = join_small ns vs f.1 in
    let w : ℕ = v * 2 ^ bits_of ns + join ns vs in
    ap₂ (λ (x : ℕ) (l : List ℕ). x ∷ l) (ap (λ (x : ℕ). x % 2 ^ n) (high v (bits_of ns) l) ∙ mod-eq_of_lt f.0)
    (sym (rw zero-add at (cut_mod ns 0 w)) ∙ ap (fields_of ns) (low v (bits_of ns) l) ∙ cut_join ns vs f.1)

pub join_cut : (ws : List ℕ) (w : ℕ) → join ws (fields_of ws w) ≡ w % 2 ^ bits_of ws
join_cut [] w = sym (mod-one w)
join_cut (n ∷ ns) w = ap (λ (x : ℕ). w / 2 ^ bits_of ns % 2 ^ n * 2 ^ bits_of ns + x) (join_cut ns w) ∙ sym (mod-pow-add w n (bits_of ns))

-- The round trip, both ways: fields of the widths ws, made into fields of as many bits and read back.
pub trip : (us ws vs : List ℕ) → bits_of us ≡ bits_of ws → Fits ws vs → fields_of ws (join us (fields_of us (join ws vs))) ≡ vs
trip us ws vs e f =
    ap (fields_of ws) (join_cut us (join ws vs) ∙ ap (λ (n : ℕ). join ws vs % 2 ^ n) e ∙ mod-eq_of_lt (join_small ws vs f)) ∙ cut_join ws vs f

-- what stands behind a record is not looked at
pub join_front : (ws vs t : List ℕ) → Fits ws vs → join ws (vs ++ t) ≡ join ws vs
join_front [] [] t f = refl
join_front [] (v ∷ vs) t f = absurd f
join_front (n ∷ ns) [] t f = absurd f
join_front (n ∷ ns) (v ∷ vs) t f = ap (λ (x : ℕ). v * 2 ^ bits_of ns + x) (join_front ns vs t f.1)

-- the same bytes make the same number
pub join_same : (ws s t : List ℕ) → ((k : ℕ) → get_or s k 0 ≡ get_or t k 0) → join ws s ≡ join ws t
join_same [] s t h = refl
join_same (n ∷ ns) s t h =
    ap₂ (λ (x y : ℕ). x * 2 ^ bits_of ns + y) (h 0) (join_same ns (drop 1 s) (drop 1 t) (λ (k : ℕ). get_or-drop 1 s k 0 ∙ h (1 + k) ∙ sym (get_or-drop 1 t k 0)))

-- bytes, as many as asked for
pub bytes_fit : (n : ℕ) (s : List ℕ) → length s ≡ n → ((k : ℕ) → get_or s k 0 < 256) → Fits (bytes n) s
bytes_fit zero [] e b = tt
bytes_fit zero (x ∷ s) e b = let z : ⊥ = omega arith in absurd z
bytes_fit (suc n) [] e b = let z : ⊥ = omega arith in absurd z
bytes_fit (suc n) (x ∷ s) e b = (b 0, bytes_fit n s (omega arith) (λ (k : ℕ). b (suc k)))

-- A record of n bytes: the fields that were packed are read, whatever bytes follow
pub there : (n : ℕ) (ws vs t : List ℕ) → bits_of (bytes n) ≡ bits_of ws → Fits ws vs → fields_of ws (number_at (fields_of (bytes n) (join ws vs) ++ t) 0 n) ≡ vs
unfolding number_at
there n ws vs t e f = ap (fields_of ws) (join_front (bytes n) (fields_of (bytes n) (join ws vs)) t (cut_fits (bytes n) (join ws vs))) ∙ trip (bytes n) ws vs e f

-- and the fields that were read pack to the bytes
pub back : (n : ℕ) (ws s : List ℕ) → bits_of ws ≡ bits_of (bytes n) → length s ≡ n → ((k : ℕ) → get_or s k 0 < 256) → fields_of (bytes n) (join ws (fields_of ws (number_at s 0 n))) ≡ s
unfolding number_at
back n ws s e h b = trip ws (bytes n) s e (bytes_fit n s h b)

pub number_part : (s : List ℕ) (i j n : ℕ) → number_at (drop i s) j n ≡ number_at s (i + j) n
unfolding number_at
number_part s i j n = ap (join (bytes n)) (drop-drop j i s)

-- a record in two parts
bits_append : (ws us : List ℕ) → bits_of (ws ++ us) ≡ bits_of us + bits_of ws
bits_append [] us = omega arith
bits_append (n ∷ ns) us = omega (arith, bits_append ns us)

pub cut_append : (ws us : List ℕ) (w : ℕ) → fields_of (ws ++ us) w ≡ fields_of ws (w / 2 ^ bits_of us) ++ fields_of us w
cut_append [] us w = refl
cut_append (n ∷ ns) us w =
    ap₂ (λ (x : ℕ) (l : List ℕ). x ∷ l) (ap (λ (k : ℕ). w / 2 ^ k % 2 ^ n) (bits_append ns us) ∙ ap (λ (x : ℕ). x % 2 ^ n) (sym (shr-shr w (bits_of us) (bits_of ns)))) (cut_append ns us w)

pub join_append : (ws us vs xs : List ℕ) → length vs ≡ length ws → join (ws ++ us) (vs ++ xs) ≡ join ws vs * 2 ^ bits_of us + join us xs
join_append [] us [] xs e = sym (simp (zero-mul, zero-add))
join_append [] us (v ∷ vs) xs e = let z : ⊥ = omega arith in absurd z
join_append (n ∷ ns) us [] xs e = let z : ⊥ = omega arith in absurd z
join_append (n ∷ ns) us (v ∷ vs) xs e =
    rw (bits_append ns us, pow-add 2 (bits_of us) (bits_of ns), join_append ns us vs xs (omega arith))
    (gather v (2 ^ bits_of us) (2 ^ bits_of ns) (join ns vs) (join us xs))
  where
    gather : (v a b x y : ℕ) → v * (a * b) + (x * a + y) ≡ (v * b + x) * a + y
    gather v a b x y = simp (add-mul, mul_assoc, mul_comm a b, add_assoc)

-- the last byte behind the others
last : (n : ℕ) (s : List ℕ) → join (bytes (suc n)) s ≡ join (bytes n) s * 256 + get_or s n 0
last zero s = omega arith
last (suc n) s =
    let b : ℕ = 2 ^ bits_of (bytes n) in
    let e : 2 ^ bits_of (bytes (suc n)) ≡ 256 * b = pow-add 2 8 (bits_of (bytes n)) in
    let f : 1 + n ≡ suc n = omega arith in
    rw (e, last n (drop 1 s), get_or-drop, f) (apart (get_or s 0 0) b (join (bytes n) (drop 1 s)) (get_or s (suc n) 0))
  where
    apart : (x b y z : ℕ) → x * (256 * b) + (y * 256 + z) ≡ (x * b + y) * 256 + z
    apart x b y z = omega (arith, mul_left_comm x 256 b)

pub number_more : (n : ℕ) (s : List ℕ) → number_at s 0 (suc n) ≡ number_at s 0 n * 256 + get_or s n 0
unfolding number_at
number_more n s = last n s

pub number_less : (n : ℕ) (s : List ℕ) → get_or s n 0 < 256 → number_at s 0 (suc n) / 256 ≡ number_at s 0 n
number_less n s h = rw (number_more n s) (omega arith)

-- zeros behind bytes change none of them, and no number of them
pub zeros_behind : (s : List ℕ) (n k : ℕ) → get_or (s ++ replicate n 0) k 0 ≡ get_or s k 0
zeros_behind [] zero k = refl
zeros_behind [] (suc n) zero = refl
zeros_behind [] (suc n) (suc k) = zeros_behind [] n k
zeros_behind (b ∷ s) n zero = refl
zeros_behind (b ∷ s) n (suc k) = zeros_behind s n k

pub number_behind : (s : List ℕ) (n m : ℕ) → number_at (s ++ replicate n 0) 0 m ≡ number_at s 0 m
unfolding number_at
number_behind s n m = join_same (bytes m) (s ++ replicate n 0) s (zeros_behind s n)

-- what comes after the bytes of a number does not count
pub number_front : (n : ℕ) (s t : List ℕ) → n ≤ length s → number_at (s ++ t) 0 n ≡ number_at s 0 n
unfolding number_at
number_front zero s t h = refl
number_front (suc n) [] t h = let z : ⊥ = omega arith in absurd z
number_front (suc n) (x ∷ s) t h = ap (λ (y : ℕ). x * 2 ^ bits_of (bytes n) + y) (number_front n s t (omega arith))
