-- "Fields are bit-packed, most significant first.": a record is a list of widths in bits, and its fields make one number.
use Rattle.std.specs.Prelude.{List, [], ◌∷◌, ℕ, ◌+◌, ◌*◌, ◌/◌, ◌%◌, ◌^◌, ◌<◌, get_or, drop, replicate}

-- the bits of all fields together
abbrev pub bits_of : List ℕ → ℕ
bits_of [] = 0
bits_of (n ∷ ns) = n + bits_of ns

-- the fields of these widths that a number holds: the first in its top bits, the last in its lowest; bits above all of them are not looked at
abbrev pub fields_of : List ℕ → ℕ → List ℕ
fields_of [] w = []
fields_of (n ∷ ns) w = w / 2 ^ bits_of ns % 2 ^ n ∷ fields_of ns w

-- the one number that fields of these widths make, the first in the top bits; a field of more bits than its place is carried into the field
-- before, a missing one is 0
abbrev pub join : List ℕ → List ℕ → ℕ
join [] vs = 0
join (n ∷ ns) vs = get_or vs 0 0 * 2 ^ bits_of ns + join ns (drop 1 vs)

-- the widths of n bytes
abbrev pub bytes : ℕ → List ℕ
bytes n = replicate n 8

-- each field is there and fits its width, and there are no more
abbrev pub Fits : List ℕ → List ℕ → Type 0
Fits [] [] = Unit {0}
Fits [] (v ∷ vs) = ⊥
Fits (n ∷ ns) [] = ⊥
Fits (n ∷ ns) (v ∷ vs) = (v < 2 ^ n) × Fits ns vs

-- each is a byte
abbrev pub Bytes : List ℕ → Type 0
Bytes s = (k : ℕ) → get_or s k 0 < 256
