-- A choice by a test, the connectives of tests, and the first refusal of a list.
use Rattle.std.specs.Prelude.{Bool, true, false, List, [], ◌∷◌, ℕ, ltb, eqb}
use Rattle.rules.specs.declared.Refusal.{Refusal}

abbrev pub pick : {A : Type 0} → Bool → A → A → A
pick true a b = a
pick false a b = b

abbrev pub both : Bool → Bool → Bool
both true b = b
both false b = false

abbrev pub either : Bool → Bool → Bool
either true b = true
either false b = b

abbrev pub neg : Bool → Bool
neg true = false
neg false = true

-- low ≤ n ≤ high
abbrev pub within : ℕ → ℕ → ℕ → Bool
within low high n = neg (either (ltb n low) (ltb high n))

-- "Each refusal returns its number, row and field (0 unless said)"
abbrev pub refuse : ℕ → Refusal
refuse n = record { number = n; row = 0; field = 0 }

abbrev pub nothing : Refusal
nothing = refuse 0

-- refusal n where the test holds
unfoldable pub when : Bool → ℕ → Refusal
when t n = pick t (refuse n) nothing

abbrev pub refuses : Refusal → Bool
refuses r = ltb 0 r.number

-- checks "in order": a, or b where a refuses nothing
unfoldable pub first : Refusal → Refusal → Refusal
first a b = pick (refuses a) a b

-- the first of a list that refuses; where none does, the last
abbrev pub first_of : Refusal → List Refusal → Refusal
first_of r [] = r
first_of r (t ∷ ts) = first r (first_of t ts)

abbrev pub in_order : List Refusal → Refusal
in_order [] = nothing
in_order (r ∷ rs) = first_of r rs

unfoldable pub all_zero : List ℕ → Bool
all_zero [] = true
all_zero (b ∷ bs) = let on = all_zero bs in both (eqb b 0) on
