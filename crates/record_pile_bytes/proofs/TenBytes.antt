-- A pile record's ten bytes: the eight before the grade, and its own two.
use mathlib.Core.Path.{◌≡◌, refl, ap, ap₂, sym, ◌∙◌}
use mathlib.Core.List.{List, [], ◌∷◌, ◌++◌}
use Prim.Native.Nat.{ℕ, ◌+◌, ◌*◌, ◌/◌, ◌%◌, ◌^◌, ◌<◌}
use native.Mathlib.Omega.{arith}
use mathlib.Core.Bool.{false}
use lib.ListN.{length, get_or, take}
use Rattle.rules.specs.declared.Pile.{Pile}
use Rattle.rules.specs.Widths.{fields_of, join, bytes}
use Rattle.rules.specs.Records.{plain_widths, plain_size, graded_widths, graded_size, pile_fields}
use Rattle.rules.specs.Packed.{pile_bytes}
use Rattle.rules.specs.Base.{either, first, nothing, when}
use Rattle.rules.specs.Checks.{pile_length_wrong}
use Rattle.rules.specs.Reading.{grade_lost, packed_pile}
use Rattle.rules.proofs.Groups.{pile_checks, pack_pile_grouped}
use Rattle.rules.proofs.WidthLaws.{cut_append, join_append}
use Rattle.std.specs.Int.{to_be_bytes, w16}

module _ (p : Pile) (h : p.grade < 2 ^ 16) where
  -- the bytes before the grade
  abbrev pub front : List ℕ
  front = fields_of (bytes plain_size) (join plain_widths (pile_fields p))

  pub ten : pile_bytes graded_size p ≡ front ++ (p.grade / 256 % 256 ∷ p.grade % 256 ∷ [])
  unfolding pile_bytes
  ten =
      let j = join plain_widths (pile_fields p) in
      let w = join graded_widths (pile_fields p) in
      let e : w ≡ j * 65536 + (p.grade * 1 + 0) =
      join_append plain_widths (16 ∷ []) (p.section ∷ p.a ∷ p.b ∷ p.method ∷ p.head ∷ p.tip ∷ p.zero ∷ []) (p.grade ∷ []) refl in
      let high : w / 65536 ≡ j = omega arith in
      let x : w / 256 % 256 ≡ p.grade / 256 % 256 = omega arith in
      let y : w / 1 % 256 ≡ p.grade % 256 = omega arith in
      cut_append (bytes plain_size) (bytes 2) w ∙ ap₂ (λ (a : ℕ) (l : List ℕ). fields_of (bytes plain_size) a ++ l) high (ap₂ (λ (a b : ℕ). a ∷ b ∷ []) x y)

  -- as the code lays them out
  pub laid : (b g : List ℕ) → b ≡ front → g ≡ to_be_bytes w16 p.grade
      → get_or b 0 0 ∷ get_or b 1 0 ∷ get_or b 2 0 ∷ get_or b 3 0 ∷ get_or b 4 0 ∷ get_or b 5 0 ∷ get_or b 6 0 ∷ get_or b 7 0 ∷ get_or g 0 0 ∷ get_or g 1 0 ∷ [] ≡ pile_bytes graded_size p
  laid b g e f = rw (e, f) (sym ten)

-- as many of them as a buffer past the checks has
pub packed : (p : Pile) (s v : List ℕ) → v ≡ pile_bytes graded_size p → either (pile_length_wrong s) (grade_lost p.grade s) ≡ false → pile_checks p ≡ nothing → take (length s) v ≡ packed_pile p s
unfolding pile_bytes packed_pile first when
packed p s v e right good = ap (take (length s)) e ∙ rw (pack_pile_grouped p s, right, good)
