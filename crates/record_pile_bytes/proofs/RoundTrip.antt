-- A pile record whose fields are in range packs, and reads as these fields; and what is read of one packs, into any buffer as long, to the same
-- bytes. Both lengths go one way: a record without a grade is read as one with zeros behind it.
use mathlib.Core.Path.{◌≡◌, refl, ap, sym, ◌∙◌}
use mathlib.Core.Bool.{Bool, false}
use mathlib.Core.Logic.{⊎_elim}
use mathlib.Core.List.{List, [], ◌∷◌, ◌++◌, append-nil}
use Prim.Native.Nat.{ℕ, ◌-◌, ◌^◌, ◌<◌, ◌≤◌}
use native.Mathlib.Omega.{arith}
use lib.ListN.{length, take, replicate, length-append, length-replicate}
use lib.Seq.{take_at}
use Rattle.rules.specs.declared.Pile.{Pile}
use Rattle.rules.specs.Base.{either, nothing, refuses, first, when}
use Rattle.rules.specs.Widths.{Fits, Bytes}
use Rattle.rules.specs.Records.{pile_fields, pile_from, plain_size, graded_size, graded_widths}
use Rattle.rules.specs.Packed.{pile_of, pile_bytes}
use Rattle.rules.specs.Ranges.{PileInRange, TakesGrade}
use Rattle.rules.specs.Checks.{pile_length_wrong, section_check, method_wrong}
use Rattle.rules.specs.Reading.{pile_told, pile_of_read, read_pile, grade_lost, pack_pile_check, packed_pile}
use Rattle.rules.proofs.Basics.{split}
use Rattle.rules.proofs.InRangeLaws.{pile_right, pile_in_range}
use Rattle.rules.proofs.OrderLaws.{last_off}
use Rattle.rules.proofs.RefusalLaws.{first_off, when_off, when_false, right_pile}
use Rattle.rules.proofs.WidthLaws.{there, back, zeros_behind}
use Rattle.rules.proofs.GradeLaws.{plain_level, pile_behind}
use Rattle.record_pile_bytes.proofs.TenBytes.{front, ten}

-- fields in range fit their bits
sides : (p : Pile) → PileInRange p → (p.a < 2 ^ 12) × (p.b < 2 ^ 12)
sides p h =
    ⊎_elim (λ (k : 1 < p.section). omega (arith, h.rectangle (omega (arith, h.section.1)))) (λ (k : p.section ≤ 1). omega (arith, h.circle (omega (arith, h.section.0))))
    (split 1 p.section)

fits : (p : Pile) → PileInRange p → Fits graded_widths (pile_fields p)
fits p h =
    let side = sides p h in
    (omega (arith, h.section.1), (side.0, (side.1, (omega (arith, h.method.1), (h.head, (h.tip, (omega (arith, h.zero), (h.grade, tt))))))))

-- and are refused neither in bytes that hold them nor when they are packed
module _ (p : Pile) (r : PileInRange p) (s : List ℕ) where
  packs : either (pile_length_wrong s) (grade_lost p.grade s) ≡ false → pack_pile_check p s ≡ nothing
  unfolding pack_pile_check first when
  packs h = let k = pile_right p r in rw (h, k.0, k.1)

  reads : pile_length_wrong s ≡ false → pile_of s ≡ p → read_pile s ≡ pile_told nothing (length s) p
  unfolding read_pile first when
  reads h e = let k = pile_right p r in rw (e, h, k.0, k.1)

-- the ten bytes hold the fields
whole : (p : Pile) → PileInRange p → pile_of (pile_bytes graded_size p) ≡ p
unfolding pile_of pile_bytes
whole p r = ap pile_of (sym (append-nil (pile_bytes graded_size p))) ∙ ap pile_from (there graded_size graded_widths (pile_fields p) [] refl (fits p r))

-- and so do the first eight, where there is no grade
part : (p : Pile) → PileInRange p → p.grade ≡ 0 → pile_of (pile_bytes plain_size p) ≡ p
unfolding pile_bytes
part p r e =
    let zeros : pile_bytes graded_size p ≡ front p r.grade ++ (0 ∷ 0 ∷ []) = ten p r.grade ∙ rw e in
    let eight : pile_bytes plain_size p ≡ front p r.grade = ap (take plain_size) zeros in
    ap pile_of eight ∙ sym (pile_behind (front p r.grade) 2) ∙ ap pile_of (sym zeros) ∙ whole p r

ten_long : (p : Pile) → length (pile_bytes graded_size p) ≡ graded_size
unfolding pile_bytes
ten_long p = refl

eight_long : (p : Pile) → length (pile_bytes plain_size p) ≡ plain_size
unfolding pile_bytes
eight_long p = refl

pub pile_there : (p : Pile) (s : List ℕ) → PileInRange p → TakesGrade (length s) p
    → (pack_pile_check p s ≡ nothing) × (read_pile (packed_pile p s) ≡ pile_told nothing (length s) p)
unfolding packed_pile
pile_there p s r t =
    ⊎_elim
    (λ (h : length s ≡ graded_size).
    let k = packs p r s (rw h) in
    (k, rw (k, h) (reads p r (pile_bytes graded_size p) (rw (ten_long p)) (whole p r) ∙ ap (λ (m : ℕ). pile_told nothing m p) (ten_long p))))
    (λ (h : (length s ≡ plain_size) × (p.grade ≡ 0)).
    let k = packs p r s (rw (h.0, h.1)) in
    (k, rw (k, h.0) (reads p r (pile_bytes plain_size p) (rw (eight_long p)) (part p r h.1) ∙ ap (λ (m : ℕ). pile_told nothing m p) (eight_long p))))
    t

-- what was read of eight or ten bytes packs to them
same_bytes_lem : (s : List ℕ) → Bytes s → length s ≤ graded_size → pile_bytes (length s) (pile_of s) ≡ s
unfolding pile_of pile_bytes
same_bytes_lem s b h =
    let z : List ℕ = replicate (graded_size - length s) 0 in
    let n : length (s ++ z) ≡ graded_size = simp (length-append, length-replicate) (omega arith) in
    let small : Bytes (s ++ z) = λ (k : ℕ). rw (zeros_behind s (graded_size - length s) k) (b k) in
    ap (pile_bytes (length s)) (sym (pile_behind s (graded_size - length s)))
    ∙ ap (take (length s)) (back graded_size graded_widths (s ++ z) refl n small)
    ∙ take_at s z (length s) refl

-- a reading past check 1 lost no grade
kept_grade : (s t : List ℕ) → length t ≡ length s → pile_length_wrong s ≡ false → either (pile_length_wrong t) (grade_lost (pile_of s).grade t) ≡ false
kept_grade s t h w =
    ⊎_elim (λ (e : length s ≡ plain_size). rw (h, e, plain_level s (omega arith))) (λ (e : length s ≡ graded_size). rw (h, e)) (right_pile s w)

few : (s : List ℕ) → pile_length_wrong s ≡ false → length s ≤ graded_size
few s w = ⊎_elim (λ (e : length s ≡ plain_size). omega arith) (λ (e : length s ≡ graded_size). omega arith) (right_pile s w)

pub pile_back : (s t : List ℕ) → Bytes s → length t ≡ length s → refuses (read_pile s).refusal ≡ false
    → (pack_pile_check (pile_of_read (read_pile s)) t ≡ nothing) × (packed_pile (pile_of_read (read_pile s)) t ≡ s)
unfolding read_pile pack_pile_check packed_pile
pile_back s t b h g =
    let p = pile_of s in
    let other = when (pile_length_wrong s) 1 in
    let w = when_off 0 (pile_length_wrong s) (first_off other _ g).0 in
    let kept : when (either (pile_length_wrong t) (grade_lost p.grade t)) 1 ≡ other = ap (λ (x : Bool). when x 1) (kept_grade s t h w ∙ sym w) in
    let passed : pack_pile_check p t ≡ nothing = rw kept (last_off other (section_check p ∷ []) (when (method_wrong p) 6) (λ k. when_false 6 _ (when_off 5 _ k)) g) in
    rw g (passed, rw (passed, h) (same_bytes_lem s b (few s w)))

-- and fields that are read are in range
pub pile_read_in_range : (s : List ℕ) → refuses (read_pile s).refusal ≡ false → PileInRange (pile_of_read (read_pile s))
unfolding read_pile pile_of
pile_read_in_range s g =
    let p = pile_of s in
    let k = first_off (when (pile_length_wrong s) 1) _ g in
    let u = first_off (section_check p) (when (method_wrong p) 6) k.1 in
    rw g (pile_in_range p u.0 (when_off 5 (method_wrong p) u.1) (omega arith) (omega arith) (omega arith))
