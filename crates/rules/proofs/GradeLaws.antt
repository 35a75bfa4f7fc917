-- A pile record's grade: behind its other fields, and 0 where the record ends before it; and readings that a small grade does not move.
use Rattle.rules.specs.declared.SandNumbers.{SandNumbers}
use Rattle.std.specs.Prelude.{Option, None, Some}
use mathlib.Core.Path.{◌≡◌, refl, ap, ap₂, sym, ◌∙◌}
use mathlib.Core.Bool.{Bool, true, false}
use mathlib.Core.List.{List, [], ◌∷◌, ◌++◌}
use Prim.Native.Nat.{ℕ, ◌+◌, ◌*◌, ◌/◌, ◌%◌, ◌<◌, ◌≤◌}
use native.Mathlib.Omega.{arith}
use lib.Dec.{ltb, leb}
use borrow.Author.Tests.{le-ltb}
use lib.ListN.{length, get_or, replicate, get_or-eq_default}
use Rattle.rules.specs.declared.Soil.{Soil}
use Rattle.rules.specs.declared.Pile.{Pile}
use Rattle.rules.specs.declared.Slice.{Slice}
use Rattle.rules.specs.Widths.{fields_of}
use Rattle.rules.specs.Records.{plain_widths, plain_size, graded_widths, graded_size, pile_from}
use Rattle.rules.specs.Limits.{tip_limit, free_grade}
use Rattle.rules.specs.Grades.{cut_depth, fill_height, lowering, raising, as_read, with_grade}
use Rattle.rules.specs.Packed.{number_at, pile_of}
use Rattle.rules.specs.Pieces.{Piece, pieces, run_top}
use Rattle.rules.specs.SandTips.{sand_resistance}
use Rattle.rules.specs.Numbers.{sand, friction, factor, slice_of, slice_each, below_tip, tip_of, tip_from_cut, shaft_slices, tip_read, is_dash, pascals, sand_pascals, resistance, line_of, tip_force, shaft_force, uplift_of}
use Rattle.rules.specs.Base.{pick, both, either, neg, refuses, when, in_order}
use Rattle.rules.specs.Edits.{Edit}
use Rattle.rules.specs.Checks.{lengths_wrong, wrong_pile_field, section_check, method_wrong, depths_wrong, log_short, sand_unread, seat_short, record_wrong, sand_wrong, too_soft, lent_checks, ground_checks, edit_checks}
use Rattle.rules.specs.Answers.{refused, numbers, answer, held_slices}
use Rattle.rules.specs.Calculation.{fresh_answer, fresh_table, calculated, table_after}
use Rattle.rules.specs.EditReplies.{edit_answer, edit_reply, edit_log, edit_table}
use Rattle.rules.proofs.WidthLaws.{cut_append, number_more, number_behind}

-- the fields of ten bytes are those of the first eight, and the last two
pub fields_graded : (s : List ℕ) → get_or s plain_size 0 < 256 → get_or s (plain_size + 1) 0 < 256
    → fields_of graded_widths (number_at s 0 graded_size) ≡ fields_of plain_widths (number_at s 0 plain_size) ++ ((get_or s plain_size 0 * 256 + get_or s (plain_size + 1) 0) ∷ [])
fields_graded s h l =
    let w = number_at s 0 graded_size in
    let x = number_more (plain_size + 1) s in
    let y = number_more plain_size s in
    let high : w / 65536 ≡ number_at s 0 plain_size = omega arith in
    let low : w / 1 % 65536 ≡ get_or s plain_size 0 * 256 + get_or s (plain_size + 1) 0 = omega arith in
    cut_append plain_widths (16 ∷ []) w ∙ ap₂ (λ (x y : ℕ). fields_of plain_widths x ++ (y ∷ [])) high low

-- "An 8-byte record reads as grade 0"
pub plain_level : (s : List ℕ) → length s ≤ plain_size → (pile_of s).grade ≡ 0
unfolding pile_of
plain_level s h =
    let x : get_or s plain_size 0 ≡ 0 = get_or-eq_default s 0 h in
    let y : get_or s (plain_size + 1) 0 ≡ 0 = get_or-eq_default s 0 (omega arith) in
    let e = fields_graded s (omega arith) (omega arith) in
    ap (λ (f : List ℕ). (pile_from f).grade) e ∙ omega arith

-- zeros behind a record change nothing of it
pub pile_behind : (s : List ℕ) (n : ℕ) → pile_of (s ++ replicate n 0) ≡ pile_of s
unfolding pile_of
pile_behind s n = ap (λ (w : ℕ). pile_from (fields_of graded_widths w)) (number_behind s n graded_size)

cut_none : cut_depth 0 ≡ 0
unfolding cut_depth
cut_none = refl

fill_none : fill_height 0 ≡ 0
unfolding fill_height
fill_none = refl

-- "Up to 3,000 either way, tables are read as before.": where no cut bares the head, everything is as without a grade
module _ (p : Pile) (c : cut_depth p.grade ≤ free_grade) (f : fill_height p.grade ≤ free_grade) where
  abbrev level : Pile
  level = with_grade 0 p

  as_level : (n d : ℕ) → as_read p.grade n d ≡ as_read 0 n d
  as_level n d =
      let no_cut : lowering p.grade ≡ 0 = omega arith in
      let no-fill : raising p.grade ≡ 0 = omega arith in
      rw (no_cut, no-fill, cut_none, fill_none)

  slices_level : (cs : List Piece) → slice_each p cs ≡ slice_each level cs
  unfolding slice_each slice_of
  slices_level [] = refl
  slices_level (x ∷ xs) =
      let mid = x.top + x.top + x.thickness in
      ap₂ (λ (y : Slice) (ys : List Slice). y ∷ ys)
      (λ i. record { top = x.top; thickness = x.thickness; friction = friction x.soil (as_level 2 mid i); factor = factor p.method x.soil.kind })
      (slices_level xs)

  module _ (h : cut_depth p.grade ≤ p.head) where
    depths_level : depths_wrong p ≡ depths_wrong level
    depths_level =
        let bare : ltb p.head (cut_depth p.grade) ≡ ltb p.head (cut_depth 0) = le-ltb _ _ h ∙ sym (le-ltb p.head (cut_depth 0) (rw cut_none (omega arith))) in
        ap₂ (λ (x : Bool) (y : ℕ). either (leb p.tip p.head) (either (ltb p.tip 3000) (either (ltb tip_limit p.tip) (either x (ltb tip_limit y))))) bare (as_level 1 p.tip)

    -- of a sand tip, where there is no cut at all: "Here h is the tip depth, less the cut if there is one."
    module _ (g : ℕ → Soil) (depth : ℕ) (extra : Option SandNumbers) (t : sand (g (below_tip p)) ≡ true → cut_depth p.grade ≡ 0) where
      abbrev soil : Soil
      soil = g (below_tip p)

      height_level : sand soil ≡ true → tip_from_cut p ≡ tip_from_cut level
      height_level s = rw (t s, cut_none)

      off_level : sand_wrong soil p extra ≡ sand_wrong soil level extra
      off_level = go (sand soil) extra height_level
        where
          go : (b : Bool) (x : Option SandNumbers) → (b ≡ true → tip_from_cut p ≡ tip_from_cut level) → both b (record_wrong p x) ≡ both b (record_wrong level x)
          go false x k = refl
          go true None k = refl
          go true (Some r) k = rw (k refl)

      resistance_level : resistance p extra soil ≡ resistance level extra soil
      unfolding resistance
      resistance_level = go (sand soil) extra height_level
        where
          clay : pascals (tip_read (tip_of p) soil.index) ≡ pascals (tip_read (tip_of level) soil.index)
          clay = ap (λ (d : ℕ). pascals (tip_read d soil.index)) (as_level 1 p.tip)

          go : (b : Bool) (x : Option SandNumbers) → (b ≡ true → tip_from_cut p ≡ tip_from_cut level)
              → pick b (sand_pascals p x soil) (pascals (tip_read (tip_of p) soil.index)) ≡ pick b (sand_pascals level x soil) (pascals (tip_read (tip_of level) soil.index))
          go false x k = clay
          go true None k = refl
          go true (Some r) k = ap₂ (λ (h d : ℕ). sand_resistance r h p.a soil.kind d) (k refl) (as_level 1 p.tip)

      cut_level : shaft_slices g p ≡ shaft_slices g level
      cut_level = slices_level (pieces g p.head p.tip)

      checks_level : ground_checks g depth p extra ≡ ground_checks g depth level extra
      unfolding ground_checks section_check wrong_pile_field
      checks_level = λ i.
          in_order
          (section_check p ∷
          when (method_wrong p) 6 ∷
          when (depths_level i) 7 ∷
          when (log_short depth p) 8 ∷
          when (sand_unread soil p extra) 9 ∷
          when (seat_short (run_top g soil (below_tip p)) p) 10 ∷
          when (off_level i) 17 ∷
          when (too_soft soil) 11 ∷
          when (both (neg (sand soil)) (is_dash (tip_read (as_level 1 p.tip i) soil.index))) 12 ∷
          [])

      pub answer_level : answer g depth p extra ≡ answer g depth level extra
      unfolding answer numbers tip_force shaft_force uplift_of
      answer_level = λ i.
          pick (refuses (checks_level i)) (refused (checks_level i))
          (numbers soil p (resistance_level i) (line_of (cut_level i)))

      pub held_level : held_slices g depth p extra ≡ held_slices g depth level extra
      unfolding held_slices
      held_level = λ i. pick (refuses (checks_level i)) [] (cut_level i)

-- A record of eight bytes and one of ten that hold the same fields: no reply, and no byte, tells them apart.
module _ (a b : List ℕ) (h : length a ≡ plain_size) (k : length b ≡ graded_size) (e : pile_of a ≡ pile_of b) (extra : Option SandNumbers) (log table : List ℕ) where
  lent_same : lengths_wrong log a table ≡ lengths_wrong log b table
  lent_same = rw (h, k)

  pub calculated_same : calculated log a extra table ≡ calculated log b extra table
  unfolding calculated lent_checks fresh_answer
  calculated_same = rw (lent_same, e)

  pub table_same : table_after log a extra table ≡ table_after log b extra table
  unfolding table_after lent_checks fresh_table
  table_same = rw (lent_same, e)

  module _ (d : Edit) where
    edit_same : edit_checks d log a table ≡ edit_checks d log b table
    unfolding edit_checks
    edit_same = rw lent_same

    pub reply_same : edit_reply d log a extra table ≡ edit_reply d log b extra table
    unfolding edit_reply edit_answer fresh_table fresh_answer
    reply_same = rw (edit_same, e)

    pub log_same : edit_log d log a table ≡ edit_log d log b table
    unfolding edit_log
    log_same = rw edit_same

    pub edit_table_same : edit_table d log a extra table ≡ edit_table d log b extra table
    unfolding edit_table fresh_table
    edit_table_same = rw (edit_same, e)
