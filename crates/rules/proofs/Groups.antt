-- The engine's own grouping of the checks, and that it comes to the lists of Checks.
use Rattle.rules.specs.declared.SandNumbers.{SandNumbers}
use Rattle.std.specs.Prelude.{Option}
use mathlib.Core.Path.{◌≡◌, refl}
use mathlib.Core.Bool.{Bool, true, false}
use mathlib.Core.List.{List, [], ◌∷◌}
use Prim.Native.Nat.{ℕ}
use lib.Dec.{ltb, eqb}
use lib.ListN.{length}
use Rattle.rules.specs.declared.Refusal.{Refusal}
use Rattle.rules.specs.declared.Soil.{Soil}
use Rattle.rules.specs.declared.Pile.{Pile}
use Rattle.rules.specs.declared.Slice.{Slice}
use Rattle.rules.specs.declared.Answer.{Answer}
use Rattle.rules.specs.Base.{pick, either, nothing, refuses, when, first, in_order}
use Rattle.rules.specs.Limits.{limit_of}
use Rattle.rules.specs.Packed.{rows_of, pile_of}
use Rattle.rules.specs.Pieces.{run_top}
use Rattle.rules.specs.Numbers.{sand, below_tip, tip_of, tip_read, is_dash, shaft_slices, line_of, resistance}
use Rattle.rules.specs.Edits.{Edit, edited_rows}
use Rattle.rules.specs.Checks.{formless, pile_length_wrong, lengths_wrong, edit_lengths_wrong, unused_wrong, first_wrong, new_row_check, too_deep, section_check, method_wrong, depths_wrong, log_short, absent, sand_unread, seat_short, record_wrong, sand_wrong, too_soft, dashed, names_nothing, full, lent_checks, log_checks, ground_checks, edit_checks}
use Rattle.rules.specs.Reading.{no_pile, pile_told, read_pile, grade_lost, pack_pile_check}
use Rattle.rules.specs.Answers.{refused, numbers, answer, held_slices}
use Rattle.rules.proofs.RefusalLaws.{first_assoc}

-- 2 and 3, and 2 to 4, of a log of the right length
unfoldable pub field_checks : List ℕ → Refusal
field_checks log = first (when (unused_wrong log) 2) (first_wrong 1 (rows_of log))

unfoldable pub content_checks : List ℕ → Refusal
content_checks log = first (field_checks log) (when (too_deep (rows_of log)) 4)

-- 5 and 6
unfoldable pub pile_checks : Pile → Refusal
pile_checks p = first (section_check p) (when (method_wrong p) 6)

-- 5 to 8, by the log's depth
unfoldable pub early : ℕ → Pile → Refusal
early depth p = first (pile_checks p) (first (when (depths_wrong p) 7) (when (log_short depth p) 8))

-- 9 to 12 and 17, by the soil just below the tip and the top of its stratum
unfoldable pub late : Soil → ℕ → Pile → Option SandNumbers → Refusal
late soil top p extra =
    first (when (sand_unread soil p extra) 9)
    (first (when (seat_short top p) 10)
    (first (when (sand_wrong soil p extra) 17)
    (first (when (too_soft soil) 11)
    (when (dashed soil p) 12))))

-- of a sand tip 9, 10 and 17, of a clay tip 10 to 12
unfoldable pub late_in_sand : ℕ → Pile → Option SandNumbers → Refusal
late_in_sand top p extra =
    first (when (either (absent extra) (eqb p.section 2)) 9)
    (first (when (seat_short top p) 10)
    (when (record_wrong p extra) 17))

unfoldable pub late_in_clay : Soil → ℕ → Pile → Refusal
late_in_clay soil top p =
    first (when (seat_short top p) 10)
    (first (when (ltb 160 soil.index) 11)
    (when (is_dash (tip_read (tip_of p) soil.index)) 12))

-- 5 to 12 and 17; the answer and the slices held
unfoldable pub checks_from : ℕ → Soil → ℕ → Pile → Option SandNumbers → Refusal
checks_from depth soil top p extra = first (early depth p) (late soil top p extra)

unfoldable pub answer_from : ℕ → Soil → ℕ → List Slice → Pile → Option SandNumbers → Answer
answer_from depth soil top cut p extra =
    let r = checks_from depth soil top p extra in
    let full = numbers soil p (resistance p extra soil) (line_of cut) in
    pick (refuses r) (refused r) full

unfoldable pub slices_from : ℕ → Soil → ℕ → List Slice → Pile → Option SandNumbers → List Slice
slices_from depth soil top cut p extra = let r = checks_from depth soil top p extra in pick (refuses r) [] cut

-- 13, 14, 3 of the new row and 4 of the new log
unfoldable pub change_checks : Edit → List ℕ → Refusal
change_checks e log =
    first (when (names_nothing e log) 13)
    (first (when (full e.kind (limit_of log) (length (rows_of log))) 14)
    (first (new_row_check e)
    (when (too_deep (edited_rows e (rows_of log))) 4)))

lent_grouped_by : (wrong : Bool) (log : List ℕ) → in_order (when wrong 1 ∷ when (unused_wrong log) 2 ∷ first_wrong 1 (rows_of log) ∷ when (too_deep (rows_of log)) 4 ∷ []) ≡ first (when wrong 1) (content_checks log)
unfolding content_checks field_checks
lent_grouped_by wrong log = rw (first_assoc (when (unused_wrong log) 2) (first_wrong 1 (rows_of log)) (when (too_deep (rows_of log)) 4))

pub lent_grouped : (log pile table : List ℕ) → lent_checks log pile table ≡ first (when (lengths_wrong log pile table) 1) (content_checks log)
unfolding lent_checks
lent_grouped log pile table = lent_grouped_by (lengths_wrong log pile table) log

pub log_grouped : (log : List ℕ) → log_checks log ≡ first (when (formless log) 1) (content_checks log)
unfolding log_checks
log_grouped log = lent_grouped_by (formless log) log

pub edit_grouped : (e : Edit) (log pile table : List ℕ) → edit_checks e log pile table ≡ first (when (edit_lengths_wrong e log pile table) 1) (first (content_checks log) (change_checks e log))
unfolding edit_checks content_checks field_checks change_checks
edit_grouped e log pile table = rw (first_assoc (first (when (unused_wrong log) 2) (first_wrong 1 (rows_of log))) (when (too_deep (rows_of log)) 4), first_assoc (when (unused_wrong log) 2) (first_wrong 1 (rows_of log)))

-- 1, then 5 and 6
pub read_pile_grouped : (s : List ℕ) → let r = first (when (pile_length_wrong s) 1) (pile_checks (pile_of s)) in read_pile s ≡ pile_told r (pick (refuses r) 0 (length s)) (pick (refuses r) no_pile (pile_of s))
unfolding read_pile pile_checks
read_pile_grouped s = refl

pub pack_pile_grouped : (p : Pile) (s : List ℕ) → pack_pile_check p s ≡ first (when (either (pile_length_wrong s) (grade_lost p.grade s)) 1) (pile_checks p)
unfolding pack_pile_check pile_checks
pack_pile_grouped p s = refl

-- of a ground g
module _ (g : ℕ → Soil) (depth : ℕ) (p : Pile) (extra : Option SandNumbers) where
  pub ground_grouped : ground_checks g depth p extra ≡ checks_from depth (g (below_tip p)) (run_top g (g (below_tip p)) (below_tip p)) p extra
  unfolding ground_checks checks_from early late pile_checks
  ground_grouped = rw (first_assoc, first_assoc, first_assoc)

  pub answer_grouped : answer g depth p extra ≡ answer_from depth (g (below_tip p)) (run_top g (g (below_tip p)) (below_tip p)) (shaft_slices g p) p extra
  unfolding answer answer_from
  answer_grouped = rw ground_grouped

  pub slices_grouped : held_slices g depth p extra ≡ slices_from depth (g (below_tip p)) (run_top g (g (below_tip p)) (below_tip p)) (shaft_slices g p) p extra
  unfolding held_slices slices_from
  slices_grouped = rw ground_grouped

-- the checks of a tip by its soil
pub late_in_sand_lem : (soil : Soil) (top : ℕ) (p : Pile) (extra : Option SandNumbers) → sand soil ≡ true → late soil top p extra ≡ late_in_sand top p extra
unfolding late late_in_sand first when
late_in_sand_lem soil top p extra h = rw h (ends (either (absent extra) (eqb p.section 2)) (seat_short top p) (record_wrong p extra))
  where
    ends : (a b c : Bool) → first (when a 9) (first (when b 10) (first (when c 17) nothing)) ≡ first (when a 9) (first (when b 10) (when c 17))
    ends true b c = refl
    ends false true c = refl
    ends false false true = refl
    ends false false false = refl

pub late_in_clay_lem : (soil : Soil) (top : ℕ) (p : Pile) (extra : Option SandNumbers) → sand soil ≡ false → late soil top p extra ≡ late_in_clay soil top p
unfolding late late_in_clay first when
late_in_clay_lem soil top p extra h = rw h
