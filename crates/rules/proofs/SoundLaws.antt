-- A pile stands where no check of 5 to 12 or 17 refuses it, and only there; then the answer is its numbers.
use Rattle.rules.specs.declared.SandNumbers.{SandNumbers}
use Rattle.std.specs.Prelude.{Option}
use mathlib.Core.Path.{◌≡◌}
use mathlib.Core.Bool.{false}
use mathlib.Core.List.{List}
use Prim.Native.Nat.{ℕ, ◌+◌, ◌^◌, ◌<◌, max}
use native.Mathlib.Omega.{arith}
use lib.Dec.{ltb, leb}
use borrow.Author.Tests.{ltb-false, leb-false, le-ltb, lt-leb}
use Rattle.rules.specs.declared.Soil.{Soil}
use Rattle.rules.specs.declared.Pile.{Pile}
use Rattle.rules.specs.Base.{nothing, refuses, when, first}
use Rattle.rules.specs.Limits.{tip_limit, table_size, limit_of}
use Rattle.rules.specs.Grades.{cut_depth}
use Rattle.rules.specs.Packed.{rows_of, pile_of, table_bytes}
use Rattle.rules.specs.Ground.{soil_at, depth_of}
use Rattle.rules.specs.Pieces.{run_top}
use Rattle.rules.specs.Numbers.{below_tip, tip_of, shaft_slices, resistance, line_of}
use Rattle.rules.specs.Checks.{section_check, method_wrong, depths_wrong, log_short, sand_unread, seat_of, seat_short, sand_wrong, too_soft, dashed, ground_checks, LentPassed}
use Rattle.rules.specs.Ranges.{Sound}
use Rattle.rules.specs.Answers.{numbers, answer, held_slices}
use Rattle.rules.specs.Calculation.{answer_of, held_slices_of, fresh_answer, fresh_table, calculated, table_after}
use Rattle.rules.proofs.InRangeLaws.{pile_right, pile_in_range}
use Rattle.rules.proofs.TipLaws.{tip_passes, tip_sound}
use Rattle.rules.proofs.RefusalLaws.{first_off, when_off, either_left, either_right}

module _ (g : ℕ → Soil) (depth : ℕ) (p : Pile) (extra : Option SandNumbers) where
  abbrev soil : Soil
  soil = g (below_tip p)

  abbrev seat : ℕ
  seat = seat_of (run_top g soil (below_tip p)) p

  pub sound_passes : Sound g depth p extra → ground_checks g depth p extra ≡ nothing
  unfolding ground_checks first when
  sound_passes s =
      let k = pile_right p s.fields in
      let t = tip_passes soil p extra s.tip in
      rw (
        k.0,
        k.1,
        lt-leb p.tip p.head s.order,
        le-ltb p.tip 3000 s.range.0,
        le-ltb tip_limit p.tip s.range.1,
        le-ltb p.head (cut_depth p.grade) s.level,
        le-ltb tip_limit (tip_of p) s.tip_as_read,
        le-ltb depth (p.tip + 5000) s.log,
        t.nine,
        le-ltb seat 2000 s.seat,
        le-ltb seat (max p.a p.b) s.side,
        t.seventeen,
        t.eleven,
        t.twelve,
      )

  pub passes_sound : p.grade < 2 ^ 16 → refuses (ground_checks g depth p extra) ≡ false → Sound g depth p extra
  unfolding ground_checks
  passes_sound bits h =
      let c5 = first_off (section_check p) _ h in
      let c6 = first_off (when (method_wrong p) 6) _ c5.1 in
      let c7 = first_off (when (depths_wrong p) 7) _ c6.1 in
      let c8 = first_off (when (log_short depth p) 8) _ c7.1 in
      let c9 = first_off (when (sand_unread soil p extra) 9) _ c8.1 in
      let c10 = first_off (when (seat_short (run_top g soil (below_tip p)) p) 10) _ c9.1 in
      let c17 = first_off (when (sand_wrong soil p extra) 17) _ c10.1 in
      let c11 = first_off (when (too_soft soil) 11) (when (dashed soil p) 12) c17.1 in
      let depths = when_off 6 (depths_wrong p) c7.0 in
      let order = leb-false p.tip p.head (either_left _ _ depths) in
      let range = either_right (leb p.tip p.head) _ depths in
      let most = either_right (ltb p.tip 3000) _ range in
      let near = ltb-false tip_limit p.tip (either_left _ _ most) in
      let graded = either_right (ltb tip_limit p.tip) _ most in
      let short = when_off 9 (seat_short (run_top g soil (below_tip p)) p) c10.0 in
      let fields = pile_in_range p c5.0 (when_off 5 (method_wrong p) c6.0) (omega (arith, order, near)) (omega (arith, near)) bits in
      record {
        fields = fields;
        order = order;
        range = (ltb-false p.tip 3000 (either_left _ _ range), near);
        level = ltb-false p.head (cut_depth p.grade) (either_left _ _ graded);
        tip_as_read = ltb-false tip_limit (tip_of p) (either_right (ltb p.head (cut_depth p.grade)) _ graded);
        log = ltb-false depth (p.tip + 5000) (when_off 7 (log_short depth p) c8.0);
        seat = ltb-false seat 2000 (either_left _ _ short);
        side = ltb-false seat (max p.a p.b) (either_right (ltb seat 2000) _ short);
        tip = tip_sound soil p extra fields.section
            (record {
              nine = when_off 8 (sand_unread soil p extra) c9.0;
              seventeen = when_off 16 (sand_wrong soil p extra) c17.0;
              eleven = when_off 10 (too_soft soil) c11.0;
              twelve = when_off 11 (dashed soil p) c11.1;
            });
      }

-- of lent bytes
module _ (log pile : List ℕ) (extra : Option SandNumbers) (table : List ℕ) where
  abbrev ground : ℕ → Soil
  ground = soil_at (rows_of log)

  pub sound_numbers : LentPassed log pile table → Sound ground (depth_of (rows_of log)) (pile_of pile) extra
      → (calculated log pile extra table ≡ numbers (ground (below_tip (pile_of pile))) (pile_of pile) (resistance (pile_of pile) extra (ground (below_tip (pile_of pile)))) (line_of (shaft_slices ground (pile_of pile))))
      × (table_after log pile extra table ≡ table_bytes (table_size (limit_of log)) (shaft_slices ground (pile_of pile)))
  unfolding calculated table_after fresh_answer fresh_table answer_of held_slices_of answer held_slices
  sound_numbers h s = let k = sound_passes ground (depth_of (rows_of log)) (pile_of pile) extra s in (rw (h, k), rw (h, k))
