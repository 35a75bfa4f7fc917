-- What Psamathyr promises, in the paper's words. Each function of the door has a contract with no condition: its reply and every byte it
-- leaves are those of a definition (calculated, table_after, edit_reply, edit_log, edit_table, read_log, packed_log ..). The theorems here are
-- about those definitions; each is proved by citing the theorem of a crate.
use Rattle.rules.specs.declared.SandNumbers.{SandNumbers}
use Rattle.std.specs.Prelude.{Option}
use mathlib.Core.Path.{◌≡◌, sym, ◌∙◌, ap}
use mathlib.Core.Bool.{Bool, true, false}
use mathlib.Core.Logic.{◌⊎◌}
use mathlib.Core.List.{List, [], ◌∷◌, ◌++◌, map}
use Prim.Native.Nat.{ℕ, ◌*◌, ◌-◌, ◌^◌, ◌<◌, ◌≤◌}
use native.Mathlib.Omega.{arith}
use lib.ListN.{length, get_or, take, drop, replicate}
use Rattle.rules.specs.declared.Row.{Row}
use Rattle.rules.specs.declared.Soil.{Soil}
use Rattle.rules.specs.declared.Log.{Log}
use Rattle.rules.specs.declared.Pile.{Pile}
use Rattle.rules.specs.declared.Slice.{Slice}
use Rattle.rules.specs.Base.{refuses, nothing, first}
use Rattle.rules.specs.Widths.{Fits, Bytes}
use Rattle.rules.specs.Records.{plain_size, graded_size, slice_widths, slice_fields, slice_size}
use Rattle.rules.specs.Limits.{row_limit, places_for, place_limit, limit_of, log_size, table_size, tip_limit, free_grade}
use Rattle.rules.specs.Grades.{cut_depth, fill_height, with_grade}
use Rattle.rules.specs.Packed.{rows_of, pile_of, slice_bytes, slices_bytes, table_bytes}
use Rattle.rules.specs.Ranges.{LogInRange, PileInRange, TakesGrade, ReadFromOneMetre, Sound}
use Rattle.rules.specs.Ground.{depth_of, soil_at, Agree}
use Rattle.rules.specs.Pieces.{strata, top_of, cut_parts, pieces, run_top}
use Rattle.rules.specs.Tables.{friction_weighed, metre}
use Rattle.rules.specs.SandTips.{sand_cap}
use Rattle.rules.specs.Numbers.{sand, below_tip, friction, friction_spot, shaft_slices, thickness_sum, line_of, tip_of, resistance, capacity_of}
use Rattle.rules.specs.Edits.{Edit, asked, edited_log}
use Rattle.rules.specs.Checks.{one_to_four, five_on, thirteen_on, lent_checks, ground_checks, calculation_checks, edit_checks, LentPassed, Accepted, Numbered, OneOf}
use Rattle.rules.specs.Reading.{no_log, no_pile, no_slice, pile_told, pile_of_read, read_log, read_pile, read_slice, pack_log_check, packed_log, pack_pile_check, packed_pile}
use Rattle.rules.specs.Answers.{refused, numbers, answer, held_slices}
use Rattle.rules.specs.Calculation.{answer_of, held_slices_of, fresh_answer, fresh_table, calculated, table_after}
use Rattle.rules.specs.EditReplies.{edit_reply, edit_log, edit_table, kept_of, with_kept, AsCalculated}
use Rattle.rules.specs.Runs.{Call, Desk, run, desk, answer_held, any_accepted, Afresh, AfterRun}
use Rattle.rules.specs.Cases.{work, print, cases}
use Rattle.rules.specs.WorkedEdits.{right_after, found_after, worked_edits}
use Rattle.rules.proofs.RefusalLaws.{first_off}
use Rattle.rules.proofs.AnswerLaws.{refused_ground}
use Rattle.rules.proofs.OrderLaws as OrderLaws
use Rattle.rules.proofs.ListedLaws as ListedLaws
use Rattle.rules.proofs.SoundLaws as SoundLaws
use Rattle.rules.proofs.FitLaws as FitLaws
use Rattle.rules.proofs.TableLaws as TableLaws
use Rattle.rules.proofs.FirstMetreLaws as FirstMetreLaws
use Rattle.rules.proofs.Known as Known
use Rattle.rules.proofs.KnownEdits as KnownEdits
use Rattle.rules.proofs.StratumLaws as StratumLaws
use Rattle.rules.proofs.RunLaws as RunLaws
use Rattle.rules.proofs.GradeLaws as GradeLaws
use Rattle.rules.proofs.SandLaws as SandLaws
use Rattle.rules.proofs.RoomLaws as RoomLaws
use Rattle.record_packing.proofs.RoundTrip as LogTrip
use Rattle.record_pile_bytes.proofs.RoundTrip as PileTrip
use Rattle.record_slice_table.proofs.RoundTrip as SliceTrip
use Rattle.promises.proofs.AcceptedEdits as Edits
use Rattle.promises.proofs.AfterRun as Run
use Rattle.promises.proofs.Room as Room

-- Demand 1. "Every log, pile record, slice table and edit, however damaged, gets a reply": no contract of the door has a condition.

-- "A calculation checks 1 to 12 .. in order.", 02 (iv): 17 "after 10": the first that refuses is the one replied
pub first_in_order : (log pile : List ℕ) (extra : Option SandNumbers) (table : List ℕ) → (calculated log pile extra table).refusal ≡ calculation_checks log pile extra table
first_in_order log pile extra table = OrderLaws.calculation_refusal log pile extra table

-- "An edit checks 1 to 4 of what is lent, 13, 14, then 3 for its new row (row number k), then 4 for the new log; these refuse the edit. After
-- that 5 to 12 .. refuse nothing: they become the held answer."
pub first_in_order_of_an_edit : (e : Edit) (log pile : List ℕ) (extra : Option SandNumbers) (table : List ℕ)
    → (edit_reply e log pile extra table).refusal ≡ first (edit_checks e log pile table) (ground_checks (soil_at (rows_of (edited_log e log))) (depth_of (rows_of (edited_log e log))) (pile_of pile) extra)
first_in_order_of_an_edit e log pile extra table = OrderLaws.edit_refusal e log pile extra table

-- each check of these lists refuses with its own number, or tells nothing
pub listed : (wrong : Bool) (e : Edit) (log : List ℕ) (g : ℕ → Soil) (depth : ℕ) (p : Pile) (extra : Option SandNumbers)
    → Numbered (1 ∷ 2 ∷ 3 ∷ 4 ∷ 5 ∷ 6 ∷ 7 ∷ 8 ∷ 9 ∷ 10 ∷ 17 ∷ 11 ∷ 12 ∷ []) (one_to_four wrong log ++ five_on g depth p extra)
    × Numbered (1 ∷ 2 ∷ 3 ∷ 4 ∷ 13 ∷ 14 ∷ 3 ∷ 4 ∷ []) (one_to_four wrong log ++ thirteen_on e log)
listed wrong e log g depth p extra = (ListedLaws.calculation_listed wrong log g depth p extra, ListedLaws.edit_listed wrong e log)

-- so these numbers are replied and no other, and a refused edit and an accepted one that holds a refusal differ by the number
pub told_by_number : (e : Edit) (log pile : List ℕ) (extra : Option SandNumbers) (table : List ℕ) (g : ℕ → Soil) (depth : ℕ) (p : Pile)
    → (OneOf (1 ∷ 2 ∷ 3 ∷ 4 ∷ 5 ∷ 6 ∷ 7 ∷ 8 ∷ 9 ∷ 10 ∷ 17 ∷ 11 ∷ 12 ∷ []) (calculation_checks log pile extra table).number ⊎ (calculation_checks log pile extra table ≡ nothing))
    × (OneOf (1 ∷ 2 ∷ 3 ∷ 4 ∷ 13 ∷ 14 ∷ 3 ∷ 4 ∷ []) (edit_checks e log pile table).number ⊎ (edit_checks e log pile table ≡ nothing))
    × (OneOf (5 ∷ 6 ∷ 7 ∷ 8 ∷ 9 ∷ 10 ∷ 17 ∷ 11 ∷ 12 ∷ []) (ground_checks g depth p extra).number ⊎ (ground_checks g depth p extra ≡ nothing))
told_by_number e log pile extra table g depth p = (ListedLaws.calculation_number log pile extra table, ListedLaws.edit_number e log pile table, ListedLaws.ground_number g depth p extra)

-- "a calculation refused by 1 to 4, changes no buffer", "zeros for line, tip, shaft, capacity, uplift and kept"
pub refused_calculation : (log pile : List ℕ) (extra : Option SandNumbers) (table : List ℕ) → refuses (lent_checks log pile table) ≡ true
    → (calculated log pile extra table ≡ refused (lent_checks log pile table)) × (table_after log pile extra table ≡ table)
unfolding calculated table_after
refused_calculation log pile extra table h = (rw h, rw h)

-- "Under 5 to 12 .. the table becomes all zero"
pub refused_pile : (log pile : List ℕ) (extra : Option SandNumbers) (table : List ℕ) → LentPassed log pile table → refuses (calculated log pile extra table).refusal ≡ true
    → (calculated log pile extra table ≡ refused (calculated log pile extra table).refusal) × (table_after log pile extra table ≡ replicate (table_size (limit_of log)) 0)
unfolding calculated table_after fresh_answer fresh_table answer_of held_slices_of table_bytes slices_bytes
refused_pile log pile extra table h g =
    let k = refused_ground _ _ _ extra (rw h at g) in
    let size = table_size (limit_of log) in
    let z : size - 0 ≡ size = omega arith in
    (rw h k.0, rw h (ap (table_bytes size) k.1 ∙ ap (λ (n : ℕ). replicate {A = ℕ} n 0) z))

-- "A refused edit .. changes no buffer."
pub refused_edit_lem : (e : Edit) (log pile : List ℕ) (extra : Option SandNumbers) (table : List ℕ) → refuses (edit_checks e log pile table) ≡ true
    → (edit_reply e log pile extra table ≡ refused (edit_checks e log pile table)) × (edit_log e log pile table ≡ log) × (edit_table e log pile extra table ≡ table)
unfolding edit_reply edit_log edit_table
refused_edit_lem e log pile extra table h = (rw h, rw h, rw h)

-- "Under 5 to 12 .. the table becomes all zero; the log holds the edit": and "zeros for line, tip, shaft, capacity, uplift and kept"
pub refused_pile_of_an_edit : (e : Edit) (log pile : List ℕ) (extra : Option SandNumbers) (table : List ℕ) → Accepted e log pile table → refuses (edit_reply e log pile extra table).refusal ≡ true
    → (edit_reply e log pile extra table ≡ refused (edit_reply e log pile extra table).refusal) × (edit_table e log pile extra table ≡ replicate (length table) 0) × (edit_log e log pile table ≡ edited_log e log)
refused_pile_of_an_edit e log pile extra table h g = Edits.pile_refused e log pile extra table h g

-- "a refused reading gives zero fields, a refused packing changes no buffer"
pub refused_reading : (s : List ℕ) → (refuses (read_log s).refusal ≡ true → (read_log s).log ≡ no_log) × (refuses (read_pile s).refusal ≡ true → read_pile s ≡ pile_told (read_pile s).refusal 0 no_pile)
unfolding read_log read_pile
refused_reading s = (λ h. rw h, λ h. rw h)

pub refused_packing : (l : Log) (p : Pile) (s : List ℕ)
    → (refuses (pack_log_check l s) ≡ true → packed_log l s ≡ s) × (refuses (pack_pile_check p s) ≡ true → packed_pile p s ≡ s)
unfolding packed_log packed_pile
refused_packing l p s = (λ h. rw h, λ h. rw h)

-- Demand 2. "exactly the norm's as document 01 condenses it": every number that 01 prints for its cases A to L,
-- each with its whole reply.
pub cases_a_to_l : map work cases ≡ map print cases
cases_a_to_l = Known.known_numbers

-- Worked edits, with reply, kept, log and table: each of the four kinds accepted, 13, 14, 3 and 4, and one that holds a refusal of the pile.
pub worked_edits_lem : map found_after worked_edits ≡ map right_after worked_edits
worked_edits_lem = KnownEdits.worked_edits_lem

-- "a log that passes the checks has its numbers": a pile stands in its ground where what 01 asks of it holds (Sound, in facts), and then the
-- reply is the five numbers and the table holds the slices of the shaft; and only a pile that stands is not refused.
pub numbers_where_sound : (log pile : List ℕ) (extra : Option SandNumbers) (table : List ℕ) → LentPassed log pile table → Sound (soil_at (rows_of log)) (depth_of (rows_of log)) (pile_of pile) extra
    → (calculated log pile extra table ≡ numbers (soil_at (rows_of log) (below_tip (pile_of pile))) (pile_of pile) (resistance (pile_of pile) extra (soil_at (rows_of log) (below_tip (pile_of pile)))) (line_of (shaft_slices (soil_at (rows_of log)) (pile_of pile))))
    × (table_after log pile extra table ≡ table_bytes (table_size (limit_of log)) (shaft_slices (soil_at (rows_of log)) (pile_of pile)))
numbers_where_sound log pile extra table h s = SoundLaws.sound_numbers log pile extra table h s

pub sound_where_not_refused : (g : ℕ → Soil) (depth : ℕ) (p : Pile) (extra : Option SandNumbers) → p.grade < 2 ^ 16 → refuses (ground_checks g depth p extra) ≡ false → Sound g depth p extra
sound_where_not_refused g depth p extra b h = SoundLaws.passes_sound g depth p extra b h

-- A log that passes the checks has the numbers and the slices of its ground, millimetre by millimetre.
pub answered : (log pile : List ℕ) (extra : Option SandNumbers) (table : List ℕ) → LentPassed log pile table
    → (calculated log pile extra table ≡ answer (soil_at (rows_of log)) (depth_of (rows_of log)) (pile_of pile) extra)
    × (table_after log pile extra table ≡ table_bytes (table_size (limit_of log)) (held_slices (soil_at (rows_of log)) (depth_of (rows_of log)) (pile_of pile) extra))
unfolding calculated table_after fresh_answer fresh_table answer_of held_slices_of
answered log pile extra table h = (rw h, rw h)

-- "The part of each stratum between head and tip is cut from its top into slices of 2,000 mm; the last takes what is left": in order, of the
-- strata of a ground g that is `depth` deep
pub cut_by_strata : (g : ℕ → Soil) (head tip depth : ℕ) → tip ≤ depth → pieces g head tip ≡ cut_parts g head tip (strata g depth)
cut_by_strata g head tip depth h = StratumLaws.cut_by_strata g head tip depth h

-- "tip-stratum top": of the stratum that holds millimetre m
pub top_of_stratum : (g : ℕ → Soil) (m depth : ℕ) → m < depth → run_top g (g m) m ≡ top_of (strata g depth) m
top_of_stratum g m depth h = StratumLaws.top_of_stratum g m depth h

-- "Slice thicknesses add up to tip less head."
pub slices_add_up : (log pile : List ℕ) (extra : Option SandNumbers) (table : List ℕ) → refuses (calculated log pile extra table).refusal ≡ false
    → thickness_sum (held_slices (soil_at (rows_of log)) (depth_of (rows_of log)) (pile_of pile) extra) ≡ (pile_of pile).tip - (pile_of pile).head
unfolding held_slices
slices_add_up log pile extra table h =
    let g = first_off (lent_checks log pile table) _ (rw (OrderLaws.two_groups log pile extra table) at h) in
    rw g.1 (FitLaws.slices_add_up (soil_at (rows_of log)) (pile_of pile))

-- "Friction is kept in units of 1/200 Pa, in which it is always whole.": from 1 m on the division leaves no remainder; above 1 m see request (v)
pub friction_whole : (s : Soil) (mid : ℕ) → metre ≤ mid → friction s mid * (friction_spot s mid).span ≡ friction_weighed (friction_spot s mid) * 20000
friction_whole s mid h = TableLaws.friction_whole s mid h

-- "how many leading slices of the new table already had the same seven bytes at the same place in the lent table": of the two tables alone
pub kept_is : (e : Edit) (log pile : List ℕ) (extra : Option SandNumbers) (table : List ℕ) → Accepted e log pile table → (edit_reply e log pile extra table).kept ≡ kept_of (edit_table e log pile extra table) table
kept_is e log pile extra table h = Edits.kept_of_two e log pile extra table h

-- "records round-trip both ways": fields in range pack into a buffer of the right length, and are read from it; and what is read of bytes packs
-- into any buffer of that length, and leaves it with these bytes.
pub log_round_trip : (l : Log) (s : List ℕ) → LogInRange l → length s ≡ log_size row_limit
    → (pack_log_check l s ≡ nothing) × (read_log (packed_log l s) ≡ record { refusal = nothing; log = l })
log_round_trip l s r h = LogTrip.log_there l s r h

pub log_round_trip_back : (s t : List ℕ) → Bytes s → length t ≡ length s → refuses (read_log s).refusal ≡ false
    → (pack_log_check (read_log s).log t ≡ nothing) × (packed_log (read_log s).log t ≡ s)
log_round_trip_back s t b h g = LogTrip.log_back s t b h g

-- and what is read is in these ranges
pub read_in_range : (s : List ℕ) → (refuses (read_log s).refusal ≡ false → LogInRange (read_log s).log) × (refuses (read_pile s).refusal ≡ false → PileInRange (pile_of_read (read_pile s)))
read_in_range s = (λ h. LogTrip.log_in_range s h, λ h. PileTrip.pile_read_in_range s h)

-- of a pile record of either length: "each length packs back to itself, so a reading also tells the length"; eight bytes take no grade but 0
pub pile_round_trip : (p : Pile) (s : List ℕ) → PileInRange p → TakesGrade (length s) p
    → (pack_pile_check p s ≡ nothing) × (read_pile (packed_pile p s) ≡ pile_told nothing (length s) p)
pile_round_trip p s r h = PileTrip.pile_there p s r h

pub pile_round_trip_back : (s t : List ℕ) → Bytes s → length t ≡ length s → refuses (read_pile s).refusal ≡ false
    → (pack_pile_check (pile_of_read (read_pile s)) t ≡ nothing) × (packed_pile (pile_of_read (read_pile s)) t ≡ s)
pile_round_trip_back s t b h g = PileTrip.pile_back s t b h g

pub slice_round_trip : (cs : List Slice) (i : ℕ) → ((k : ℕ) → k < length cs → Fits slice_widths (slice_fields (get_or cs k no_slice))) → length cs ≤ place_limit
    → read_slice (table_bytes (table_size row_limit) cs) i ≡ record { refusal = 0; slice = get_or cs i no_slice }
slice_round_trip cs i f h = SliceTrip.table_there cs i f h

pub slice_round_trip_back : (s : List ℕ) (i : ℕ) → Bytes s → length s ≡ table_size row_limit → i < place_limit
    → ((read_slice s i).refusal ≡ 0) × (slice_bytes (read_slice s i).slice ≡ take slice_size (drop (i * slice_size) s))
slice_round_trip_back s i b h l = SliceTrip.place_back s i b h l

-- "An accepted edit changes the log": the log is the edited one, the table and the answer are those worked out afresh of it
pub accepted_edit : (e : Edit) (log pile : List ℕ) (extra : Option SandNumbers) (table : List ℕ) → Accepted e log pile table
    → (edit_log e log pile table ≡ edited_log e log) × (edit_table e log pile extra table ≡ fresh_table (edited_log e log) pile extra)
    × (edit_reply e log pile extra table ≡ with_kept (kept_of (edit_table e log pile extra table) table) (fresh_answer (edited_log e log) pile extra))
accepted_edit e log pile extra table h = Edits.accepted_edit e log pile extra table h

-- Demand 3. "After any run of edits the held answer and slice table are those worked out afresh from which soil stands at each millimetre.":
-- from any log and table bytes, once an edit of the run is accepted, and with the pile record of the last accepted one.
pub after_any_run : (cs : List Call) (log table : List ℕ) → any_accepted cs (desk log table) ≡ true → AfterRun cs (desk log table)
after_any_run cs log table h = Run.after_any_run cs (desk log table) h

-- and where none is accepted nothing has changed
pub none_accepted : (cs : List Call) (d : Desk) → any_accepted cs d ≡ false → run cs d ≡ d
none_accepted cs d h = Run.none_after cs d h

-- where afresh is of the ground alone
pub afresh_is : (c : Call) (lent now : Desk) → Afresh c lent now
    → (answer_held c lent ≡ answer (soil_at (rows_of now.log)) (depth_of (rows_of now.log)) (pile_of c.pile) c.extra)
    × (now.table ≡ table_bytes (table_size (limit_of now.log)) (held_slices (soil_at (rows_of now.log)) (depth_of (rows_of now.log)) (pile_of c.pile) c.extra))
afresh_is c lent now a = let k = answered now.log c.pile c.extra now.table a.pieces in (sym a.answer ∙ k.0, sym a.table ∙ k.1)

-- "So two logs that agree at every millimetre give equal answers and tables, however typed."
pub however_typed : (a b pile : List ℕ) (extra : Option SandNumbers) (t u : List ℕ) → LentPassed a pile t → LentPassed b pile u → Agree (rows_of a) (rows_of b)
    → (calculated a pile extra t ≡ calculated b pile extra u) × (table_after a pile extra t ≡ table_after b pile extra u)
however_typed a b pile extra t u p q h = RunLaws.however_typed a b pile extra t u p q h

-- "Rows do not matter, only millimetres do.": an accepted split is answered as a calculation of the log unsplit, and an edit that leaves as one
-- row what a split would part as a calculation of the log in parts.
pub split_changes_nothing : (k x : ℕ) (row log pile : List ℕ) (extra : Option SandNumbers) (table : List ℕ) → Accepted (asked 4 k x row) log pile table → AsCalculated (asked 4 k x row) log log pile extra table
split_changes_nothing k x row log pile extra table h = Edits.split_changes_nothing k x row log pile extra table h

pub merge_changes_nothing : (e : Edit) (k x : ℕ) (log pile : List ℕ) (extra : Option SandNumbers) (table : List ℕ) → Accepted e log pile table → Accepted (asked 4 k x []) (edited_log e log) pile table
    → AsCalculated e log (edited_log (asked 4 k x []) (edited_log e log)) pile extra table
merge_changes_nothing e k x log pile extra table h g = Edits.merge_changes_nothing e k x log pile extra table h g

-- Request (i) of 02. "Demands 2 and 3 read with the grade as part of the record.": every theorem above has it in `pile_of`. Beside them:

-- "An 8-byte record reads as grade 0", and is the record of ten bytes with zeros behind
pub eight_bytes : (s : List ℕ) → length s ≡ plain_size → ((pile_of s).grade ≡ 0) × (pile_of (s ++ (0 ∷ 0 ∷ [])) ≡ pile_of s)
eight_bytes s h = (GradeLaws.plain_level s (omega arith), GradeLaws.pile_behind s 2)

-- a record of eight bytes and one of ten that hold the same fields are answered alike, in a calculation and in an edit, and leave the same bytes
pub either_length : (e : Edit) (a b : List ℕ) (extra : Option SandNumbers) (log table : List ℕ) → length a ≡ plain_size → length b ≡ graded_size → pile_of a ≡ pile_of b
    → (calculated log a extra table ≡ calculated log b extra table) × (table_after log a extra table ≡ table_after log b extra table)
    × (edit_reply e log a extra table ≡ edit_reply e log b extra table) × (edit_log e log a table ≡ edit_log e log b table) × (edit_table e log a extra table ≡ edit_table e log b extra table)
either_length e a b extra log table h k f = (
  GradeLaws.calculated_same a b h k f extra log table,
  GradeLaws.table_same a b h k f extra log table,
  GradeLaws.reply_same a b h k f extra log table e,
  GradeLaws.log_same a b h k f extra log table e,
  GradeLaws.edit_table_same a b h k f extra log table e,
)

-- "Up to 3,000 either way, tables are read as before.": answer and slices are those of grade 0, where no cut bares the head (7). A sand tip's h is
-- less every cut (02 (iv)), so there it is of fills
pub small_grade : (g : ℕ → Soil) (depth : ℕ) (p : Pile) (extra : Option SandNumbers) → cut_depth p.grade ≤ free_grade → fill_height p.grade ≤ free_grade → cut_depth p.grade ≤ p.head
    → (sand (g (below_tip p)) ≡ true → cut_depth p.grade ≡ 0)
    → (answer g depth p extra ≡ answer g depth (with_grade 0 p) extra) × (held_slices g depth p extra ≡ held_slices g depth (with_grade 0 p) extra)
small_grade g depth p extra c f h t = (GradeLaws.answer_level p c f h g depth extra t, GradeLaws.held_level p c f h g depth extra t)

-- Request (iii) of 02. "Show from the row, tip and slice limits that 83 places always do.": in a log of at most n rows that goes down to the
-- tip, a shaft down to at most 40,000 mm has at most n + 19 slices, for every n: 83 for 64 rows
pub always_room : (rs : List Row) (p : Pile) (n : ℕ) → length rs ≤ n → p.tip ≤ depth_of rs → p.tip ≤ tip_limit → length (shaft_slices (soil_at rs) p) ≤ places_for n
always_room rs p n k d h = RoomLaws.slices_room rs p n k d h

-- so what is held of lent bytes has places in the table that goes with the log
pub slices_have_places : (log pile : List ℕ) (extra : Option SandNumbers) (table : List ℕ) → LentPassed log pile table → length (held_slices (soil_at (rows_of log)) (depth_of (rows_of log)) (pile_of pile) extra) ≤ places_for (limit_of log)
slices_have_places log pile extra table h = Room.places_enough log pile extra table h

-- and, whatever is lent, a calculation and an edit leave the table as long as it was
pub table_keeps_its_length : (e : Edit) (log pile : List ℕ) (extra : Option SandNumbers) (table : List ℕ) → (length (table_after log pile extra table) ≡ length table) × (length (edit_table e log pile extra table) ≡ length table)
table_keeps_its_length e log pile extra table = (Room.calculation_long log pile extra table, Room.edit_long e log pile extra table)

-- Request (iv) of 02. "The record counts as part of the pile record in demand 3": every theorem above has it. Beside them:

-- "ignored over clay": whatever record comes, the answer and the slices are the same
pub record_ignored_over_clay : (g : ℕ → Soil) (depth : ℕ) (p : Pile) (x y : Option SandNumbers) → sand (g (below_tip p)) ≡ false
    → (answer g depth p x ≡ answer g depth p y) × (held_slices g depth p x ≡ held_slices g depth p y)
record_ignored_over_clay g depth p x y h = (SandLaws.answer_alike g depth p x y h, SandLaws.slices_alike g depth p x y h)

-- "R is capped by table 7.2 there"
pub sand_below_cap : (p : Pile) (extra : Option SandNumbers) (s : Soil) → sand s ≡ true → resistance p extra s ≤ sand_cap s.kind (tip_of p)
sand_below_cap p extra s h = SandLaws.below_cap p extra s h

-- "A sand tip's capacity takes × 1": whatever its saturation
pub sand_takes_all : (s : Soil) (n : ℕ) → sand s ≡ true → capacity_of s n ≡ n
sand_takes_all s n h = SandLaws.takes_all s n h

-- Request (v) of 02. "A mid-depth, as read, above 1 m now takes the 1 m value times the mid-depth in metres. It is still whole in 1/200 Pa.": no remainder
-- is dropped, and at 1 m both rules agree
pub first_metre_whole : (s : Soil) (mid : ℕ) → mid ≤ metre → friction s mid * metre ≡ friction s metre * mid
first_metre_whole s mid h = FirstMetreLaws.first_metre_whole s mid h

-- Where a cut of 1 m or more leaves the head in the ground (7), no slice of the shaft is read above 1 m, so the request changes nothing there
pub no_first_metre_in_a_cut : (g : ℕ → Soil) (p : Pile) → 1000 ≤ cut_depth p.grade → cut_depth p.grade ≤ p.head → ReadFromOneMetre p (shaft_slices g p)
no_first_metre_in_a_cut g p c h = FirstMetreLaws.cut_read p c h g
