-- That each contract of the layer record settles its reply.
use Rattle.std.specs.Prelude.{Result, IfOk}
use mathlib.Core.Path.{◌≡◌, refl, sym, ◌∙◌, subst}
use mathlib.Core.HLevel.{is_prop→PathP}
use mathlib.Core.Bool.{false, Bool-set}
use mathlib.Core.List.{List}
use Prim.Native.Nat.{ℕ}
use mir.Syntax.{w64}
use mir.Val.{Fits}
use native.Mathlib.Omega.{arith}
use native.Mathlib.Nat.{ℕ_set}
use denote.Ref.{Bor}
use Rattle.rules.specs.declared.faults.Fault.{Fault}
use Rattle.rules.specs.Base.{refuses}
use Rattle.rules.specs.Packed.{rows_of}
use Rattle.rules.specs.Ground.{depth_of}
use Rattle.rules.specs.Checks.{log_checks, Passed}
use Rattle.rules.specs.Faults.{refusal_in}
use Rattle.settled.proofs.Outcomes.{one_reply, one_check, one_fault, one_row_field, one_limit}
use Rattle.record_bits.specs.declared.Cursor.{Cursor}
use Rattle.record_log_checks.specs.declared.checked.PassedLog.{PassedLog}
use Rattle.record_log_checks.specs.declared.checked.CheckedLog.{CheckedLog}
use Rattle.settled.proofs.Settled.{Settled}
use Rattle.record_bits.proofs as record_bits
use Rattle.record_words.proofs as record_words
use Rattle.record_word_bytes.proofs as record_word_bytes
use Rattle.record_row_ranges.proofs as record_row_ranges
use Rattle.record_pile_ranges.proofs as record_pile_ranges
use Rattle.record_row_bytes.proofs as record_row_bytes
use Rattle.record_rows.proofs as record_rows
use Rattle.record_lengths.proofs as record_lengths
use Rattle.record_unused.proofs as record_unused
use Rattle.record_log_checks.proofs as record_log_checks
use Rattle.record_logs.proofs as record_logs
use Rattle.record_packing.proofs as record_packing
use Rattle.record_piles.proofs as record_piles
use Rattle.record_pile_bytes.proofs as record_pile_bytes
use Rattle.record_slices.proofs as record_slices
use Rattle.record_slice_table.proofs as record_slice_table

cursor : {r q : Cursor} → r.word ≡ q.word → r.at ≡ q.at → r ≡ q
cursor w a = λ i. record { word = w i; at = a i }

pub over : Settled record_bits.Cursor.over.Kinds.ps record_bits.Cursor.over.Kinds.r record_bits.Cursor.over.Reads.Pre record_bits.Cursor.over.Reads.Learnt
over _ _ _ h g = cursor (cc) (omega (arith, h.1, g.1))

pub take : Settled record_bits.Cursor.take.Kinds.ps record_bits.Cursor.take.Kinds.r record_bits.Cursor.take.Reads.Pre record_bits.Cursor.take.Reads.Learnt
take _ _ _ h g = (cc, cursor (cc) (cc))

pub put : Settled record_bits.Cursor.put.Kinds.ps record_bits.Cursor.put.Kinds.r record_bits.Cursor.put.Reads.Pre record_bits.Cursor.put.Reads.Learnt
put _ _ _ h g = (refl, cursor (cc) (cc))

pub whole_five : Settled record_words.whole_five.Kinds.ps record_words.whole_five.Kinds.r record_words.whole_five.Reads.Pre record_words.whole_five.Reads.Learnt
whole_five _ _ _ h g = cc

pub whole_number : (n : ℕ) (fits : Fits w64 n) → Settled (record_words.whole_number.Kinds.ps n fits) (record_words.whole_number.Kinds.r n fits) (record_words.whole_number.Reads.Pre n fits) (record_words.whole_number.Reads.Learnt n fits)
whole_number _ _ _ _ _ h g = cc

pub number_of : (n : ℕ) (fits : Fits w64 n) → Settled (record_words.number_of.Kinds.ps n fits) (record_words.number_of.Kinds.r n fits) (record_words.number_of.Reads.Pre n fits) (record_words.number_of.Reads.Learnt n fits)
number_of _ _ _ _ _ h g = cc

pub bytes_of : Settled record_word_bytes.bytes_of.Kinds.ps record_word_bytes.bytes_of.Kinds.r record_word_bytes.bytes_of.Reads.Pre record_word_bytes.bytes_of.Reads.Learnt
bytes_of _ _ _ h g = cc

pub row_zero : Settled record_row_ranges.row_zero.Kinds.ps record_row_ranges.row_zero.Kinds.r record_row_ranges.row_zero.Reads.Pre record_row_ranges.row_zero.Reads.Learnt
row_zero _ _ _ h g = cc

pub row_field : Settled record_row_ranges.row_field.Kinds.ps record_row_ranges.row_field.Kinds.r record_row_ranges.row_field.Reads.Pre record_row_ranges.row_field.Reads.Learnt
row_field _ b d h g = one_row_field b.value d.value (h ∙ sym g)

pub row_good : Settled record_row_ranges.row_good.Kinds.ps record_row_ranges.row_good.Kinds.r record_row_ranges.row_good.Reads.Pre record_row_ranges.row_good.Reads.Learnt
row_good _ _ _ h g = cc

pub pile_refusal : Settled record_pile_ranges.pile_refusal.Kinds.ps record_pile_ranges.pile_refusal.Kinds.r record_pile_ranges.pile_refusal.Reads.Pre record_pile_ranges.pile_refusal.Reads.Learnt
pile_refusal _ b d h g = one_check b.value d.value (h ∙ sym g)

pub no_row : Settled record_rows.no_row.Kinds.ps record_rows.no_row.Kinds.r record_rows.no_row.Reads.Pre record_rows.no_row.Reads.Learnt
no_row _ _ _ h g = cc

pub read_row : Settled record_rows.read_row.Kinds.ps record_rows.read_row.Kinds.r record_rows.read_row.Reads.Pre record_rows.read_row.Reads.Learnt
read_row _ _ _ h g = cc

pub row_inside : Settled record_rows.row_inside.Kinds.ps record_rows.row_inside.Kinds.r record_rows.row_inside.Reads.Pre record_rows.row_inside.Reads.Learnt
row_inside _ _ _ h g = cc

pub row_bytes : Settled record_row_bytes.row_bytes.Kinds.ps record_row_bytes.row_bytes.Kinds.r record_row_bytes.row_bytes.Reads.Pre record_row_bytes.row_bytes.Reads.Learnt
row_bytes _ _ _ h g = cc

pub row_limit : Settled record_lengths.row_limit.Kinds.ps record_lengths.row_limit.Kinds.r record_lengths.row_limit.Reads.Pre record_lengths.row_limit.Reads.Learnt
row_limit _ b d h g = one_limit _ b.value d.value (h.0 ∙ sym g.0) h.1 g.1

pub table_limit : Settled record_lengths.table_limit.Kinds.ps record_lengths.table_limit.Kinds.r record_lengths.table_limit.Reads.Pre record_lengths.table_limit.Reads.Learnt
table_limit _ b d h g = one_limit _ b.value d.value (h.0 ∙ sym g.0) h.1 g.1

pub pile_length_wrong : Settled record_lengths.pile_length_wrong.Kinds.ps record_lengths.pile_length_wrong.Kinds.r record_lengths.pile_length_wrong.Reads.Pre record_lengths.pile_length_wrong.Reads.Learnt
pile_length_wrong _ _ _ h g = cc

pub lengths_wrong : Settled record_lengths.lengths_wrong.Kinds.ps record_lengths.lengths_wrong.Kinds.r record_lengths.lengths_wrong.Reads.Pre record_lengths.lengths_wrong.Reads.Learnt
lengths_wrong _ _ _ h g = cc

pub row_refusal : Settled record_log_checks.row_refusal.Kinds.ps record_log_checks.row_refusal.Kinds.r record_log_checks.row_refusal.Reads.Pre record_log_checks.row_refusal.Reads.Learnt
row_refusal _ _ _ h g = cc

pub row_fault : Settled record_log_checks.row_fault.Kinds.ps record_log_checks.row_fault.Kinds.r record_log_checks.row_fault.Reads.Pre record_log_checks.row_fault.Reads.Learnt
row_fault _ b d h g = one_fault b.value d.value (h ∙ sym g)

pub count_wrong : Settled record_unused.count_wrong.Kinds.ps record_unused.count_wrong.Kinds.r record_unused.count_wrong.Reads.Pre record_unused.count_wrong.Reads.Learnt
count_wrong _ _ _ h g = cc

pub unused_wrong : Settled record_unused.unused_wrong.Kinds.ps record_unused.unused_wrong.Kinds.r record_unused.unused_wrong.Reads.Pre record_unused.unused_wrong.Reads.Learnt
unused_wrong _ _ _ h g = cc

-- a log past its checks is told by its bytes, and with how deep it is by its depth too
passed : {r s : PassedLog} → r.bytes ≡ s.bytes → r ≡ s
passed {r} {s} b = λ i. record { bytes = b i; passed = is_prop→PathP (λ k. Passed (b k).now) (λ k. Bool-set (refuses (log_checks (b k).now)) false) r.passed s.passed i }

checked : {r s : CheckedLog} → r.log.bytes ≡ s.log.bytes → r.depth ≡ s.depth → r ≡ s
unfolding passed
checked {r} {s} b d = λ i. record {
  log = passed {r = r.log} {s = s.log} b i;
  depth = d i;
  deep = is_prop→PathP (λ k. d k ≡ depth_of (rows_of (b k).now)) (λ k. ℕ_set (d k) (depth_of (rows_of (b k).now))) r.deep s.deep i;
}

module _ (s : Bor (List ℕ)) (n : ℕ) where
  abbrev Is : CheckedLog → Type 0
  Is r = (r.log.bytes ≡ s) × (r.depth ≡ n)

  both : {r q : CheckedLog} → Is r → Is q → r ≡ q
  both x y = checked (x.0 ∙ sym y.0) (x.1 ∙ sym y.1)

  one_log : (r q : Result CheckedLog Fault) → refusal_in r ≡ refusal_in q → IfOk r Is → IfOk q Is → r ≡ q
  one_log r q h x y = one_reply r q h (λ a b e f. both (subst (λ t. IfOk t Is) e x) (subst (λ t. IfOk t Is) f y))

pub check_content : Settled record_log_checks.check_content.Kinds.ps record_log_checks.check_content.Kinds.r record_log_checks.check_content.Reads.Pre record_log_checks.check_content.Reads.Learnt
check_content _ b d h g = one_log _ _ b.value d.value (h.0 ∙ sym g.0) h.1 g.1

pub row : Settled record_log_checks.checked.PassedLog.row.Kinds.ps record_log_checks.checked.PassedLog.row.Kinds.r record_log_checks.checked.PassedLog.row.Reads.Pre record_log_checks.checked.PassedLog.row.Reads.Learnt
row _ _ _ h g = cc

pub read_log : Settled record_logs.read_log.Kinds.ps record_logs.read_log.Kinds.r record_logs.read_log.Reads.Pre record_logs.read_log.Reads.Learnt
read_log _ _ _ h g = cc

pub pack_log : Settled record_packing.pack_log.Kinds.ps record_packing.pack_log.Kinds.r record_packing.pack_log.Reads.Pre record_packing.pack_log.Reads.Learnt
pack_log _ b d h g = (one_check b.value d.value (h.0 ∙ sym g.0), cc)

pub take_pile : Settled record_piles.take_pile.Kinds.ps record_piles.take_pile.Kinds.r record_piles.take_pile.Reads.Pre record_piles.take_pile.Reads.Learnt
take_pile _ _ _ h g = cc

pub read_pile : Settled record_piles.read_pile.Kinds.ps record_piles.read_pile.Kinds.r record_piles.read_pile.Reads.Pre record_piles.read_pile.Reads.Learnt
read_pile _ _ _ h g = cc

pub pack_pile : Settled record_pile_bytes.pack_pile.Kinds.ps record_pile_bytes.pack_pile.Kinds.r record_pile_bytes.pack_pile.Reads.Pre record_pile_bytes.pack_pile.Reads.Learnt
pack_pile _ b d h g = (one_check b.value d.value (h.0 ∙ sym g.0), cc)

pub read_slice : Settled record_slices.read_slice.Kinds.ps record_slices.read_slice.Kinds.r record_slices.read_slice.Reads.Pre record_slices.read_slice.Reads.Learnt
read_slice _ _ _ h g = cc

pub slice_bytes : Settled record_slices.slice_bytes.Kinds.ps record_slices.slice_bytes.Kinds.r record_slices.slice_bytes.Reads.Pre record_slices.slice_bytes.Reads.Learnt
slice_bytes _ _ _ h g = cc

pub clear_table : Settled record_slice_table.clear_table.Kinds.ps record_slice_table.clear_table.Kinds.r record_slice_table.clear_table.Reads.Pre record_slice_table.clear_table.Reads.Learnt
clear_table _ _ _ h g = (refl, cc)

pub put_slice : Settled record_slice_table.put_slice.Kinds.ps record_slice_table.put_slice.Kinds.r record_slice_table.put_slice.Reads.Pre record_slice_table.put_slice.Reads.Learnt
put_slice _ _ _ h g = (refl, cc)
