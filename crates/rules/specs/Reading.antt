-- Reading and packing by themselves. "Reading or packing a log by itself checks 1 to 3, a pile record 1, 5 and 6, and no more"
use Rattle.std.specs.Prelude.{Bool, true, List, [], ◌∷◌, ℕ, ltb, eqb, length, take, drop, replicate}
use Rattle.rules.specs.declared.Refusal.{Refusal}
use Rattle.rules.specs.declared.Row.{Row}
use Rattle.rules.specs.declared.Log.{Log}
use Rattle.rules.specs.declared.Pile.{Pile}
use Rattle.rules.specs.declared.Slice.{Slice}
use Rattle.rules.specs.declared.LogRead.{LogRead}
use Rattle.rules.specs.declared.PileRead.{PileRead}
use Rattle.rules.specs.declared.SliceRead.{SliceRead}
use Rattle.rules.specs.Base.{pick, both, either, neg, refuses, when, in_order, all_zero}
use Rattle.rules.specs.Records.{row_fields, pile_from, plain_size, slice_from}
use Rattle.rules.specs.Limits.{row_limit, places_for, limit_of, table_limit}
use Rattle.rules.specs.Packed.{rows_of, log_of, pile_of, slice_at, no_row, log_bytes, pile_bytes}
use Rattle.rules.specs.Checks.{formless, pile_length_wrong, count_wrong, unused_wrong, first_wrong, section_check, method_wrong}

-- "a refused reading gives zero fields"
abbrev pub no_log : Log
no_log = record { count = 0; rows = replicate row_limit no_row }

abbrev pub no_pile : Pile
no_pile = pile_from []

abbrev pub no_slice : Slice
no_slice = slice_from []

unfoldable pub read_log : List ℕ → LogRead
read_log s =
    let r = in_order (when (formless s) 1 ∷ when (unused_wrong s) 2 ∷ first_wrong 1 (rows_of s) ∷ []) in
    record { refusal = r; log = pick (refuses r) no_log (log_of s) }

-- what a reading tells of a pile record: its refusal, its length and its fields, the grade as the number of its 16 bits
abbrev pub pile_told : Refusal → ℕ → Pile → PileRead
pile_told r n p = record {
  refusal = r;
  length = n;
  section = p.section;
  a = p.a;
  b = p.b;
  method = p.method;
  head = p.head;
  tip = p.tip;
  zero = p.zero;
  grade = p.grade;
}

-- the fields of a reading, and of what is given to a packing, which looks at no other
abbrev pub pile_of_read : PileRead → Pile
pile_of_read r = record {
  section = r.section;
  a = r.a;
  b = r.b;
  method = r.method;
  head = r.head;
  tip = r.tip;
  zero = r.zero;
  grade = r.grade;
}

-- 02 (i): "each length packs back to itself, so a reading also tells the length": 0 where it is refused
unfoldable pub read_pile : List ℕ → PileRead
read_pile s =
    let r = in_order (when (pile_length_wrong s) 1 ∷ section_check (pile_of s) ∷ when (method_wrong (pile_of s)) 6 ∷ []) in
    pile_told r (pick (refuses r) 0 (length s)) (pick (refuses r) no_pile (pile_of s))

-- one place of a slice table, counted from 0; past the last: all zero
unfoldable pub read_slice : List ℕ → ℕ → SliceRead
read_slice s i =
    let here = pick (ltb i (places_for (table_limit s))) (slice_at s i) no_slice in
    pick (eqb (table_limit s) 0) (record { refusal = 1; slice = no_slice }) (record { refusal = 0; slice = here })

-- an unused place: every field is 0
abbrev pub row_zero : Row → Bool
row_zero r = all_zero (row_fields r)

unfoldable pub rows_zero : List Row → Bool
rows_zero [] = true
rows_zero (r ∷ rs) = let on = rows_zero rs in both (row_zero r) on

-- 2 of fields that are packed
unfoldable pub unused_fields : ℕ → Log → Bool
unused_fields n l = let blank = rows_zero (drop l.count (take row_limit l.rows)) in either (count_wrong n l.count) (neg blank)

unfoldable pub pack_log_check : Log → List ℕ → Refusal
pack_log_check l s = in_order (when (formless s) 1 ∷ when (unused_fields (limit_of s) l) 2 ∷ first_wrong 1 (take l.count l.rows) ∷ [])

-- "a refused packing changes no buffer"
unfoldable pub packed_log : Log → List ℕ → List ℕ
packed_log l s = pick (refuses (pack_log_check l s)) s (log_bytes (limit_of s) l)

-- 02 (i): "Packing a grade other than 0 to 8 bytes is refusal 1."
abbrev pub grade_lost : ℕ → List ℕ → Bool
grade_lost grade s = both (eqb (length s) plain_size) (neg (eqb grade 0))

unfoldable pub pack_pile_check : Pile → List ℕ → Refusal
pack_pile_check p s = in_order (when (either (pile_length_wrong s) (grade_lost p.grade s)) 1 ∷ section_check p ∷ when (method_wrong p) 6 ∷ [])

unfoldable pub packed_pile : Pile → List ℕ → List ℕ
packed_pile p s = pick (refuses (pack_pile_check p s)) s (pile_bytes (length s) p)
