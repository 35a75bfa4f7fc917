-- A place of a slice table: the word that holds it, and its reading.
use mathlib.Core.Path.{◌≡◌, ◌∙◌}
use mathlib.Core.List.{List}
use Prim.Native.Nat.{ℕ, ◌*◌, ◌-◌, ◌/◌, ◌^◌, ◌<◌, ◌≤◌}
use native.Mathlib.Nat.{add-zero}
use native.Mathlib.Omega.{arith}
use borrow.Author.Tests.{lt-ltb, le-ltb, eq-eqb, ne_eqb}
use lib.ListN.{length, get_or, take, drop}
use Rattle.rules.specs.declared.Slice.{Slice}
use Rattle.rules.specs.declared.SliceRead.{SliceRead}
use Rattle.rules.specs.Widths.{bits_of}
use Rattle.rules.specs.Records.{slice_size, slice_widths}
use Rattle.rules.specs.Limits.{forms, places_for, table_size, table_limit, form_by}
use Rattle.rules.specs.Packed.{number_at, slice_at}
use Rattle.rules.specs.Reading.{no_slice, read_slice}
use Rattle.rules.proofs.FormLaws.{form_size}
use Rattle.rules.proofs.WidthLaws.{number_part, number_less}
use Rattle.record_bits.specs.Word.{word_size, word_bits}
use Rattle.record_bits.proofs.BitLaws.{part_whole}

-- the bits of a word behind a slice that stands at its top
abbrev pub spare : ℕ
spare = word_bits - bits_of slice_widths

pub word_slice : (s : List ℕ) → get_or s slice_size 0 < 256 → number_at s 0 word_size / 2 ^ spare ≡ number_at s 0 slice_size
word_slice s h = number_less slice_size s h

abbrev pub says : ℕ → Slice → SliceRead
says n c = record { refusal = n; slice = c }

-- a place of a table of which the length tells this limit begins inside
pub slice_inside : (len i limit : ℕ) → limit ≡ form_by table_size forms len → (limit ≡ 0 → ⊥) → i < places_for limit → i * slice_size ≤ len
slice_inside len i limit told some h = let long : len ≡ table_size limit = rw told (form_size table_size len (omega arith)) in omega arith

module _ (s : List ℕ) (i limit : ℕ) (told : limit ≡ form_by table_size forms (length s)) where
  pub slice_long : limit ≡ 0 → says 1 no_slice ≡ read_slice s i
  unfolding read_slice table_limit
  slice_long h = rw (← told, eq-eqb limit 0 h)

  module _ (some : limit ≡ 0 → ⊥) where
    pub slice_past : places_for limit ≤ i → says 0 no_slice ≡ read_slice s i
    unfolding read_slice table_limit
    slice_past h = rw (← told, ne_eqb limit 0 some, le-ltb i (places_for limit) h)

    -- place i is the first of what begins there
    pub slice_read : (c : Slice) → i < places_for limit → c ≡ slice_at (take (length s - i * slice_size) (drop (i * slice_size) s)) 0 → says 0 c ≡ read_slice s i
    unfolding read_slice table_limit slice_at
    slice_read c h e =
        let part : c ≡ slice_at s i = e ∙ rw (part_whole s (i * slice_size), number_part s (i * slice_size) 0 slice_size, add-zero) in
        rw (← told, ne_eqb limit 0 some, lt-ltb i (places_for limit) h, part)
