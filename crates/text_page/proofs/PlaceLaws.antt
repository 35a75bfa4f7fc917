-- A place of a table read back: the slice that the table holds there, or none.
use mathlib.Core.Path.{◌≡◌, sym, ◌∙◌, ap}
use mathlib.Core.Bool.{true, false}
use mathlib.Core.Logic.{⊎_elim}
use mathlib.Core.List.{List, [], ◌∷◌}
use Prim.Native.Nat.{ℕ, zero, suc, ◌*◌, ◌-◌, ◌<◌, ◌≤◌}
use native.Mathlib.Omega.{arith}
use lib.Dec.{eqb}
use lib.ListN.{length, get_or, replicate, length-append, get_or-eq_default}
use borrow.Author.Tests.{lt-ltb, le-ltb, ne_eqb}
use Rattle.rules.specs.declared.Slice.{Slice}
use Rattle.rules.specs.Records.{slice_size}
use Rattle.rules.specs.Limits.{row_limit, place_limit, places_for, table_size, table_limit}
use Rattle.rules.specs.Packed.{slice_at, slices_bytes, table_bytes}
use Rattle.rules.specs.Ranges.{SlicesFit}
use Rattle.rules.specs.Reading.{no_slice, read_slice}
use Rattle.rules.proofs.Basics.{sure, split}
use Rattle.rules.proofs.FormLaws.{form_most, table_long}
use Rattle.record_slice_table.proofs.TableLaws.{bytes_long}
use Rattle.record_slice_table.proofs.RoundTrip.{EachFits, places_there}
use Rattle.text_page.specs.Places.{TableOf}

each_fits : (cs : List Slice) → SlicesFit cs → EachFits cs
each_fits [] f k h = absurd (omega arith)
each_fits (c ∷ cs) f zero h = f.1
each_fits (c ∷ cs) f (suc k) h = each_fits cs f.2 k (omega arith)

-- what is read at a place, where a form is told and where it is not
read_past : (t : List ℕ) (i : ℕ) → places_for (table_limit t) ≤ i → (read_slice t i).slice ≡ no_slice
unfolding read_slice
read_past t i h =
    ⊎_elim (λ (e : eqb (table_limit t) 0 ≡ true). rw e) (λ (e : eqb (table_limit t) 0 ≡ false). rw (e, le-ltb i (places_for (table_limit t)) h))
    (sure (eqb (table_limit t) 0))

read_in : (t : List ℕ) (i : ℕ) → 0 < table_limit t → i < places_for (table_limit t) → (read_slice t i).slice ≡ slice_at t i
unfolding read_slice
read_in t i f h = rw (ne_eqb (table_limit t) 0 (λ e. omega arith), lt-ltb i (places_for (table_limit t)) h)

slice_some : (cs : List Slice) (i : ℕ) → SlicesFit cs → i < length cs → 0 < (get_or cs i no_slice).thickness
slice_some [] i f h = absurd (omega arith)
slice_some (c ∷ cs) zero f h = f.0
slice_some (c ∷ cs) (suc i) f h = slice_some cs i f.2 (omega arith)

module _ (cs : List Slice) (t : List ℕ) (g : TableOf cs t) where
  few : length cs ≤ places_for (table_limit t)
  unfolding table_bytes
  few = omega (arith, bytes_long cs, length-append (slices_bytes cs) (replicate (length t - length cs * slice_size) 0), ap length g.bytes, table_long t g.form)

  pub few_places : length cs ≤ place_limit
  unfolding table_limit
  few_places = let m : table_limit t ≤ row_limit = form_most table_size (length t) in omega (arith, few)

  -- c is what place i shows: slices end where no thickness is read
  module _ (i : ℕ) (c : Slice) (e : c ≡ (read_slice t i).slice) where
    pub place_is : c ≡ get_or cs i no_slice
    unfolding table_bytes
    place_is =
        e ∙ ⊎_elim (λ (h : i < places_for (table_limit t)).
        read_in t i g.form h ∙ ap (λ (x : List ℕ). slice_at x i) g.bytes ∙ places_there cs (length t - length cs * slice_size) i (each_fits cs g.fit))
        (λ (h : places_for (table_limit t) ≤ i). let k : length cs ≤ i = omega (arith, few) in read_past t i h ∙ sym (get_or-eq_default cs no_slice k))
        (split i (places_for (table_limit t)))

    pub slice_here : (c.thickness ≡ 0 → ⊥) → i < length cs
    slice_here h =
        ⊎_elim (λ (l : i < length cs). l)
        (λ (l : length cs ≤ i). absurd (h (ap (λ (x : Slice). x.thickness) (place_is ∙ get_or-eq_default cs no_slice l))))
        (split i (length cs))

    pub slice_none : c.thickness ≡ 0 → length cs ≤ i
    slice_none h =
        ⊎_elim (λ (l : i < length cs). let k : 0 < c.thickness = rw place_is (slice_some cs i g.fit l) in absurd (omega arith)) (λ (l : length cs ≤ i). l)
        (split i (length cs))
