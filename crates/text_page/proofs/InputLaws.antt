-- The form of an input by its length, the log and the pile record that it is cut into, and that the table of their calculation holds their slices.
use Rattle.std.specs.Prelude.{Option, Some, None, unwrap_or, IfSome}
use Rattle.std.specs.Option.{option_or}
use mathlib.Core.Path.{◌≡◌, refl, sym, ◌∙◌, ap}
use mathlib.Core.Bool.{Bool, true, false}
use mathlib.Core.Logic.{⊎_elim, inl, inr}
use mathlib.Core.List.{List, [], ◌∷◌}
use Prim.Native.Nat.{ℕ, ◌<◌, ◌≤◌, min}
use native.Mathlib.Omega.{arith}
use lib.Dec.{eqb}
use lib.ListN.{length, take, drop, replicate, drop_of_length-le}
use lib.Seq.{take_all}
use borrow.Author.Tests.{eqb-true, eq-eqb, ne_eqb}
use Rattle.rules.specs.declared.Answer.{Answer}
use Rattle.rules.specs.declared.Slice.{Slice}
use Rattle.rules.specs.Base.{pick, refuses, when}
use Rattle.rules.specs.Limits.{row_limit, forms, log_size, table_size, form_by, limit_of, table_limit}
use Rattle.rules.specs.Packed.{rows_of, pile_of}
use Rattle.rules.specs.Checks.{lengths_wrong, lent_checks}
use Rattle.rules.specs.Calculation.{held_slices_of, fresh_table, calculated, table_after}
use Rattle.rules.specs.Sheet.{input_limit, input_log, input_pile, sheet_of, sheet_text}
use Rattle.rules.proofs.Basics.{sure, split}
use Rattle.rules.proofs.RefusalLaws.{first_off, when_off}
use Rattle.answer_calculation.proofs.CheckedLaws.{long}
use Rattle.text_lines.specs.Lines.{Holds}
use Rattle.text_page.specs.Pages.{page_size}
use Rattle.text_page.specs.Places.{TableOf, Printable}
use Rattle.ground_cuts.proofs.FitLaws.{rows_fit}

-- the form told by a length without a grade, else that by one with a grade
pub first_form : (plain graded : Option ℕ) (m n : ℕ) → unwrap_or plain 0 ≡ m → unwrap_or graded 0 ≡ n → IfSome plain (λ limit. (0 < limit) × (limit ≤ row_limit))
    → unwrap_or (option_or plain graded) 0 ≡ pick (eqb m 0) n m
first_form None graded m n e f h = rw (← e) f
first_form (Some limit) graded m n e f h = rw (← e, ne_eqb limit 0 (λ z. omega (arith, h.0))) refl

-- and no form's limit is above that of the longest
pub limit_most : (told : Option ℕ) → IfSome told (λ limit. (0 < limit) × (limit ≤ row_limit)) → unwrap_or told 0 ≤ row_limit
limit_most None h = omega arith
limit_most (Some limit) h = h.1

-- the cut at the end of the log, also where the input is shorter
pub cut_same : (s : List ℕ) (k end : ℕ) → end ≡ min k (length s) → (take end s ≡ take k s) × (drop end s ≡ drop k s)
cut_same s k end e =
    ⊎_elim (λ (h : k < length s). let z : end ≡ k = omega arith in (rw z, rw z))
    (λ (h : length s ≤ k).
    let z : length s ≤ end = omega arith in
    (take_all end s z ∙ sym (take_all k s h), drop_of_length-le s z ∙ sym (drop_of_length-le s h)))
    (split k (length s))

-- the table that goes with a log of a form has that form
again : (ns : List ℕ) (len : ℕ) → 0 < form_by log_size ns len → form_by table_size ns (table_size (form_by log_size ns len)) ≡ form_by log_size ns len
again [] len h = absurd (omega arith)
again (n ∷ ns) len h = go (eqb len (log_size n)) (form_by log_size ns len) (again ns len) h
  where
    go : (t : Bool) (m : ℕ) → (0 < m → form_by table_size ns (table_size m) ≡ m) → 0 < pick t n m → form_by table_size (n ∷ ns) (table_size (pick t n m)) ≡ pick t n m
    go true m on h = rw (eq-eqb (table_size n) (table_size n) refl)
    go false m on h =
        ⊎_elim (λ (e : eqb (table_size m) (table_size n) ≡ true). let k : n ≡ m = omega (arith, eqb-true (table_size m) (table_size n) e) in rw e k)
        (λ (e : eqb (table_size m) (table_size n) ≡ false). rw e (on h))
        (sure (eqb (table_size m) (table_size n)))

module _ (log pile zeros after : List ℕ) (a : Answer) (e : a ≡ calculated log pile None zeros) (f : after ≡ table_after log pile None zeros) (l : length after ≡ length zeros) where
  held : refuses (lent_checks log pile zeros) ≡ false → TableOf (held_slices_of (rows_of log) (pile_of pile) None) after
  unfolding lent_checks table_after fresh_table limit_of table_limit
  held h =
      let g = long log pile zeros (when_off 0 (lengths_wrong log pile zeros) (first_off (when (lengths_wrong log pile zeros) 1) _ h).0) in
      let size : length after ≡ table_size (limit_of log) = l ∙ g.size in
      record { form = rw (size, again forms (length log) g.form) g.form; fit = rows_fit (rows_of log) pile None; bytes = f ∙ (rw (h, size)) }

  pub shown : Printable a after (held_slices_of (rows_of log) (pile_of pile) None)
  unfolding calculated
  shown =
      ⊎_elim (λ (h : refuses (lent_checks log pile zeros) ≡ true). inl (ap (λ (x : Answer). refuses x.refusal) e ∙ rw (h, h)))
      (λ (h : refuses (lent_checks log pile zeros) ≡ false). inr (held h))
      (sure (refuses (lent_checks log pile zeros)))

-- what is laid out of the calculation on an input, cut as its form says, is the sheet's text
pub sheet_laid : (input log pile zeros after bytes : List ℕ) (n at : ℕ) (a : Answer) → n ≡ input_limit input → log ≡ input_log n input → pile ≡ input_pile n input
    → zeros ≡ replicate (table_size n) 0 → a ≡ calculated log pile None zeros → after ≡ table_after log pile None zeros → length after ≡ length zeros
    → ((cs : List Slice) → Printable a after cs → Holds page_size bytes at (sheet_of a cs)) → Holds page_size bytes at (sheet_text input)
unfolding sheet_text
sheet_laid input log pile zeros after bytes n at a told p q z e f l g =
    let text : sheet_text input ≡ sheet_of a (held_slices_of (rows_of log) (pile_of pile) None) = rw (← told, ← p, ← q, ← z, ← e) in
    rw text (g (held_slices_of (rows_of log) (pile_of pile) None) (shown log pile zeros after a e f l))
