-- The page that a sheet comes to.
use mathlib.Core.Path.{◌≡◌, refl, ◌∙◌, ap}
use mathlib.Core.Bool.{true}
use mathlib.Core.Logic.{⊎_elim}
use mathlib.Core.List.{List, ◌++◌}
use Prim.Native.Nat.{ℕ, zero, suc, ◌-◌, ◌≤◌}
use native.Mathlib.Omega.{arith}
use lib.ListN.{length, take, replicate, length-replicate}
use lib.Seq.{take-append_seam}
use borrow.Author.Tests.{ltb-true}
use Rattle.rules.specs.declared.Answer.{Answer}
use Rattle.rules.specs.declared.Slice.{Slice}
use Rattle.rules.specs.Base.{refuses}
use Rattle.text_lines.specs.Lines.{Holds}
use Rattle.text_page.specs.declared.Page.{Page}
use Rattle.text_page.specs.Places.{TableOf, Printable}
use Rattle.text_page.specs.Pages.{page_size, page_of}

pub page_long : (bytes : List ℕ) → bytes ≡ replicate page_size 0 → length bytes ≡ page_size
page_long bytes e = ap length e ∙ length-replicate {A = ℕ} page_size 0

-- no refusal: the slices that are shown are the table's
pub shown_table : (a : Answer) (table : List ℕ) (cs : List Slice) → a.refusal.number ≤ 0 → Printable a table cs → TableOf cs table
shown_table a table cs h s = ⊎_elim (λ (r : refuses a.refusal ≡ true). absurd (omega (arith, ltb-true 0 a.refusal.number r))) (λ t. t) s

-- the first of some zeros
pub take_zeros : (n m : ℕ) → n ≤ m → take {A = ℕ} n (replicate m 0) ≡ replicate n 0
take_zeros zero m h = refl
take_zeros (suc n) zero h = absurd (omega arith)
take_zeros (suc n) (suc m) h = rw (take_zeros n m (omega arith))

pub page_is : (bytes : List ℕ) (at : ℕ) (text : List ℕ) → Holds page_size bytes at text → ◌≡◌ {A = Page} (record { bytes = bytes; len = at }) (page_of text)
page_is bytes at text h =
    let b : bytes ≡ text ++ replicate (page_size - length text) 0 = h.bytes ∙ ap (λ (k : ℕ). text ++ replicate (page_size - k) 0) h.place in
    λ i. record { bytes = b i; len = h.place i }

-- what is printed of a page, its first len bytes, is the text
pub page_text : (text : List ℕ) → take (page_of text).len (page_of text).bytes ≡ text
page_text text = take-append_seam text (replicate (page_size - length text) 0)
