-- That each contract of the layer text settles its reply.
use mathlib.Core.Path.{◌≡◌, refl, sym, ◌∙◌}
use mathlib.Core.List.{List}
use Prim.Native.Nat.{ℕ}
use Rattle.text_writing.specs.declared.Writer.{Writer}
use Rattle.text_writing.specs.Text.{Puts}
use Rattle.settled.proofs.Settled.{Settled}
use Rattle.text_writing.proofs as text_writing
use Rattle.text_lines.proofs as text_lines
use Rattle.text_page.proofs as text_page

-- a writer after a text is put: its buffer, the bytes there and the place
put_once : {old v w : Writer} {text : List ℕ} → Puts old text v → Puts old text w → v ≡ w
put_once p q = λ i. record {
  buf = record {
    ref_ptr = (p.same_place ∙ sym q.same_place) i;
    ghost_name = (p.same_buffer ∙ sym q.same_buffer) i;
    now = (p.put.bytes ∙ sym q.put.bytes) i;
  };
  at = (p.put.place ∙ sym q.put.place) i;
}

pub put_bytes : Settled text_writing.Writer.put_bytes.Kinds.ps text_writing.Writer.put_bytes.Kinds.r text_writing.Writer.put_bytes.Reads.Pre text_writing.Writer.put_bytes.Reads.Learnt
put_bytes _ _ _ h g = (refl, put_once h g)

pub put_numbers : Settled text_writing.Writer.put_numbers.Kinds.ps text_writing.Writer.put_numbers.Kinds.r text_writing.Writer.put_numbers.Reads.Pre text_writing.Writer.put_numbers.Reads.Learnt
put_numbers _ _ _ h g = (refl, put_once h.0 g.0)

pub print_answer : Settled text_lines.print_answer.Kinds.ps text_lines.print_answer.Kinds.r text_lines.print_answer.Reads.Pre text_lines.print_answer.Reads.Learnt
print_answer _ _ _ h g = (refl, put_once h.0 g.0)

pub print_slice : Settled text_lines.print_slice.Kinds.ps text_lines.print_slice.Kinds.r text_lines.print_slice.Reads.Pre text_lines.print_slice.Reads.Learnt
print_slice _ _ _ h g = (refl, put_once h.0 g.0)

pub print_total : Settled text_lines.print_total.Kinds.ps text_lines.print_total.Kinds.r text_lines.print_total.Reads.Pre text_lines.print_total.Reads.Learnt
print_total _ _ _ h g = (refl, put_once h.0 g.0)

pub sheet : Settled text_page.sheet.Kinds.ps text_page.sheet.Kinds.r text_page.sheet.Reads.Pre text_page.sheet.Reads.Learnt
sheet _ _ _ h g = cc
