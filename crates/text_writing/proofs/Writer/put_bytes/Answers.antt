-- The bytes that a copy leaves are those of the text stored one after another.
use Rattle.std.proofs.Common.{refl, sym, ◌∙◌}
use Rattle.std.proofs.lemmas.List.Edits.{sets-eq}
use Rattle.text_writing.proofs.Writer.put_bytes.Goals as goal

pub returns : goal.returns
returns c = record {
  same_place = refl;
  same_buffer = refl;
  long = c.copy_in.auto.d;
  put = record { bytes = c.copy_in.ensures ∙ sym (sets-eq _ _ _ c.requires); place = refl };
}
