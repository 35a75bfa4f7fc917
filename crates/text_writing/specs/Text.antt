-- Text put into a buffer at a place.
use Rattle.std.specs.Prelude.{◌≡◌, List, ℕ, ◌+◌, length}
use Rattle.std.proofs.lemmas.List.Edits.{sets}
use Rattle.text_writing.specs.declared.Writer.{Writer}

-- a text put: the buffer that is left with it, and the place behind it
pub record Put (buf : List ℕ) (at : ℕ) (text after : List ℕ) (next : ℕ) : Type 0 where
  pub bytes : after ≡ sets buf at text
  pub place : next ≡ at + length text

-- what a method that puts a text does to its writer: the buffer lent to it is the same one, where it was, and as long
pub record Puts (old : Writer) (text : List ℕ) (new : Writer) : Type 0 where
  pub same_place : new.buf.ref_ptr ≡ old.buf.ref_ptr
  pub same_buffer : new.buf.ghost_name ≡ old.buf.ghost_name
  pub long : length new.buf.now ≡ length old.buf.now
  pub put : Put old.buf.now old.at text new.buf.now new.at
