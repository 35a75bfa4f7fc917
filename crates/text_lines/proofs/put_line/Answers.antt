-- The word, the numbers behind it and the newline are put one behind another.
use Rattle.text_writing.proofs.PutLaws.{puts_then}
use Rattle.text_lines.proofs.put_line.Goals as goal

pub returns : goal.returns
returns c = puts_then (puts_then c.put_bytes.ensures c.put_numbers.ensures.put) c.put_bytes-2.ensures
