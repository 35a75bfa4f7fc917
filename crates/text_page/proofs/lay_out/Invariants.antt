-- Before each turn the page holds the answer line and a line for each slice passed, of whatever slices the table holds.
use Rattle.std.proofs.Common.{◌≡◌, ◌≤◌, ◌+◌, ◌*◌, List, length}
use Rattle.rules.specs.declared.Slice.{Slice}
use Rattle.text_lines.specs.Lines.{sheet_to, Holds}
use Rattle.text_page.specs.Places.{TableOf}
use Rattle.text_page.specs.Pages.{page_size}
use Rattle.text_page.proofs.lay_out.Given as goal

abbrev pub invariant-loop-place : goal.invariant-loop-place
invariant-loop-place l =
    record {
      same_buffer : l.page.buf.ghost_name ≡ l.fn.page.buf.ghost_name;
      long : length l.page.buf.now ≡ page_size;
      short : l.page.at ≤ 40 + 33 * l.place;
      lines : (cs : List Slice) → TableOf cs l.table → Holds page_size l.page.buf.now l.page.at (sheet_to l.answer cs l.place);
    }
