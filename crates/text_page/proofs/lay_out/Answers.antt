-- The page begins with the answer line; each slice of the table adds a line, and at the first place of none the total line ends it.
use Rattle.std.proofs.Common.{◌≤◌, ◌∙◌, ap, lt-ltb, le-ltb, length, arith}
use Rattle.rules.specs.declared.SliceRead.{SliceRead}
use Rattle.rules.specs.Reading.{no_slice}
use Rattle.text_lines.proofs.SheetLaws.{sheet_begun, sheet_more, sheet_ended, sheet_refused}
use Rattle.text_page.specs.Pages.{page_size}
use Rattle.text_page.proofs.PageLaws.{page_long, shown_table}
use Rattle.text_page.proofs.PlaceLaws.{few_places, place_is, slice_here, slice_none}
use Rattle.text_page.proofs.lay_out.Goals.{else-loop-place-test, then-loop-place-test+then-slice-eq0}
use Rattle.text_page.proofs.lay_out.Goals as goal

pub returns-then-answer-gt0-clause-sheet : goal.returns-then-answer-gt0-clause-sheet
returns-then-answer-gt0-clause-sheet c =
    let a = c.args.answer in
    let line = c.print_answer.ensures in
    λ cs t. sheet_refused a cs (lt-ltb 0 _ c.if-answer-gt0.true)
    (sheet_begun a cs page_size c.requires.zeros (rw c.requires.front at line.put.put) (omega (arith, line.short)))

pub loop-place-init : goal.loop-place-init
loop-place-init c =
    let line = c.print_answer.ensures in
    record {
      same_buffer = line.put.same_buffer;
      long = line.put.long ∙ page_long _ c.requires.zeros;
      short = omega (arith, line.short);
      lines = λ cs t. sheet_begun c.args.answer cs page_size c.requires.zeros (rw c.requires.front at line.put.put) (omega (arith, line.short));
    }

pub loop-place-preserved : goal.loop-place-preserved
loop-place-preserved c =
    let line = c.print_slice.ensures in
    let start = c.loop-place in
    let e = ap (λ (x : SliceRead). x.slice) c.read_slice.ensures in
    record {
      same_buffer = line.put.same_buffer ∙ start.invariant.same_buffer;
      long = line.put.long ∙ start.invariant.long;
      short = omega (arith, line.short, start.invariant.short);
      lines = λ cs t.
          sheet_more c.args.answer cs start.place no_slice (slice_here cs _ t start.place _ e c.if-slice-eq0.false) (start.invariant.lines cs t)
          (rw (place_is cs _ t start.place _ e) at line.put.put) (omega (arith, line.short, start.invariant.short));
    }

pub returns-clause-sheet : goal.returns-clause-sheet
returns-clause-sheet c =
    let a = c.args.answer in
    let end = c.loop-place in
    let line = c.print_total.ensures in
    λ cs s.
    let t = shown_table a _ cs c.if-answer-gt0.false s in
    let shown : length cs ≤ end.place =
    elim c.loop-place-test.branch [
      | else-loop-place-test w ↦ omega (arith, few_places cs _ t, w.loop-place-test.false)
      | then-loop-place-test+then-slice-eq0 w ↦
          slice_none cs _ t end.place _ (ap (λ (x : SliceRead). x.slice) w.read_slice.ensures) w.if-slice-eq0.true
    ] in
    sheet_ended a cs end.place shown (le-ltb 0 _ c.if-answer-gt0.false) (end.invariant.lines cs t) line.put.put
    (omega (arith, line.short, end.invariant.short))
