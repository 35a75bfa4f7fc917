-- The numbers so far are put, in at most 21 bytes each.
use Rattle.std.proofs.Common.{◌+◌, ◌*◌, ◌≤◌, take}
use Rattle.rules.specs.Sheet.{spaced}
use Rattle.text_writing.specs.Text.{Puts}
use Rattle.text_writing.proofs.Writer.put_numbers.Given as goal

abbrev pub invariant-loop-x : goal.invariant-loop-x
invariant-loop-x l =
    record {
      short : l.self.at ≤ l.fn.self.at + 21 * l.x-index;
      put : Puts l.fn.self (spaced (take l.x-index l.xs)) l.self;
    }
