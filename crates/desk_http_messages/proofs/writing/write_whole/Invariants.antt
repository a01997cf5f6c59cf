use Rattle.std.proofs.Common.{length, ◌-◌, ◌≡◌, ◌≤◌, false, take}
use Rattle.std.specs.Io.KnownBytes.{Appends}
use Rattle.desk_http_messages.proofs.writing.write_whole.Given as goal

abbrev pub invariant-loop-done : goal.invariant-loop-done
invariant-loop-done g l =
    let W = g.W.Sink in
    record {
      in_range : l.done ≤ length l.text;
      written : Appends (W.held l.fn.writer) (W.held l.writer) (take l.done l.text);
      good : W.has_failed l.writer ≡ false;
    }

abbrev pub decreases-loop-done : goal.decreases-loop-done
decreases-loop-done g l = length l.text - l.done
