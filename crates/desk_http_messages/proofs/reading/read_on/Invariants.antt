use Rattle.std.proofs.Common.{◌≡◌, ◌+◌, ◌-◌, ◌++◌, ◌≤◌, false, List, ℕ}
use Rattle.std.specs.Io.KnownBytes.{Consumes}
use Rattle.desk_http_messages.specs.Front.{IsWaiting}
use Rattle.desk_http_messages.proofs.reading.read_on.Given as goal

abbrev pub invariant-loop-reads : goal.invariant-loop-reads
invariant-loop-reads g l =
    let R = g.R.Source in
    record {
      waiting : IsWaiting l.buffer l.fn.pending;
      counted : R.reads l.reader ≡ R.reads l.fn.reader + l.reads;
      few : l.reads ≤ l.fn.most;
      good : R.has_failed l.reader ≡ false;
      read : (bytes : List ℕ) × (l.buffer ≡ l.fn.buffer ++ bytes) × Consumes (R.left l.fn.reader) (R.left l.reader) bytes;
    }

abbrev pub decreases-loop-reads : goal.decreases-loop-reads
decreases-loop-reads g l = l.fn.most - l.reads
