use Rattle.std.proofs.Common.{◌≡◌, ◌+◌, ◌-◌, ◌*◌, ◌^◌, ◌≤◌, false, length}
use Rattle.desk_store.specs.Desk.{HasGoodDisk, StandsAt}
use Rattle.desk_http.specs.Connection.{has_ended}
use Rattle.desk_http.proofs.Progress.{Progress}
use Rattle.desk_http.proofs.serving.serve_stream.Given as goal

abbrev pub invariant-loop-text : goal.invariant-loop-text
invariant-loop-text g l =
    let R = g.R.Source in
    let W = g.W.Sink in
    record {
      progress : Progress (HasGoodDisk g.S.Store) (StandsAt g.S.Store) l.fn.desk l.desk (R.left l.fn.reader) (R.left l.reader) (W.held l.fn.writer) (W.held l.writer) l.connection.waiting l.replies l.written;
      goes_on : has_ended l.connection.state ≡ false;
      reads_is : R.reads l.reader ≡ R.reads l.fn.reader + l.connection.reads;
      few : l.connection.reads ≤ 1000000;
      fits : length l.connection.waiting ≤ 73728;
      received : l.replies + length l.connection.waiting ≤ l.connection.reads * 73728;
      short : l.written ≤ l.replies * 2 ^ 64;
      reader_good : R.has_failed l.reader ≡ false;
      writer_good : W.has_failed l.writer ≡ false;
    }

abbrev pub decreases-loop-text : goal.decreases-loop-text
decreases-loop-text g l = (1000000 - l.connection.reads) * 73729 + length l.connection.waiting
