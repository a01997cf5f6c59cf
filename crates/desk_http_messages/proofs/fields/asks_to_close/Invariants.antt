use Rattle.std.proofs.Common.{◌≡◌, map, take}
use Rattle.httparse.specs.Spans.{header_bytes}
use Rattle.desk_http_messages.specs.Head as spec
use Rattle.desk_http_messages.proofs.fields.asks_to_close.Given as goal

abbrev pub invariant-loop-header : goal.invariant-loop-header
invariant-loop-header l = spec.asks_to_close (map (header_bytes l.window) (take l.header-index l.headers)) ≡ l.asks
