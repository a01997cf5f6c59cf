use Rattle.std.proofs.Common.{map, take}
use Rattle.httparse.specs.Spans.{header_bytes}
use Rattle.desk_http_messages.specs.Head.{header_values}
use Rattle.desk_http_messages.specs.Values.{AreValues}
use Rattle.desk_http_messages.proofs.fields.values_of.Given as goal

abbrev pub invariant-loop-header : goal.invariant-loop-header
invariant-loop-header l = AreValues (header_values l.name (map (header_bytes l.window) (take l.header-index l.headers))) l.values
