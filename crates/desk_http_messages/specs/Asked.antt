-- What a request asks, by its bytes. (RFC 9110, sections 5, 7 and 9)
use Rattle.std.specs.Prelude.{ℕ, List, map}
use Rattle.httparse.specs.Spans.{header_bytes}
use Rattle.desk_http_messages.specs.Stream.{Message}
use Rattle.desk_http_messages.specs.Head.{Header, headers_of}
use Rattle.desk_http_messages.specs.declared.requests.Request.{Request}

-- what a request asks
pub record Asked : Type 0 where
  pub method : List ℕ
  pub target : List ℕ
  pub headers : List Header
  pub body : List ℕ

-- what a message asks
abbrev pub asked_by : Message → Asked
asked_by m = record { method = m.head.method; target = m.head.target; headers = headers_of m.head; body = m.body }

-- what a request in memory asks
abbrev pub asked_of : Request → Asked
asked_of r = record {
  method = r.method.now;
  target = r.target.now;
  headers = map (header_bytes r.head.now) r.headers.now;
  body = r.body.now;
}
