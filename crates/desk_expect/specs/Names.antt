-- How the names of a line are written: addresses, networks and ranges by their digits. (this project's own)
use Rattle.std.specs.Prelude.{ℕ, ◌==◌, ◌&&◌, ◌||◌, nat_le, nat_lt, Bool, false, List, Option, Some, None, Result, Ok, Err, is_none, is_err, if◌then◌else◌}
use Rattle.std.specs.List.{after_first, before_first, list_any}
use Rattle.desk_text.specs.Address.{is_dotted, read_addr}
use Rattle.desk_text.specs.Bytes.{is_ipv6}
use Rattle.desk_text.specs.Network.{WrittenNet, block_of, last_of, read_net_text}
use Rattle.desk_text.specs.declared.address.AddrFault.{AddrFault}
use Rattle.desk_expect.specs.Spans.{Between}

-- a network has a `/`
abbrev pub has_slash : List ℕ → Bool
has_slash name = list_any (λ b. b == 47) name

-- a range has digits and dots, or nothing, on both sides of its first `-`
abbrev pub is_range_like : List ℕ → Bool
is_range_like name =
    if list_any (λ b. b == 45) name then is_dotted (before_first (λ b. b == 45) name) && is_dotted (after_first (λ b. b == 45) name)
    else false

-- a name is written as a network or a range
abbrev pub is_span_like : List ℕ → Bool
is_span_like name = has_slash name || is_range_like name

-- the addresses of a network, if its prefix is written
abbrev pub written_span : ℕ → Option ℕ → Option Between
written_span addr (Some prefix) = Some (record { first = (block_of addr prefix).first; last = last_of (block_of addr prefix) })
written_span addr None = None

abbrev pub net_span : Result WrittenNet AddrFault → Option Between
net_span (Ok written) = written_span written.addr written.prefix
net_span (Err fault) = None

-- A network: an address of one to four parts, a `/` and a prefix; its host bits count for nothing.
abbrev pub network_span : List ℕ → Option Between
network_span name = net_span (read_net_text name)

abbrev pub ordered_span : Result ℕ AddrFault → Result ℕ AddrFault → Option Between
ordered_span (Ok first) (Ok last) = if nat_lt last first then None else Some (record { first = first; last = last })
ordered_span (Ok first) (Err fault) = None
ordered_span (Err fault) last = None

-- A range: two addresses, of which the last is not before the first.
abbrev pub range_span : List ℕ → List ℕ → Option Between
range_span first last = ordered_span (read_addr first) (read_addr last)

-- the addresses of a network or a range
abbrev pub span_of : List ℕ → Option Between
span_of name =
    if has_slash name then network_span name
    else if list_any (λ b. b == 45) name then range_span (before_first (λ b. b == 45) name) (after_first (λ b. b == 45) name)
    else None

-- a name that is written like an address, a network or a range, and is none; one with a `:` is of IPv6, and no line matches it
abbrev pub is_bad_address : List ℕ → Bool
is_bad_address name = if is_span_like name then is_none (span_of name) else is_ipv6 name || (is_dotted name && is_err (read_addr name))

-- an address is one of the span, if there is one
abbrev pub is_between : Option Between → ℕ → Bool
is_between (Some span) address = nat_le span.first address && nat_le address span.last
is_between None address = false
