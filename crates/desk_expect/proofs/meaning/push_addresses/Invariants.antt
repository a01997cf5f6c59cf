-- Those of the addresses so far are added.
use Rattle.std.proofs.Common.{map, take}
use Rattle.desk_text.specs.Address.{number_of}
use Rattle.desk_text.specs.AddrSet.{is_among}
use Rattle.desk_expect.specs.PrivateMeaning.{AddsSpans}
use Rattle.desk_expect.proofs.meaning.push_addresses.Given as goal

abbrev pub invariant-loop-address : goal.invariant-loop-address
invariant-loop-address l = AddsSpans (λ address. is_among address (map number_of (take l.address-index l.addresses))) l.initial.spans.items l.spans.items
