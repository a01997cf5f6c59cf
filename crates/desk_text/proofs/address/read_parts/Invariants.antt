use Rattle.std.proofs.Common.{◌≡◌, length}
use Rattle.desk_text.specs.Address.{dotted_parts}
use Rattle.desk_text.proofs.AddrParts.{SoFar}
use Rattle.desk_text.proofs.address.read_parts.Given as goal

abbrev pub invariant-loop-part : goal.invariant-loop-part
invariant-loop-part l = record {
  count : l.count ≡ length l.yielded;
  number : SoFar (dotted_parts l.text) (length l.yielded) l.number;
}
