use Rattle.std.proofs.Common.{◌≡◌, take, min, true}
use Rattle.std.specs.Char.{is_ascii_digit}
use Rattle.std.specs.List.{list_all}
use Rattle.std.specs.Str.Parse.{digits_value}
use Rattle.desk_text.proofs.address.read_octet.Given as goal

abbrev pub invariant-loop-b : goal.invariant-loop-b
invariant-loop-b l = record {
  digits : list_all is_ascii_digit (take l.b-index l.part) ≡ true;
  value : l.value ≡ min 256 (digits_value 10 (take l.b-index l.part));
}
