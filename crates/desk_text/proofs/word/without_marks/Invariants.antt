use Rattle.std.proofs.Common.{◌≡◌, ◌++◌, None, false, length, drop}
use Rattle.std.specs.Prelude.{encode_utf8_all}
use Rattle.std.specs.String.{string_bytes}
use Rattle.std.specs.Str.{chars}
use Rattle.desk_text.proofs.WordValue.{value_from}
use Rattle.desk_text.proofs.word.without_marks.Given as goal

abbrev pub invariant-loop-c : goal.invariant-loop-c
invariant-loop-c l = string_bytes l.value ++ encode_utf8_all (value_from l.quote l.escaped (drop (length l.yielded) (chars l.raw))) ≡ encode_utf8_all (value_from None false (chars l.raw))
