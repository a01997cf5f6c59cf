-- No quote so far is open.
use Rattle.std.proofs.Common.{◌≡◌, false, take}
use Rattle.std.specs.List.{list_any}
use Rattle.desk_text.specs.Word.{has_open_quote}
use Rattle.desk_text.proofs.place.Place.of_open_quote.Given as goal

abbrev pub invariant-loop-part : goal.invariant-loop-part
invariant-loop-part l = list_any (λ part. has_open_quote part.text) (take l.part-index l.line.parts) ≡ false
