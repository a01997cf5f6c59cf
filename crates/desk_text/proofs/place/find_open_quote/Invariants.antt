-- A quote that does not close stands in the rest, if one does in the text.
use Rattle.std.proofs.Common.{◌≡◌, ◌-◌, drop, length}
use Rattle.desk_text.specs.Word.{has_open_quote}
use Rattle.desk_text.proofs.place.find_open_quote.Given as goal

abbrev pub invariant-loop-at : goal.invariant-loop-at
invariant-loop-at l = has_open_quote (drop l.at l.text) ≡ has_open_quote l.text

abbrev pub decreases-loop-at : goal.decreases-loop-at
decreases-loop-at l = length l.text - l.at
