-- One empty text for each turn so far.
use Rattle.std.proofs.Common.{◌≡◌, [], map, replicate}
use Rattle.std.specs.String.{string_bytes}
use Rattle.desk_split.proofs.splitting.empty_texts.Given as goal

abbrev pub invariant-loop : goal.invariant-loop
invariant-loop l = map string_bytes l.texts.items ≡ replicate l.counter []
