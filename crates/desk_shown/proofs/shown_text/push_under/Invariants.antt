-- The marks so far were added.
use Rattle.std.proofs.Common.{◌≡◌, ◌++◌, ◌∷◌, []}
use Rattle.std.specs.List.{repeat}
use Rattle.std.specs.String.{string_bytes}
use Rattle.desk_shown.proofs.shown_text.push_under.Given as goal

abbrev pub invariant-loop : goal.invariant-loop
invariant-loop l = string_bytes l.shown ≡ string_bytes l.initial.shown ++ repeat l.counter (l.mark ∷ [])
