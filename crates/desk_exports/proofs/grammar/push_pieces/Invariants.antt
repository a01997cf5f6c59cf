use Rattle.std.proofs.Common.{◌≡◌, ◌++◌, ◌==◌, length}
use denote.Text.{Utf8}
use denote.Shadow.{shadow}
use Rattle.std.specs.List.{slice_split}
use Rattle.std.specs.Option.{option_copied}
use Rattle.desk_exports.specs.Grammar as spec
use Rattle.desk_exports.proofs.grammar.push_pieces.Given as goal

-- the options so far, and those of the pieces that are left
abbrev pub invariant-loop-piece : goal.invariant-loop-piece
invariant-loop-piece l = record {
  text : shadow (Utf8 l.rest);
  settings : l.settings ++ spec.settings_of (option_copied l.offer) (slice_split (λ b. b == 44) l.rest)
      ≡ l.initial.settings ++ spec.settings_of (option_copied l.offer) (slice_split (λ b. b == 44) l.text);
  wants : spec.last_wants (slice_split (λ b. b == 44) l.rest) ≡ spec.last_wants (slice_split (λ b. b == 44) l.text);
}

abbrev pub decreases-loop-piece : goal.decreases-loop-piece
decreases-loop-piece l = length l.rest
