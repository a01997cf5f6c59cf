use Rattle.std.proofs.Common.{◌≡◌, ◌++◌, drop, false}
use Rattle.desk_exports.specs.Grammar as spec
use Rattle.desk_exports.proofs.grammar.push_words.Given as goal

-- the options and names so far, and those of the words that are left
abbrev pub invariant-loop-index : goal.invariant-loop-index
invariant-loop-index l =
    (l.settings ++ spec.settings (drop l.index l.words) ≡ l.initial.settings ++ spec.settings l.words)
    × (l.names ++ spec.names l.taken (drop l.index l.words) ≡ l.initial.names ++ spec.names false l.words)
