use Rattle.std.proofs.Common.{◌≡◌, map, take}
use Rattle.desk_text.specs.Path.{read_path}
use Rattle.desk_exports.proofs.grammar.paths.Given as goal

abbrev pub invariant-loop-word : goal.invariant-loop-word
invariant-loop-word l = l.paths ≡ map (λ w. read_path w.value) (take l.word-index l.words)
