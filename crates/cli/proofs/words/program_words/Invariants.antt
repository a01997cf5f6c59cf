-- The words so far are the first behind the program's name.
use Rattle.std.proofs.Common.{◌≡◌, IfSome, drop, map, take}
use Rattle.cli.proofs.words.program_words.Given as goal

abbrev pub invariant-loop-before : goal.invariant-loop-before
invariant-loop-before g l = IfSome (g.A.Arguments.arguments l.system) (λ all. map (λ word. word.items) l.words.items ≡ take l.before (drop 1 all))
