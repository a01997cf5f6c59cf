-- The tokens so far, and those of the rest, are those of the text.
use Rattle.std.proofs.Common.{◌≡◌, ◌++◌, length}
use denote.Text.{Utf8}
use denote.Shadow.{shadow}
use Rattle.desk_netgroup.specs.Token as spec
use Rattle.desk_netgroup.proofs.token.push_tokens.Given as goal

abbrev pub invariant-loop-rest : goal.invariant-loop-rest
invariant-loop-rest l = record {
  text : shadow (Utf8 l.rest);
  so_far : l.tokens.items ++ spec.tokens l.rest ≡ l.fn.tokens.items ++ spec.tokens l.fn.text;
}

abbrev pub decreases-loop-rest : goal.decreases-loop-rest
decreases-loop-rest l = length l.rest
