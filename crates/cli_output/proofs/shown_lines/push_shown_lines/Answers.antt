use Rattle.std.proofs.Common.{◌≡◌, ◌++◌, ◌∙◌, ap, sym}
use Rattle.std.specs.List.{flat_map}
use Rattle.std.specs.Str.{chars}
use Rattle.std.specs.Str.Iter.{chars_rest}
use Rattle.std.specs.String.{string_bytes}
use Rattle.std.proofs.lemmas.Iterator.{YieldsList-from_chars}
use Rattle.std.proofs.lemmas.Iterator.Consumers.{YieldsList-end}
use Rattle.std.proofs.lemmas.List.{map-id}
use Rattle.cli_output.specs.ShownLines.{shown_in_lines}
use Rattle.cli_output.proofs.shown_lines.push_shown_lines.Goals as goal

pub returns : goal.returns
returns c =
    let all : c.loop-c.yielded ≡ chars c.args.lines.now =
    sym (map-id c.loop-c.yielded)
    ∙ (YieldsList-end (YieldsList-from_chars {s = c.into_iter-c-iterator.result} c.args.lines.now c.utf8.lines (ap chars_rest c.into_iter-c-iterator.ensures.into_iter_gives ∙ c.chars-c-items.ensures.rest)) c.loop-c.yielded _ c.loop-c.yielded_by _ _ c.in-None.is c.next.ensures.steps).0 in
    c.loop-c.invariant ∙ ap (λ cs. string_bytes c.args.shown.now ++ flat_map shown_in_lines cs) all
