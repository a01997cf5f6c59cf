use Rattle.std.proofs.Common.{◌≡◌, ◌++◌, ◌∙◌, ap, sym}
use Rattle.std.specs.Str.{chars, encode_utf8_all}
use Rattle.std.specs.Str.Iter.{chars_rest}
use Rattle.std.specs.String.{string_bytes}
use Rattle.std.proofs.lemmas.Iterator.{YieldsList-from_chars}
use Rattle.std.proofs.lemmas.Iterator.Consumers.{YieldsList-end}
use Rattle.std.proofs.lemmas.List.{map-id}
use Rattle.page_lists.specs.Shell.{all_in_quotes}
use Rattle.page_lists.proofs.Quoted.{one_more}
use Rattle.page_lists.proofs.shell.push_quoted.Goals as goal

pub loop-c-preserved : goal.loop-c-preserved
loop-c-preserved c =
    one_more c.loop-c.yielded _ (string_bytes c.args.word.now) (string_bytes c.loop-c.word) (string_bytes c.push_in_quotes.new.word)
    c.loop-c.invariant c.in_ok-push_in_quotes.ensures

pub returns : goal.returns
returns c =
    let all : c.loop-c.yielded ≡ chars c.args.text.now =
    sym (map-id c.loop-c.yielded)
    ∙ (YieldsList-end (YieldsList-from_chars {s = c.into_iter-c-iterator.result} c.args.text.now c.utf8.text
    (ap chars_rest c.into_iter-c-iterator.ensures.into_iter_gives ∙ c.chars-c-items.ensures.rest))
    c.loop-c.yielded _ c.loop-c.yielded_by _ _ c.in-None.is c.next.ensures.steps).0 in
    c.loop-c.invariant ∙ ap (λ cs. string_bytes c.args.word.now ++ encode_utf8_all (all_in_quotes cs)) all
