use Rattle.std.proofs.Common.{◌≡◌, ◌==◌, ◌++◌, ◌<◌, length, get_or, take_all, ap, sym, ◌∙◌, lit<, arith}
use Rattle.std.proofs.lemmas.Iterator.Splits.{YieldsList-from_str_split}
use Rattle.std.proofs.lemmas.Iterator.Consumers.{YieldsList-turn, YieldsList-end}
use Rattle.std.proofs.lemmas.List.{length_push}
use Rattle.std.specs.List.{flat_map, slice_split}
use Rattle.std.specs.Str.Iter.{split_text, split_has_more, split_pattern}
use Rattle.desk_tables.specs.PrivateSpacedLines.{words_between_tabs}
use Rattle.desk_tables.proofs.SpacedLineLemmas.{runs_more, words_are}
use Rattle.desk_tables.proofs.spaced_lines.words.Goals as goal

pub loop-run-preserved : goal.loop-run-preserved
loop-run-preserved c =
    let parts = slice_split (λ b. b == 32) c.args.text.now in
    let same = c.into_iter-run-iterator.ensures.into_iter_gives in
    let made = c.split-run-items.ensures in
    let turn : (length c.loop-run.yielded < length parts) × (c.in-Some.run'.now ≡ get_or parts (length c.loop-run.yielded) c.in-Some.run'.now) =
    YieldsList-turn (YieldsList-from_str_split {s = c.into_iter-run-iterator.result} 32 c.args.text.now (lit< tt) (ap split_text same ∙ made.text) (ap split_has_more same ∙ made.has_more) (ap split_pattern same ∙ made.pattern)) c.loop-run.yielded _ c.loop-run.yielded_by _ _ c.in-Some.run' c.in-Some.is c.next.ensures.steps in
    rw length_push
    (c.in_ok-push_words.ensures
    ∙ ap (λ ws. ws ++ words_between_tabs c.in-Some.run'.now) c.loop-run.invariant
    ∙ sym (runs_more parts (length c.loop-run.yielded) c.in-Some.run'.now turn))

pub returns : goal.returns
returns c =
    let parts = slice_split (λ b. b == 32) c.args.text.now in
    let same = c.into_iter-run-iterator.ensures.into_iter_gives in
    let made = c.split-run-items.ensures in
    let ended = YieldsList-end (YieldsList-from_str_split {s = c.into_iter-run-iterator.result} 32 c.args.text.now (lit< tt) (ap split_text same ∙ made.text) (ap split_has_more same ∙ made.has_more) (ap split_pattern same ∙ made.pattern)) c.loop-run.yielded _ c.loop-run.yielded_by _ _ c.in-None.is c.next.ensures.steps in
    c.loop-run.invariant ∙ ap (flat_map words_between_tabs) (take_all (length c.loop-run.yielded) parts (omega (arith, ended.1))) ∙ words_are c.args.text.now
