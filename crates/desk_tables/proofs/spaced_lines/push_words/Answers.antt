use Rattle.std.proofs.Common.{◌≡◌, ◌==◌, ◌++◌, ◌∷◌, [], ◌<◌, filter, not, length, get_or, map, take, take_all, ap, sym, ◌∙◌, lit<, arith}
use Rattle.std.proofs.lemmas.Iterator.Splits.{YieldsList-from_str_split}
use Rattle.std.proofs.lemmas.Iterator.Consumers.{YieldsList-turn, YieldsList-end}
use Rattle.std.proofs.lemmas.List.{append_assoc, length_push, map-append}
use Rattle.std.specs.List.{slice_split}
use Rattle.std.specs.Str.Iter.{split_text, split_has_more, split_pattern}
use Rattle.desk_tables.proofs.SpacedLineLemmas.{word_less, word_more}
use Rattle.desk_tables.proofs.spaced_lines.push_words.Goals as goal

pub loop-word-preserved-in-Continue-1 : goal.loop-word-preserved-in-Continue-1
loop-word-preserved-in-Continue-1 c =
    let parts = slice_split (λ b. b == 9) c.args.run.now in
    let old = map (λ x. x.now) c.args.words.now.items in
    let same = c.into_iter-word-iterator.ensures.into_iter_gives in
    let made = c.split-word-items.ensures in
    let turn : (length c.loop-word.yielded < length parts) × (c.in-Some.word.now ≡ get_or parts (length c.loop-word.yielded) c.in-Some.word.now) =
    YieldsList-turn (YieldsList-from_str_split {s = c.into_iter-word-iterator.result} 9 c.args.run.now (lit< tt) (ap split_text same ∙ made.text) (ap split_has_more same ∙ made.has_more) (ap split_pattern same ∙ made.pattern)) c.loop-word.yielded _ c.loop-word.yielded_by _ _ c.in-Some.word c.in-Some.is c.next.ensures.steps in
    let passes = ap not (sym c.is_empty.ensures ∙ c.if-not-is_empty.true) in
    rw length_push
    (ap (map (λ x. x.now)) c.in_ok-push.ensures.items ∙ map-append (λ x. x.now) c.loop-word.words.items (c.in-Some.word ∷ [])
    ∙ ap (λ ws. ws ++ c.in-Some.word.now ∷ []) c.loop-word.invariant
    ∙ append_assoc old (filter (λ word. not (length word == 0)) (take (length c.loop-word.yielded) parts)) (c.in-Some.word.now ∷ [])
    ∙ ap (λ ws. old ++ ws) (sym (word_more parts (length c.loop-word.yielded) c.in-Some.word.now turn passes)))

pub loop-word-preserved : goal.loop-word-preserved
loop-word-preserved c =
    let parts = slice_split (λ b. b == 9) c.args.run.now in
    let old = map (λ x. x.now) c.args.words.now.items in
    let same = c.into_iter-word-iterator.ensures.into_iter_gives in
    let made = c.split-word-items.ensures in
    let turn : (length c.loop-word.yielded < length parts) × (c.in-Some.word.now ≡ get_or parts (length c.loop-word.yielded) c.in-Some.word.now) =
    YieldsList-turn (YieldsList-from_str_split {s = c.into_iter-word-iterator.result} 9 c.args.run.now (lit< tt) (ap split_text same ∙ made.text) (ap split_has_more same ∙ made.has_more) (ap split_pattern same ∙ made.pattern)) c.loop-word.yielded _ c.loop-word.yielded_by _ _ c.in-Some.word c.in-Some.is c.next.ensures.steps in
    let fails = ap not (sym c.is_empty.ensures ∙ c.if-not-is_empty.false) in
    rw length_push
    (c.loop-word.invariant
    ∙ ap (λ ws. old ++ ws) (sym (word_less parts (length c.loop-word.yielded) c.in-Some.word.now turn fails)))

pub returns : goal.returns
returns c =
    let parts = slice_split (λ b. b == 9) c.args.run.now in
    let old = map (λ x. x.now) c.args.words.now.items in
    let same = c.into_iter-word-iterator.ensures.into_iter_gives in
    let made = c.split-word-items.ensures in
    let ended = YieldsList-end (YieldsList-from_str_split {s = c.into_iter-word-iterator.result} 9 c.args.run.now (lit< tt) (ap split_text same ∙ made.text) (ap split_has_more same ∙ made.has_more) (ap split_pattern same ∙ made.pattern)) c.loop-word.yielded _ c.loop-word.yielded_by _ _ c.in-None.is c.next.ensures.steps in
    c.loop-word.invariant ∙ ap (λ ws. old ++ filter (λ word. not (length word == 0)) ws) (take_all (length c.loop-word.yielded) parts (omega (arith, ended.1)))
