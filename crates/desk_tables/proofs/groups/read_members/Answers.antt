use Rattle.std.proofs.Common.{[], ◌∷◌, ◌++◌, ◌==◌, ◌∙◌, ℕ, Bool, List, not, ap, sym, length, take, take_all, filter, lit<, arith}
use Rattle.std.specs.List.{slice_split}
use Rattle.std.specs.Str.Iter.{split_text, split_has_more, split_pattern}
use Rattle.std.proofs.lemmas.Iterator.Splits.{YieldsList-from_str_split}
use Rattle.std.proofs.lemmas.Iterator.Consumers.{YieldsList-turn, YieldsList-end}
use Rattle.std.proofs.lemmas.List.{length_push}
use Rattle.desk_tables.proofs.ColonLineLemmas.{dropped, kept}
use Rattle.desk_tables.proofs.groups.read_members.Goals as goal

abbrev is_kept : List ℕ → Bool
is_kept member = not (length member == 0)

pub loop-member-preserved-in_ok-push : goal.loop-member-preserved-in_ok-push
loop-member-preserved-in_ok-push c =
    let text = c.args.text.now in
    let same = c.into_iter-member-iterator.ensures.into_iter_gives in
    let made = c.split-member-items.ensures in
    let turn = YieldsList-turn (YieldsList-from_str_split {s = c.into_iter-member-iterator.result} 44 text (lit< tt) (ap split_text same ∙ made.text) (ap split_has_more same ∙ made.has_more) (ap split_pattern same ∙ made.pattern))
    c.loop-member.yielded _ c.loop-member.yielded_by _ _ c.in-Some.member c.in-Some.is c.next.ensures.steps in
    let next = kept is_kept (slice_split (λ b. b == 44) text) (length c.loop-member.yielded) c.in-Some.member.now turn.0 turn.1 (ap not (sym c.is_empty.ensures ∙ c.if-not-is_empty.true)) in
    rw length_push (c.in_ok-push.ensures.added ∙ ap (λ (ms : List (List ℕ)). ms ++ c.in_ok-copy.field-0 ∷ []) c.loop-member.invariant
    ∙ ap (λ (m : List ℕ). filter is_kept (take (length c.loop-member.yielded) (slice_split (λ b. b == 44) text)) ++ m ∷ []) c.in_ok-copy.ensures ∙ next)

pub loop-member-preserved : goal.loop-member-preserved
loop-member-preserved c =
    let text = c.args.text.now in
    let same = c.into_iter-member-iterator.ensures.into_iter_gives in
    let made = c.split-member-items.ensures in
    let turn = YieldsList-turn (YieldsList-from_str_split {s = c.into_iter-member-iterator.result} 44 text (lit< tt) (ap split_text same ∙ made.text) (ap split_has_more same ∙ made.has_more) (ap split_pattern same ∙ made.pattern))
    c.loop-member.yielded _ c.loop-member.yielded_by _ _ c.in-Some.member c.in-Some.is c.next.ensures.steps in
    rw length_push (c.loop-member.invariant ∙ dropped is_kept (slice_split (λ b. b == 44) text) (length c.loop-member.yielded) c.in-Some.member.now turn.0 turn.1 (ap not (sym c.is_empty.ensures ∙ c.if-not-is_empty.false)))

pub returns : goal.returns
returns c =
    let text = c.args.text.now in
    let same = c.into_iter-member-iterator.ensures.into_iter_gives in
    let made = c.split-member-items.ensures in
    let ended = YieldsList-end (YieldsList-from_str_split {s = c.into_iter-member-iterator.result} 44 text (lit< tt) (ap split_text same ∙ made.text) (ap split_has_more same ∙ made.has_more) (ap split_pattern same ∙ made.pattern))
    c.loop-member.yielded _ c.loop-member.yielded_by _ _ c.in-None.is c.next.ensures.steps in
    c.loop-member.invariant ∙ ap (filter is_kept) (take_all (length c.loop-member.yielded) (slice_split (λ b. b == 44) text) (omega (arith, ended.1)))
