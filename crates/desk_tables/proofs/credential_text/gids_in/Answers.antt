use Rattle.std.proofs.Common.{◌≡◌, ℕ, List, [], ◌∷◌, ◌++◌, Some, None, ap, sym, ◌∙◌, length, take_all, lit<, arith}
use Rattle.std.specs.List.{filter_map}
use Rattle.std.specs.Str.Iter.{split_text, split_has_more, split_pattern}
use Rattle.std.proofs.lemmas.Iterator.Splits.{YieldsList-from_str_split}
use Rattle.std.proofs.lemmas.Iterator.Consumers.{YieldsList-turn, YieldsList-end}
use Rattle.std.proofs.lemmas.List.{length_push}
use Rattle.desk_tables.specs.CredentialText.{elements, gid_of}
use Rattle.desk_tables.proofs.ColonLineLemmas.{absent, given}
use Rattle.desk_tables.proofs.credential_text.gids_in.Goals as goal

pub push-requires : goal.push-requires
push-requires c =
    let same = c.into_iter-element-iterator.ensures.into_iter_gives in
    let made = c.split-element-items.ensures in
    let turn = YieldsList-turn (YieldsList-from_str_split {s = c.into_iter-element-iterator.result} 58 c.args.others.now (lit< tt) (ap split_text same ∙ made.text) (ap split_has_more same ∙ made.has_more) (ap split_pattern same ∙ made.pattern))
    c.loop-element.yielded _ c.loop-element.yielded_by _ _ c.in-Some.element c.in-Some.is c.next.ensures.steps in
    omega (arith, turn.0)

pub loop-element-preserved-in-Some-gid_of : goal.loop-element-preserved-in-Some-gid_of
loop-element-preserved-in-Some-gid_of c =
    let same = c.into_iter-element-iterator.ensures.into_iter_gives in
    let made = c.split-element-items.ensures in
    let turn = YieldsList-turn (YieldsList-from_str_split {s = c.into_iter-element-iterator.result} 58 c.args.others.now (lit< tt) (ap split_text same ∙ made.text) (ap split_has_more same ∙ made.has_more) (ap split_pattern same ∙ made.pattern))
    c.loop-element.yielded _ c.loop-element.yielded_by _ _ c.in-Some.element c.in-Some.is c.next.ensures.steps in
    let here : gid_of c.args.groups.now c.in-Some.element.now ≡ Some c.in-Some-gid_of.gid = sym c.gid_of.ensures ∙ c.in-Some-gid_of.is in
    rw length_push (record {
      so_far = c.push.ensures ∙ ap (λ (gids : List ℕ). gids ++ c.in-Some-gid_of.gid ∷ []) c.loop-element.invariant.so_far
          ∙ given (gid_of c.args.groups.now) (elements c.args.others.now) (length c.loop-element.yielded) c.in-Some.element.now turn.0 turn.1 c.in-Some-gid_of.gid here;
      few = omega (arith, ap length c.push.ensures, length_push c.loop-element.gids c.in-Some-gid_of.gid);
    })

pub loop-element-preserved : goal.loop-element-preserved
loop-element-preserved c =
    let same = c.into_iter-element-iterator.ensures.into_iter_gives in
    let made = c.split-element-items.ensures in
    let turn = YieldsList-turn (YieldsList-from_str_split {s = c.into_iter-element-iterator.result} 58 c.args.others.now (lit< tt) (ap split_text same ∙ made.text) (ap split_has_more same ∙ made.has_more) (ap split_pattern same ∙ made.pattern))
    c.loop-element.yielded _ c.loop-element.yielded_by _ _ c.in-Some.element c.in-Some.is c.next.ensures.steps in
    let here : gid_of c.args.groups.now c.in-Some.element.now ≡ None = cc in
    rw length_push (record {
      so_far = c.loop-element.invariant.so_far ∙ absent (gid_of c.args.groups.now) (elements c.args.others.now) (length c.loop-element.yielded) c.in-Some.element.now turn.0 turn.1 here;
      few = omega arith;
    })

pub returns : goal.returns
returns c =
    let same = c.into_iter-element-iterator.ensures.into_iter_gives in
    let made = c.split-element-items.ensures in
    let ended = YieldsList-end (YieldsList-from_str_split {s = c.into_iter-element-iterator.result} 58 c.args.others.now (lit< tt) (ap split_text same ∙ made.text) (ap split_has_more same ∙ made.has_more) (ap split_pattern same ∙ made.pattern))
    c.loop-element.yielded _ c.loop-element.yielded_by _ _ c.in-None.is c.next.ensures.steps in
    c.loop-element.invariant.so_far ∙ ap (filter_map (gid_of c.args.groups.now)) (take_all (length c.loop-element.yielded) (elements c.args.others.now) (omega (arith, ended.1)))
