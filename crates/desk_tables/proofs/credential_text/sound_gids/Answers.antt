use Rattle.std.proofs.Common.{◌≡◌, ◌<◌, ℕ, List, [], ◌∷◌, ◌++◌, Option, Some, ap, ap₂, sym, ◌∙◌, length, lit<, map, take, take_all, arith}
use Rattle.std.specs.Str.Iter.{split_text, split_has_more, split_pattern}
use Rattle.std.proofs.lemmas.Bool.Decides.{nat_tests}
use Rattle.std.proofs.lemmas.Iterator.Splits.{YieldsList-from_str_split}
use Rattle.std.proofs.lemmas.Iterator.Consumers.{YieldsList-turn, YieldsList-end}
use Rattle.std.proofs.lemmas.List.{length_push, map_push, take_more}
use Rattle.desk_tables.specs.CredentialText.{elements}
use Rattle.desk_tables.specs.PrivateCredentialText.{sound_gid}
use Rattle.desk_tables.proofs.credential_text.sound_gids.Goals as goal

pub loop-element-preserved : goal.loop-element-preserved
loop-element-preserved c =
    let same = c.into_iter-element-iterator.ensures.into_iter_gives in
    let made = c.split-element-items.ensures in
    let turn = YieldsList-turn (YieldsList-from_str_split {s = c.into_iter-element-iterator.result} 58 c.args.others.now (lit< tt) (ap split_text same ∙ made.text) (ap split_has_more same ∙ made.has_more) (ap split_pattern same ∙ made.pattern))
    c.loop-element.yielded _ c.loop-element.yielded_by _ _ c.in-Some.element c.in-Some.is c.next.ensures.steps in
    let gid = sound_gid c.args.groups.now in
    let room : length c.loop-element.gids < 16 = grind (arith, nat_tests, c.is_full.ensures, c.if-is_full.false, c.loop-element.invariant.few) in
    let here : gid c.in-Some.element.now ≡ Some c.in_ok-sound_gid.field-0 = sym c.sound_gid.ensures ∙ c.in_ok-sound_gid.was in
    rw length_push (record {
      so_far = ap (map gid) (take_more (elements c.args.others.now) (length c.loop-element.yielded) c.in-Some.element.now turn.0 ∙ ap (λ (e : List ℕ). take (length c.loop-element.yielded) (elements c.args.others.now) ++ e ∷ []) (sym turn.1))
          ∙ map_push gid (take (length c.loop-element.yielded) (elements c.args.others.now)) c.in-Some.element.now
          ∙ ap₂ (λ (gids : List (Option ℕ)) one. gids ++ one ∷ []) c.loop-element.invariant.so_far here
          ∙ sym (map_push Some c.loop-element.gids c.in_ok-sound_gid.field-0)
          ∙ ap (map Some) (sym c.push.ensures);
      few = omega (arith, room, ap length c.push.ensures, length_push c.loop-element.gids c.in_ok-sound_gid.field-0);
    })

pub returns : goal.returns
returns c =
    let same = c.into_iter-element-iterator.ensures.into_iter_gives in
    let made = c.split-element-items.ensures in
    let ended = YieldsList-end (YieldsList-from_str_split {s = c.into_iter-element-iterator.result} 58 c.args.others.now (lit< tt) (ap split_text same ∙ made.text) (ap split_has_more same ∙ made.has_more) (ap split_pattern same ∙ made.pattern))
    c.loop-element.yielded _ c.loop-element.yielded_by _ _ c.in-None.is c.next.ensures.steps in
    (ap (map (sound_gid c.args.groups.now)) (sym (take_all (length c.loop-element.yielded) (elements c.args.others.now) (omega (arith, ended.1)))) ∙ c.loop-element.invariant.so_far, c.loop-element.invariant.few)
