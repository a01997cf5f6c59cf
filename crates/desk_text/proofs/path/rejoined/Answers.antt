use Rattle.std.proofs.Common.{◌≡◌, ◌<◌, ◌++◌, ◌∷◌, [], ◌∙◌, sym, ap, not, length, get_or, filter, lit<, arith, take_all, eqb}
use Rattle.std.specs.List.{slice_split, flat_map}
use Rattle.std.specs.String.{string_bytes}
use Rattle.std.specs.Str.Iter.{split_text, split_has_more, split_pattern}
use Rattle.std.proofs.lemmas.Iterator.Splits.{YieldsList-from_str_split}
use Rattle.std.proofs.lemmas.Iterator.Consumers.{YieldsList-turn, YieldsList-end}
use Rattle.std.proofs.lemmas.List.{length_push}
use Rattle.desk_text.proofs.Slashes.{print_empty, print_part}
use Rattle.desk_text.proofs.path.rejoined.Goals as goal
use Rattle.desk_text.proofs.path.rejoined.Goals.{In-Some}

turn : (c : In-Some) → (length c.loop-part.yielded < length (slice_split (λ b. eqb b 47) c.args.text.now)) × (c.in-Some.part.now ≡ get_or (slice_split (λ b. eqb b 47) c.args.text.now) (length c.loop-part.yielded) c.in-Some.part.now)
turn c =
    let same = c.into_iter-part-iterator.ensures.into_iter_gives in
    let made = c.split-part-items.ensures in
    YieldsList-turn (YieldsList-from_str_split {s = c.into_iter-part-iterator.result} 47 c.args.text.now (lit< tt) (ap split_text same ∙ made.text) (ap split_has_more same ∙ made.has_more) (ap split_pattern same ∙ made.pattern)) c.loop-part.yielded _ c.loop-part.yielded_by _ _ c.in-Some.part c.in-Some.is c.next.ensures.steps

pub loop-part-preserved : goal.loop-part-preserved
loop-part-preserved c =
    let s = (goal.at.loop-part-preserved c).In-Some in
    let empty = c.if-not-is_empty.ensures in
    rw length_push (print_empty (slice_split (λ b. eqb b 47) c.args.text.now) (length c.loop-part.yielded) c.in-Some.part.now (turn s) (string_bytes c.loop-part.out) [] c.loop-part.invariant (sym empty))

pub loop-part-preserved-in-Continue-branch-3 : goal.loop-part-preserved-in-Continue-branch-3
loop-part-preserved-in-Continue-branch-3 c =
    let s = (goal.at.loop-part-preserved-in-Continue-branch-3 c).In-Some in
    let empty = c.if-not-is_empty.ensures in
    let slash = c.in_ok-push.ensures in
    let new = c.in_ok-push_str.ensures.bytes ∙ ap (λ t. t ++ c.in-Some.part.now) (slash.bytes ∙ ap (λ t. string_bytes c.loop-part.out ++ t) (slash.ascii (lit< tt))) in
    rw length_push (print_part (slice_split (λ b. eqb b 47) c.args.text.now) (length c.loop-part.yielded) c.in-Some.part.now (turn s) (string_bytes c.loop-part.out) (string_bytes c.push_str.new.self) c.loop-part.invariant (sym empty) new)

pub returns : goal.returns
returns c =
    let same = c.into_iter-part-iterator.ensures.into_iter_gives in
    let made = c.split-part-items.ensures in
    let parts = slice_split (λ b. eqb b 47) c.args.text.now in
    let ended = YieldsList-end (YieldsList-from_str_split {s = c.into_iter-part-iterator.result} 47 c.args.text.now (lit< tt) (ap split_text same ∙ made.text) (ap split_has_more same ∙ made.has_more) (ap split_pattern same ∙ made.pattern)) c.loop-part.yielded _ c.loop-part.yielded_by _ _ c.in-None.is c.next.ensures.steps in
    c.loop-part.invariant ∙ ap (λ ps. flat_map (λ part. 47 ∷ part) (filter (λ part. not (eqb (length part) 0)) ps)) (take_all (length c.loop-part.yielded) parts (omega (arith, ended.1)))
