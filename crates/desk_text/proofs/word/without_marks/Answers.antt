use Rattle.std.proofs.Common.{◌≡◌, ◌<◌, ◌+◌, drop, ◌∙◌, sym, ap, length, get_or, arith, true, false, Some, None, ◌++◌}
use Rattle.std.specs.Prelude.{encode_utf8_all}
use Rattle.std.proofs.lemmas.Bool.{ne_eqb}
use Rattle.std.specs.Str.{IsUtf8, chars}
use Rattle.std.specs.Str.Iter.{chars_rest}
use Rattle.std.specs.String.{string_bytes}
use Rattle.std.proofs.lemmas.Iterator.{YieldsList-from_chars}
use Rattle.std.proofs.lemmas.Iterator.Consumers.{YieldsList-turn, YieldsList-end}
use Rattle.std.proofs.lemmas.List.{length_push, drop_all, append-nil}
use Rattle.desk_text.proofs.WordValue.{value_from, silent, stands, by_escape, by_backslash, by_plain, by_close, by_open, word_value-chars}
use Rattle.desk_text.proofs.word.without_marks.Goals as goal
use Rattle.desk_text.proofs.word.without_marks.Goals.{In-Some}

turn : (c : In-Some) → (length c.loop-c.yielded < length (chars c.args.raw.now)) × (c.in-Some.c ≡ get_or (chars c.args.raw.now) (length c.loop-c.yielded) c.in-Some.c)
turn c =
    let text : IsUtf8 c.args.raw.now = c.utf8.raw in
    YieldsList-turn (YieldsList-from_chars {s = c.into_iter-c-iterator.result} c.args.raw.now text (ap chars_rest c.into_iter-c-iterator.ensures.into_iter_gives ∙ c.chars-c-items.ensures.rest)) c.loop-c.yielded _ c.loop-c.yielded_by _ _ c.in-Some.c c.in-Some.is c.next.ensures.steps

pub loop-c-preserved-in-Continue-branch-2 : goal.loop-c-preserved-in-Continue-branch-2
loop-c-preserved-in-Continue-branch-2 c =
    let s = (goal.at.loop-c-preserved-in-Continue-branch-2 c).In-Some in
    let t = drop (length c.loop-c.yielded + 1) (chars c.args.raw.now) in
    rw length_push (stands c.args.raw.now (string_bytes c.loop-c.value) (length c.loop-c.yielded) c.in-Some.c c.loop-c.quote c.loop-c.escaped (turn s) c.loop-c.invariant (string_bytes c.push.new.self) c.loop-c.quote false c.in_ok-push.ensures.bytes
    (by_escape c.loop-c.quote c.loop-c.escaped c.in-Some.c t c.if-escaped.true))

pub loop-c-preserved-then-c-eq92 : goal.loop-c-preserved-then-c-eq92
loop-c-preserved-then-c-eq92 c =
    let s = (goal.at.loop-c-preserved-then-c-eq92 c).In-Some in
    let t = drop (length c.loop-c.yielded + 1) (chars c.args.raw.now) in
    rw length_push (silent c.args.raw.now (string_bytes c.loop-c.value) (length c.loop-c.yielded) c.in-Some.c c.loop-c.quote c.loop-c.escaped (turn s) c.loop-c.invariant c.loop-c.quote true
    (by_backslash c.loop-c.quote c.loop-c.escaped c.in-Some.c t c.if-escaped.false c.if-c-eq92.true))

pub loop-c-preserved-in-Continue-branch-3 : goal.loop-c-preserved-in-Continue-branch-3
loop-c-preserved-in-Continue-branch-3 c =
    let s = (goal.at.loop-c-preserved-in-Continue-branch-3 c).In-Some in
    let t = drop (length c.loop-c.yielded + 1) (chars c.args.raw.now) in
    rw length_push (stands c.args.raw.now (string_bytes c.loop-c.value) (length c.loop-c.yielded) c.in-Some.c c.loop-c.quote c.loop-c.escaped (turn s) c.loop-c.invariant (string_bytes c.push-then-not-is_mark.new.self) c.loop-c.quote c.loop-c.escaped c.in_ok-push-2.ensures.bytes
    (by_plain c.loop-c.quote c.loop-c.escaped c.in-Some.c t c.if-escaped.false (ne_eqb _ _ c.if-c-eq92.false) (sym c.is_mark.ensures ∙ c.if-not-is_mark.true)))

pub loop-c-preserved-then-is_some : goal.loop-c-preserved-then-is_some
loop-c-preserved-then-is_some c =
    let s = (goal.at.loop-c-preserved-then-is_some c).In-Some in
    let t = drop (length c.loop-c.yielded + 1) (chars c.args.raw.now) in
    rw length_push (silent c.args.raw.now (string_bytes c.loop-c.value) (length c.loop-c.yielded) c.in-Some.c c.loop-c.quote c.loop-c.escaped (turn s) c.loop-c.invariant None c.loop-c.escaped
    (by_close c.loop-c.quote c.loop-c.escaped c.in-Some.c t c.if-escaped.false (ne_eqb _ _ c.if-c-eq92.false) (sym c.is_mark.ensures ∙ c.if-not-is_mark.false) (sym c.if-is_some.ensures)))

pub loop-c-preserved : goal.loop-c-preserved
loop-c-preserved c =
    let s = (goal.at.loop-c-preserved c).In-Some in
    let t = drop (length c.loop-c.yielded + 1) (chars c.args.raw.now) in
    rw length_push (silent c.args.raw.now (string_bytes c.loop-c.value) (length c.loop-c.yielded) c.in-Some.c c.loop-c.quote c.loop-c.escaped (turn s) c.loop-c.invariant (Some c.in-Some.c) c.loop-c.escaped
    (by_open c.loop-c.quote c.loop-c.escaped c.in-Some.c t c.if-escaped.false (ne_eqb _ _ c.if-c-eq92.false) (sym c.is_mark.ensures ∙ c.if-not-is_mark.false) (sym c.if-is_some.ensures)))

pub returns : goal.returns
returns c =
    let text : IsUtf8 c.args.raw.now = c.utf8.raw in
    let ended = YieldsList-end (YieldsList-from_chars {s = c.into_iter-c-iterator.result} c.args.raw.now text (ap chars_rest c.into_iter-c-iterator.ensures.into_iter_gives ∙ c.chars-c-items.ensures.rest)) c.loop-c.yielded _ c.loop-c.yielded_by _ _ c.in-None.is c.next.ensures.steps in
    let none = drop_all (length c.loop-c.yielded) (chars c.args.raw.now) (omega (arith, ended.1)) in
    sym (append-nil (string_bytes c.loop-c.value))
    ∙ ap (λ t. string_bytes c.loop-c.value ++ encode_utf8_all (value_from c.loop-c.quote c.loop-c.escaped t)) (sym none)
    ∙ c.loop-c.invariant ∙ word_value-chars c.args.raw.now text
