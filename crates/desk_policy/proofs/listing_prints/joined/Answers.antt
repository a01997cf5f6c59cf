use Rattle.std.proofs.Common.{◌<◌, [], ◌∷◌, ◌++◌, length, take, get_or, arith, sym, ap, ◌∙◌}
use Rattle.std.specs.List.{join_with_byte}
use Rattle.std.specs.String.{string_bytes}
use Rattle.std.proofs.lemmas.List.{append_assoc, length-take-le, take_more}
use Rattle.desk_policy.proofs.Commas.{one_more}
use Rattle.desk_policy.proofs.listing_prints.joined.Goals as goal

pub loop-index-preserved : goal.loop-index-preserved
loop-index-preserved c =
    let names = c.args.names.now in
    let i = c.loop-index.index in
    let name = get_or names i [] in
    let within : i < length names = omega (arith, c.loop-index-test.true, c.len-index-end.ensures) in
    let some : 0 < length (take i names) = omega (arith, length-take-le i names (omega (arith, within)), c.loop-index.auto.index) in
    c.in_ok-push_str-3.ensures.bytes
    ∙ ap (λ t. t ++ c.get-in-loop-index.result.now) c.in_ok-push_str-2.ensures.bytes
    ∙ append_assoc (string_bytes c.loop-index.text) (44 ∷ []) c.get-in-loop-index.result.now
    ∙ ap (λ t. string_bytes c.loop-index.text ++ 44 ∷ t) c.get-in-loop-index.ensures
    ∙ ap (λ t. t ++ 44 ∷ name) c.loop-index.invariant
    ∙ sym (one_more (take i names) name some)
    ∙ ap (join_with_byte 44) (sym (take_more names i [] within))
