use Rattle.std.proofs.Common.{◌≡◌, ◌∙◌, [], ap, length, refl, rules, set, sym}
use Rattle.std.specs.Option.{option_map_or}
use Rattle.std.proofs.lemmas.Option.{slice_get_past, slice_get_read}
use Rattle.desk_core.specs.Head.{Revision}
use Rattle.desk_store.specs.PrivateGatheredRevisions.{bare}
use Rattle.desk_store.proofs.Kept.{set_bare}
use Rattle.desk_store.proofs.gathered_revisions.take_text.Goals as goal

pub returns-in-Some : goal.returns-in-Some
returns-in-Some c =
    let heads = c.args.heads.now.items in
    let head : Revision = c.in-Some.head.now in
    let read = slice_get_read heads (length heads) c.args.place head refl c.in-Some.ensures.item.3.0 c.in-Some.ensures.value in
    let empty : c.from_string.result ≡ [] = search rules in
    ap (λ body. set heads c.args.place (record head { body = body })) empty ∙ set_bare heads c.args.place head read

pub returns-in_default : goal.returns-in_default
returns-in_default c =
    let heads = c.args.heads.now.items in
    ap (λ o. option_map_or (λ (r : Revision). set heads c.args.place (bare r)) o heads) (sym (slice_get_past heads c.args.place c.in_default.ensures.item.3))
