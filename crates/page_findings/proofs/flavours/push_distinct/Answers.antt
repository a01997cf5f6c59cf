use Rattle.std.proofs.Common.{◌≡◌, ◌∷◌, ◌∙◌, [], Bor, List, ap, false, map, rules, sym, true}
use Rattle.std.specs.List.{list_any}
use Rattle.std.proofs.lemmas.List.{map-append}
use Rattle.desk_exports.specs.declared.entry.Flavour.{Flavour}
use Rattle.page_findings.specs.Flavours.{same_flavours}
use Rattle.page_findings.proofs.Distinct.{add_new, add_there}
use Rattle.page_findings.proofs.flavours.push_distinct.Goals as goal

abbrev now : Bor (List Flavour) → List Flavour
now list = list.now

pub returns-in_ok-push : goal.returns-in_ok-push
returns-in_ok-push c =
    let lists = c.args.lists.now.items in
    let flavours = c.args.flavours.now in
    let apart : c.is_among.result ≡ false = search rules in
    let new : list_any (λ other. same_flavours other flavours) (map now lists) ≡ false =
    ap (λ items. list_any (λ other. same_flavours other flavours) (map now items)) (sym c.as_slice.ensures.value) ∙ sym c.is_among.ensures ∙ apart in
    ap (map now) c.in_ok-push.ensures.items ∙ map-append now lists (c.args.flavours ∷ []) ∙ sym (add_new (map now lists) flavours new)

pub returns-else-not-is_among : goal.returns-else-not-is_among
returns-else-not-is_among c =
    let lists = c.args.lists.now.items in
    let flavours = c.args.flavours.now in
    let alike : c.is_among.result ≡ true = search rules in
    sym (add_there (map now lists) flavours (ap (λ items. list_any (λ other. same_flavours other flavours) (map now items)) (sym c.as_slice.ensures.value) ∙ sym c.is_among.ensures ∙ alike))
