use Rattle.std.proofs.Common.{◌≡◌, false, ◌||◌, eqb, sym, ap, ◌∙◌}
use Rattle.std.specs.List.{list_any}
use Rattle.desk_exports.proofs.NameLemmas.{any_of_two}
use Rattle.desk_exports.proofs.rules.names.has_separator.Goals as goal

pub returns-else-contains : goal.returns-else-contains
returns-else-contains c =
    let name = c.args.name.now in
    let bytes = c.as_bytes-bytes.ensures.value in
    let comma : list_any (λ b. eqb b 44) name ≡ false = ap (list_any (λ b. eqb b 44)) (sym bytes) ∙ sym c.contains.ensures.value ∙ c.if-contains.false in
    c.contains-else-contains.ensures.value ∙ ap (list_any (λ b. eqb b 61)) bytes
    ∙ sym (any_of_two (λ b. eqb b 44) (λ b. eqb b 61) name ∙ ap (λ found. found || list_any (λ b. eqb b 61) name) comma)
