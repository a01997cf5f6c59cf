use Rattle.std.proofs.Common.{◌≡◌, true, not, ◌&&◌, ◌||◌, sym, ap, ◌∙◌}
use Rattle.desk_text.specs.Address.{is_address, is_dotted}
use Rattle.desk_exports.proofs.NameLemmas.{dotted_is_whole}
use Rattle.desk_exports.proofs.rules.names.is_badly_spelled.Goals as goal

pub returns-then-is_dotted : goal.returns-then-is_dotted
returns-then-is_dotted c =
    let name = c.args.name.now in
    let dotted : is_dotted name ≡ true = sym c.is_dotted.ensures ∙ c.if-is_dotted.true in
    ap not c.is_address.ensures
    ∙ sym (ap (λ s. s || (is_dotted name && not (is_address name))) (dotted_is_whole name dotted) ∙ ap (λ d. d && not (is_address name)) dotted)
