use Rattle.std.proofs.Common.{◌∙◌, [], ap, get_or, map, subst, sym}
use Rattle.std.specs.List.{flat_map}
use Rattle.std.proofs.lemmas.List.{get_or_default, take_all}
use Rattle.std.proofs.lemmas.List.Folds.{flat_map-map}
use Rattle.desk_text.specs.Address.{number_of}
use Rattle.desk_text.specs.Laws.{IsSetOf}
use Rattle.desk_text.specs.declared.address.Addr.{Addr}
use Rattle.desk_impact.specs.Sections.{section_value}
use Rattle.page_findings.specs.PrivateDeciding.{lines_between}
use Rattle.page_data.proofs.Gathered.{writes}
use Rattle.page_findings.proofs.lists.list_on.Goals as goal

pub loop-address-preserved : goal.loop-address-preserved
loop-address-preserved c =
    let sections = map section_value c.args.sections.now in
    let addresses = c.args.addresses.now in
    let i = c.loop-address.address-index in
    let none : Addr = record { number = 0 } in
    let address : Addr = get_or addresses i none in
    writes addresses i address c.loop-address-test.true (get_or_default addresses i none address c.loop-address-test.true) (λ (one : Addr). lines_between (number_of one) (number_of one) sections) []
    c.loop-address.lines.items c.push_between.new.lines.items c.loop-address.invariant c.in_ok-push_between.ensures

pub returns : goal.returns
returns c =
    let sections = map section_value c.args.sections.now in
    subst (λ numbers. IsSetOf numbers c.sorted.result.items) (
    c.loop-address.invariant
    ∙ ap (flat_map (λ (address : Addr). lines_between (number_of address) (number_of address) sections)) (take_all c.loop-address.address-index c.args.addresses.now c.loop-address-test.false)
    ∙ sym (flat_map-map (λ n. lines_between n n sections) number_of c.args.addresses.now)
    ) c.sorted.ensures
