use Rattle.std.proofs.Common.{◌+◌, ◌<◌, ◌++◌, ◌∙◌, List, [], ◌∷◌, ap, arith, length, map, subst, sym}
use Rattle.std.proofs.lemmas.List.{map-append, nil_from_length}
use Rattle.desk_policy.specs.Policy.{Content}
use Rattle.desk_impact.specs.Sections.{PlaceBreaches, section_value}
use Rattle.page_data.specs.Laws.{IsSound}
use Rattle.page_data.specs.PrivateSystems.{IsOwnOf}
use Rattle.page_data.specs.Systems.{IsSystem, system_value}
use Rattle.page_data.proofs.Reported.{AreSoFar, are_systems, listed, one_more}
use Rattle.page_data.proofs.systems.systems_of_site.Goals as goal

pub system_of-requires : goal.system_of-requires
system_of-requires g c =
    let content = g.V.PolicyView.in_force c.args.view.now in
    let number = c.loop-sections.number in
    let within : number < length content.table =
    listed content c.loop-sections.yielded _ c.next.new.self.rest.items c.in-Some.sections number (map system_value c.loop-sections.systems.items) c.loop-sections.invariant c.in-Some.ensures.steps.0 in
    subst (λ (some : Content). IsSound some number) (sym c.policy-policy.ensures) (c.requires.sound.each number within)

pub overflow_add-number : goal.overflow_add-number
overflow_add-number g c =
    let content = g.V.PolicyView.in_force c.args.view.now in
    let number = c.loop-sections.number in
    let within : number < length content.table =
    listed content c.loop-sections.yielded _ c.next.new.self.rest.items c.in-Some.sections number (map system_value c.loop-sections.systems.items) c.loop-sections.invariant c.in-Some.ensures.steps.0 in
    omega (arith, c.requires.sound.few)

pub loop-sections-preserved : goal.loop-sections-preserved
loop-sections-preserved g c =
    let content = g.V.PolicyView.in_force c.args.view.now in
    let done = c.loop-sections.yielded ++ c.in-Some.sections ∷ [] in
    let systems = c.loop-sections.systems.items in
    let found = system_value c.in_ok-system_of.field-0 in
    let more = one_more content c.loop-sections.yielded _ c.next.new.self.rest.items c.in-Some.sections c.loop-sections.number (map system_value systems) c.loop-sections.invariant
    c.in-Some.ensures.steps.0 c.requires.sound found
    (subst (λ (some : Content). (all : List PlaceBreaches) → IsOwnOf some c.loop-sections.number all (map section_value c.in-Some.sections) → IsSystem some all c.loop-sections.number found) c.policy-policy.ensures c.in_ok-system_of.ensures) in
    subst (AreSoFar content done c.next.new.self.rest.items (c.loop-sections.number + 1)) (sym (ap (map system_value) c.in_ok-push.ensures.items ∙ map-append system_value systems (c.in_ok-system_of.field-0 ∷ []))) more

pub returns : goal.returns
returns g c =
    let content = g.V.PolicyView.in_force c.args.view.now in
    let rest = c.loop-sections.sections-iterator.rest in
    let left = nil_from_length rest.items (sym rest.ok.0 ∙ c.in-None.ensures.steps.0) in
    are_systems content c.loop-sections.yielded rest.items c.loop-sections.number (map system_value c.loop-sections.systems.items) c.loop-sections.invariant left
