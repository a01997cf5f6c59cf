use Rattle.std.proofs.Common.{◌∙◌, [], ap, get_or, map, sym, take}
use Rattle.std.specs.Prelude.{false, fold}
use Rattle.std.proofs.lemmas.List.{map_more, take_all}
use Rattle.std.proofs.lemmas.List.Sums.{fold_push}
use Rattle.desk_impact.specs.Places.{place_of}
use Rattle.desk_impact.specs.Sections.{Section, section_value}
use Rattle.page_places.specs.Names.{MembersValue, members_of, members_value, with_place}
use Rattle.page_places.proofs.Sized.{in_two_steps}
use Rattle.page_places.proofs.names.members_of.Goals as goal

pub loop-section-preserved : goal.loop-section-preserved
loop-section-preserved c =
    let sections = c.args.sections.now in
    let i = c.loop-section.section-index in
    let section = c.section-item.result in
    let at = λ (one : Section). place_of one.place in
    let empty : MembersValue = record { directories = []; has_others = false } in
    c.in_ok-add_place.ensures
    ∙ ap (λ (one : Section). with_place (members_value c.loop-section.members) (at one)) c.section-item.is
    ∙ ap (λ members. with_place members (at (get_or sections i section))) c.loop-section.invariant
    ∙ sym (fold_push with_place empty (map at (take i sections)) (at (get_or sections i section)))
    ∙ sym (ap (fold with_place empty) (map_more at sections i section c.loop-section-test.true))

pub returns : goal.returns
returns c =
    let sections = c.args.sections.now in
    let at = λ (one : Section). place_of one.place in
    c.loop-section.invariant ∙ ap (λ some. members_of (map at some)) (take_all c.loop-section.section-index sections c.loop-section-test.false)
    ∙ sym (ap members_of (in_two_steps (λ one. one.place) section_value sections))
