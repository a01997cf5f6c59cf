use Rattle.std.proofs.Common.{◌≡◌, ◌++◌, ◌∙◌, List, [], ◌∷◌, ap, map, subst, sym}
use Rattle.std.proofs.lemmas.List.{append-nil, append_assoc, map-append, nil_from_length}
use Rattle.desk_impact.specs.Sections.{PlaceBreaches, Section, section_value}
use Rattle.page_data.specs.Groups.{AreGrouped, group_value}
use Rattle.page_data.proofs.Grouped.{grouped_more}
use Rattle.page_data.proofs.Keyed.{key_along, key_back, key_itself, same_added, same_key, section_groups}
use Rattle.page_data.proofs.groups.groups_of.Goals as goal

-- the next section goes from what is left to what was read
one_more : {X : Type 0} (done left rest all : List X) (x : X) → left ≡ x ∷ rest → done ++ left ≡ all → (done ++ x ∷ []) ++ rest ≡ all
one_more done left rest all x e h = append_assoc done (x ∷ []) rest ∙ ap (λ xs. done ++ xs) (sym e) ∙ h

pub loop-section-preserved : goal.loop-section-preserved
loop-section-preserved c =
    let groups = map group_value c.loop-section.groups.items in
    let done = map section_value c.loop-section.yielded in
    let section = c.in-Some.section in
    let next : map section_value (c.loop-section.yielded ++ section ∷ []) ≡ done ++ section_value section ∷ [] = map-append section_value c.loop-section.yielded (section ∷ []) in
    let more = grouped_more same_key key_itself key_back key_along done groups (section_value section) c.loop-section.invariant.grouped in
    record {
      sections = one_more c.loop-section.yielded _ c.next.new.self.rest.items _ section c.in-Some.ensures.steps.0 c.loop-section.invariant.sections;
      numbered = c.in_ok-add_section.ensures.numbered;
      grouped = subst (λ (some : List PlaceBreaches). AreGrouped same_key some (map group_value c.add_section.new.groups.items)) (sym next)
          (subst (AreGrouped same_key (done ++ section_value section ∷ [])) (sym (c.in_ok-add_section.ensures.added ∙ same_added (section_value section) groups)) more);
    }

pub returns : goal.returns
returns c =
    let sections = c.args.sections.items in
    let groups = map group_value c.loop-section.groups.items in
    let none : c.loop-section.section-iterator.rest.items ≡ [] = nil_from_length c.loop-section.section-iterator.rest.items (sym c.loop-section.section-iterator.rest.ok.0 ∙ c.in-None.ensures.steps.0) in
    let all : c.loop-section.yielded ≡ sections = sym (append-nil c.loop-section.yielded) ∙ ap (λ left. c.loop-section.yielded ++ left) (sym none) ∙ c.loop-section.invariant.sections in
    section_groups c.verdicts_are_discrete.ensures (map section_value sections) c.requires groups
    (subst (λ (some : List Section). AreGrouped same_key (map section_value some) groups) all c.loop-section.invariant.grouped)
