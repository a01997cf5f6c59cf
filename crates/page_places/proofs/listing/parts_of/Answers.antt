use Rattle.std.proofs.Common.{◌≡◌, ◌++◌, ◌∙◌, List, [], ◌∷◌, ap, map, refl, subst, sym}
use Rattle.std.specs.Prelude.{All, Contains}
use Rattle.std.proofs.lemmas.List.{append-nil, append_assoc, map-append, nil_from_length}
use Rattle.std.proofs.lemmas.List.Elements.{All-contains, All-nil, All-push, Contains-append_right}
use Rattle.desk_impact.proofs.Same.{contains_map}
use Rattle.page_data.specs.Opening.{opening_section}
use Rattle.page_places.specs.Groups.{HasToldSizes}
use Rattle.page_places.specs.declared.groups.GroupPart.{GroupPart}
use Rattle.page_data.specs.Groups.{group_value}
use Rattle.page_data.specs.Tables.{CanBeTabled}
use Rattle.page_data.proofs.Containing.{here}
use Rattle.page_places.specs.ListedGroups.{IsPart, part_value}
use Rattle.page_places.proofs.listing.parts_of.Goals as goal

pub loop-group-init : goal.loop-group-init
loop-group-init c = record {
  given = c.into_iter-group-iterator.ensures.into_iter_gives.0;
  groups = ap (map (λ (part : GroupPart). group_value part.group)) c.new-parts.ensures.items;
  parts = subst (All (λ part. IsPart c.args.drawn (map opening_section c.args.openings.now) (part_value part))) (sym c.new-parts.ensures.items) (All-nil (λ part. IsPart c.args.drawn (map opening_section c.args.openings.now) (part_value part)));
  sizes = subst (All HasToldSizes) (sym c.new-parts.ensures.items) (All-nil HasToldSizes);
}

-- the next group goes from what is left to what was read
one_more : {X : Type 0} (done left rest all : List X) (x : X) → left ≡ x ∷ rest → done ++ left ≡ all → (done ++ x ∷ []) ++ rest ≡ all
one_more done left rest all x e h = append_assoc done (x ∷ []) rest ∙ ap (λ xs. done ++ xs) (sym e) ∙ h

among : {X : Type 0} (done left rest all : List X) (x : X) → left ≡ x ∷ rest → done ++ left ≡ all → Contains all x
among done left rest all x e h = subst (λ xs. Contains xs x) (ap (λ xs. done ++ xs) (sym e) ∙ h) (Contains-append_right done (x ∷ rest) x (here x x rest refl))

pub part_of-requires : goal.part_of-requires
part_of-requires c =
    let group = c.in-Some.group in
    All-contains CanBeTabled (map group_value c.args.groups.items) (group_value group) c.requires
    (contains_map group_value c.args.groups.items group (among c.loop-group.yielded _ c.next.new.self.rest.items _ group c.in-Some.ensures.steps.0 c.loop-group.invariant.given))

pub loop-group-preserved : goal.loop-group-preserved
loop-group-preserved c =
    let group = c.in-Some.group in
    let part = c.in_ok-part_of.field-0 in
    let parts = c.loop-group.parts.items in
    let pushed = c.in_ok-push.ensures.items in
    record {
      given = one_more c.loop-group.yielded _ c.next.new.self.rest.items _ group c.in-Some.ensures.steps.0 c.loop-group.invariant.given;
      groups = ap (map (λ (one : GroupPart). group_value one.group)) pushed ∙ map-append (λ (one : GroupPart). group_value one.group) parts (part ∷ [])
          ∙ ap (λ some. some ++ group_value part.group ∷ []) c.loop-group.invariant.groups ∙ ap (λ own. map group_value c.loop-group.yielded ++ own ∷ []) c.in_ok-part_of.ensures.group
          ∙ sym (map-append group_value c.loop-group.yielded (group ∷ []));
      parts = subst (All (λ one. IsPart c.args.drawn (map opening_section c.args.openings.now) (part_value one))) (sym pushed) (All-push (λ one. IsPart c.args.drawn (map opening_section c.args.openings.now) (part_value one)) parts part c.loop-group.invariant.parts c.in_ok-part_of.ensures.part);
      sizes = subst (All HasToldSizes) (sym pushed) (All-push HasToldSizes parts part c.loop-group.invariant.sizes c.in_ok-part_of.ensures.sizes);
    }

all_read : {X : Type 0} (done left all : List X) → left ≡ [] → done ++ left ≡ all → done ≡ all
all_read done left all none h = sym (append-nil done) ∙ ap (λ xs. done ++ xs) (sym none) ∙ h

pub returns-clause-groups : goal.returns-clause-groups
returns-clause-groups c =
    let none : c.loop-group.group-iterator.rest.items ≡ [] = nil_from_length c.loop-group.group-iterator.rest.items (sym c.loop-group.group-iterator.rest.ok.0 ∙ c.in-None.ensures.steps.0) in
    c.loop-group.invariant.groups ∙ ap (map group_value) (all_read c.loop-group.yielded c.loop-group.group-iterator.rest.items c.args.groups.items none c.loop-group.invariant.given)
