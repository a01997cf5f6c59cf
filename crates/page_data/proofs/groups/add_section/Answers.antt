use Rattle.std.proofs.Common.{◌≡◌, ◌<◌, ◌∙◌, ltb, ℕ, List, None, Some, length, map, subst, sym, ap, arith}
use Rattle.std.specs.List.{position_from}
use Rattle.std.proofs.lemmas.Bool.{cond-true, lt-ltb}
use Rattle.std.proofs.lemmas.Result.{on_ok_weaker}
use Rattle.desk_impact.specs.Sections.{PlaceBreaches, section_value}
use Rattle.page_data.specs.Groups.{group_value}
use Rattle.page_data.specs.PrivateGroups.{AreNumbered, has_key, with_section}
use Rattle.page_data.specs.PrivateSections.{with_section_at}
use Rattle.page_data.proofs.AtKey.{Grows, grown, grows, new_group}
use Rattle.page_data.proofs.groups.add_section.Goals as goal

pub push_new-requires-clause-none : goal.push_new-requires-clause-none
push_new-requires-clause-none c = sym (c.requires.numbered c.args.key) ∙ sym c.get.ensures.value ∙ sym c.copied.ensures ∙ c.in-None.is

-- the group with a key's number is the first one with it
at_place : (section : PlaceBreaches) (groups : List (List PlaceBreaches)) (number : ℕ) → Grows section 0 groups number → with_section_at (Some number) groups section ≡ with_section section groups
at_place section groups number own =
    let same : number ≡ own.at = (let e = own.is in omega arith) in
    let within : number < length groups = (let lt = own.within in omega arith) in
    cond-true (ltb number (length groups)) _ _ (lt-ltb _ _ within) ∙ ap (grown section groups) same ∙ sym own.grows

pub returns-in-Some-clause-added : goal.returns-in-Some-clause-added
returns-in-Some-clause-added c =
    let groups = map group_value c.args.groups.now.items in
    let section = section_value c.args.section in
    let place = sym (c.requires.numbered c.args.key) ∙ sym c.get.ensures.value ∙ sym c.copied.ensures ∙ c.in-Some.is in
    let own = grows section 0 groups c.in-Some.number (subst (λ (key : List ℕ). position_from (has_key key) 0 groups ≡ Some c.in-Some.number) c.requires.key place) in
    on_ok_weaker c.push_at.result (λ e. e ∙ at_place section groups c.in-Some.number own) c.push_at.ensures

pub returns-in-Some-clause-numbered : goal.returns-in-Some-clause-numbered
returns-in-Some-clause-numbered c =
    let groups = map group_value c.args.groups.now.items in
    let section = section_value c.args.section in
    let place = sym (c.requires.numbered c.args.key) ∙ sym c.get.ensures.value ∙ sym c.copied.ensures ∙ c.in-Some.is in
    let own = grows section 0 groups c.in-Some.number (subst (λ (key : List ℕ). position_from (has_key key) 0 groups ≡ Some c.in-Some.number) c.requires.key place) in
    on_ok_weaker c.push_at.result
    (λ e. subst (AreNumbered c.args.numbers.now) (sym (e ∙ at_place section groups c.in-Some.number own ∙ own.grows)) (λ key. c.requires.numbered key ∙ sym (own.keeps key.items 0)))
    c.push_at.ensures

pub returns-in-None-clause-added : goal.returns-in-None-clause-added
returns-in-None-clause-added c =
    let groups = map group_value c.args.groups.now.items in
    let section = section_value c.args.section in
    let place = sym (c.requires.numbered c.args.key) ∙ sym c.get.ensures.value ∙ sym c.copied.ensures ∙ c.in-None.is in
    on_ok_weaker c.push_new.result (λ e. e ∙ sym (new_group section 0 groups (subst (λ (key : List ℕ). position_from (has_key key) 0 groups ≡ None) c.requires.key place))) c.push_new.ensures.added
