use Rattle.std.proofs.Common.{◌≡◌, ◌++◌, ◌∙◌, [], ◌∷◌, Some, ap, map, subst, sym}
use Rattle.std.specs.BTreeMap.{Updates}
use Rattle.std.specs.Cmp.Lexicographic.{slice_cmp}
use Rattle.std.specs.Ordering.{nat_cmp}
use Rattle.std.proofs.lemmas.List.{length-map, map-append}
use Rattle.desk_impact.specs.Sections.{section_value}
use Rattle.page_data.specs.Groups.{group_value}
use Rattle.page_data.specs.PrivateGroups.{AreNumbered}
use Rattle.page_data.proofs.AtKey.{numbered_more}
use Rattle.page_data.proofs.groups.push_new.Goals as goal

pub returns-clause-numbered : goal.returns-clause-numbered
returns-clause-numbered c =
    let groups = map group_value c.args.groups.now.items in
    let counted = c.len.ensures ∙ c.args.groups.now.ok.0 ∙ sym (length-map c.args.groups.now.items group_value) in
    let grown : map group_value c.push-2.new.self.items ≡ groups ++ (section_value c.args.section ∷ []) ∷ [] =
    ap (map group_value) c.in_ok-push-2.ensures.items ∙ map-append group_value c.args.groups.now.items _
    ∙ ap (λ group. groups ++ group ∷ []) (ap (map section_value) (c.in_ok-push.ensures.added ∙ ap (λ some. some ++ c.args.section ∷ []) c.new-sections.ensures)) in
    subst (AreNumbered c.insert.new.self) (sym grown)
    (numbered_more c.args.numbers.now c.insert.new.self groups (section_value c.args.section) c.args.key c.requires.key c.requires.numbered c.requires.none
    (subst (λ n. Updates (λ one other. slice_cmp nat_cmp one.items other.items) c.args.numbers.now c.insert.new.self c.args.key (Some n)) counted c.in_ok-insert.ensures.updates))
