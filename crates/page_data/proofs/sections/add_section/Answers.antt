use Rattle.std.proofs.Common.{◌≡◌, ◌++◌, ◌<◌, ◌∙◌, ltb, ℕ, List, [], ◌∷◌, Option, None, Some, length, get_or, map, set, sym, ap, arith}
use Rattle.std.specs.Option.{option_map}
use Rattle.std.proofs.lemmas.Bool.{cond-true, lt-ltb}
use Rattle.std.proofs.lemmas.List.{get_or-map, length-map, map-append, map-set}
use Rattle.desk_tables.specs.FileSystems.{fs_of}
use Rattle.desk_tables.specs.declared.filesystems.FsId.{FsId}
use Rattle.desk_tables.specs.declared.filesystems.Mount.{Mount}
use Rattle.desk_impact.specs.Sections.{Section, section_value}
use Rattle.page_data.specs.PrivateSections.{with_section, with_section_at}
use Rattle.page_data.specs.Sections.{path_at}
use Rattle.page_data.proofs.sections.add_section.Goals as goal

number_in : (o : Option ℕ) (fs : FsId) → option_map (λ (i : ℕ). record { 0 = i }) o ≡ Some fs → o ≡ Some fs.0
number_in None fs is = absurd (cc)
number_in (Some i) fs is = ap (option_map (λ (one : FsId). one.0)) is

-- the list in this place goes on
goes_on : (table : List Mount) (lists : List (List Section)) (i : ℕ) (old new : List Section) (section : Section) → fs_of table (path_at (section_value section).place) ≡ Some i → i < length lists
    → old ≡ get_or lists i old → new ≡ old ++ section ∷ [] → map (map section_value) (set lists i new) ≡ with_section table (map (map section_value) lists) (section_value section)
goes_on table lists i old new section home below is added =
    let values = map (map section_value) lists in
    let there : i < length values = omega (arith, length-map lists (map section_value)) in
    map-set (map section_value) lists i new
    ∙ ap (set values i) (ap (map section_value) added ∙ map-append section_value old (section ∷ []) ∙ ap (λ t. t ++ section_value section ∷ []) (ap (map section_value) is ∙ sym (get_or-map (map section_value) lists i old [] below)))
    ∙ sym (cond-true (ltb i (length values)) _ _ (lt-ltb _ _ there)) ∙ sym (ap (λ (o : Option ℕ). with_section_at o values (section_value section)) home)

pub returns-in_ok-push : goal.returns-in_ok-push
returns-in_ok-push c =
    let table = c.args.table.now in
    let below : c.in-Some.fs.0 < length c.args.lists.now.items = grind (arith, c.in-Some-get_mut.ensures.variant) in
    let home = number_in (fs_of table (path_at (section_value c.args.section).place)) c.in-Some.fs (sym (c.of.ensures ∙ ap (λ path. option_map (λ (i : ℕ). record { 0 = i }) (fs_of table path)) c.path_at.ensures) ∙ c.in-Some.is) in
    goes_on table c.args.lists.now.items c.in-Some.fs.0 c.in-Some-get_mut.list.now c.push.new.self c.args.section home below c.in-Some-get_mut.ensures.value c.in_ok-push.ensures.added
