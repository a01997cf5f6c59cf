use Rattle.std.proofs.Common.{◌++◌, ◌∙◌, ap, map}
use Rattle.std.specs.String.{string_bytes}
use Rattle.std.proofs.lemmas.Result.{on_ok_weaker}
use Rattle.desk_impact.specs.Sections.{section_value}
use Rattle.page_places.specs.Groups.{group_by}
use Rattle.page_places.specs.Names.{members_in}
use Rattle.page_places.specs.Tables.{told_value}
use Rattle.page_places.proofs.groups.push_group.Goals as goal

pub returns : goal.returns
returns c =
    on_ok_weaker c.push_group_of.result
    (λ same. same ∙ ap (λ members. string_bytes c.args.page.now ++ group_by c.args.fs.0 members c.args.maps.now (told_value c.args.table.now) c.args.openings.now)
    (c.in_ok-members.ensures ∙ ap (λ sections. members_in (map section_value sections)) c.as_slice.ensures))
    c.push_group_of.ensures
