use Rattle.std.proofs.Common.{◌≡◌, ◌++◌, ◌∙◌, OnOk, ap, cond, map, subst, sym}
use Rattle.std.specs.Prelude.{◌==◌}
use Rattle.std.specs.String.{string_bytes}
use Rattle.page_places.specs.Groups.{maps_and_table, nobody}
use Rattle.page_places.specs.Names.{members_value}
use Rattle.page_places.specs.Rows.{row_value}
use Rattle.page_places.specs.Tables.{granting, told_value}
use Rattle.page_places.proofs.groups.push_who.Goals as goal

pub returns-then-granting-eq0 : goal.returns-then-granting-eq0
returns-then-granting-eq0 c =
    let told = told_value c.args.table.now in
    let block = maps_and_table c.args.fs.0 (members_value c.args.members.now) c.args.maps.now told in
    let none : granting told.rows ≡ 0 =
    sym (c.granting.ensures ∙ ap (λ rows. granting (map row_value rows)) c.as_slice.ensures) ∙ c.if-granting-eq0.true in
    subst
    (λ n. OnOk c.push_element.result (string_bytes c.push_element.new.page ≡ string_bytes c.args.page.now ++ cond (n == 0) nobody block))
    (sym none) c.push_element.ensures
