use Rattle.std.proofs.Common.{◌∙◌, All, List, ap, length, subst, sym}
use Rattle.desk_policy.specs.Policy.{AreAscending}
use Rattle.desk_policy.specs.declared.row.Row.{Row}
use Rattle.page_data.specs.Laws.{HaveNumbers}
use Rattle.page_data.proofs.Sites.{sound_if_read}
use Rattle.page_data.proofs.laws.sites_are_sound.Goals as goal

pub returns : goal.returns
returns c =
    let rows = c.rows_by_filesystem.ensures.rows in
    sound_if_read c.tables_are_in_order.ensures c.lines_write_their_own.ensures.site c.lines_have_directories.ensures.site c.args.policy.now
    (sym (ap (λ (lists : List (List Row)). length lists) rows) ∙ c.rows_by_filesystem.ensures.each)
    (subst (λ (lists : List (List Row)). All AreAscending lists) rows c.rows_by_filesystem.ensures.ascending)
    (subst (λ (lists : List (List Row)). All HaveNumbers lists) rows c.look_at_all.ensures)
