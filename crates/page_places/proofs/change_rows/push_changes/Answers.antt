use Rattle.std.specs.String.{string_bytes}
use Rattle.std.proofs.lemmas.Result.{on_ok_weaker}
use Rattle.page_places.specs.ChangeRows.{mattering, silent_words}
use Rattle.page_html.proofs.Gaining.{two_pieces}
use Rattle.page_places.proofs.change_rows.push_changes.Goals as goal

pub returns : goal.returns
returns c =
    on_ok_weaker c.push_silent.result
    (two_pieces (string_bytes c.args.page.now) (string_bytes c.push_mattering.new.page) (string_bytes c.push_silent.new.page)
    (mattering c.args.rows.now) (silent_words c.args.silent) c.in_ok-push_mattering.ensures)
    c.push_silent.ensures
