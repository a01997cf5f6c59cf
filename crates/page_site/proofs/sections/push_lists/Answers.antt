use Rattle.std.proofs.lemmas.Result.{on_ok_weaker}
use Rattle.page_site.proofs.Pieces.{gains_then}
use Rattle.page_site.proofs.sections.push_lists.Goals as goal

pub returns : goal.returns
returns c =
    on_ok_weaker c.push_files_list.result (λ ended. gains_then c.in_ok-push_warnings_list.ensures (gains_then c.in_ok-push_names_list.ensures ended)) c.push_files_list.ensures
