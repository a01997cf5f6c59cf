use Rattle.std.proofs.lemmas.Result.{on_ok_weaker}
use Rattle.page_site.proofs.Pieces.{gains_then}
use Rattle.page_site.proofs.sections.push_back.Goals as goal

pub returns : goal.returns
returns c =
    on_ok_weaker c.push_end.result (gains_then c.in_ok-push_lists.ensures) c.push_end.ensures
