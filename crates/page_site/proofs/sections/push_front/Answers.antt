use Rattle.std.proofs.lemmas.Result.{on_ok_weaker}
use Rattle.page_site.proofs.Pieces.{gains_then}
use Rattle.page_site.proofs.sections.push_front.Goals as goal

pub returns : goal.returns
returns c =
    on_ok_weaker c.push_tables.result (λ ended. gains_then c.in_ok-push_beginning.ensures (gains_then c.in_ok-push_summary.ensures ended)) c.push_tables.ensures
