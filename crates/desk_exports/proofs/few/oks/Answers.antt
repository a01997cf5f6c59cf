use Rattle.std.proofs.Common.{◌∙◌, ◌++◌, ◌∷◌, [], ap, sym}
use Rattle.std.specs.List.{filter_map}
use Rattle.std.specs.Result.{result_ok}
use Rattle.desk_exports.proofs.FewLemmas.{oks_more}
use Rattle.desk_exports.proofs.few.oks.Goals as goal

pub loop-result-preserved : goal.loop-result-preserved
loop-result-preserved g c =
    c.in_ok-push_ok.ensures
    ∙ ap (λ values. values ++ filter_map result_ok (c.in-Some.result ∷ [])) c.loop-result.invariant
    ∙ sym (oks_more c.loop-result.yielded c.in-Some.result)
