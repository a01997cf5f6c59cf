use Rattle.std.proofs.Common.{◌∙◌, ap}
use Rattle.desk_text.specs.Address.{number_of}
use Rattle.desk_policy.specs.Verdict.{verdict_result}
use Rattle.page_data.specs.PrivateClasses.{class_named}
use Rattle.page_data.proofs.Found.{found_is, none_found}
use Rattle.page_data.proofs.classes.most_held.Goals as goal

pub returns-in-Some : goal.returns-in-Some
returns-in-Some c = λ ascending verdict_at are.
    c.class_named.ensures ascending
    ∙ ap (class_named c.args.rows.now) (found_is verdict_result (verdict_at (number_of c.args.address)) c.in-Some.verdict c.value_at.result c.in-Some.is (c.value_at.ensures verdict_at are))

pub returns-in-None : goal.returns-in-None
returns-in-None c = λ ascending verdict_at are. absurd (none_found verdict_result (verdict_at (number_of c.args.address)) c.value_at.result c.in-None.is (c.value_at.ensures verdict_at are))
