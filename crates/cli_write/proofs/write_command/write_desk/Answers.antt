-- The files of the desk are those of the histories that its database holds.
use Rattle.std.proofs.Common.{ap, subst, []}
use Rattle.std.proofs.lemmas.Result.{err_from_is_err_and}
use Rattle.desk_policy.specs.Policy.{Content}
use Rattle.desk_core.specs.Standing.{Standing}
use Rattle.desk_core.specs.State.{standing}
use Rattle.desk_service.specs.Files.{files_of}
use Rattle.desk_service.specs.Questions.{AreFiles, answer_of}
use Rattle.desk_service.specs.declared.questions.Answer.{Answer}
use Rattle.cli_write.proofs.CommandAnswers.{are_stored, no_memory, only_files}
use Rattle.cli_write.proofs.write_command.write_desk.Goals as goal

pub returns : goal.returns
returns c =
    are_stored c.requires.0 c.requires.1.0 c.args.dir.now (files_of c.in-Files.listed) c.write_newest-printed.result
    (λ history is. subst (λ (a : Answer Content). AreFiles history (answer_of (λ (content : Content). content) a)) c.in-Files.is (c.in_ok-found.ensures.answered history [] (c.requires.1.1 history is) tt))
    c.write_newest-printed.ensures

pub unreachable-requires : goal.unreachable-requires
unreachable-requires c =
    let ours = c.requires.1.0 in
    only_files (λ (content : Content). content) ours.0 c.in_ok-found.found c.in_default.not-Files (c.in_ok-found.ensures.answered ours.0 [] (c.requires.1.1 ours.0 ours.1) tt)

pub returns-in_err-found : goal.returns-in_err-found
returns-in_err-found c =
    let p = err_from_is_err_and c.from_residual.result c.from_residual.ensures.1 in
    rw (p.1, p.2)
    (no_memory c.requires.0 c.requires.1.0 (standing c.args.desk.now.state).newest c.args.dir.now (λ history is. ap (λ (s : Standing). s.newest) (c.requires.1.1 history is).standing_is))
