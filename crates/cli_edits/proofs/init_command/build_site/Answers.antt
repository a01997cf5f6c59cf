-- The site is stored, or why it is not is printed.
use Rattle.std.proofs.Common.{Ok, inr, refl}
use Rattle.std.proofs.lemmas.Result.{err_from_is_err_and}
use Rattle.desk_policy.specs.Site.{texts_of}
use Rattle.cli_edits.proofs.InitAnswers.{memory_with}
use Rattle.cli_edits.proofs.init_command.build_site.Goals as goal

pub returns-in_err-site : goal.returns-in_err-site
returns-in_err-site c =
    let p = err_from_is_err_and c.from_residual.result c.from_residual.ensures.1 in
    rw (p.1, p.2) (memory_with c.args.texts.now c.args.exports)

pub returns-in-Ok : goal.returns-in-Ok
returns-in-Ok c = (texts_of c.in_ok-site.site, c.in_ok-site.ensures, inr (record { answer = Ok tt; judged = c.in-Ok.ensures.0; prints = (refl, c.in-Ok.ensures.1) }))

pub returns : goal.returns
returns c = (texts_of c.in_ok-site.site, c.in_ok-site.ensures, c.refuse.ensures)
