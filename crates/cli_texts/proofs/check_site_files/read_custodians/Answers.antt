-- The path is lent as a text.
use Rattle.std.proofs.Common.{◌≢◌, List, codes, subst, sym, ℕ}
use Rattle.cli_texts.proofs.Custodians.{there_unknown}
use Rattle.cli_texts.proofs.check_site_files.read_custodians.Goals as goal

pub returns-clause-text : goal.returns-clause-text
returns-clause-text g c = there_unknown c.args.folder.now c.as_str.result.now c.as_str.ensures.value (g.I.Read.remaining c.args.input.now) c.read_if_there.result c.read_if_there.ensures.text

pub returns-clause-untouched : goal.returns-clause-untouched
returns-clause-untouched g c = λ named. c.read_if_there.ensures.untouched (subst (λ (path : List ℕ). path ≢ codes "-") (sym c.as_str.ensures.value) named)
