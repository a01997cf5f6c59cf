-- The answer is by the exports text, and by the tables that were read before it; and its fault is one of the texts that are read.
use Rattle.std.proofs.Common.{◌≡◌, Err, Result, subst, sym}
use Rattle.std.proofs.lemmas.Result.{err_from_is_err_and}
use Rattle.desk_text.specs.declared.reading.ReadError.{ReadError}
use Rattle.desk_text.specs.declared.reading.ReadError.TheVariants.{Fault, Memory}
use Rattle.desk_exports.specs.declared.profile.Profile.TheVariants.{Two}
use Rattle.desk_policy.specs.Parsing.{read_of, read_whole_with}
use Rattle.desk_policy.specs.Policy.{Content}
use Rattle.desk_policy.specs.View.{IsFaultOf}
use Rattle.desk_policy.specs.declared.parsing.SiteTables.{SiteTables}
use Rattle.desk_policy.specs.declared.site_fault.SiteFault.{SiteFault}
use Rattle.cli_verdict.specs.TryText.{IsAnswerBy, MountQuestion, Tries}
use Rattle.cli_texts.specs.TryCommand.{PrintsVerdict, question_in}
use Rattle.cli_texts.specs.WholeTables.{GivesOrFault, policy_of}
use Rattle.cli_texts.proofs.Viewed.{read_known}
use Rattle.cli_texts.proofs.try_command.decide.Goals as goal

fault_tried : {T : Type 0} (Gives : T → Type 0) (tables : SiteTables) (read same : Result Content SiteFault) (question : MountQuestion) (error : ReadError SiteFault) → read ≡ same → Tries tables same question (Err error) → GivesOrFault Gives read (Err error)
fault_tried Gives tables read same question (Fault fault) is tries = subst (λ (r : Result Content SiteFault). IsFaultOf r fault) (sym is) tries
fault_tried Gives tables read same question Memory is tries = tt

pub returns-in_err-tried : goal.returns-in_err-tried
returns-in_err-tried c =
    let p = err_from_is_err_and c.from_residual-in_err-tried.result c.from_residual-in_err-tried.ensures.1 in
    let request = c.args.asked.request.now in
    let table = c.args.asked.filesystems.now in
    let question = question_in request c.args.own.now c.args.asked.asking c.args.asked.json in
    rw (p.1, p.2)
    (fault_tried (PrintsVerdict c.args.sources table question) c.args.tables.now (policy_of c.args.sources table)
    (read_of c.args.sources.exports.origins.now (read_whole_with Two c.args.tables.now c.in_ok-filesystems.filesystems c.args.sources.exports.text.now)) question c.in_err-tried.field-0.0
    (read_known c.args.sources table c.in_ok-filesystems.filesystems c.args.tables.now c.requires.known c.in_ok-filesystems.ensures) c.in_err-tried.ensures)

pub returns : goal.returns
returns c =
    let request = c.args.asked.request.now in
    let table = c.args.asked.filesystems.now in
    let tried = c.in_ok-tried.tried in
    record {
      tables = c.args.tables.now;
      tables_are = c.requires.known;
      tried = tried;
      answers =
          subst (λ (read : Result Content SiteFault). IsAnswerBy c.args.tables.now read (question_in request c.args.own.now c.args.asked.asking c.args.asked.json) tried)
          (sym (read_known c.args.sources table c.in_ok-filesystems.filesystems c.args.tables.now c.requires.known c.in_ok-filesystems.ensures)) c.in_ok-tried.ensures;
      prints = c.print_tried.ensures;
    }
