-- What is answered by a policy without warnings is answered by the policy with them.
use Rattle.std.proofs.Common.{◌≡◌, ◌∙◌, [], Bool, true, false, List, Ok, Err, Option, Some, None, Result, ap, ap₂, refl, subst, sym, ℕ}
use Rattle.std.specs.Prelude.{is_ok}
use Rattle.desk_text.specs.declared.reading.ReadError.{ReadError}
use Rattle.desk_text.specs.declared.reading.ReadError.TheVariants.{Fault, Memory}
use Rattle.desk_tables.specs.FileSystems.{fs_of}
use Rattle.desk_exports.specs.declared.profile.Profile.TheVariants.{Two}
use Rattle.desk_policy.specs.Parsing.{read_of, read_whole_with, without_warnings}
use Rattle.desk_policy.specs.Policy.{Content, rows_of, with_warnings}
use Rattle.desk_policy.specs.Prints.{mount_text}
use Rattle.desk_policy.specs.Verdict.{Grant, verdict_of}
use Rattle.desk_policy.specs.View.{WarningsChangeNoAnswer}
use Rattle.desk_policy.specs.declared.parsing.SiteTables.{SiteTables}
use Rattle.desk_policy.specs.declared.site_fault.SiteFault.{SiteFault}
use Rattle.desk_policy.specs.declared.verdict.Denial.{Denial}
use Rattle.desk_policy.specs.declared.verdict.Denial.TheVariants.{NoFileSystem, NoLine, NotListed}
use Rattle.desk_server.specs.Server.{server_verdict_of}
use Rattle.desk_server_prints.specs.GrantingLine.{wider_line, wider_note}
use Rattle.desk_why.specs.WhyPrints.{line_named, lines_text, why_in}
use Rattle.cli_verdict.specs.ObjectLine.{data_line}
use Rattle.cli_verdict.specs.TryText.{Answer, AnswersBy, AnswersHere, AnswersThere, MountQuestion, Tries, answer_text, answer_with, mount_question_of, object_of, reasons_if}
use Rattle.cli_verdict.specs.declared.asking.Asking.{Asking}
use Rattle.cli_verdict.specs.declared.asking.Asking.TheVariants.{Reasons, Server, Verdict}
use Rattle.cli_verdict.specs.declared.try_text.Tried.{Tried}
use Rattle.cli_verdict.proofs.try_text.try_text.Goals as goal

abbrev told_as : Bool → List ℕ → Answer
told_as granted text = record { granted = granted; text = text }

module _ (tables : SiteTables) (question : MountQuestion) where
  lines_alike : (content : Content) → verdict_of (with_warnings content []) question.address question.path ≡ verdict_of content question.address question.path → (fs : Option ℕ)
      → why_in tables.netgroups tables.hosts (with_warnings content []) question.address question.path fs ≡ why_in tables.netgroups tables.hosts content question.address question.path fs
  lines_alike content same None = refl
  lines_alike content same (Some fs) =
      ap (λ (verdict : Result Grant Denial). lines_text tables.netgroups tables.hosts question.address question.path content.origins (line_named verdict) (mount_text content fs) (rows_of content fs)) same

  reasons_alike : (content : Content) → verdict_of (with_warnings content []) question.address question.path ≡ verdict_of content question.address question.path → (asking : Asking)
      → reasons_if asking tables (with_warnings content []) question.address question.path ≡ reasons_if asking tables content question.address question.path
  reasons_alike content same Verdict = refl
  reasons_alike content same Reasons = ap (λ (why : List ℕ). Some why) (lines_alike content same (fs_of content.table question.path))
  reasons_alike content same Server = refl

  -- an object names mount points, and no warnings
  objects_alike : (content : Content) (reasons : Option (List ℕ)) (verdict : Result Grant Denial)
      → object_of reasons (with_warnings content []) question.own verdict ≡ object_of reasons content question.own verdict
  objects_alike content None (Ok grant) = refl
  objects_alike content None (Err NoFileSystem) = refl
  objects_alike content None (Err (NoLine fs)) = refl
  objects_alike content None (Err (NotListed fs line)) = refl
  objects_alike content (Some reasons) (Ok grant) = refl
  objects_alike content (Some reasons) (Err NoFileSystem) = refl
  objects_alike content (Some reasons) (Err (NoLine fs)) = refl
  objects_alike content (Some reasons) (Err (NotListed fs line)) = refl

  texts_alike : (content : Content) (json : Bool) (reasons : Option (List ℕ)) (verdict : Result Grant Denial)
      → answer_text json reasons (with_warnings content []) question.own verdict ≡ answer_text json reasons content question.own verdict
  texts_alike content false reasons verdict = refl
  texts_alike content true reasons verdict = ap data_line (objects_alike content reasons verdict)

  answers_as : (content : Content) (json : Bool) (reasons : Option (List ℕ)) (verdict : Result Grant Denial)
      → answer_with json reasons (with_warnings content []) question.own verdict ≡ answer_with json reasons content question.own verdict
  answers_as content json reasons verdict = ap (λ (text : List ℕ). told_as (is_ok verdict) text) (texts_alike content json reasons verdict)

  -- the server reads no warnings
  server_alike : (content : Content) → server_verdict_of (with_warnings content []) question.address question.path ≡ server_verdict_of content question.address question.path
  unfolding server_verdict_of
  server_alike content = refl

  here_alike : (content : Content) → verdict_of (with_warnings content []) question.address question.path ≡ verdict_of content question.address question.path → (tried : Tried)
      → AnswersHere tables (with_warnings content []) question tried → AnswersHere tables content question tried
  here_alike content same tried told = record {
    answer = told.answer
        ∙ answers_as content question.json _ _
        ∙ ap₂ (λ (why : Option (List ℕ)) (verdict : Result Grant Denial). answer_with question.json why content question.own verdict) (reasons_alike content same question.asking) same;
    beside = told.beside ∙ ap₂ (λ (own server : Result Grant Denial). wider_note content.origins (wider_line own server)) same (server_alike content);
  }

  there_alike : (content : Content) (tried : Tried) → AnswersThere (with_warnings content []) question tried → AnswersThere content question tried
  there_alike content tried told = record {
    answer = told.answer
        ∙ answers_as content question.json None _
        ∙ ap (λ (verdict : Result Grant Denial). answer_with question.json None content question.own verdict) (server_alike content);
    beside = record { lists = told.beside.lists; are = told.beside.are; text = told.beside.text };
  }

  answers_alike : (content : Content) → verdict_of (with_warnings content []) question.address question.path ≡ verdict_of content question.address question.path → (tried : Tried) (asking : Asking)
      → AnswersBy asking tables (with_warnings content []) question tried → AnswersBy asking tables content question tried
  answers_alike content same tried Verdict told = here_alike content same tried told
  answers_alike content same tried Reasons told = here_alike content same tried told
  answers_alike content same tried Server told = there_alike content tried told

  with_warnings_too : (law : WarningsChangeNoAnswer) (read : Result Content SiteFault) (result : Result Tried (ReadError SiteFault))
      → Tries tables (without_warnings read) question result → Tries tables read question result
  with_warnings_too law (Ok content) (Ok tried) told =
      ((law content []).consistent.0 told.0, answers_alike content ((law content []).verdicts question.address question.path) tried question.asking told.1)
  with_warnings_too law (Ok content) (Err (Fault fault)) told = ((law content []).least fault).0 told
  with_warnings_too law (Ok content) (Err Memory) told = tt
  with_warnings_too law (Err fault) (Ok tried) told = told
  with_warnings_too law (Err fault) (Err (Fault other)) told = told
  with_warnings_too law (Err fault) (Err Memory) told = tt

pub returns : goal.returns
returns c =
    let tables = c.args.site_tables.now in
    let question = mount_question_of c.args.question in
    let told = subst (λ r. Tries tables r question c.answer_by.result) (sym c.in_ok-policy.ensures) c.answer_by.ensures in
    with_warnings_too tables question c.warnings_change_no_answer.ensures (read_of c.args.origins.now (read_whole_with Two tables c.args.filesystems c.args.text.now)) c.answer_by.result told
