-- The object is that of the proposal.
use Rattle.std.proofs.Common.{◌≡◌, ℕ, IfOk, List, refl, subst}
use Rattle.std.specs.String.{string_bytes}
use Rattle.serde_json.specs.Written.{compact_text}
use Rattle.desk_service.specs.Questions.{question_of}
use Rattle.desk_http_bodies.specs.Revisions.{proposal_data}
use Rattle.cli_questions.specs.Questions.{file_in}
use Rattle.cli_questions.proofs.objects.print_proposal_object.Goals as goal

pub returns : goal.returns
returns c = record {
  status_is = refl;
  text_is = c.in_ok-line.ensures (compact_text (proposal_data (file_in (question_of c.args.question)) c.args.proposal.now))
      (subst (λ (name : List ℕ). IfOk c.proposal_body.result (λ text. string_bytes text ≡ compact_text (proposal_data name c.args.proposal.now))) c.name_in-name.ensures c.proposal_body.ensures);
}
