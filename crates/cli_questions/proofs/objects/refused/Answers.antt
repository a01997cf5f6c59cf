-- The object is that of the refusal.
use Rattle.serde_json.specs.Written.{compact_text}
use Rattle.cli_questions.specs.Objects.{refused_object}
use Rattle.cli_questions.proofs.objects.refused.Goals as goal

pub returns-in-Ok : goal.returns-in-Ok
returns-in-Ok c = record { status_is = c.refused_status-status.ensures; text_is = c.in-Ok.ensures (compact_text (refused_object c.args.why)) c.refused_object.ensures }
