-- The object is that of the revision.
use Rattle.std.proofs.Common.{refl}
use Rattle.serde_json.specs.Written.{compact_text}
use Rattle.desk_http_bodies.specs.Revisions.{file_data}
use Rattle.cli_questions.proofs.objects.print_revision_object.Goals as goal

pub returns : goal.returns
returns c = record { status_is = refl; text_is = c.in_ok-line.ensures (compact_text (file_data c.args.name.now c.args.text.now)) c.file_body.ensures }
