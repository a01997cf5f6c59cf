-- The lines so far are written.
use Rattle.std.proofs.Common.{◌≡◌, take}
use Rattle.std.specs.String.{string_bytes}
use Rattle.cli_questions.specs.RevisionLines.{log_text}
use Rattle.cli_questions.proofs.revision_lines.log_text.Given as goal

abbrev pub invariant-loop-revision : goal.invariant-loop-revision
invariant-loop-revision l = string_bytes l.text ≡ log_text l.name (take l.revision-index l.revisions)
