-- The line of the proposal stands after that of the revision.
use Rattle.std.proofs.Common.{◌++◌, ◌∙◌, ap}
use Rattle.std.specs.Option.{option_copied}
use Rattle.std.specs.String.{string_bytes}
use Rattle.std.proofs.lemmas.List.{append_assoc}
use Rattle.cli_questions.specs.FileLines.{newest_line, proposal_line}
use Rattle.cli_questions.proofs.file_lines.push_file.Goals as goal

pub returns : goal.returns
returns c =
    let revised = newest_line c.args.file.now.mark (option_copied c.args.file.now.newest) in
    let pending = proposal_line (option_copied c.args.file.now.proposal) in
    c.in_ok-push_proposal.ensures ∙ ap (λ t. t ++ pending) c.in_ok-push_newest.ensures ∙ append_assoc (string_bytes c.args.text.now) revised pending
