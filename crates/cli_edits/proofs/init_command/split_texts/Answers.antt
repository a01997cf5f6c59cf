-- The exports text is split, or has a fault.
use Rattle.std.proofs.Common.{Err, Global, subst}
use Rattle.std.specs.String.{string_bytes}
use Rattle.desk_text.specs.declared.reading.LineFault.{LineFault}
use Rattle.desk_text.specs.declared.reading.ReadError.{ReadError}
use Rattle.desk_tables.specs.FileSystemsText.{read_filesystems}
use Rattle.desk_exports.specs.declared.rules.Rule.{Rule}
use Rattle.cli_edits.specs.InitCommand.{SplitsExports}
use Rattle.cli_edits.proofs.InitAnswers.{memory_texts, with_exports, with_fault}
use Rattle.cli_edits.proofs.init_command.split_texts.Goals as goal

pub returns-in-Ok : goal.returns-in-Ok
returns-in-Ok c = with_exports c.args.texts.now c.in-Ok.exports c.build_site.result c.in-Ok.ensures c.build_site.ensures

pub returns-in-Err-Fault : goal.returns-in-Err-Fault
returns-in-Err-Fault c = with_fault Global c.args.texts.now c.in-Err-Fault.fault c.not_split.result
    (subst (λ (e : ReadError (LineFault Rule)). SplitsExports {Y = Global} (read_filesystems (string_bytes c.args.texts.now.filesystems)) (string_bytes c.args.texts.now.exports) (Err e)) c.in-Err-Fault.field-0-is c.in-Err-Fault.ensures)
    c.not_split.ensures

pub returns-in-Err-Memory : goal.returns-in-Err-Memory
returns-in-Err-Memory c = memory_texts c.args.texts.now
