use Rattle.std.proofs.Common.{◌∙◌, [], ap, sym}
use Rattle.std.specs.List.{flat_map}
use Rattle.std.specs.String.{string_bytes}
use Rattle.std.proofs.lemmas.List.{take_all}
use Rattle.std.proofs.lemmas.List.Folds.{flat_map-map}
use Rattle.desk_service.specs.Files.{file_of}
use Rattle.desk_service.specs.declared.files.ListedFile.{ListedFile}
use Rattle.cli_questions.specs.FileLines.{file_lines}
use Rattle.cli_questions.proofs.Writing.{writes}
use Rattle.cli_questions.proofs.file_lines.files_text.Goals as goal

pub loop-file-preserved : goal.loop-file-preserved
loop-file-preserved c =
    writes c.deref-file-items.result.now c.loop-file.file-index c.file-item.result c.loop-file-test.true c.file-item.is (λ (file : ListedFile). file_lines (file_of file))
    [] (string_bytes c.loop-file.text) (string_bytes c.push_file.new.text) c.loop-file.invariant c.in_ok-push_file.ensures

pub returns : goal.returns
returns c =
    c.loop-file.invariant
    ∙ ap (flat_map (λ (file : ListedFile). file_lines (file_of file))) (take_all c.loop-file.file-index c.deref-file-items.result.now c.loop-file-test.false ∙ c.deref-file-items.ensures.value)
    ∙ sym (flat_map-map file_lines file_of c.args.listed.now.files.items)
