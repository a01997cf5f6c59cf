use Rattle.std.proofs.Common.{[], get_or, map, refl, subst, Bor, List, ℕ}
use Rattle.std.specs.String.{string_bytes}
use Rattle.std.proofs.lemmas.List.{take_all}
use Rattle.std.proofs.lemmas.Result.{err_from_is_err_and}
use Rattle.cli_write.specs.Replacing.{TellsWritten, name_in, path_in}
use Rattle.cli_write.specs.declared.replacing.NewText.{NewText}
use Rattle.cli_write.proofs.WrittenFiles.{tells_next, unwritten_in}
use Rattle.cli_write.proofs.replacing.replace_files.Goals as goal

abbrev none : Bor (List ℕ)
none = record { ref_ptr = (0, 0); now = [] }

abbrev no_file : NewText
no_file = record { name = none; path = none; text = none }

pub returns-in_err-replace_told : goal.returns-in_err-replace_told
returns-in_err-replace_told c =
    let p = err_from_is_err_and c.from_residual.result c.from_residual.ensures.1 in
    rw (p.1, p.2)
    (unwritten_in path_in c.args.files.now c.loop-file.file-index (get_or c.args.files.now c.loop-file.file-index no_file) no_file c.loop-file-test.true refl c.in_err-replace_told.field-0.0 c.in_err-replace_told.ensures.failure)

pub loop-file-preserved : goal.loop-file-preserved
loop-file-preserved c =
    tells_next name_in c.args.files.now c.loop-file.file-index (get_or c.args.files.now c.loop-file.file-index no_file) no_file c.loop-file-test.true refl (string_bytes c.loop-file.told) (string_bytes c.replace_told.new.told)
    c.in_ok-replace_told.ensures.told c.loop-file.invariant

pub returns : goal.returns
returns c = subst (λ files. TellsWritten (map name_in files) (string_bytes c.loop-file.told)) (take_all c.loop-file.file-index c.args.files.now c.loop-file-test.false) c.loop-file.invariant
