-- The file systems are read, and then the files.
use Rattle.std.proofs.Common.{false}
use Rattle.std.proofs.lemmas.Result.{err_from_is_err_and}
use Rattle.cli_words.specs.Words.{rows_in}
use Rattle.cli_sources.specs.TableFiles.{input_count}
use Rattle.cli_sources.specs.WholeFiles.{files_of}
use Rattle.cli_sources.proofs.AskedSystems.{with_fault, with_table, without}
use Rattle.cli_texts.proofs.check_command.check_given.Goals as goal

pub returns-in_err-systems : goal.returns-in_err-systems
returns-in_err-systems g c =
    let p = err_from_is_err_and c.from_residual.result c.from_residual.ensures.1 in
    rw (p.1, p.2)
    (without false c.args.subject.now (rows_in c.args.words.now) c.whole_inputs-others.result (input_count (files_of c.args.files)) c.whole_inputs-others.ensures.counted
    (g.I.Read.remaining c.args.input.now) (g.I.Read.remaining c.read_systems.new.input) c.read_systems.ensures.left _ c.in_err-systems.field-0.0 c.in_err-systems.ensures.systems)

pub returns-in-Ok : goal.returns-in-Ok
returns-in-Ok g c =
    with_table false c.args.subject.now (rows_in c.args.words.now) c.whole_inputs-others.result (input_count (files_of c.args.files)) c.whole_inputs-others.ensures.counted
    (g.I.Read.remaining c.args.input.now) (g.I.Read.remaining c.read_systems.new.input) c.read_systems.ensures.left _ c.in-Ok.filesystems c.check_files.result (rw c.in-Ok.is at c.in_ok-systems.ensures.systems) c.check_files.ensures

pub returns-in-Err : goal.returns-in-Err
returns-in-Err g c =
    with_fault false c.args.subject.now (rows_in c.args.words.now) c.whole_inputs-others.result (input_count (files_of c.args.files)) c.whole_inputs-others.ensures.counted
    (g.I.Read.remaining c.args.input.now) (g.I.Read.remaining c.read_systems.new.input) c.read_systems.ensures.left _ c.in-Err.printed (rw c.in-Err.is at c.in_ok-systems.ensures.systems)
