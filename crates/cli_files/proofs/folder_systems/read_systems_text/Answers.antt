-- Why there are no file systems.
use Rattle.std.proofs.Common.{inl}
use Rattle.cli_files.proofs.folder_systems.read_systems_text.Goals as goal

pub returns-in-Err-clause-text : goal.returns-in-Err-clause-text
returns-in-Err-clause-text g c = inl c.in-Err.ensures.systems
