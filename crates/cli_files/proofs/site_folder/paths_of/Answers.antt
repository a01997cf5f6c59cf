-- Each path is that of its file.
use Rattle.std.proofs.Common.{refl}
use Rattle.cli_files.proofs.site_folder.paths_of.Goals as goal

pub returns : goal.returns
returns c = rw (c.in_ok-path_of.ensures, c.in_ok-path_of-2.ensures, c.in_ok-path_of-3.ensures, c.in_ok-path_of-4.ensures, c.in_ok-path_of-5.ensures, c.in_ok-path_of-6.ensures, c.in_ok-path_of-7.ensures, c.in_ok-path_in.ensures) refl
