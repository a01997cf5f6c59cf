-- The files are written, unless the first whose text is too long is refused.
use Rattle.std.proofs.Common.{◌∙◌, ap, map, subst, List, Option, ℕ}
use Rattle.std.specs.Option.{option_map}
use Rattle.cli_write.specs.Replacing.{name_in, path_in}
use Rattle.cli_write.specs.WriteCommand.{WritesUnless}
use Rattle.cli_write.proofs.TooLong.{named_first}
use Rattle.cli_write.proofs.write_command.write_files.Goals as goal

pub returns-in-Some : goal.returns-in-Some
returns-in-Some c =
    subst (λ (first : Option (List ℕ)). WritesUnless first (map name_in c.args.files.now) (map path_in c.args.files.now) c.refuse_too_long.result)
    (ap (option_map name_in) c.in-Some.ensures ∙ named_first c.args.files.now) c.refuse_too_long.ensures

pub returns-in-None : goal.returns-in-None
returns-in-None c =
    subst (λ (first : Option (List ℕ)). WritesUnless first (map name_in c.args.files.now) (map path_in c.args.files.now) c.write_all.result)
    (ap (option_map name_in) c.in-None.ensures ∙ named_first c.args.files.now) c.write_all.ensures
