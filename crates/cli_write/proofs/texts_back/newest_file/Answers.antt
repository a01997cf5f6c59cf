use Rattle.std.proofs.Common.{Some, ◌∙◌, ap}
use Rattle.std.specs.Option.{option_map}
use Rattle.cli_write.specs.TextsBack.{exports_file}
use Rattle.cli_write.proofs.texts_back.newest_file.Goals as goal

pub returns-in-Some : goal.returns-in-Some
returns-in-Some c = ap Some c.exports_file.ensures ∙ ap (option_map exports_file) c.in-Some.ensures

pub returns-in-None : goal.returns-in-None
returns-in-None c = ap (option_map exports_file) c.in-None.ensures
