use Rattle.std.proofs.Common.{rules}
use Rattle.std.proofs.lemmas.Fmt.{hex_byte}
use Rattle.desk_check.proofs.finding_json.push_json_character.Goals as goal

pub returns-then-is_control : goal.returns-then-is_control
returns-then-is_control c = search (rules, hex_byte)
