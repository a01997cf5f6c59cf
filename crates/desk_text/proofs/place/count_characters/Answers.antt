use Rattle.std.proofs.Common.{rules}
use Rattle.std.proofs.lemmas.Str.{chars_from_encodes}
use Rattle.desk_text.proofs.place.count_characters.Goals as goal

pub returns-clause-count : goal.returns-clause-count
returns-clause-count c = search (rules, chars_from_encodes)
