use Rattle.std.proofs.Common.{◌∙◌, ap, List, Option, ℕ}
use Rattle.std.specs.Option.{option_map_or}
use Rattle.desk_policy.specs.Site.{no_exports}
use Rattle.desk_core.specs.Head.{Revision}
use Rattle.desk_core.specs.Site.{revision_text}
use Rattle.cli_write.proofs.texts_back.body_of.Goals as goal

abbrev body_in : Option Revision → List ℕ
body_in newest = (option_map_or revision_text newest no_exports).body

pub returns-in-Some : goal.returns-in-Some
returns-in-Some c = c.as_str.ensures ∙ ap body_in c.in-Some.ensures

pub returns-in-None : goal.returns-in-None
returns-in-None c = ap body_in c.in-None.ensures
