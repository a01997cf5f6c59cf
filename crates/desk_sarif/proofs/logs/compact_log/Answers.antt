use Rattle.std.proofs.Common.{map}
use Rattle.serde_json.specs.View.{view}
use Rattle.desk_sarif.proofs.LogFloats.{log_has_none, text_is}
use Rattle.desk_sarif.proofs.logs.compact_log.Goals as goal

pub returns : goal.returns
returns c =
    text_is _ _ _ c.in_ok-value.ensures
    (log_has_none (map view c.args.rules.items) (map view c.args.results.items) c.requires.rules c.requires.results) c.to_string.ensures.text
