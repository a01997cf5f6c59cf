use Rattle.std.proofs.Common.{map}
use Rattle.desk_impact.specs.ListedChanges.{listed_place}
use Rattle.desk_json.proofs.Floats.{changes_have_none, text_is}
use Rattle.desk_json.proofs.changes.changes_object.Goals as goal

pub returns : goal.returns
returns c = text_is _ _ _ c.in_ok-value.ensures (changes_have_none c.args.before.now c.args.after.now c.args.all (map listed_place c.args.found.now)) c.to_string.ensures.text
