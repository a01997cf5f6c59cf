use Rattle.std.proofs.Common.{Some}
use Rattle.std.specs.String.{string_bytes}
use Rattle.std.proofs.lemmas.Map.Text.{btree_map_updates_text}
use Rattle.page_summary.proofs.shared_rows.keep_place.Goals as goal

pub returns : goal.returns
returns c = btree_map_updates_text (string_bytes c.args.text) c.args.places.now c.insert.new.self (Some c.args.place) c.in_ok-insert.ensures.updates
