use Rattle.std.proofs.Common.{◌∙◌, ap}
use Rattle.std.specs.Ordering.{is_eq}
use Rattle.std.specs.Str.{str_to_ascii_lowercase}
use Rattle.desk_tables.specs.PrivateIndex.{host_key}
use Rattle.desk_tables.proofs.ListingLemmas.{has_is}
use Rattle.desk_tables.proofs.hosts.has_name.Goals as goal

pub returns : goal.returns
returns c = c.is_eq.ensures ∙ ap is_eq c.compare_name.ensures ∙ has_is (host_key c.args.rows.now) (str_to_ascii_lowercase c.args.name.now) c.args.listing.now
