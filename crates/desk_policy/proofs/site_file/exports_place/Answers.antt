use Rattle.std.proofs.Common.{sym, ap}
use Rattle.std.specs.Option.{option_map}
use Rattle.desk_policy.proofs.ExportsPlaces.{none_named}
use Rattle.desk_policy.proofs.site_file.exports_place.Goals as goal

pub returns-in-None : goal.returns-in-None
returns-in-None c = sym (ap (option_map (λ place. record { 0 = place })) (none_named c.args.table.now c.args.name.now c.in-None.ensures))
