use Rattle.page_maps.proofs.Alike.{alike_means_all}
use Rattle.page_maps.proofs.network_laws.alike_means_all.Goals as goal

pub returns : goal.returns
returns c = alike_means_all
