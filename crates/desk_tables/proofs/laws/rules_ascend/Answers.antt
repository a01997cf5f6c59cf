use Rattle.std.proofs.Common.{refl}
use Rattle.desk_tables.proofs.laws.rules_ascend.Goals as goal

pub returns : goal.returns
returns c = record {
  of_hosts = refl;
  of_networks = refl;
  of_users = refl;
  of_groups = refl;
  of_filesystems = refl;
  of_custodians = refl;
  of_credentials = refl;
}
