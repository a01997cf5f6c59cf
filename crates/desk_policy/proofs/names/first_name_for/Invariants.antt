-- The names that are left have the first one that stands for the address.
use Rattle.std.proofs.Common.{◌≡◌, drop}
use Rattle.desk_text.specs.Address.{number_of}
use Rattle.desk_policy.specs.Names.{first_name_for}
use Rattle.desk_policy.proofs.names.first_name_for.Given as goal

abbrev pub invariant-loop-index : goal.invariant-loop-index
invariant-loop-index l = first_name_for l.netgroups l.hosts (drop l.index l.names) (number_of l.address) ≡ first_name_for l.netgroups l.hosts l.names (number_of l.address)
