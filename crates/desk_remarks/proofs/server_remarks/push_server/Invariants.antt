-- What is added so far.
use Rattle.std.proofs.Common.{◌≡◌, ◌++◌, take}
use Rattle.std.specs.List.{flat_map}
use Rattle.desk_remarks.specs.Remarks.{server_remarks}
use Rattle.desk_remarks.proofs.server_remarks.push_server.Given as goal

abbrev pub invariant-loop-said : goal.invariant-loop-said
invariant-loop-said l = l.found ≡ l.initial.found ++ flat_map server_remarks (take l.said-index l.saids)
