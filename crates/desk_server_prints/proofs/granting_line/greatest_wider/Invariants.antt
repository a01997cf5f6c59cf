-- The greatest weight of such lines so far.
use Rattle.std.proofs.Common.{filter, take}
use Rattle.desk_text.specs.Address.{number_of}
use Rattle.desk_policy.specs.PrivateWeights.{IsGreatest}
use Rattle.desk_server_prints.specs.PrivateGrantingLine.{is_wider}
use Rattle.desk_server_prints.proofs.granting_line.greatest_wider.Given as goal

abbrev pub invariant-loop-row : goal.invariant-loop-row
invariant-loop-row l = IsGreatest (filter (is_wider (number_of l.address) l.path) (take l.row-index l.rows)) (number_of l.address) l.greatest
