-- What is added so far.
use Rattle.std.proofs.Common.{◌≡◌, ◌++◌, map, take}
use Rattle.desk_remarks.specs.Remarks.{wider_remark}
use Rattle.desk_remarks.proofs.server_remarks.push_wider.Given as goal

abbrev pub invariant-loop-one : goal.invariant-loop-one
invariant-loop-one l = l.found ≡ l.initial.found ++ map wider_remark (take l.one-index l.wider)
