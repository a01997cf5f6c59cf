use Rattle.desk_policy.proofs.parsing.SiteTables.new.Goals as goal

pub returns : goal.returns
returns c = let hosts = c.new.ensures in let networks = c.new-2.ensures in let users = c.new-3.ensures in let groups = c.new-4.ensures in let netgroups = c.new-5.ensures in cc
