use Rattle.desk_policy.proofs.laws.ascending_entries_ascend_in_each_file.Goals as goal

pub returns : goal.returns
returns c = λ placed up i j d less below same. up i j d less below
