use Rattle.std.proofs.Common.{◌++◌, ◌∙◌, List, ℕ, ap, take}
use Rattle.std.specs.List.{flat_map}
use Rattle.desk_tables.specs.PrivateIndex.{gids_under, under}
use Rattle.desk_tables.specs.declared.groups.Group.{Group}
use Rattle.desk_tables.proofs.IndexLemmas.{more}
use Rattle.desk_tables.proofs.groups.gids_by_member.Goals as goal

pub loop-group-preserved : goal.loop-group-preserved
loop-group-preserved c = λ key.
    let group = c.group-item.result in
    let of_group : Group → List ℕ = λ g. flat_map (under key g.gid) g.members in
    c.in_ok-add_members.ensures key
    ∙ ap (λ (found : List ℕ). found ++ flat_map (under key group.gid) c.as_slice.result.now) (c.loop-group.invariant key)
    ∙ ap (λ (members : List (List ℕ)). gids_under key (take c.loop-group.group-index c.args.rows.now) ++ flat_map (under key group.gid) members) c.as_slice.ensures
    ∙ more of_group c.args.rows.now c.loop-group.group-index group c.loop-group-test.true c.group-item.is
