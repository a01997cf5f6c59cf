use Rattle.std.proofs.Common.{◌++◌, ◌∙◌, List, ℕ, ap, take}
use Rattle.std.specs.List.{flat_map}
use Rattle.std.proofs.lemmas.List.{append_assoc}
use Rattle.std.specs.String.{string_bytes}
use Rattle.desk_tables.specs.PrivateIndex.{listed, under}
use Rattle.desk_tables.proofs.IndexLemmas.{more}
use Rattle.desk_tables.proofs.groups.add_members.Goals as goal

pub loop-member-preserved : goal.loop-member-preserved
loop-member-preserved c = λ key.
    let of_member : List ℕ → List ℕ = under key c.args.gid in
    let old = listed c.args.index.now key in
    let so_far = flat_map of_member (take c.loop-member.member-index c.args.members.now) in
    c.in_ok-add_under.ensures key
    ∙ ap (λ (found : List ℕ). found ++ of_member (string_bytes c.in_ok-from_str.field-0)) (c.loop-member.invariant key)
    ∙ append_assoc old so_far (of_member (string_bytes c.in_ok-from_str.field-0))
    ∙ ap (λ (name : List ℕ). old ++ (so_far ++ of_member name)) (c.in_ok-from_str.ensures.ok ∙ c.as_str.ensures)
    ∙ ap (λ (found : List ℕ). old ++ found) (more of_member c.args.members.now c.loop-member.member-index c.member-item.result c.loop-member-test.true c.member-item.is)
