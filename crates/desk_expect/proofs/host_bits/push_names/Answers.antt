use Rattle.std.proofs.Common.{◌++◌, ◌∙◌, List, ℕ, ap}
use Rattle.std.specs.List.{flat_map}
use Rattle.std.specs.String.{string_bytes}
use Rattle.std.proofs.lemmas.List.{take_all}
use Rattle.desk_expect.specs.HostBits.{told_name}
use Rattle.desk_expect.proofs.Written.{writes_next}
use Rattle.desk_expect.proofs.host_bits.push_names.Goals as goal

pub loop-name-preserved : goal.loop-name-preserved
loop-name-preserved c =
    let old = string_bytes c.loop-name.told in
    writes_next (told_name c.args.file.now c.args.number) c.args.names.now c.loop-name.name-index c.name-item.result c.loop-name-test.true c.name-item.is
    (string_bytes c.args.told.now) old (string_bytes c.push_name.new.told) c.loop-name.invariant
    (c.in_ok-push_name.ensures ∙ ap (λ (name : List ℕ). old ++ told_name c.args.file.now c.args.number name) c.as_str.ensures)

pub returns : goal.returns
returns c =
    c.loop-name.invariant
    ∙ ap (λ names. string_bytes c.args.told.now ++ flat_map (told_name c.args.file.now c.args.number) names) (take_all c.loop-name.name-index c.args.names.now c.loop-name-test.false)
