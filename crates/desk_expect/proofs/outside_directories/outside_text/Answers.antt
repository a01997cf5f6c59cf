use Rattle.std.proofs.Common.{[], ◌∙◌, ap}
use Rattle.std.specs.List.{flat_map}
use Rattle.std.specs.String.{string_bytes}
use Rattle.std.proofs.lemmas.List.{take_all}
use Rattle.desk_expect.specs.OutsideDirectories.{outside_line, outside_value}
use Rattle.desk_expect.specs.declared.outside_directories.Outside.{Outside}
use Rattle.desk_expect.proofs.Written.{by_values, writes_next}
use Rattle.desk_expect.proofs.outside_directories.outside_text.Goals as goal

pub loop-one-preserved : goal.loop-one-preserved
loop-one-preserved c =
    writes_next (λ (one : Outside). outside_line c.args.file.now (outside_value one)) c.args.outside.now c.loop-one.one-index c.one-item.result c.loop-one-test.true c.one-item.is
    [] (string_bytes c.loop-one.text) (string_bytes c.push_line.new.text) c.loop-one.invariant c.in_ok-push_line.ensures

pub returns : goal.returns
returns c =
    c.loop-one.invariant ∙ ap (flat_map (λ (one : Outside). outside_line c.args.file.now (outside_value one))) (take_all c.loop-one.one-index c.args.outside.now c.loop-one-test.false)
    ∙ by_values outside_value (outside_line c.args.file.now) c.args.outside.now
