use Rattle.desk_expect.proofs.Meant.{all_names, name_more, no_names}
use Rattle.desk_expect.proofs.meaning.spans_of_names.Goals as goal

pub loop-name-init : goal.loop-name-init
loop-name-init c = no_names c.args.netgroups.now c.args.hosts.now c.new-spans.result.items c.new-spans.ensures.items

pub loop-name-preserved : goal.loop-name-preserved
loop-name-preserved c =
    name_more c.args.netgroups.now c.args.hosts.now c.args.names.now c.loop-name.name-index c.as_str.result.now c.name-item.result c.loop-name-test.true c.name-item.is c.as_str.ensures
    c.loop-name.spans.items c.push_name.new.spans.items c.loop-name.invariant c.in_ok-push_name.ensures

pub returns : goal.returns
returns c = all_names c.args.netgroups.now c.args.hosts.now c.args.names.now c.loop-name.name-index c.loop-name.spans.items c.loop-name-test.false c.loop-name.invariant
