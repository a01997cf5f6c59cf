use Rattle.std.proofs.Common.{◌≡◌, ◌∙◌, List, None, ap, arith, subst, sym}
use Rattle.std.specs.Prelude.{find}
use Rattle.std.specs.List.{All, Contains}
use Rattle.desk_text.specs.Address.{number_of}
use Rattle.desk_policy.specs.Policy.{Content, rows_of}
use Rattle.desk_policy.specs.Weights.{selected}
use Rattle.desk_policy.specs.declared.row.Row.{Row}
use Rattle.desk_index.specs.Lighter.{weighing}
use Rattle.desk_idle.specs.Laws.{brings}
use Rattle.desk_server.proofs.Lighter.{lighter, none_left, none_names, weighing_has, widest_is}
use Rattle.desk_server.proofs.looking.widest.Goals as goal

pub returns-in-Some : goal.returns-in-Some
returns-in-Some c =
    let fs = c.args.fs.0 in
    let rows = rows_of c.args.index.now fs in
    let address = number_of c.args.address in
    let next = c.loop-group.invariant in
    let group = c.loop-group.group in
    let chosen = weighing rows address group.weight in
    let same : c.rows-rows.result.now ≡ rows = c.rows-rows.ensures ∙ ap (λ (content : Content). rows_of content fs) c.policy.ensures in
    let all : All (Contains c.rows-rows.result.now) chosen = subst (λ (rs : List Row). All (Contains rs) chosen) (sym same) (weighing_has rows address group.weight) in
    widest_is rows address next.below next.all group next.are c.requires.ascending c.loop-group-test.true c.in-Some.row.now
    (sym (c.in-Some.ensures chosen (selected rows address) next.are.lines all c.requires.listed))

pub loop-group-preserved : goal.loop-group-preserved
loop-group-preserved c =
    let fs = c.args.fs.0 in
    let rows = rows_of c.args.index.now fs in
    let address = number_of c.args.address in
    let next = c.loop-group.invariant in
    let group = c.loop-group.group in
    let chosen = weighing rows address group.weight in
    let same : c.rows-rows.result.now ≡ rows = c.rows-rows.ensures ∙ ap (λ (content : Content). rows_of content fs) c.policy.ensures in
    let all : All (Contains c.rows-rows.result.now) chosen = subst (λ (rs : List Row). All (Contains rs) chosen) (sym same) (weighing_has rows address group.weight) in
    let none : find (brings (selected rows address)) chosen ≡ None = sym (c.in_default.ensures chosen (selected rows address) next.are.lines all c.requires.listed) in
    record { below = group.weight; all = lighter rows address next.below next.all group next.are none; are = c.in-Some-heaviest_below.ensures.heaviest }

pub returns-in-None : goal.returns-in-None
returns-in-None c =
    let fs = c.args.fs.0 in
    let rows = rows_of c.args.index.now fs in
    let address = number_of c.args.address in
    let next = c.loop-group.invariant in
    let group = c.loop-group.group in
    let chosen = weighing rows address group.weight in
    let same : c.rows-rows.result.now ≡ rows = c.rows-rows.ensures ∙ ap (λ (content : Content). rows_of content fs) c.policy.ensures in
    let all : All (Contains c.rows-rows.result.now) chosen = subst (λ (rs : List Row). All (Contains rs) chosen) (sym same) (weighing_has rows address group.weight) in
    let none : find (brings (selected rows address)) chosen ≡ None = sym (c.in_default.ensures chosen (selected rows address) next.are.lines all c.requires.listed) in
    none_left rows address group.weight (lighter rows address next.below next.all group next.are none) c.in-None.ensures.heaviest

pub returns : goal.returns
returns c =
    let next = c.loop-group.invariant in
    none_names (rows_of c.args.index.now c.args.fs.0) (number_of c.args.address) next.below next.all c.loop-group.group next.are (let weightless = c.loop-group-test.false in omega arith)
