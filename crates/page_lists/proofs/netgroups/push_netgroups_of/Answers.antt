use Rattle.std.proofs.Common.{◌++◌, ◌∙◌, ap}
use Rattle.std.specs.String.{string_bytes}
use Rattle.std.proofs.lemmas.Result.{on_ok_weaker}
use Rattle.page_lists.specs.Netgroups.{netgroups}
use Rattle.page_lists.proofs.netgroups.push_netgroups_of.Goals as goal

pub returns : goal.returns
returns c =
    on_ok_weaker c.push_netgroups.result
    (λ added. record {
      rows = c.in_ok-rows.rows.items;
      are = c.in_ok-rows.ensures;
      added = added ∙ ap (λ rows. string_bytes c.args.page.now ++ netgroups rows) c.as_slice.ensures.value;
    })
    c.push_netgroups.ensures
