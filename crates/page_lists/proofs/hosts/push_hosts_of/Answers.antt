use Rattle.std.proofs.Common.{◌++◌, ◌∙◌, List, ap, map, Bor, ℕ}
use Rattle.std.specs.String.{string_bytes}
use Rattle.std.proofs.lemmas.Result.{on_ok_weaker}
use Rattle.page_lists.specs.Hosts.{hosts, row_of}
use Rattle.page_lists.proofs.HostNames.{of_policy}
use Rattle.page_lists.proofs.hosts.push_hosts_of.Goals as goal

abbrev texts_in : List (Bor (List ℕ)) → List (List ℕ)
texts_in names = map (λ (name : Bor (List ℕ)). name.now) names

pub returns : goal.returns
returns c =
    let policy = c.args.policy.now in
    let tables = c.args.tables.now in
    let names = texts_in c.in_ok-names.names.items in
    on_ok_weaker c.push_hosts.result
    (λ added. record {
      rows = c.in_ok-rows.rows.items;
      are = record {
        names = names;
        are = of_policy tables.netgroups policy c.args.index.now names c.requires.just c.in_ok-names.ensures;
        rows_are = c.in_ok-rows.ensures ∙ ap (λ some. map (row_of policy tables) (texts_in some)) c.as_slice.ensures.value;
      };
      added = added ∙ ap (λ rows. string_bytes c.args.page.now ++ hosts rows) c.as_slice-2.ensures.value;
    })
    c.push_hosts.ensures
