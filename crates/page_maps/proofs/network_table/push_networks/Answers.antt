use Rattle.std.proofs.Common.{◌≡◌, ◌-◌, ◌++◌, ◌∙◌, ap, drop, length, subst, take}
use Rattle.std.specs.String.{string_bytes}
use Rattle.std.proofs.lemmas.List.{drop_min, length-drop, take_min}
use Rattle.std.proofs.lemmas.Result.{on_ok_weaker}
use Rattle.page_maps.specs.NetworkRows.{AreNetworkRows}
use Rattle.page_maps.specs.NetworkTable.{networks_text}
use Rattle.page_maps.proofs.network_table.push_networks.Goals as goal

pub returns : goal.returns
returns c =
    let content = c.args.policy.now in
    let page = string_bytes c.args.page.now in
    let written = c.in_ok-written.written.items in
    let all = c.as_slice-all.result.now in
    let rows = c.in_ok-rows.rows.items in
    let listed : c.split_at.result.0.now ≡ take 64 written =
    c.split_at.ensures.front ∙ ap (λ n. take n all) c.min.ensures ∙ take_min 64 all ∙ ap (take 64) c.as_slice-all.ensures.value in
    let others : c.split_at.result.1.now ≡ drop 64 written =
    c.split_at.ensures.back ∙ ap (λ n. drop n all) c.min.ensures ∙ drop_min 64 all ∙ ap (drop 64) c.as_slice-all.ensures.value in
    let more : length c.split_at.result.1.now ≡ length written - 64 = ap length others ∙ length-drop 64 written in
    on_ok_weaker c.push_table.result
    (λ added. record {
      written = written;
      ordered = c.in_ok-written.ensures;
      listed = rows;
      are = subst (λ networks. AreNetworkRows content networks rows) listed c.in_ok-rows.ensures;
      text =
          added ∙ ap (λ some. page ++ networks_text content some (length c.split_at.result.1.now)) c.as_slice.ensures.value
          ∙ ap (λ n. page ++ networks_text content rows n) more;
    })
    c.push_table.ensures
