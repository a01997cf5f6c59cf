use Rattle.std.proofs.Common.{◌≡◌, ◌∙◌, ◌<◌, sym, ap, subst, List, Ok, length}
use Rattle.desk_exports.specs.declared.profile.Profile.TheVariants.{Two}
use Rattle.desk_tables.specs.declared.filesystems.Mount.{Mount}
use Rattle.desk_policy.specs.Parsing.{read_site_tables}
use Rattle.desk_policy.specs.Policy.{Content}
use Rattle.desk_policy.specs.Replacing.{ReadsLines}
use Rattle.desk_policy.specs.declared.site.ExportsText.{ExportsText}
use Rattle.desk_core.specs.Head.{newest_in}
use Rattle.desk_core.specs.Site.{IsInForce, site_in}
use Rattle.desk_core.proofs.OneFile.{place_of, rows_read}
use Rattle.desk_core.proofs.state.State.rows_by.Goals as goal

pub read_lines-requires-clause-fs : goal.read_lines-requires-clause-fs
read_lines-requires-clause-fs g c =
    let table = c.filesystems-filesystems.ensures ∙ ap (λ (k : Content). k.table) (c.policy.ensures ∙ ap (λ s. g.V.PolicyView.in_force s.view) c.self.view_is) in
    let at = place_of (g.V.PolicyView.in_force c.args.self.now.view).table c.args.file.now c.args.fs.0 c.requires.place in
    subst (λ (ms : List Mount). c.args.fs.0 < length ms) (sym table) at.3

pub returns : goal.returns
returns g c =
    let F = g.V.PolicyView.in_force in
    let state = c.args.self.now in
    let tables = c.self.inside.site.tables in
    let text : ExportsText = record { profile = Two; body = c.args.text.now } in
    let holds = subst (λ s. IsInForce (site_in (newest_in s.heads)) (F s.view)) c.self.view_is c.self.invariant.in_force in
    let tables_are = subst (λ s. read_site_tables (site_in (newest_in s.heads)) ≡ Ok tables) c.self.view_is c.self.invariant.tables_are in
    let table = c.filesystems-filesystems.ensures ∙ ap (λ (k : Content). k.table) (c.policy.ensures ∙ ap (λ s. F s.view) c.self.view_is) in
    let told = subst (λ (ms : List Mount). ReadsLines c.read_lines.result text ms tables c.args.fs.0) table c.read_lines.ensures in
    rows_read c.one_file_is_replaced.ensures c.tables_are_in_order.ensures F state tables c.args.file.now c.args.text.now c.args.fs.0 holds tables_are c.requires.place c.read_lines.result told
