-- The text of one mount point is put.
use Rattle.std.proofs.Common.{◌≡◌, ◌∙◌, ap, refl, ℕ, List, Bool, true, false, cond, Option, Some}
use Rattle.std.specs.Prelude.{string_bytes, unwrap_or}
use Rattle.std.specs.BTreeMap.{get_by_text}
use Rattle.std.specs.Str.{bytes_eq}
use Rattle.std.proofs.lemmas.Map.Text.{btree_map_updates_text}
use Rattle.desk_policy.specs.Site.{no_exports}
use Rattle.desk_policy.specs.declared.site.ExportsText.{ExportsText}
use Rattle.cli_edits.specs.InitCommand.{new_exports}
use Rattle.cli_edits.proofs.init_command.put_part.Goals as goal

step : (b : Bool) (text : ExportsText) (old : Option ExportsText) → unwrap_or (cond b (Some text) old) no_exports ≡ cond b text (unwrap_or old no_exports)
step true text old = refl
step false text old = refl

pub returns : goal.returns
returns c = λ name.
    let key : List ℕ = string_bytes c.in_ok-mount.mount in
    let old : Option ExportsText = get_by_text c.args.exports.now name in
    let u = btree_map_updates_text key c.args.exports.now c.insert.new.self (Some (new_exports c.in_ok-body.body)) c.in_ok-insert.ensures.updates name in
    ap (λ (o : Option ExportsText). unwrap_or o no_exports) u ∙ step (bytes_eq key name) (new_exports c.in_ok-body.body) old
    ∙ ap (λ (t : List ℕ). cond (bytes_eq key name) (new_exports t) (unwrap_or old no_exports)) c.in_ok-body.ensures
    ∙ ap (λ (k : List ℕ). cond (bytes_eq k name) (new_exports c.args.text.now) (unwrap_or old no_exports)) c.in_ok-mount.ensures.ok
