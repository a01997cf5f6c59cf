use Rattle.std.proofs.Common.{◌≡◌, ◌∙◌, ◌++◌, ap, sym, refl, ℕ, List, Bool, true, false, cond, Option, Some}
use Rattle.std.specs.Prelude.{codes, string_bytes, unwrap_or}
use Rattle.std.specs.BTreeMap.{get_by_text}
use Rattle.std.specs.Str.{bytes_eq}
use Rattle.std.proofs.lemmas.Map.Text.{btree_map_updates_text}
use Rattle.desk_policy.specs.Site.{no_exports}
use Rattle.desk_exports.specs.declared.profile.Profile.{Profile}
use Rattle.desk_policy.specs.declared.site.ExportsText.{ExportsText}
use Rattle.desk_core.specs.PrivateSite.{text_or}
use Rattle.desk_core.proofs.site.put_exports.Goals as goal

abbrev text_with : Profile → List ℕ → ExportsText
text_with profile body = record { profile = profile; body = body }

step : (b : Bool) (text : ExportsText) (old : Option ExportsText) → unwrap_or (cond b (Some text) old) no_exports ≡ cond b text (unwrap_or old no_exports)
step true text old = refl
step false text old = refl

pub returns-in_ok-insert : goal.returns-in_ok-insert
returns-in_ok-insert c = λ m.
    let key : List ℕ = string_bytes c.in_ok-mount.mount in
    let named : c.in-Some.mount.now ≡ key = sym c.in_ok-mount.ensures.ok in
    let file : c.args.file.now ≡ codes "exports:" ++ key = c.in-Some.ensures ∙ ap (λ (r : List ℕ). codes "exports:" ++ r) named in
    let made : ExportsText = text_with c.args.profile c.in_ok-body.body in
    let old : Option ExportsText = get_by_text c.args.exports.now m in
    let u = btree_map_updates_text key c.args.exports.now c.insert.new.self (Some made) c.in_ok-insert.ensures.updates m in
    ap (λ (o : Option ExportsText). unwrap_or o no_exports) u ∙ step (bytes_eq key m) made old
    ∙ ap (λ (t : List ℕ). cond (bytes_eq key m) (text_with c.args.profile t) (unwrap_or old no_exports)) c.in_ok-body.ensures
    ∙ ap (λ (f : List ℕ). text_or f (text_with c.args.profile c.args.text.now) (codes "exports:" ++ m) (unwrap_or old no_exports)) (sym file)
