use Rattle.std.proofs.Common.{◌∙◌, Err, List, Ok, OnOk, Result, ap, sym, ℕ}
use Rattle.std.specs.Prelude.{unwrap_or}
use Rattle.std.specs.BTreeMap.{get_by_text}
use Rattle.desk_policy.specs.Site.{no_exports, texts_of}
use Rattle.desk_policy.specs.declared.site.ExportsText.{ExportsText}
use Rattle.desk_core.proofs.SiteLemmas.{other_taken, own_taken}
use Rattle.desk_core.proofs.site.take_text.Goals as goal

on_ok : {T E P Q : Type 0} (r : Result T E) → (P → Q) → OnOk r P → OnOk r Q
on_ok (Ok value) f h = f h
on_ok (Err error) f h = h

pub returns-in-Some : goal.returns-in-Some
returns-in-Some c =
    let texts = texts_of c.args.site.now in
    let text : ExportsText = record { profile = c.args.profile; body = c.args.text.now } in
    on_ok c.put_text.result (λ put. ap (λ files. record { files = files; exports = texts.exports }) put ∙ own_taken texts.files texts.exports text c.args.file.now c.in-Some.own (sym c.in-Some.ensures)) c.put_text.ensures

pub returns-in-None : goal.returns-in-None
returns-in-None c =
    let texts = texts_of c.args.site.now in
    let text : ExportsText = record { profile = c.args.profile; body = c.args.text.now } in
    let new : List ℕ → ExportsText = λ mount. unwrap_or (get_by_text c.put_exports.new.exports mount) no_exports in
    on_ok c.put_exports.result (λ put. other_taken texts.files texts.exports new text c.args.file.now (sym c.in-None.ensures) put) c.put_exports.ensures
