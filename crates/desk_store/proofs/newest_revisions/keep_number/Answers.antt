use Rattle.std.proofs.Common.{◌≡◌, ◌∙◌, ap, sym, refl, ℕ, List, Bool, true, false, cond, Option, Some, unwrap_or, Result, Ok, Err, OnOk, is_err}
use Rattle.std.specs.Prelude.{string_bytes}
use Rattle.std.specs.BTreeMap.{get_by_text}
use Rattle.std.specs.Str.{bytes_eq}
use Rattle.std.proofs.lemmas.Map.Text.{btree_map_updates_text}
use Rattle.desk_store.specs.NewestRevisions.{number_in}
use Rattle.desk_store.proofs.newest_revisions.keep_number.Goals as goal

on_ok : {A E : Type 0} (r : Result A E) (P : Type 0) → is_err r ≡ false → OnOk r P → P
on_ok (Ok x) P ok h = h
on_ok (Err e) P ok h = absurd (cc)

step : (b : Bool) (number : ℕ) (old : Option ℕ) → unwrap_or (cond b (Some number) old) 0 ≡ cond b number (unwrap_or old 0)
step true number old = refl
step false number old = refl

pub returns-clause-kept : goal.returns-clause-kept
returns-clause-kept c = λ file.
    let u = on_ok c.insert.result _ (sym c.is_err.ensures.value ∙ c.if-is_err.false) c.insert.ensures.updates in
    let key : List ℕ = string_bytes c.in-Ok.file in
    let named : key ≡ c.args.revision.now.file = c.in-Ok.ensures.ok ∙ c.as_str-2.ensures in
    let at = btree_map_updates_text key c.args.numbers.now c.insert.new.self (Some c.args.revision.now.rev) u file in
    ap (λ (o : Option ℕ). unwrap_or o 0) at ∙ step (bytes_eq key file) c.args.revision.now.rev (get_by_text c.args.numbers.now file)
    ∙ ap (λ (k : List ℕ). cond (bytes_eq k file) c.args.revision.now.rev (number_in c.args.numbers.now file)) named
