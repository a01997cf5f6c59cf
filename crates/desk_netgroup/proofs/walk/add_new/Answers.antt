use Rattle.std.proofs.Common.{◌≡◌, ◌++◌, ◌∷◌, [], ◌∙◌, true, false, cond, ℕ, List, map, ap, sym, string_bytes, rules}
use Rattle.std.specs.BTreeSet.{contains_text}
use Rattle.std.specs.Str.{bytes_eq}
use Rattle.std.proofs.lemmas.Bool.{cond-false}
use Rattle.std.proofs.lemmas.List.{map_push}
use Rattle.std.proofs.lemmas.Map.Text.{btree_set_updates_text}
use Rattle.desk_netgroup.proofs.SetLemmas.{added, flip}
use Rattle.desk_netgroup.proofs.walk.add_new.Goals as goal

pub returns-in_ok-push : goal.returns-in_ok-push
returns-in_ok-push c =
    let text = c.args.text.now in
    let old = contains_text c.args.seen.now in
    let unseen : old text ≡ false = search rules in (
      λ n.
          btree_set_updates_text (string_bytes c.in_ok-from_str.field-0) c.args.seen.now c.insert.new.self true c.in_ok-insert.ensures.updates n
          ∙ ap (λ k. cond (bytes_eq k n) true (old n)) c.in_ok-from_str.ensures.ok ∙ ap (λ b. cond b true (old n)) (flip text n) ∙ added (old n) (bytes_eq n text),
      ap (map string_bytes) c.in_ok-push.ensures.items ∙ map_push string_bytes c.args.kept.now.items c.in_ok-from_str-2.field-0
          ∙ ap (λ (t : List ℕ). map string_bytes c.args.kept.now.items ++ t ∷ []) c.in_ok-from_str-2.ensures.ok
          ∙ sym (cond-false (old text) (map string_bytes c.args.kept.now.items) (map string_bytes c.args.kept.now.items ++ text ∷ []) unseen),
    )
