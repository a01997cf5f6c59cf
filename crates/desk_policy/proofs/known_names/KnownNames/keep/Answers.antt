use Rattle.std.proofs.Common.{◌≡◌, ◌∙◌, List, [], ◌∷◌, ap, subst, sym, ℕ}
use Rattle.std.specs.Prelude.{IfSome, string_bytes}
use Rattle.std.specs.BTreeMap.{get_by_text}
use Rattle.std.proofs.lemmas.Map.Text.{btree_map_updates_text}
use Rattle.desk_policy.specs.Names.{addresses_of_names}
use Rattle.desk_policy.proofs.KnownAddresses.{one_kept}
use Rattle.desk_policy.proofs.known_names.KnownNames.keep.Goals as goal

pub returns : goal.returns
returns c = λ netgroups hosts known are other.
    let key = string_bytes c.in_ok-from_str.field-0 in
    let P : List ℕ → List ℕ → Type 0 = λ name addresses. addresses ≡ addresses_of_names netgroups hosts (name ∷ []) in
    let here : P key c.in_ok-shared.shared = c.in_ok-shared.ensures ∙ are ∙ ap (λ (name : List ℕ). addresses_of_names netgroups hosts (name ∷ [])) (sym c.in_ok-from_str.ensures.ok) in
    subst (λ o. IfSome o (P other)) (sym (btree_map_updates_text key c.args.self.now.addresses c.insert.new.self _ c.in_ok-insert.ensures.updates other))
    (one_kept P (get_by_text c.args.self.now.addresses) key c.in_ok-shared.shared known here other)
