use Rattle.std.proofs.Common.{◌≡◌, ℕ, ap, eq-eqb, length, refl, subst, sym, ◌∙◌}
use Rattle.std.specs.Prelude.{slice_get}
use Rattle.std.specs.BTreeMap.{get}
use Rattle.std.proofs.lemmas.Bool.{and_from}
use Rattle.desk_text.specs.Address.{number_of}
use Rattle.desk_exports.specs.declared.entry.Entry.{Entry}
use Rattle.desk_policy.specs.declared.first_lines.FirstLines.{FirstLines}
use Rattle.desk_policy.specs.Keys.{Everybody, has_key_by, is_everybody, is_network, Network}
use Rattle.desk_policy.specs.PrivateFirstLines.{IsClashAmong, IsClashWith, network_cmp}
use Rattle.desk_policy.proofs.KeyClashes.{at_one_key, first_there, only_everybody, only_network}
use Rattle.desk_policy.proofs.KeyPlaces.{Adds, adds_network}
use Rattle.desk_policy.proofs.first_lines.FirstLines.add_line.Goals as goal

pub returns-in_ok-place-in-Net-clause-clash : goal.returns-in_ok-place-in-Net-clause-clash
returns-in_ok-place-in-Net-clause-clash c =
    let net = c.in-Net.net in
    let earlier = c.args.earlier.now in
    let key : (c.get.result, c.number.result) ≡ (net.prefix, net.first) =
    ap (λ (prefix : ℕ). (prefix, c.number.result)) (c.get.ensures.value ∙ c.prefix.ensures)
    ∙ ap (λ (first : ℕ). (net.prefix, first)) (c.number.ensures ∙ c.first.ensures.value) in
    subst (λ who. IsClashAmong earlier c.args.row.now.entry.terms (λ key. has_key_by who c.args.row.now.addrs key) c.clash_at.result) (sym c.in-Net.is ∙ ap (λ (entry : Entry). entry.clients) c.deref.ensures) (
    at_one_key earlier c.args.row.now.entry.terms (is_network net) (Network net) c.first.ensures.network
    (and_from _ _ (eq-eqb net.first net.first refl) (eq-eqb net.prefix net.prefix refl)) (only_network net) _
    (first_there earlier (Network net) (get network_cmp c.args.self.now.networks (c.get.result, c.number.result))
    (ap (get network_cmp c.args.self.now.networks) key ∙ c.requires (Network net)))
    _ c.first-in-Net.ensures.value _
    (subst (λ place. IsClashWith c.args.row.now.entry.terms (number_of c.first-in-Net.result) (slice_get earlier place) c.clash_at.result) c.in_ok-place-in-Net.ensures.first c.clash_at.ensures))

pub returns-in_ok-place-in-Net-clause-adds : goal.returns-in_ok-place-in-Net-clause-adds
returns-in_ok-place-in-Net-clause-adds c =
    let net = c.in-Net.net in
    let key : (c.get.result, c.number.result) ≡ (net.prefix, net.first) =
    ap (λ (prefix : ℕ). (prefix, c.number.result)) (c.get.ensures.value ∙ c.prefix.ensures)
    ∙ ap (λ (first : ℕ). (net.prefix, first)) (c.number.ensures ∙ c.first.ensures.value) in
    let new : FirstLines = record { hosts = c.args.self.now.hosts; networks = c.first_under.new.index; everybody = c.args.self.now.everybody } in
    subst (λ who. Adds (λ key. has_key_by who c.args.row.now.addrs key) (length c.args.earlier.now) c.args.self.now new) (sym c.in-Net.is ∙ ap (λ (entry : Entry). entry.clients) c.deref.ensures)
    (adds_network c.args.self.now new (length c.args.earlier.now) net (c.get.result, c.number.result) key refl refl c.in_ok-place-in-Net.ensures.adds)

pub returns-in-World-clause-clash : goal.returns-in-World-clause-clash
returns-in-World-clause-clash c =
    let earlier = c.args.earlier.now in
    subst (λ who. IsClashAmong earlier c.args.row.now.entry.terms (λ key. has_key_by who c.args.row.now.addrs key) c.clash_at-in-World.result) (sym c.in-World.is ∙ ap (λ (entry : Entry). entry.clients) c.deref.ensures) (
    at_one_key earlier c.args.row.now.entry.terms is_everybody Everybody tt refl only_everybody _
    (first_there earlier Everybody c.args.self.now.everybody (c.requires Everybody))
    _ c.from_number.ensures _
    (subst (λ place. IsClashWith c.args.row.now.entry.terms (number_of c.from_number.result) (slice_get earlier place) c.clash_at-in-World.result) c.unwrap_or-place.ensures c.clash_at-in-World.ensures))
