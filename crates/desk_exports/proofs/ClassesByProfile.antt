-- By profile 2 the class of no network counts.
use Rattle.std.proofs.Common.{◌≡◌, ◌⊎◌, inl, inr, ℕ, Bool, true, false, not, ◌&&◌, List, [], ◌∷◌, Option, Some, None, option_and_then, refl, sym, ap, subst, ◌∙◌}
use Rattle.std.specs.Option.{option_map}
use Rattle.std.proofs.lemmas.Bool.{cases_Bool, cond-true, cond-false}
use Rattle.desk_text.specs.Bytes.{is_ipv6}
use Rattle.desk_text.specs.Network.{block_of}
use Rattle.desk_tables.specs.declared.networks.NetworkName.{NetworkName}
use Rattle.desk_exports.specs.Clients.{classful_value, clients_of, has_slash, is_classful, network_clients, network_number_of, prefix_of}
use Rattle.desk_exports.specs.Laws.{NoClassCountsByProfileTwo, are_by_class}
use Rattle.desk_exports.specs.Options.{has_option, of_value, value_of}
use Rattle.desk_exports.specs.Profile.{counts_classes}
use Rattle.desk_exports.specs.Rules.{lacks_prefix}
use Rattle.desk_exports.specs.declared.entry.Clients.{Clients}
use Rattle.desk_exports.specs.declared.entry.Clients.TheVariants.{Hosts, Net, Net6, World}
use Rattle.desk_exports.specs.declared.options.Keyword.TheVariants as keyword
use Rattle.desk_exports.specs.declared.options.Setting.{Setting}
use Rattle.desk_exports.specs.declared.profile.Profile.{Profile}
use Rattle.desk_exports.specs.declared.rules.Rule.TheVariants as rule
use Rattle.desk_exports.proofs.SoundValues.{of_value_is}
use Rattle.desk_exports.proofs.TextAnswers.{answers_say_what}

-- a network of IPv4 has a prefix, or a mask stands beside it
settled : (mask v6 slash : Bool) → (not mask && (not v6 && not slash)) ≡ false → v6 ≡ false → (not slash && not mask) ≡ false
settled true v6 true unbroken four = refl
settled true v6 false unbroken four = refl
settled false v6 true unbroken four = refl
settled false true false unbroken four = absurd (cc)
settled false false false unbroken four = absurd (cc)

module _ (networks : List NetworkName) (settings : List Setting) where
  -- a network of which no class is shown
  with_prefix : (shown : Option (List ℕ)) → shown ≡ None → (address : ℕ) (prefix : Option ℕ) (clients : Clients)
      → option_map (λ p. Net (block_of address p) shown) prefix ≡ Some clients → are_by_class clients ≡ false
  with_prefix shown none address None clients e = absurd (cc)
  with_prefix shown none address (Some p) clients e =
      let same : Net (block_of address p) shown ≡ clients = cc in
      ap are_by_class (sym same) ∙ ap (λ o. are_by_class (Net (block_of address p) o)) none

  with_address : (value : List ℕ) (shown : Option (List ℕ)) → shown ≡ None → (address : Option ℕ) (clients : Clients)
      → option_and_then (λ a. option_map (λ p. Net (block_of a p) shown) (prefix_of networks settings value a)) address ≡ Some clients → are_by_class clients ≡ false
  with_address value shown none None clients e = absurd (cc)
  with_address value shown none (Some a) clients e = with_prefix shown none a (prefix_of networks settings value a) clients e

  abbrev IsSettled : List ℕ → Type 0
  IsSettled value = is_ipv6 value ≡ false → is_classful settings value ≡ false

  of_network : (value : List ℕ) → IsSettled value → (clients : Clients) → network_clients networks settings value ≡ Some clients → are_by_class clients ≡ false
  of_network value is_settled clients e =
      let version : (is_ipv6 value ≡ true) ⊎ (is_ipv6 value ≡ false) = cases_Bool (is_ipv6 value) in
      let v4_clients : Option Clients = option_and_then (λ a. option_map (λ p. Net (block_of a p) (classful_value settings value)) (prefix_of networks settings value a)) (network_number_of networks value) in
      elim version [
        | inl v6 ↦
            (let other : Some (Net6 value) ≡ Some clients = sym (cond-true (is_ipv6 value) (Some (Net6 value)) v4_clients v6) ∙ e in
            let same : Net6 value ≡ clients = cc in
            ap are_by_class (sym same))
        | inr v4 ↦
            with_address value (classful_value settings value) (cond-false (is_classful settings value) (Some value) None (is_settled v4)) (network_number_of networks value) clients
            (sym (cond-false (is_ipv6 value) (Some (Net6 value)) v4_clients v4) ∙ e)
      ]

  of_written : (value : Option (List ℕ)) → ((v : List ℕ) → value ≡ Some v → IsSettled v) → (clients : Clients)
      → option_and_then (network_clients networks settings) value ≡ Some clients → are_by_class clients ≡ false
  of_written None are_settled clients e = absurd (cc)
  of_written (Some v) are_settled clients e = of_network v (are_settled v refl) clients e

  of_clients : (names : List (List ℕ)) → ((v : List ℕ) → value_of keyword.Network settings ≡ Some v → IsSettled v) → (clients : Clients)
      → clients_of networks settings names ≡ Some clients → are_by_class clients ≡ false
  of_clients [] are_settled clients e =
      let written : (has_option keyword.Network settings ≡ true) ⊎ (has_option keyword.Network settings ≡ false) = cases_Bool (has_option keyword.Network settings) in
      let said : Option Clients = option_and_then (network_clients networks settings) (value_of keyword.Network settings) in
      elim written [
        | inl has ↦ of_written (value_of keyword.Network settings) are_settled clients (sym (cond-true (has_option keyword.Network settings) said (Some World) has) ∙ e)
        | inr not_written ↦
            (let other : Some World ≡ Some clients = sym (cond-false (has_option keyword.Network settings) said (Some World) not_written) ∙ e in
            let same : World ≡ clients = cc in
            ap are_by_class (sym same))
      ]
  of_clients (name ∷ names) are_settled clients e =
      let same : Hosts (name ∷ names) ≡ clients = cc in
      ap are_by_class (sym same)

pub no_class_counts_by_profile_two : NoClassCountsByProfileTwo
no_class_counts_by_profile_two tables scope line placed two e =
    let says = answers_say_what tables scope line placed e in
    let settings : List Setting = says.parts.settings in
    let mask : Bool = has_option keyword.Mask settings in
    let unbroken : (not mask && of_value keyword.Network lacks_prefix settings) ≡ false =
    subst (λ (p : Profile). (not (counts_classes p) && (not mask && of_value keyword.Network lacks_prefix settings)) ≡ false) two (says.sound rule.NoMask) in
    of_clients tables.networks settings says.parts.names
    (λ v is. settled mask (is_ipv6 v) (has_slash v) (ap (λ b. not mask && b) (sym (of_value_is keyword.Network lacks_prefix settings v is)) ∙ unbroken))
    placed.1.clients says.clients
