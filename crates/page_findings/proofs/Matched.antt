-- The lines that verdicts name at the addresses that a line matches.
use Rattle.std.proofs.Common.{◌≡◌, ℕ, ◌+◌, ◌-◌, ◌<◌, ◌^◌, ◌∙◌, Bool, true, false, List, None, Some, ap, arith, cond, refl, sym}
use Rattle.std.specs.Prelude.{Contains, IsSome}
use Rattle.std.proofs.lemmas.Bool.{true≢false}
use Rattle.desk_text.specs.AddrSet.{is_among}
use Rattle.desk_text.specs.Laws.{CoversBetweenFirstAndLast}
use Rattle.desk_text.specs.Network.{covers, last_of}
use Rattle.desk_exports.specs.declared.entry.Clients.{Clients}
use Rattle.desk_exports.specs.declared.entry.Clients.TheVariants.{Hosts, Net, Net6, World}
use Rattle.desk_policy.specs.Keys.{HasBlock}
use Rattle.desk_policy.specs.Policy.{Content}
use Rattle.desk_policy.specs.Weights.{name_weight, weight_by}
use Rattle.desk_impact.specs.Sections.{PlaceBreaches}
use Rattle.page_data.proofs.Granted.{from_flat, to_flat}
use Rattle.page_findings.specs.Deciding.{AreSectionsOf}
use Rattle.page_findings.specs.PrivateDeciding.{lines_between, lines_for}
use Rattle.page_findings.proofs.Containing.{among_contains, contains_among, none_there}
use Rattle.page_findings.proofs.Named.{between_has, from_between}
use Rattle.page_findings.proofs.Places.{NamedAt}

-- a weight is told exactly if a test passes
passed : (test : Bool) (weight : ℕ) → IsSome (cond test (Some weight) None) → test ≡ true
passed true weight some = refl
passed false weight some = absurd (true≢false (sym some))

told : (test : Bool) (weight : ℕ) → test ≡ true → IsSome (cond test (Some weight) None)
told true weight is = refl
told false weight is = absurd (true≢false (sym is))

-- clients have an address at which a place names a line
pub record NamedFor (sections : List PlaceBreaches) (who : Clients) (addresses : List ℕ) (line : ℕ) : Type 0 where
  pub address : ℕ
  pub is_address : address < 2 ^ 32
  pub matches : IsSome (weight_by who addresses address)
  pub named : NamedAt sections address line

module _ (law : CoversBetweenFirstAndLast) (content : Content) (fs : ℕ) (own : List PlaceBreaches) (are : AreSectionsOf content fs own) where
  pub for_has : (who : Clients) (addresses : List ℕ) (line : ℕ) → HasBlock who → NamedFor own who addresses line → Contains (lines_for who addresses own) line
  for_has (Hosts names) addresses line block one =
      to_flat (λ (address : ℕ). lines_between address address own) addresses one.address line
      (among_contains one.address addresses (passed (is_among one.address addresses) name_weight one.matches))
      (between_has own one.address one.address one.address line one.named (omega arith) (omega arith))
  for_has (Net net noted) addresses line block one =
      let both = (law net block one.address).0 (passed (covers net one.address) (net.prefix + 1) one.matches) in
      between_has own net.first (last_of net) one.address line one.named both.0 both.1
  for_has (Net6 value) addresses line block one = absurd (true≢false (sym one.matches))
  for_has World addresses line block one =
      let fits = one.is_address in
      between_has own 0 (2 ^ 32 - 1) one.address line one.named (omega arith) (omega arith)

  pub from_for : (who : Clients) (addresses : List ℕ) (line : ℕ) → HasBlock who → Contains (lines_for who addresses own) line → NamedFor own who addresses line
  from_for (Hosts names) addresses line block has =
      let one = from_flat (λ (address : ℕ). lines_between address address own) addresses line has in
      let within = from_between content fs own are one.x one.x line (omega arith) one.own in
      let low = within.low in
      let high = within.high in
      let is : one.x ≡ within.address = omega arith in
      record {
        address = within.address;
        is_address = within.is_address;
        matches = told (is_among within.address addresses) name_weight (ap (λ a. is_among a addresses) (sym is) ∙ contains_among one.x addresses one.listed);
        named = within.named;
      }
  from_for (Net net noted) addresses line block has =
      let within = from_between content fs own are net.first (last_of net) line (omega arith) has in
      record {
        address = within.address;
        is_address = within.is_address;
        matches = told (covers net within.address) (net.prefix + 1) ((law net block within.address).1 (within.low, within.high));
        named = within.named;
      }
  from_for (Net6 value) addresses line block has = absurd (none_there line has)
  from_for World addresses line block has =
      let within = from_between content fs own are 0 (2 ^ 32 - 1) line (omega arith) has in
      record { address = within.address; is_address = within.is_address; matches = refl; named = within.named }
