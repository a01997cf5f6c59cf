-- The lines that verdicts name at the addresses from a first to a last one.
use Rattle.std.proofs.Common.{◌≡◌, ℕ, ◌<◌, ◌≤◌, ◌^◌, List, [], Option, None, Some, ap, arith, inl, inr, refl, subst, sym}
use Rattle.std.specs.Prelude.{Contains, filter}
use Rattle.std.specs.Option.{option_to_list}
use Rattle.std.proofs.lemmas.Bool.{and_from, and_parts, cases_lt, le-leb, leb-true}
use Rattle.desk_policy.specs.Policy.{Content}
use Rattle.desk_impact.specs.Sections.{PlaceBreaches}
use Rattle.page_data.proofs.Containing.{here, here_or_there}
use Rattle.page_data.proofs.Granted.{from_flat, to_flat}
use Rattle.page_data.proofs.Grouped.{in_kept, kept_in}
use Rattle.page_findings.specs.Deciding.{AreSectionsOf}
use Rattle.page_findings.specs.PrivateDeciding.{lines_at, lines_between, meets, named_in, named_line}
use Rattle.page_findings.proofs.Containing.{none_there}
use Rattle.page_findings.proofs.Places.{NamedAt, own_value}

named_has : (o : Option ℕ) (line : ℕ) → o ≡ Some line → Contains (option_to_list o) line
named_has o line is = subst (λ some. Contains (option_to_list some) line) (sym is) (here line line [] refl)

has_named : (o : Option ℕ) (line : ℕ) → Contains (option_to_list o) line → o ≡ Some line
has_named None line has = absurd (none_there line has)
has_named (Some other) line has =
    elim (here_or_there other line [] has) as (λ _. Some other ≡ Some line) [
      | inl is ↦ ap Some is
      | inr none ↦ absurd (none_there line none)
    ]

-- an address from a first to a last one, at which a place names a line
pub record NamedWithin (sections : List PlaceBreaches) (first last line : ℕ) : Type 0 where
  pub address : ℕ
  pub is_address : address < 2 ^ 32
  pub low : first ≤ address
  pub high : address ≤ last
  pub named : NamedAt sections address line

pub between_has : (sections : List PlaceBreaches) (first last address line : ℕ) → NamedAt sections address line → first ≤ address → address ≤ last → Contains (lines_between first last sections) line
between_has sections first last address line at low high =
    let range = at.range in
    let meets_it = and_from _ _ (le-leb first range.last (let up = at.high in omega arith)) (le-leb range.first last (let down = at.low in omega arith)) in
    to_flat (λ (section : PlaceBreaches). lines_at first last section.ranges) sections at.section line at.has
    (to_flat named_in (filter (meets first last) at.section.ranges) range line (in_kept (meets first last) at.section.ranges range at.listed meets_it) (named_has (named_line range.value) line at.named))

module _ (content : Content) (fs : ℕ) (own : List PlaceBreaches) (are : AreSectionsOf content fs own) where
  pub from_between : (first last line : ℕ) → first ≤ last → Contains (lines_between first last own) line → NamedWithin own first last line
  from_between first last line le has =
      let section = from_flat (λ (section : PlaceBreaches). lines_at first last section.ranges) own line has in
      let met = from_flat named_in (filter (meets first last) section.x.ranges) line section.own in
      let range = met.x in
      let kept = kept_in (meets first last) section.x.ranges range met.listed in
      let value = own_value content fs own are section.x section.listed range kept.0 in
      let parts = and_parts _ _ kept.1 in
      let begins = leb-true first range.last parts.0 in
      let ends = leb-true range.first last parts.1 in
      let proper = value.proper in
      let fits = value.addresses in
      let named = has_named (named_line range.value) line met.own in
      elim (cases_lt range.first first) as (λ _. NamedWithin own first last line) [
        | inl before ↦ record {
          address = first;
          is_address = omega arith;
          low = omega arith;
          high = le;
          named = record { section = section.x; has = section.listed; range = range; listed = kept.0; low = omega arith; high = begins; named = named };
        }
        | inr behind ↦ record {
          address = range.first;
          is_address = omega arith;
          low = behind;
          high = ends;
          named = record { section = section.x; has = section.listed; range = range; listed = kept.0; low = omega arith; high = proper; named = named };
        }
      ]
