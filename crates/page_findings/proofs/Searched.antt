-- The ranges that have one of some addresses, by two binary searches.
use Rattle.std.proofs.Common.{◌≡◌, ℕ, ◌<◌, ◌≤◌, ◌&&◌, ◌∙◌, Bool, true, false, List, ap, arith, drop, get_or, inl, inr, length, map, subst, sym, take}
use Rattle.std.specs.Prelude.{filter, nat_le, nat_lt, not}
use Rattle.std.specs.List.Sorted.{IsNonDecreasingBy, IsPartitionPoint, IsPartitionedBy}
use Rattle.std.proofs.lemmas.Bool.{cases_lt, cases_order, le-leb, le-ltb, lt-leb, lt-ltb}
use Rattle.std.proofs.lemmas.List.{get_or-map, get_or-take, length-map, length-take}
use Rattle.std.proofs.lemmas.List.Elements.{filter_agree}
use Rattle.std.proofs.lemmas.List.Sorted.{IsPartitionedBy-leb, IsPartitionedBy-ltb}
use Rattle.desk_text.specs.Address.{number_of}
use Rattle.desk_policy.specs.declared.verdict.Verdict.{Verdict}
use Rattle.desk_who.specs.Runs.{Run as Value}
use Rattle.desk_who.specs.Who.{range_value}
use Rattle.desk_who.specs.declared.runs.Run.{Run}
use Rattle.desk_impact.specs.Sections.{Section, section_value}
use Rattle.desk_who.proofs.Slices.{first_pass, last_pass}
use Rattle.desk_impact.proofs.Telling.{map-filter}
use Rattle.page_data.proofs.OfLine.{filter_both}
use Rattle.page_findings.specs.PrivateDeciding.{AllInOrder, AreInOrder, meets}

-- the ranges of one of the places
pub in_order : (sections : List Section) → AllInOrder (map section_value sections) → (i : ℕ) (section : Section) → i < length sections → section ≡ get_or sections i section
    → AreInOrder (map range_value section.ranges)
in_order sections all i section within is =
    let few = length-map sections section_value in
    subst (λ one. AreInOrder one.ranges) (get_or-map section_value sections i section (section_value section) within ∙ ap section_value (sym is)) (all i (section_value section) (omega arith))

not_below : (a b : ℕ) → nat_le a b ≡ not (nat_lt b a)
not_below a b =
    elim (cases_lt b a) as (λ _. nat_le a b ≡ not (nat_lt b a)) [
      | inl less ↦ lt-leb a b less ∙ sym (ap not (lt-ltb b a less))
      | inr le ↦ le-leb a b le ∙ sym (ap not (le-ltb b a le))
    ]

abbrev pub begins_by : ℕ → Run Verdict → Bool
begins_by last range = nat_le (number_of range.first) last

abbrev pub ends_before : ℕ → Run Verdict → Bool
ends_before first range = nat_lt (number_of range.last) first

module _ (ranges : List (Run Verdict)) (order : AreInOrder (map range_value ranges)) where
  proper : (i : ℕ) (d : Run Verdict) → i < length ranges → number_of (get_or ranges i d).first ≤ number_of (get_or ranges i d).last
  proper i d within =
      let few = length-map ranges range_value in
      subst (λ (one : Value _). one.first ≤ one.last) (get_or-map range_value ranges i d (range_value d) within) (order.proper i (range_value d) (omega arith))

  apart : (i j : ℕ) (d : Run Verdict) → i < j → j < length ranges → number_of (get_or ranges i d).last < number_of (get_or ranges j d).first
  apart i j d less within =
      let few = length-map ranges range_value in
      let is = order.apart i j (range_value d) less (omega arith) in
      let left = ap (λ (one : Value _). one.last) (get_or-map range_value ranges i d (range_value d) (omega arith)) in
      let right = ap (λ (one : Value _). one.first) (get_or-map range_value ranges j d (range_value d) within) in
      omega arith

  firsts_rise : IsNonDecreasingBy (λ (range : Run Verdict). number_of range.first) ranges
  firsts_rise i j d le within =
      elim (cases_order i j) as (λ _. number_of (get_or ranges i d).first ≤ number_of (get_or ranges j d).first) [
        | inl same ↦ omega (arith, ap (λ n. number_of (get_or ranges n d).first) same)
        | inr (inl less) ↦ (let own = proper i d (omega arith) in let between = apart i j d less within in omega arith)
        | inr (inr more) ↦ absurd (omega arith)
      ]

  lasts_rise : (end : ℕ) → IsNonDecreasingBy (λ (range : Run Verdict). number_of range.last) (take end ranges)
  lasts_rise end i j d le within =
      let few = length-take end ranges in
      let left = ap (λ (range : Run Verdict). number_of range.last) (get_or-take end ranges i d (omega arith)) in
      let right = ap (λ (range : Run Verdict). number_of range.last) (get_or-take end ranges j d (omega arith)) in
      elim (cases_order i j) as (λ _. number_of (get_or (take end ranges) i d).last ≤ number_of (get_or (take end ranges) j d).last) [
        | inl same ↦ omega (arith, ap (λ n. number_of (get_or (take end ranges) n d).last) same)
        | inr (inl less) ↦ (let own = proper j d (omega arith) in let between = apart i j d less (omega arith) in omega arith)
        | inr (inr more) ↦ absurd (omega arith)
      ]

  pub begins_parted : (last : ℕ) → IsPartitionedBy (begins_by last) ranges
  begins_parted last = IsPartitionedBy-leb (λ (range : Run Verdict). number_of range.first) ranges last firsts_rise

  pub ends_parted : (first end : ℕ) → IsPartitionedBy (ends_before first) (take end ranges)
  ends_parted first end = IsPartitionedBy-ltb (λ (range : Run Verdict). number_of range.last) (take end ranges) first (lasts_rise end)

  -- the part between two binary searches
  pub met_is : (first last end begin : ℕ) → end ≤ length ranges → begin ≤ length (take end ranges) → IsPartitionPoint (λ r. begins_by last r ≡ true) (λ r. begins_by last r ≡ false) ranges end
      → IsPartitionPoint (λ r. ends_before first r ≡ true) (λ r. ends_before first r ≡ false) (take end ranges) begin → map range_value (drop begin (take end ranges)) ≡ filter (meets first last) (map range_value ranges)
  met_is first last end begin le le' upper lower =
      ap (map range_value) (sym (last_pass (λ r. not (ends_before first r)) (take end ranges) begin (λ i d low high. ap not (lower.0 i d low high), λ i d low high. ap not (lower.1 i d low high)) le')
      ∙ ap (filter (λ r. not (ends_before first r))) (sym (first_pass (begins_by last) ranges end upper le))
      ∙ sym (filter_both (λ r. not (ends_before first r)) (begins_by last) ranges)
      ∙ sym (filter_agree (λ r. meets first last (range_value r)) (λ r. not (ends_before first r) && begins_by last r) (λ r. ap (λ b. b && begins_by last r) (not_below first (number_of r.last))) ranges))
      ∙ map-filter range_value (meets first last) ranges
