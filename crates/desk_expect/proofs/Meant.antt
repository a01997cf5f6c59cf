-- Whom names mean together.
use Rattle.std.proofs.Common.{◌≡◌, ℕ, ◌+◌, ◌<◌, ◌≤◌, ◌&&◌, ◌||◌, Bool, true, false, List, [], ◌∷◌, ◌++◌, get_or, length, map, refl, sym, take, ap, ◌∙◌, inl, inr, arith}
use Rattle.std.specs.Prelude.{◌==◌, nat_le}
use Rattle.std.specs.List.{list_any}
use Rattle.std.proofs.lemmas.Bool.{and_from, cases_order, eq-eqb, le-leb, lt-leb, ne_eqb}
use Rattle.std.proofs.lemmas.List.{take_all, take_more}
use Rattle.std.proofs.lemmas.List.Folds.{list_any-append, list_any_more}
use Rattle.desk_text.specs.Address.{number_of}
use Rattle.desk_text.specs.declared.address.Addr.{Addr}
use Rattle.desk_text.specs.AddrSet.{is_among}
use Rattle.desk_tables.specs.declared.hosts.HostRow.{HostRow}
use Rattle.desk_netgroup.specs.declared.group_line.GroupLine.{GroupLine}
use Rattle.desk_policy.specs.Names.{AddressesAreUnique, addresses_of_names, stands_for}
use Rattle.desk_expect.specs.Meaning.{AreMeant, are_for, means}
use Rattle.desk_expect.specs.PrivateMeaning.{AddsSpans}
use Rattle.desk_expect.specs.Spans.{holds}
use Rattle.desk_expect.specs.declared.span.Span.{Span}

pub or_false : (b : Bool) → (b || false) ≡ b
or_false true = refl
or_false false = refl

or_assoc : (a b c : Bool) → ((a || b) || c) ≡ (a || (b || c))
or_assoc true b c = refl
or_assoc false b c = refl

-- ---- one span
-- a span of one address holds just that
one_address : (n address : ℕ) → (nat_le n address && nat_le address n) ≡ (n == address)
one_address n address =
    elim (cases_order n address) as (λ _. (nat_le n address && nat_le address n) ≡ (n == address)) [
      | inl is ↦ and_from _ _ (le-leb n address (omega arith)) (le-leb address n (omega arith)) ∙ sym (eq-eqb n address is)
      | inr (inl below) ↦ ap (λ b. nat_le n address && b) (lt-leb address n below) ∙ right (nat_le n address) ∙ sym (ne_eqb n address (λ is. omega arith))
      | inr (inr over) ↦ ap (λ b. b && nat_le address n) (lt-leb n address over) ∙ sym (ne_eqb n address (λ is. omega arith))
    ]
  where
    right : (b : Bool) → (b && false) ≡ false
    right true = refl
    right false = refl

-- a span more
pub one_span : (passes : ℕ → Bool) (span : Span) → ((address : ℕ) → holds address span ≡ passes address) → (old new : List Span) → new ≡ old ++ span ∷ [] → AddsSpans passes old new
one_span passes span own old new added address =
    ap (list_any (holds address)) added ∙ list_any-append (holds address) old (span ∷ []) ∙ ap (λ b. list_any (holds address) old || b) (or_false (holds address span) ∙ own address)

pub no_span : (passes : ℕ → Bool) → ((address : ℕ) → passes address ≡ false) → (spans : List Span) → AddsSpans passes spans spans
no_span passes none spans address = sym (ap (λ b. list_any (holds address) spans || b) (none address) ∙ or_false (list_any (holds address) spans))

-- ---- addresses, each as a span
pub address_more : (items : List Addr) (i : ℕ) (item : Addr) → i < length items → item ≡ get_or items i item → (span : Span) → number_of span.first ≡ number_of item → number_of span.last ≡ number_of item
    → (start old new : List Span) → AddsSpans (λ address. is_among address (map number_of (take i items))) start old → new ≡ old ++ span ∷ []
    → AddsSpans (λ address. is_among address (map number_of (take (i + 1) items))) start new
address_more items i item below is span first last start old new so_far added address =
    let more : take (i + 1) items ≡ take i items ++ item ∷ [] = take_more items i item below ∙ ap (λ (a : Addr). take i items ++ a ∷ []) (sym is) in
    let own : holds address span ≡ (number_of item == address) = ap (λ n. nat_le n address && nat_le address (number_of span.last)) first ∙ ap (λ n. nat_le (number_of item) address && nat_le address n) last ∙ one_address (number_of item) address in
    let among : is_among address (map number_of (take i items ++ item ∷ [])) ≡ (is_among address (map number_of (take i items)) || (number_of item == address)) =
    among_append (take i items) in
    one_span (λ a. holds a span) span (λ a. refl) old new added address
    ∙ ap (λ b. b || holds address span) (so_far address) ∙ or_assoc (list_any (holds address) start) (is_among address (map number_of (take i items))) (holds address span)
    ∙ ap (λ b. list_any (holds address) start || b) (ap (λ b. is_among address (map number_of (take i items)) || b) own ∙ sym among ∙ ap (λ (ones : List Addr). is_among address (map number_of ones)) (sym more))
  where
    among_append : (xs : List Addr) → is_among address (map number_of (xs ++ item ∷ [])) ≡ (is_among address (map number_of xs) || (number_of item == address))
    among_append [] = or_false (number_of item == address)
    among_append (x ∷ xs) = ap (λ b. (number_of x == address) || b) (among_append xs) ∙ sym (or_assoc (number_of x == address) (is_among address (map number_of xs)) (number_of item == address))

pub all_addresses : (items : List Addr) (i : ℕ) (start spans : List Span) → length items ≤ i → AddsSpans (λ address. is_among address (map number_of (take i items))) start spans
    → AddsSpans (λ address. is_among address (map number_of items)) start spans
all_addresses items i start spans over so_far address = so_far address ∙ ap (λ (ones : List Addr). list_any (holds address) start || is_among address (map number_of ones)) (take_all i items over)

-- ---- the addresses of a name
pub name_stands : AddressesAreUnique → (netgroups : List GroupLine) (hosts : List HostRow) (name : List ℕ) (addresses : List ℕ) → addresses ≡ addresses_of_names netgroups hosts (name ∷ [])
    → (address : ℕ) → is_among address addresses ≡ stands_for netgroups hosts name address
name_stands unique netgroups hosts name addresses are address = ((unique netgroups hosts (name ∷ []) addresses).1 are).each address ∙ or_false (stands_for netgroups hosts name address)

pub same_test : (passes other : ℕ → Bool) → ((address : ℕ) → passes address ≡ other address) → (old new : List Span) → AddsSpans passes old new → AddsSpans other old new
same_test passes other same old new adds address = adds address ∙ ap (λ b. list_any (holds address) old || b) (same address)

-- ---- names, one after the other
module _ (netgroups : List GroupLine) (hosts : List HostRow) where
  pub no_names : (spans : List Span) → spans ≡ [] → AreMeant netgroups hosts [] spans
  no_names spans none address = ap (list_any (holds address)) none

  pub name_more : (items : List (List ℕ)) (i : ℕ) (name item : List ℕ) → i < length items → item ≡ get_or items i item → name ≡ item → (old new : List Span)
      → AreMeant netgroups hosts (take i items) old → AddsSpans (means netgroups hosts name) old new → AreMeant netgroups hosts (take (i + 1) items) new
  name_more items i name item below is own old new so_far adds address =
      adds address ∙ ap (λ b. b || means netgroups hosts name address) (so_far address)
      ∙ ap (λ n. are_for netgroups hosts (take i items) address || means netgroups hosts n address) (own ∙ is)
      ∙ sym (list_any_more (λ (n : List ℕ). means netgroups hosts n address) items i item below)

  pub all_names : (items : List (List ℕ)) (i : ℕ) (spans : List Span) → length items ≤ i → AreMeant netgroups hosts (take i items) spans → AreMeant netgroups hosts items spans
  all_names items i spans over so_far address = so_far address ∙ ap (λ (ns : List (List ℕ)). are_for netgroups hosts ns address) (take_all i items over)
