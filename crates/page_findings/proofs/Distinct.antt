-- Lists of flavours, each once.
use denote.Enum.Declared.{tag_of}
use Rattle.std.proofs.Common.{◌≡◌, ℕ, ◌+◌, ◌<◌, ◌++◌, ◌||◌, ◌∙◌, Bool, true, false, cond, not, List, [], ◌∷◌, ap, filter, get_or, inl, inr, length, map, refl, sym, take}
use Rattle.std.specs.Cmp.{IsEquivalence}
use Rattle.std.specs.List.{list_any}
use Rattle.std.proofs.lemmas.Bool.{cases_Bool}
use Rattle.std.proofs.lemmas.Cmp.{lists_equiv, nat_eq_equiv, on_equiv}
use Rattle.std.proofs.lemmas.List.{append-nil, map-append, map_more}
use Rattle.std.proofs.lemmas.List.Elements.{filter-append}
use Rattle.desk_exports.specs.contracts.entry.Flavour.{the_type}
use Rattle.desk_exports.specs.declared.entry.Flavour.{Flavour}
use Rattle.page_findings.specs.Flavours.{each_once, same_flavours}
use Rattle.page_findings.specs.Lines.{flavours_of, line_value}
use Rattle.page_findings.specs.PrivateFlavours.{with_distinct}
use Rattle.page_findings.specs.declared.lines.SiteLine.{SiteLine}

abbrev Flavours : Type 0
Flavours = List Flavour

pub same_equiv : IsEquivalence same_flavours
same_equiv = lists_equiv (on_equiv (tag_of the_type) nat_eq_equiv)

abbrev other : Flavours → Flavours → Bool
other first list = not (same_flavours list first)

pub add_there : (lists : List Flavours) (list : Flavours) → list_any (λ o. same_flavours o list) lists ≡ true → with_distinct lists list ≡ lists
add_there lists list is = ap (λ b. cond b lists (lists ++ list ∷ [])) is

pub add_new : (lists : List Flavours) (list : Flavours) → list_any (λ o. same_flavours o list) lists ≡ false → with_distinct lists list ≡ lists ++ list ∷ []
add_new lists list is = ap (λ b. cond b lists (lists ++ list ∷ [])) is

-- leaving out those like one leaves in those like another
kept_there : (lists : List Flavours) (first list : Flavours) → same_flavours first list ≡ false → list_any (λ o. same_flavours o list) (filter (other first) lists) ≡ list_any (λ o. same_flavours o list) lists
kept_there [] first list apart = refl
kept_there (one ∷ lists) first list apart =
    let again : list_any (λ o. same_flavours o list) (filter (other first) lists) ≡ list_any (λ o. same_flavours o list) lists = kept_there lists first list apart in
    elim (cases_Bool (same_flavours one first)) as (λ _. list_any (λ o. same_flavours o list) (filter (other first) (one ∷ lists)) ≡ list_any (λ o. same_flavours o list) (one ∷ lists)) [
      | inl alike ↦ ap (λ b. list_any (λ o. same_flavours o list) (cond (not b) (one ∷ filter (other first) lists) (filter (other first) lists))) alike ∙ again
          ∙ sym (ap (λ b. b || list_any (λ o. same_flavours o list) lists) (same_equiv.congr one first list alike ∙ apart))
      | inr not_alike ↦ ap (λ b. list_any (λ o. same_flavours o list) (cond (not b) (one ∷ filter (other first) lists) (filter (other first) lists))) not_alike
          ∙ ap (λ r. same_flavours one list || r) again
    ]

one_left : (first list : Flavours) (v : Bool) → same_flavours first list ≡ v → filter (other first) (list ∷ []) ≡ cond (not v) (list ∷ []) []
one_left first list v is = ap (λ b. cond (not b) (list ∷ []) []) (same_equiv.symm list first ∙ is)

-- one more, behind a first one
behind : (first list : Flavours) (lists : List Flavours) → first ∷ filter (other first) (with_distinct lists list) ≡ with_distinct (first ∷ filter (other first) lists) list
behind first list lists =
    let left : List Flavours = filter (other first) lists in
    elim (cases_Bool (list_any (λ o. same_flavours o list) lists)) as (λ _. first ∷ filter (other first) (with_distinct lists list) ≡ with_distinct (first ∷ filter (other first) lists) list) [
      | inl there ↦ ap (λ ls. first ∷ filter (other first) ls) (add_there lists list there) ∙ sym (elim (cases_Bool (same_flavours first list)) as (λ _. with_distinct (first ∷ left) list ≡ first ∷ left) [
        | inl alike ↦ add_there (first ∷ left) list (ap (λ b. b || list_any (λ o. same_flavours o list) left) alike)
        | inr apart ↦ add_there (first ∷ left) list (ap (λ b. b || list_any (λ o. same_flavours o list) left) apart ∙ kept_there lists first list apart ∙ there)
      ])
      | inr new ↦ ap (λ ls. first ∷ filter (other first) ls) (add_new lists list new) ∙ ap (λ ls. first ∷ ls) (filter-append (other first) lists (list ∷ []))
          ∙ (elim (cases_Bool (same_flavours first list)) as (λ _. first ∷ (left ++ filter (other first) (list ∷ [])) ≡ with_distinct (first ∷ left) list) [
            | inl alike ↦ ap (λ ls. first ∷ (left ++ ls)) (one_left first list true alike) ∙ ap (λ ls. first ∷ ls) (append-nil left)
                ∙ sym (add_there (first ∷ left) list (ap (λ b. b || list_any (λ o. same_flavours o list) left) alike))
            | inr apart ↦ ap (λ ls. first ∷ (left ++ ls)) (one_left first list false apart)
                ∙ sym (add_new (first ∷ left) list (ap (λ b. b || list_any (λ o. same_flavours o list) left) apart ∙ kept_there lists first list apart ∙ new))
          ])
    ]

pub once_more : (lists : List Flavours) (list : Flavours) → each_once (lists ++ list ∷ []) ≡ with_distinct (each_once lists) list
once_more [] list = refl
once_more (first ∷ lists) list = ap (λ ls. first ∷ filter (other first) ls) (once_more lists list) ∙ behind first list (each_once lists)

-- the lists of lines, with one more line
pub distinct_more : (lines : List SiteLine) (i : ℕ) (d : SiteLine) → i < length lines
    → each_once (map flavours_of (map line_value (take (i + 1) lines))) ≡ with_distinct (each_once (map flavours_of (map line_value (take i lines)))) (flavours_of (line_value (get_or lines i d)))
distinct_more lines i d below =
    ap (λ some. each_once (map flavours_of some)) (map_more line_value lines i d below)
    ∙ ap each_once (map-append flavours_of (map line_value (take i lines)) (line_value (get_or lines i d) ∷ []))
    ∙ once_more (map flavours_of (map line_value (take i lines))) (flavours_of (line_value (get_or lines i d)))
