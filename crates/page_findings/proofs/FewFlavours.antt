-- A line that is read has no more flavours than there are.
use Rattle.std.proofs.Common.{◌≡◌, ℕ, ◌+◌, ◌≤◌, ◌∙◌, Bool, true, false, cond, not, List, [], ◌∷◌, Option, Some, None, ap, arith, length, refl, subst, sym, true≢false, inl, inr, option_and_then}
use Rattle.std.specs.Prelude.{count_by, filter}
use Rattle.std.specs.List.{filter_map}
use Rattle.std.proofs.lemmas.Bool.{cases_Bool}
use Rattle.std.proofs.lemmas.List.Elements.{All-contains, All-from_recursion, All-weaker}
use Rattle.std.proofs.lemmas.List.Sums.{sum_by-cons}
use Rattle.desk_exports.specs.Flavours.{each_flavour_once, flavour_of, flavour_words, flavours_in, has_bad_flavour, same_flavour}
use Rattle.desk_exports.specs.declared.options.Keyword.TheVariants as keyword
use Rattle.desk_exports.specs.Laws.{AnswersSayWhat, EntriesAreTheAnswers}
use Rattle.desk_exports.specs.Options.{has_option, value_of}
use Rattle.desk_exports.specs.declared.entry.Flavour.{Flavour}
use Rattle.desk_exports.specs.declared.entry.Flavour.TheVariants.{Sys, Krb5, Krb5i, Krb5p}
use Rattle.desk_policy.specs.Policy.{rows_of}
use Rattle.desk_policy.specs.declared.row.Row.{Row}
use Rattle.desk_policy.proofs.SaidOfLines.{site_holds}
use Rattle.page_findings.specs.Lines.{IsLineOf}
use Rattle.page_findings.specs.UniqueLaws.{HasFewFlavours, ReadLinesHaveFewFlavours}

-- what counts for a test
abbrev tally : Bool → ℕ
tally passes = cond passes 1 0

-- ---- how many of a list pass a test, and of those that another test keeps
module _ {X : Type 0} (test : X → Bool) where
  counted : (x : X) (xs : List X) → count_by test (x ∷ xs) ≡ cond (test x) 1 0 + count_by test xs
  counted x xs = sum_by-cons (λ y. cond (test y) 1 0) x xs

  fewer : (keep : X → Bool) (xs : List X) → count_by test (filter keep xs) ≤ count_by test xs
  fewer keep [] = omega arith
  fewer keep (x ∷ xs) =
      let all = counted x xs in
      let rest = fewer keep xs in
      elim (cases_Bool (keep x)) as (λ _. count_by test (filter keep (x ∷ xs)) ≤ count_by test (x ∷ xs)) [
        | inl kept ↦ subst (λ b. count_by test (cond b (x ∷ filter keep xs) (filter keep xs)) ≤ count_by test (x ∷ xs)) (sym kept) (let some = counted x (filter keep xs) in omega arith)
        | inr left ↦ subst (λ b. count_by test (cond b (x ∷ filter keep xs) (filter keep xs)) ≤ count_by test (x ∷ xs)) (sym left) (omega arith)
      ]

  none : (keep : X → Bool) → ((x : X) → keep x ≡ true → test x ≡ false) → (xs : List X) → count_by test (filter keep xs) ≡ 0
  none keep fails [] = refl
  none keep fails (x ∷ xs) =
      let rest = none keep fails xs in
      elim (cases_Bool (keep x)) as (λ _. count_by test (filter keep (x ∷ xs)) ≡ 0) [
        | inl kept ↦
            let first : count_by test (x ∷ filter keep xs) ≡ 0 + count_by test (filter keep xs) = counted x (filter keep xs) ∙ ap (λ b. cond b 1 0 + count_by test (filter keep xs)) (fails x kept) in
            let zero : count_by test (x ∷ filter keep xs) ≡ 0 = omega arith in
            ap (λ b. count_by test (cond b (x ∷ filter keep xs) (filter keep xs))) kept ∙ zero
        | inr left ↦ ap (λ b. count_by test (cond b (x ∷ filter keep xs) (filter keep xs))) left ∙ rest
      ]

-- ---- each flavour once
abbrev is_of : Flavour → Flavour → Bool
is_of one flavour = same_flavour flavour one

abbrev Many : List Flavour → Type 0
Many flavours = length flavours ≡ count_by (is_of Sys) flavours + count_by (is_of Krb5) flavours + count_by (is_of Krb5i) flavours + count_by (is_of Krb5p) flavours

first_is : (flavour : Flavour) → cond (is_of Sys flavour) 1 0 + cond (is_of Krb5 flavour) 1 0 + cond (is_of Krb5i flavour) 1 0 + cond (is_of Krb5p flavour) 1 0 ≡ 1
first_is Sys = refl
first_is Krb5 = refl
first_is Krb5i = refl
first_is Krb5p = refl

all_kinds : (flavours : List Flavour) → Many flavours
all_kinds [] = refl
all_kinds (flavour ∷ flavours) =
    let rest = all_kinds flavours in
    let one = first_is flavour in
    let a = counted (is_of Sys) flavour flavours in
    let b = counted (is_of Krb5) flavour flavours in
    let c = counted (is_of Krb5i) flavour flavours in
    let d = counted (is_of Krb5p) flavour flavours in
    omega arith

-- a flavour that is one of these is left out with it
left_out : (one flavour other : Flavour) → same_flavour flavour one ≡ true → not (same_flavour other flavour) ≡ true → same_flavour other one ≡ false
left_out Sys Sys Sys is kept = absurd (true≢false (sym kept))
left_out Sys Sys Krb5 is kept = refl
left_out Sys Sys Krb5i is kept = refl
left_out Sys Sys Krb5p is kept = refl
left_out Krb5 Krb5 Sys is kept = refl
left_out Krb5 Krb5 Krb5 is kept = absurd (true≢false (sym kept))
left_out Krb5 Krb5 Krb5i is kept = refl
left_out Krb5 Krb5 Krb5p is kept = refl
left_out Krb5i Krb5i Sys is kept = refl
left_out Krb5i Krb5i Krb5 is kept = refl
left_out Krb5i Krb5i Krb5i is kept = absurd (true≢false (sym kept))
left_out Krb5i Krb5i Krb5p is kept = refl
left_out Krb5p Krb5p Sys is kept = refl
left_out Krb5p Krb5p Krb5 is kept = refl
left_out Krb5p Krb5p Krb5i is kept = refl
left_out Krb5p Krb5p Krb5p is kept = absurd (true≢false (sym kept))
left_out Sys Krb5 other is kept = absurd (true≢false (sym is))
left_out Sys Krb5i other is kept = absurd (true≢false (sym is))
left_out Sys Krb5p other is kept = absurd (true≢false (sym is))
left_out Krb5 Sys other is kept = absurd (true≢false (sym is))
left_out Krb5 Krb5i other is kept = absurd (true≢false (sym is))
left_out Krb5 Krb5p other is kept = absurd (true≢false (sym is))
left_out Krb5i Sys other is kept = absurd (true≢false (sym is))
left_out Krb5i Krb5 other is kept = absurd (true≢false (sym is))
left_out Krb5i Krb5p other is kept = absurd (true≢false (sym is))
left_out Krb5p Sys other is kept = absurd (true≢false (sym is))
left_out Krb5p Krb5 other is kept = absurd (true≢false (sym is))
left_out Krb5p Krb5i other is kept = absurd (true≢false (sym is))

once : (one : Flavour) (flavours : List Flavour) → count_by (is_of one) (each_flavour_once flavours) ≤ 1
once one [] = omega arith
once one (flavour ∷ flavours) =
    let keep : Flavour → Bool = λ other. not (same_flavour other flavour) in
    let others = each_flavour_once flavours in
    let all = counted (is_of one) flavour (filter keep others) in
    let rest = once one flavours in
    elim (cases_Bool (is_of one flavour)) as (λ _. count_by (is_of one) (flavour ∷ filter keep others) ≤ 1) [
      | inl is ↦
          let nothing = none (is_of one) keep (λ other kept. left_out one flavour other is kept) others in
          let first : tally (is_of one flavour) ≡ 1 = ap tally is in
          omega arith
      | inr apart ↦
          let some = fewer (is_of one) keep others in
          let first : tally (is_of one flavour) ≡ 0 = ap tally apart in
          omega arith
    ]

at_most_four : (flavours : List Flavour) → length (each_flavour_once flavours) ≤ 4
at_most_four flavours =
    let all = all_kinds (each_flavour_once flavours) in
    let a = once Sys flavours in
    let b = once Krb5 flavours in
    let c = once Krb5i flavours in
    let d = once Krb5p flavours in
    omega arith

-- ---- the flavours of a line
in_text : (bad : Bool) (text : List ℕ) (flavours : List Flavour) → cond bad None (Some (each_flavour_once (filter_map flavour_of (flavour_words text)))) ≡ Some flavours → length flavours ≤ 4
in_text true text flavours is = absurd (cc)
in_text false text flavours is =
    let same : each_flavour_once (filter_map flavour_of (flavour_words text)) ≡ flavours = cc in
    subst (λ some. length some ≤ 4) same (at_most_four (filter_map flavour_of (flavour_words text)))

by_setting : (has : Bool) (value : Option (List ℕ)) (flavours : List Flavour) → cond has (option_and_then flavours_in value) (Some (Sys ∷ [])) ≡ Some flavours → length flavours ≤ 4
by_setting false value flavours is = (let same : Sys ∷ [] ≡ flavours = cc in subst (λ some. length some ≤ 4) same (omega arith))
by_setting true None flavours is = absurd (cc)
by_setting true (Some text) flavours is = in_text (has_bad_flavour text) text flavours is

pub read_lines_have_few_flavours : AnswersSayWhat → EntriesAreTheAnswers → ReadLinesHaveFewFlavours
read_lines_have_few_flavours said answers texts content is lines are =
    let Few : Row → Type 0 = λ row. length row.entry.terms.flavours ≤ 4 in
    let few = site_holds said answers (λ table fs entry. length entry.terms.flavours ≤ 4)
    (λ tables scope line one what. by_setting (has_option keyword.Sec what.parts.settings) (value_of keyword.Sec what.parts.settings) one.1.terms.flavours what.flavours)
    texts content is in
    All-weaker (IsLineOf content) HasFewFlavours
    (λ line told. All-contains Few (rows_of content line.fs) line.row (All-from_recursion Few (rows_of content line.fs) (few line.fs)) told.has) lines are.each
