-- The lines that mountd asks, and those that are selected among them.
use Rattle.std.proofs.Common.{◌≡◌, ◌∙◌, ℕ, ◌<◌, ◌≤◌, ◌&&◌, Bool, true, false, ltb, List, [], ◌∷◌, Option, Some, None, IsSome, ap, arith, inl, inr, refl, sym}
use Rattle.std.specs.Prelude.{filter, not, slice_get}
use Rattle.std.specs.List.{Contains, list_all, list_any}
use Rattle.std.specs.Option.{option_map}
use Rattle.std.proofs.lemmas.Bool.{and_right, cases_lt, eq-eqb, eqb-true, le-ltb, leb-true, lt-ltb, not_from_false, true≢false}
use Rattle.std.proofs.lemmas.List.Elements.{filter_agree}
use Rattle.std.proofs.lemmas.List.Folds.{list_any_at}
use Rattle.desk_policy.specs.PrivateWeights.{IsGreatest, has_weight, is_same_weight}
use Rattle.desk_policy.specs.Weights.{is_at_most, selected, weight_of}
use Rattle.desk_policy.specs.declared.row.Row.{Row}
use Rattle.desk_policy.proofs.GreatestWeight.{filter_none, list_all-weaker, selected-some}
use Rattle.desk_idle.proofs.Bringing.{selected_has}
use Rattle.desk_idle.proofs.Matching.{some_first}
use Rattle.desk_idle.proofs.OneKey as one_key
use Rattle.desk_server.specs.Server.{asked, for_everybody, granting, is_everybody, is_named, named, or_others}
use Rattle.desk_server.proofs.Lists.{all_kept, filter-filter, kept_has, no_element, passing}

-- ---- those that name the client, or those for everybody

pub asked_is : (rows : List Row) (address : ℕ) → asked rows address ≡ or_others (named rows address) (for_everybody rows address)
unfolding asked
asked_is rows address = refl

some_of : (rows others : List Row) (row : Row) → Contains rows row → or_others rows others ≡ rows
some_of [] others row has = absurd (no_element row has)
some_of (first ∷ rows) others row has = refl

-- if a line names the client, those are asked that do
pub asked_named : (rows : List Row) (address : ℕ) (row : Row) → Contains rows row → is_named (weight_of row address) ≡ true → asked rows address ≡ named rows address
asked_named rows address row has names =
    asked_is rows address ∙ some_of (named rows address) (for_everybody rows address) row (kept_has (λ (other : Row). is_named (weight_of other address)) rows row has names)

-- if none does, those for everybody are
pub asked_everybody : (rows : List Row) (address : ℕ) → named rows address ≡ [] → asked rows address ≡ for_everybody rows address
asked_everybody rows address none = asked_is rows address ∙ ap (λ (ns : List Row). or_others ns (for_everybody rows address)) none

-- ---- by the greatest weight

named_if : (o : Option ℕ) (weight : ℕ) → 0 < weight → is_same_weight o weight ≡ true → is_named o ≡ true
named_if None weight above e = absurd (true≢false (sym e))
named_if (Some own) weight above e = lt-ltb 0 own (let s = eqb-true own weight e in omega arith)

not_named : (o : Option ℕ) (weight : ℕ) → weight ≤ 0 → is_at_most o weight ≡ true → not (is_named o) ≡ true
not_named None weight zero e = refl
not_named (Some own) weight zero e = not_from_false (ltb 0 own) (le-ltb 0 own (let s = leb-true own weight e in omega arith))

everybody_if : (o : Option ℕ) (weight : ℕ) → weight ≤ 0 → is_same_weight o weight ≡ true → is_everybody o ≡ true
everybody_if None weight zero e = absurd (true≢false (sym e))
everybody_if (Some own) weight zero e = eq-eqb own 0 (let s = eqb-true own weight e in omega arith)

-- mountd asks all lines of this weight
record AsksAll (rows : List Row) (address weight : ℕ) : Type 0 where
  passes : Row → Bool
  are : asked rows address ≡ filter passes rows
  all : (row : Row) → has_weight address weight row ≡ true → passes row ≡ true

-- so it does if no line has a greater one
asks_all : (rows : List Row) (address weight : ℕ) → IsGreatest rows address (Some weight) → AsksAll rows address weight
asks_all rows address weight greatest =
    elim (cases_lt 0 weight) [
      | inl above ↦
          let some = passing (has_weight address weight) rows greatest.0 in
          record {
            passes = λ row. is_named (weight_of row address);
            are = asked_named rows address some.0 some.1 (named_if (weight_of some.0 address) weight above some.2);
            all = λ row e. named_if (weight_of row address) weight above e;
          }
      | inr zero ↦ record {
        passes = λ row. is_everybody (weight_of row address);
        are = asked_everybody rows address
            (filter_none (λ (row : Row). is_named (weight_of row address)) rows
            (list_all-weaker (λ (row : Row). is_at_most (weight_of row address) weight) (λ (row : Row). not (is_named (weight_of row address))) (λ row e. not_named (weight_of row address) weight zero e) rows greatest.1));
        all = λ row e. everybody_if (weight_of row address) weight zero e;
      }
    ]

-- ---- the selected lines

-- a line is one of the heaviest
record Heaviest (rows : List Row) (address : ℕ) (row : Row) : Type 0 where
  weight : ℕ
  has : Contains rows row
  heavy : has_weight address weight row ≡ true
  greatest : IsGreatest rows address (Some weight)

heaviest : (rows : List Row) (address : ℕ) (row : Row) → Contains (selected rows address) row → Heaviest rows address row
heaviest rows address row chosen =
    let w = one_key.weighs rows address row chosen in
    let has = selected_has rows address row chosen in
    let heavy : has_weight address w.weight row ≡ true = ap (λ o. is_same_weight o w.weight) w.is ∙ eq-eqb w.weight w.weight refl in
    record {
      weight = w.weight;
      has = has;
      heavy = heavy;
      greatest = (list_any_at (has_weight address w.weight) rows has.0 row has.1 (ap (has_weight address w.weight) has.2 ∙ heavy), w.most);
    }

both : (p l h : Bool) → (h ≡ true → p ≡ true) → (p && (l && h)) ≡ (h && l)
both p true true all = ap (λ b. b && true) (all refl)
both p false true all = and_right p false refl
both p true false all = and_right p false refl
both p false false all = and_right p false refl

-- If a selected line passes a test, those that pass it are the heaviest that mountd asks and that pass it.
pub granting_is : (listing : Row → Bool) (rows : List Row) (address : ℕ) (row : Row) → Contains (selected rows address) row → listing row ≡ true
    → granting listing rows address ≡ filter listing (selected rows address)
granting_is listing rows address row chosen passes =
    let w = heaviest rows address row chosen in
    let a = asks_all rows address w.weight w.greatest in
    let heavy : Row → Bool = has_weight address w.weight in
    let few : Row → Bool = λ other. is_at_most (weight_of other address) w.weight in
    let has = kept_has listing (filter a.passes rows) row (kept_has a.passes rows row w.has (a.all row w.heavy)) passes in
    let some : list_any heavy (filter listing (filter a.passes rows)) ≡ true = list_any_at heavy (filter listing (filter a.passes rows)) has.0 row has.1 (ap heavy has.2 ∙ w.heavy) in
    let most : list_all few (filter listing (filter a.passes rows)) ≡ true = all_kept few listing (filter a.passes rows) (all_kept few a.passes rows w.greatest.1) in
    ap (λ (ys : List Row). selected (filter listing ys) address) a.are
    ∙ selected-some (filter listing (filter a.passes rows)) address w.weight (some, most)
    ∙ filter-filter heavy listing (filter a.passes rows)
    ∙ filter-filter (λ x. listing x && heavy x) a.passes rows
    ∙ filter_agree (λ x. a.passes x && (listing x && heavy x)) (λ x. heavy x && listing x) (λ x. both (a.passes x) (listing x) (heavy x) (a.all x)) rows
    ∙ sym (filter-filter listing heavy rows)
    ∙ sym (ap (filter listing) (selected-some rows address w.weight w.greatest))

-- where a line matches, one is selected
pub selects : (rows : List Row) (row : Row) (address : ℕ) → Contains rows row → IsSome (weight_of row address) → selected rows address ≡ [] → ⊥
selects rows row address has some none = some_first rows row address has some (ap (λ (ys : List Row). option_map (λ (other : Row). other.entry.line) (slice_get ys 0)) none)
