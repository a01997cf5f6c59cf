-- The heaviest lines of all that match an address are the selected ones.
use Rattle.std.proofs.Common.{◌≡◌, ◌∙◌, ℕ, ◌+◌, ◌<◌, ◌≤◌, ◌++◌, Bool, true, List, [], ◌∷◌, Option, Some, None, ap, arith, get_or, inl, inr, length, refl, subst, sym, take}
use Rattle.std.specs.Prelude.{filter}
use Rattle.std.specs.List.{All, Contains, list_all}
use Rattle.std.proofs.lemmas.Bool.{and_from, cases_Bool, cond-true, cond-false, eqb-true, le-leb, true≢false}
use Rattle.std.proofs.lemmas.List.{append_assoc, get_or-map, length-map, take_more}
use Rattle.std.proofs.lemmas.List.Elements.{All-contains, All-contains_itself, All-filter, Contains-append_right, filter_passes}
use Rattle.std.proofs.lemmas.List.Folds.{list_any_at}
use Rattle.std.proofs.lemmas.Option.{cond_some}
use Rattle.desk_text.specs.Address.{number_of}
use Rattle.desk_text.specs.AddrSet.{is_among}
use Rattle.desk_text.specs.Network.{covers}
use Rattle.desk_exports.specs.declared.entry.Clients.{Clients}
use Rattle.desk_exports.specs.declared.entry.Clients.TheVariants as clients
use Rattle.desk_policy.specs.Keys.{HasBlock}
use Rattle.desk_policy.specs.Policy.{Content, rows_of}
use Rattle.desk_policy.specs.Weights.{is_at_most, name_weight, selected, weight_by, weight_of}
use Rattle.desk_policy.specs.declared.row.Row.{Row}
use Rattle.desk_index.specs.Keys.{HasNoHostBits, numbers}
use Rattle.desk_index.specs.Lighter.{AreHeaviestBelow, IsHeaviestBelow, is_weight, weighing}
use Rattle.desk_index.specs.declared.lighter.Weighed.{Weighed}
use Rattle.desk_idle.specs.Selections.{IsSelection, addresses_of}
use Rattle.desk_idle.specs.declared.selections.Selection.{Selection}
use Rattle.desk_idle.proofs.Bringing.{selected_has}
use Rattle.desk_idle.proofs.Lists.{in_middle}
use Rattle.desk_idle.proofs.Looks.{first_or}
use Rattle.desk_idle.proofs.OneKey.{weighs}
use Rattle.desk_idle.proofs.Removal.{selected-some}

-- ---- lists

pub filter_has : {X : Type 0} (p : X → Bool) (xs : List X) (x : X) → Contains xs x → p x ≡ true → Contains (filter p xs) x
filter_has p [] x has passes = absurd (let b = has.1 in omega arith)
filter_has {X = X} p (y ∷ ys) x has passes =
    elim (first_or y ys x has) [
      | inl here ↦
          subst (λ (zs : List X). Contains zs x) (sym (cond-true (p y) (y ∷ filter p ys) (filter p ys) (ap p here ∙ passes)))
          (subst (λ (z : X). Contains (z ∷ filter p ys) x) (sym here) (in_middle [] x (filter p ys)))
      | inr later ↦
          let rest = filter_has p ys x later passes in
          elim (cases_Bool (p y)) [
            | inl first ↦ subst (λ (zs : List X). Contains zs x) (sym (cond-true (p y) (y ∷ filter p ys) (filter p ys) first)) (Contains-append_right (y ∷ []) (filter p ys) x rest)
            | inr later_on ↦ subst (λ (zs : List X). Contains zs x) (sym (cond-false (p y) (y ∷ filter p ys) (filter p ys) later_on)) rest
          ]
    ]

pub filter_from : {X : Type 0} (p : X → Bool) (xs : List X) (x : X) → Contains (filter p xs) x → Contains xs x × (p x ≡ true)
filter_from p xs x has = (All-contains (Contains xs) (filter p xs) x (All-filter p (Contains xs) xs (All-contains_itself xs)) has, All-contains (λ y. p y ≡ true) (filter p xs) x (filter_passes p xs) has)

-- what has no element is empty
pub none_has : {X : Type 0} (xs : List X) → ((x : X) → Contains xs x → ⊥) → xs ≡ []
none_has [] h = refl
none_has (x ∷ xs) h = absurd (h x (0, omega arith, refl))

-- ---- weights

some_same : (a b : ℕ) → Some a ≡ Some b → a ≡ b
some_same a b e = cc

pub few_by : (who : Clients) (addresses : List ℕ) (address own : ℕ) → HasBlock who → weight_by who addresses address ≡ Some own → own < 35
few_by (clients.Hosts names) addresses address own block e = let s = cond_some (is_among address addresses) name_weight own e in let same : 34 ≡ own = s.1 in omega arith
few_by (clients.Net net noted) addresses address own block e = let s = cond_some (covers net address) (net.prefix + 1) own e in let same = s.1 in let few = block.prefix in omega arith
few_by (clients.Net6 value) addresses address own block e = let wrong : None ≡ Some own = e in cc
few_by clients.World addresses address own block e = let same : 0 ≡ own = some_same 0 own e in omega arith

pub weight_is : (o : Option ℕ) (weight : ℕ) → is_weight weight o ≡ true → o ≡ Some weight
weight_is None weight e = absurd (true≢false (sym e))
weight_is (Some own) weight e = ap (λ (n : ℕ). Some n) (eqb-true own weight e)

module _ (rows : List Row) (address : ℕ) (greatest : ℕ) (most : (row : Row) (own : ℕ) → Contains rows row → weight_of row address ≡ Some own → own ≤ greatest) where
  pub at_most_all : (rs before : List Row) → before ++ rs ≡ rows → list_all (λ (other : Row). is_at_most (weight_of other address) greatest) rs ≡ true
  at_most_all [] before e = refl
  at_most_all (r ∷ rs) before e =
      let has : Contains rows r = subst (λ (xs : List Row). Contains xs r) e (in_middle before r rs) in
      and_from _ _ (at_most_by (weight_of r address) (λ own is. most r own has is)) (at_most_all rs (before ++ r ∷ []) (append_assoc before (r ∷ []) rs ∙ e))
    where
      at_most_by : (o : Option ℕ) → ((own : ℕ) → o ≡ Some own → own ≤ greatest) → is_at_most o greatest ≡ true
      at_most_by None few = refl
      at_most_by (Some own) few = le-leb own greatest (few own refl)

-- some line has one of these numbers
pub some_numbered : (rs : List Row) (lines : List ℕ) → lines ≡ numbers rs → 0 < length lines → (row : Row) × Contains rs row
some_numbered [] lines e some = absurd (let few = ap length e in omega arith)
some_numbered (row ∷ rs) lines e some = (row, (0, omega arith, refl))

-- the heaviest lines of all are the selected ones
module _ (rows : List Row) (address : ℕ) (blocks : All (λ (row : Row). HasBlock row.entry.clients) rows) where
  pub few : (row : Row) (own : ℕ) → Contains rows row → weight_of row address ≡ Some own → own < 35
  few row own has weighs = few_by row.entry.clients row.addrs address own (All-contains (λ (r : Row). HasBlock r.entry.clients) rows row blocks has) weighs

  pub none_selected : AreHeaviestBelow rows address 35 None → selected rows address ≡ []
  none_selected none = none_has (selected rows address) (λ row chosen.
      let w = weighs rows address row chosen in
      let has = selected_has rows address row chosen in
      none row w.weight has w.is (few row w.weight has w.is))

  module _ (group : Weighed) (is : IsHeaviestBelow rows address 35 group) where
    pub none_heavier : (row : Row) (own : ℕ) → Contains rows row → weight_of row address ≡ Some own → own ≤ group.weight
    none_heavier row own has weighs = is.most row own has weighs (few row own has weighs)

    pub are_selected : selected rows address ≡ weighing rows address group.weight
    are_selected =
        let one = some_numbered (weighing rows address group.weight) group.lines.now is.lines is.some in
        let own = filter_from (λ (r : Row). is_weight group.weight (weight_of r address)) rows one.0 one.1 in
        selected-some rows address group.weight
        (list_any_at (λ (r : Row). is_weight group.weight (weight_of r address)) rows own.0.0 one.0 own.0.1 (ap (λ (r : Row). is_weight group.weight (weight_of r address)) own.0.2 ∙ own.1))
        (at_most_all rows address group.weight none_heavier rows [] refl)

    pub all_weigh : (row : Row) → Contains (selected rows address) row → weight_of row address ≡ Some group.weight
    all_weigh row chosen =
        let own = filter_from (λ (r : Row). is_weight group.weight (weight_of r address)) rows row (subst (λ (rs : List Row). Contains rs row) are_selected chosen) in
        weight_is (weight_of row address) group.weight own.1

    pub are_numbers : group.lines.now ≡ numbers (selected rows address)
    are_numbers = is.lines ∙ ap numbers (sym are_selected)

-- ---- what is selected at an address

-- no network of the lines has a host bit set
pub own_blocks : (content own : Content) (fs : ℕ) → content ≡ own → HasNoHostBits content → All (λ (row : Row). HasBlock row.entry.clients) (rows_of own fs)
own_blocks content own fs same blocks = subst (λ (c : Content). All (λ (row : Row). HasBlock row.entry.clients) (rows_of c fs)) same (blocks fs)

module _ (rows : List Row) (blocks : All (λ (row : Row). HasBlock row.entry.clients) rows) (selection : Selection) (is : IsSelection rows selection) where
  abbrev address : ℕ
  address = number_of selection.address

  pub none_there : selection.group ≡ None → selected rows address ≡ []
  none_there none = none_selected rows address blocks (subst (AreHeaviestBelow rows address 35) none is)

  module _ (group : Weighed) (some : selection.group ≡ Some group) where
    pub heaviest_there : IsHeaviestBelow rows address 35 group
    heaviest_there = subst (AreHeaviestBelow rows address 35) some is

    pub lines_there : group.lines.now ≡ numbers (selected rows address)
    lines_there = are_numbers rows address blocks group heaviest_there

-- one more address
pub next_address : (selections : List Selection) (i : ℕ) (d : Selection) → i < length selections
    → take (i + 1) (addresses_of selections) ≡ take i (addresses_of selections) ++ number_of (get_or selections i d).address ∷ []
next_address selections i d within =
    let few : length (addresses_of selections) ≡ length selections = length-map selections (λ (s : Selection). number_of s.address) in
    take_more (addresses_of selections) i 0 (omega arith) ∙ ap (λ (n : ℕ). take i (addresses_of selections) ++ n ∷ []) (get_or-map (λ (s : Selection). number_of s.address) selections i d 0 within)

pub at_next : (P : List ℕ → Type 0) (selections : List Selection) (i : ℕ) (d : Selection) → i < length selections
    → P (take i (addresses_of selections) ++ number_of (get_or selections i d).address ∷ []) → P (take (i + 1) (addresses_of selections))
at_next P selections i d within h = subst P (sym (next_address selections i d within)) h
