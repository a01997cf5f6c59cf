-- The lines that match an address with one weight are those under one key.
use Rattle.std.proofs.Common.{◌≡◌, ◌∙◌, ℕ, zero, suc, ◌+◌, ◌<◌, ◌≤◌, ◌^◌, Bool, true, Bor, cond, filter, get_or, length, List, [], ◌∷◌, Option, Some, None, IfSome, IsSome, ap, arith, inl, inr, refl, subst, sym}
use Rattle.std.specs.List.{All, Contains}
use Rattle.std.specs.Option.{is_some, option_copied}
use Rattle.std.proofs.lemmas.Bool.{cases_Bool, cases_lt, cases_order, cond-false, cond-true, eq-eqb, eqb-true, false_from_ne_true, true≢false}
use Rattle.std.proofs.lemmas.List.{get_or_default}
use Rattle.std.proofs.lemmas.List.Elements.{All-contains, All-head, All-tail}
use Rattle.desk_tables.specs.declared.filesystems.FsId.{FsId}
use Rattle.desk_policy.specs.Keys.{HasBlock, IsLineKey, LineKey, has_key}
use Rattle.desk_policy.specs.Keys as lines
use Rattle.desk_policy.specs.Policy.{Content, rows_of}
use Rattle.desk_policy.specs.Weights.{weight_of}
use Rattle.desk_policy.specs.declared.row.Row.{Row}
use Rattle.desk_policy.proofs.ByKeys.{key_is, key_of, weight_from}
use Rattle.desk_index.specs.Keys.{AreUnderOneKey, AreWeights, HasNoHostBits, key_weight, line_key, lines_under, lines_with, listed, numbers}
use Rattle.desk_index.specs.Lighter.{AreHeaviestBelow, IsHeaviestBelow, is_weight, weighing}
use Rattle.desk_index.specs.declared.keys.Key.{Key}
use Rattle.desk_index.specs.declared.lighter.Weighed.{Weighed}
use Rattle.desk_index.proofs.SelectedLines.{here, key_at, line_key_at, listed_is, of_fs, weight_at}

-- ---- lists

filter_agree : {X : Type 0} (p q : X → Bool) (xs : List X) → All (λ x. p x ≡ q x) xs → filter p xs ≡ filter q xs
filter_agree p q [] h = refl
filter_agree p q (x ∷ xs) h =
    ap (λ b. cond b (x ∷ filter p xs) (filter p xs)) (All-head (λ y. p y ≡ q y) x xs h) ∙ ap (λ ys. cond (q x) (x ∷ ys) ys) (filter_agree p q xs (All-tail (λ y. p y ≡ q y) x xs h))

-- where nothing is kept, nothing passes
pub none_kept : {X : Type 0} (q : X → Bool) (xs : List X) (k : ℕ) (d : X) → k < length xs → q (get_or xs k d) ≡ true → filter q xs ≡ [] → ⊥
none_kept q [] k d l t e = omega arith
none_kept q (x ∷ xs) zero d l t e = (let wrong : (x ∷ filter q xs) ≡ [] = sym (cond-true (q x) (x ∷ filter q xs) (filter q xs) t) ∙ e in cc)
none_kept q (x ∷ xs) (suc k) d l t e =
    elim (cases_Bool (q x)) [
      | inl here ↦ (let wrong : (x ∷ filter q xs) ≡ [] = sym (cond-true (q x) (x ∷ filter q xs) (filter q xs) here) ∙ e in cc)
      | inr not ↦ none_kept q xs k d (omega arith) t (sym (cond-false (q x) (x ∷ filter q xs) (filter q xs) not) ∙ e)
    ]

pub no_lines : (rows : List Row) → listed (numbers rows) ≡ None → rows ≡ []
no_lines [] e = refl
no_lines (row ∷ rows) e = cc

some_lines : (lines found : List ℕ) → Some found ≡ listed lines → 0 < length found
some_lines [] found e = cc
some_lines (line ∷ lines) found e = (let same : found ≡ line ∷ lines = cc in let l = ap length same in omega arith)

-- ---- weights

pub weight_is : (weight : ℕ) (o : Option ℕ) → is_weight weight o ≡ true → o ≡ Some weight
weight_is weight None e = absurd (true≢false (sym e))
weight_is weight (Some own) e = ap (λ (n : ℕ). Some n) (eqb-true own weight e)

pub is_that_weight : (weight : ℕ) (o : Option ℕ) → o ≡ Some weight → is_weight weight o ≡ true
is_that_weight weight o e = ap (is_weight weight) e ∙ eq-eqb weight weight refl

module _ (address : ℕ) (small : address < 2 ^ 32) (key : LineKey) (weight : ℕ) (ok : IsLineKey key) (matches : lines.key_weight address key ≡ Some weight) where
  -- a line weighs as the key exactly if it has the key
  weighs_with_key : (row : Row) → HasBlock row.entry.clients → has_key key row ≡ is_weight weight (weight_of row address)
  weighs_with_key row block =
      elim (cases_Bool (has_key key row)) [
        | inl t ↦ t ∙ sym (is_that_weight weight (weight_of row address) (weight_from address row.entry.clients row.addrs key weight t matches))
        | inr f ↦ f ∙ sym (false_from_ne_true (is_weight weight (weight_of row address)) (λ w.
            let found = key_of address row.entry.clients row.addrs weight small block (weight_is weight (weight_of row address) w) in
            let one : found.0 ≡ key = key_is address found.0 weight found.1 found.3 ∙ sym (key_is address key weight ok matches) in
            true≢false (sym (ap (λ k. has_key k row) (sym one) ∙ found.2) ∙ f)))
      ]

  -- so the lines that have the key are those that match with its weight
  pub weighing_by_key : (rows : List Row) → All (λ row. HasBlock row.entry.clients) rows → filter (has_key key) rows ≡ weighing rows address weight
  weighing_by_key rows blocks = filter_agree (has_key key) (λ row. is_weight weight (weight_of row address)) rows (λ k d l. weighs_with_key (get_or rows k d) (blocks k d l))

-- no line matches with one of the first so many weights that is below the bound
abbrev pub NoneWeighing : List Row → ℕ → ℕ → List ℕ → ℕ → Type 0
NoneWeighing rows address below weights count = (k d : ℕ) → k < count → get_or weights k d < below → weighing rows address (get_or weights k d) ≡ []

pub none_more : (rows : List Row) (address below : ℕ) (weights : List ℕ) (i : ℕ) → i < length weights → NoneWeighing rows address below weights i
    → ((d : ℕ) → get_or weights i d < below → weighing rows address (get_or weights i d) ≡ []) → NoneWeighing rows address below weights (i + 1)
none_more rows address below weights i inside none gone k d less small_one =
    elim (cases_lt k i) [
      | inl lt ↦ none k d lt small_one
      | inr ge ↦
          let same : k ≡ i = omega arith in
          let at = ap (λ n. get_or weights n d) same in
          ap (λ n. weighing rows address n) at ∙ gone d (subst (λ n. n < below) at small_one)
    ]

-- ---- the lines under the key of a weight

module _ (content : Content) (fs : FsId) (address : ℕ) (small : address < 2 ^ 32) (blocks : HasNoHostBits content) where
  abbrev rows : List Row
  rows = rows_of content fs.0

  pub lines_weighing : (key : Key) (weight : ℕ) → IsLineKey (line_key key) → key_weight fs.0 address key ≡ Some weight → lines_under content key ≡ listed (numbers (weighing (rows_of content fs.0) address weight))
  lines_weighing key weight ok matches =
      let of = of_fs content fs address key weight matches in
      here content fs address key of.0 ∙ ap (λ (rs : List Row). listed (numbers rs)) (weighing_by_key address small (line_key key) weight ok of.1 rows (blocks fs.0))

  pub under_key : (key : Key) (weight : ℕ) → key_weight fs.0 address key ≡ Some weight → (found : Option (Bor (List ℕ))) → option_copied found ≡ lines_under content key
      → IfSome found (λ row. AreUnderOneKey (rows_of content fs.0) row.now)
  under_key key weight matches None e = tt
  under_key key weight matches (Some row) e =
      let of = of_fs content fs address key weight matches in
      record { key = line_key key; all = sym (listed_is (lines_with rows (line_key key)) row.now (sym (e ∙ here content fs address key of.0))) }

  module _ (weights : List ℕ) (are : AreWeights (lines_under content) fs.0 weights) where
    -- the weight of each line that matches is among the weights
    weight_there : (row : Row) (own : ℕ) → Contains (rows_of content fs.0) row → weight_of row address ≡ Some own → Contains weights own
    weight_there row own has e =
        let found = key_of address row.entry.clients row.addrs own small (All-contains (λ (r : Row). HasBlock r.entry.clients) rows row (blocks fs.0) has) e in
        let key = key_at fs found.0 in
        let ok : IsLineKey (line_key key) = subst IsLineKey (sym (line_key_at fs found.0)) found.1 in
        let matches : key_weight fs.0 address key ≡ Some own = weight_at fs address found.0 ∙ found.3 in
        are.all key address own ok (is_there (weighing rows address own) (lines_under content key) (lines_weighing key own ok matches)
        (λ none. none_kept (λ (r : Row). is_weight own (weight_of r address)) rows has.0 row has.1 (ap (λ (r : Row). is_weight own (weight_of r address)) has.2 ∙ is_that_weight own (weight_of row address) e) none)) matches
      where
        is_there : (chosen : List Row) (o : Option (List ℕ)) → o ≡ listed (numbers chosen) → (chosen ≡ [] → ⊥) → IsSome o
        is_there [] o e some = absurd (some refl)
        is_there (row ∷ chosen) o e some = ap is_some e

    module _ (below : ℕ) where
      abbrev NoneSoFar : ℕ → Type 0
      NoneSoFar count = NoneWeighing (rows_of content fs.0) address below weights count

      -- a line whose weight is below the bound is behind these
      not_before : (i : ℕ) → NoneSoFar i → (row : Row) (own : ℕ) → Contains (rows_of content fs.0) row → weight_of row address ≡ Some own → own < below → (j : ℕ) → get_or weights j own ≡ own → j < i → ⊥
      not_before i none row own has e less j at lt =
          none_kept (λ (r : Row). is_weight own (weight_of r address)) rows has.0 row has.1 (ap (λ (r : Row). is_weight own (weight_of r address)) has.2 ∙ is_that_weight own (weight_of row address) e)
          (ap (λ n. weighing rows address n) (sym at) ∙ none j own lt (subst (λ n. n < below) (sym at) less))

      pub heaviest_below : (i : ℕ) (found : Weighed) → NoneSoFar i → i < length weights → get_or weights i found.weight ≡ found.weight → found.weight < below
          → Some found.lines.now ≡ listed (numbers (weighing (rows_of content fs.0) address found.weight)) → IsHeaviestBelow (rows_of content fs.0) address below found
      heaviest_below i found none inside at less lines = record {
        weight = less;
        lines = sym (listed_is (numbers (weighing rows address found.weight)) found.lines.now (sym lines));
        some = some_lines (numbers (weighing rows address found.weight)) found.lines.now lines;
        most = λ row own has e own_less.
            let place = weight_there row own has e in
            elim (cases_order place.0 i) [
              | inl same ↦ (let s : own ≡ found.weight = sym place.2 ∙ ap (λ n. get_or weights n own) same ∙ get_or_default weights i own found.weight inside ∙ at in omega arith)
              | inr s ↦ elim s [
                | inl lt ↦ absurd (not_before i none row own has e own_less place.0 place.2 lt)
                | inr gt ↦
                    let down = are.descending i place.0 own gt place.1 in
                    let first = get_or_default weights i own found.weight inside ∙ at in
                    let own' = place.2 in
                    omega arith
              ]
            ];
      }

      pub nothing_below : (i : ℕ) → NoneSoFar i → length weights ≤ i → AreHeaviestBelow (rows_of content fs.0) address below None
      nothing_below i none past row own has e own_less =
          let place = weight_there row own has e in
          not_before i none row own has e own_less place.0 place.2 (let b = place.1 in omega arith)
