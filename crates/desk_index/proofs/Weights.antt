-- The weights of the keys that have lines.
use Rattle.std.proofs.Common.{◌≡◌, ℕ, ◌+◌, ◌<◌, ◌≤◌, true, false, eqb, get_or, length, not, List, [], ◌∷◌, Option, Some, None, IsSome, sym, ◌∙◌, ap, subst, refl, inl, inr, arith}
use Rattle.std.specs.Prelude.{slice_get}
use Rattle.std.specs.List.{All, AllPairs, Contains}
use Rattle.std.specs.Option.{is_some}
use Rattle.std.proofs.lemmas.Bool.{cases_Bool, cases_order, cond_both, eqb-true}
use Rattle.std.proofs.lemmas.List.{get_or_past}
use Rattle.std.proofs.lemmas.Option.{slice_get-get_or}
use Rattle.desk_text.specs.Address.{number_of}
use Rattle.desk_text.specs.Network.{covers}
use Rattle.desk_policy.specs.Keys.{IsLineKey, LineKey, least_of}
use Rattle.desk_policy.specs.Keys as lines
use Rattle.desk_policy.specs.Policy.{Content, rows_of}
use Rattle.desk_policy.specs.declared.row.Row.{Row}
use Rattle.desk_index.specs.Keys.{AreWeights, fs_of_key, key_weight, line_key, lines_under, lines_with, listed}
use Rattle.desk_index.specs.PrivateKeyed.{KeepsRows, has_keys, slot_of}
use Rattle.desk_index.specs.PrivateSlot.{Keeps, is_among, is_empty}
use Rattle.desk_index.specs.declared.keyed.Keyed.{Keyed}
use Rattle.desk_index.specs.declared.keys.Key.{Key}
use Rattle.desk_index.specs.declared.keys.Key.TheVariants as keys
use Rattle.desk_index.specs.declared.slot.Slot.{Slot}

-- ---- the list of weights

-- the weights from one on whose slots have keys
pub record UsedSoFar (weights : List ℕ) (slots : List Slot) (from : ℕ) : Type 0 where
  pub below : All (λ weight. weight < 35) weights
  pub behind : All (λ weight. from ≤ weight) weights
  pub descending : AllPairs (λ one later. later < one) weights
  pub all : (weight : ℕ) → from ≤ weight → weight < 35 → has_keys (slice_get slots weight) ≡ true → Contains weights weight

-- ---- the weights of keys that have lines

-- a key that matches has the weight of its slot, and is of the file system
pub record OwnSlot (fs weight : ℕ) (key : Key) : Type 0 where
  pub here : (fs_of_key key).0 ≡ fs
  pub slot : weight ≡ slot_of (line_key key)
  pub small : weight < 35

own_slot : (fs address : ℕ) (key : Key) → IsLineKey (line_key key) → (weight : ℕ) → key_weight fs address key ≡ Some weight → OwnSlot fs weight key
own_slot fs address (keys.Host of host) ok =
    let P : Option ℕ → Type 0 = λ o. (weight : ℕ) → o ≡ Some weight → OwnSlot fs weight (keys.Host of host) in
    cond_both (eqb of.0 fs) (lines.key_weight address (lines.Host (number_of host))) None P
    (λ t. cond_both (eqb (number_of host) address) (Some 34) None P
    (λ _ weight is. let same : 34 ≡ weight = (let f : Some 34 ≡ Some weight = is in cc) in record { here = eqb-true of.0 fs t; slot = sym same; small = omega arith })
    (λ _ weight is. let wrong : None ≡ Some weight = is in cc))
    (λ _ weight is. let wrong : None ≡ Some weight = is in cc)
own_slot fs address (keys.Net of net) ok =
    let P : Option ℕ → Type 0 = λ o. (weight : ℕ) → o ≡ Some weight → OwnSlot fs weight (keys.Net of net) in
    cond_both (eqb of.0 fs) (lines.key_weight address (lines.Network net)) None P
    (λ t. cond_both (covers net address) (Some (net.prefix + 1)) None P
    (λ _ weight is. let same : net.prefix + 1 ≡ weight = (let f : Some (net.prefix + 1) ≡ Some weight = is in cc) in record { here = eqb-true of.0 fs t; slot = sym same; small = omega (arith, ok.prefix) })
    (λ _ weight is. let wrong : None ≡ Some weight = is in cc))
    (λ _ weight is. let wrong : None ≡ Some weight = is in cc)
own_slot fs address (keys.World of) ok =
    let P : Option ℕ → Type 0 = λ o. (weight : ℕ) → o ≡ Some weight → OwnSlot fs weight (keys.World of) in
    cond_both (eqb of.0 fs) (Some 0) None P
    (λ t weight is. let same : 0 ≡ weight = (let f : Some 0 ≡ Some weight = is in cc) in record { here = eqb-true of.0 fs t; slot = sym same; small = omega arith })
    (λ _ weight is. let wrong : None ≡ Some weight = is in cc)

none_some : {X : Type 0} (o : Option X) → IsSome o → o ≡ None → {B : Type 0} → B
none_some o some none = absurd (let e : true ≡ false = sym some ∙ ap is_some none in cc)

none_among : (key : ℕ) (found : List ℕ) → eqb (length found) 0 ≡ true → is_among key found ≡ false
none_among key [] e = refl
none_among key (other ∷ found) e = absurd (let zero = eqb-true (length (other ∷ found)) 0 e in omega arith)

-- a slot without keys has no lines
no_lines : (keyed : Keyed) (rows : List Row) → KeepsRows keyed rows → (key : LineKey) → IsLineKey key → slot_of key < 35 → (slot : Slot) → slice_get keyed.slots.items (slot_of key) ≡ Some slot → is_empty slot ≡ true → listed (lines_with rows key) ≡ None
no_lines keyed rows keeps key ok small slot at empty =
    let place = slot_of key in
    let held = keeps.slots.keeps place slot (omega (arith, keeps.gathered.each)) in
    let own : Keeps slot (get_or keeps.lists place []) = subst (λ (s : Slot). Keeps s (get_or keeps.lists place [])) (let same : get_or keyed.slots.items place slot ≡ slot = is_at keyed.slots.items place slot at in same) held in
    ap listed (sym (keeps.gathered.lines key ok) ∙ own.all (least_of key) (none_among (least_of key) slot.keys.items empty))
  where
    is_at : (slots : List Slot) (place : ℕ) (slot : Slot) → slice_get slots place ≡ Some slot → get_or slots place slot ≡ slot
    is_at slots place slot e =
        elim (cases_order place (length slots)) [
          | inl same ↦ get_or_past slots place slot (omega arith)
          | inr s ↦ elim s [
            | inl less ↦ (let f : Some (get_or slots place slot) ≡ Some slot = sym (slice_get-get_or slots place slot less) ∙ e in cc)
            | inr more ↦ get_or_past slots place slot (omega arith)
          ]
        ]

-- a key with lines has a slot with keys
has_slot : (keyed : Keyed) (rows : List Row) → KeepsRows keyed rows → (key : LineKey) → IsLineKey key → slot_of key < 35 → IsSome (listed (lines_with rows key)) → (o : Option Slot) → slice_get keyed.slots.items (slot_of key) ≡ o → has_keys (slice_get keyed.slots.items (slot_of key)) ≡ true
has_slot keyed rows keeps key ok small some None e = absurd (past e)
  where
    some_slot : (slots : List Slot) (place : ℕ) → place < length slots → Slot
    some_slot [] place l = absurd (omega arith)
    some_slot (slot ∷ slots) place l = slot

    past : slice_get keyed.slots.items (slot_of key) ≡ None → ⊥
    past none =
        let inside : slot_of key < length keyed.slots.items = (let a = keeps.slots.each in let b = keeps.gathered.each in omega arith) in
        let d = some_slot keyed.slots.items (slot_of key) inside in
        (let wrong : Some (get_or keyed.slots.items (slot_of key) d) ≡ None = sym (slice_get-get_or keyed.slots.items (slot_of key) d inside) ∙ none in cc)
has_slot keyed rows keeps key ok small some (Some slot) e =
    elim (cases_Bool (is_empty slot)) [
      | inl empty ↦ none_some (listed (lines_with rows key)) some (no_lines keyed rows keeps key ok small slot e empty)
      | inr not_empty ↦ ap has_keys e ∙ ap not not_empty
    ]

pub used_weights : (content : Content) (fs : ℕ) (keyed : Keyed) → KeepsRows keyed (rows_of content fs) → AreWeights (lines_under content) fs keyed.weights.items
unfolding lines_under
used_weights content fs keyed keeps = record {
  below = keeps.weights.below;
  descending = keeps.weights.descending;
  all = λ key address weight ok some e.
      let own = own_slot fs address key ok weight e in
      let there : IsSome (listed (lines_with (rows_of content fs) (line_key key))) = subst (λ (n : ℕ). IsSome (listed (lines_with (rows_of content n) (line_key key)))) own.here some in
      keeps.weights.all weight own.small
      (ap (λ (n : ℕ). has_keys (slice_get keyed.slots.items n)) own.slot
      ∙ has_slot keyed (rows_of content fs) keeps (line_key key) ok (subst (λ (n : ℕ). n < 35) own.slot own.small) there (slice_get keyed.slots.items (slot_of (line_key key))) refl);
}

-- without lines there are no weights
pub no_weights : (content : Content) (fs : ℕ) (weights : List ℕ) → rows_of content fs ≡ [] → weights ≡ [] → AreWeights (lines_under content) fs weights
unfolding lines_under
no_weights content fs weights none is = subst (AreWeights (lines_under content) fs) (sym is) (record {
  below = λ k d inside. absurd (omega arith);
  descending = λ i j d lt inside. absurd (omega arith);
  all = λ key address weight ok some e.
      let own = own_slot fs address key ok weight e in
      none_some (listed (lines_with (rows_of content (fs_of_key key).0) (line_key key))) some
      (ap (λ (n : ℕ). listed (lines_with (rows_of content n) (line_key key))) own.here ∙ ap (λ (rows : List Row). listed (lines_with rows (line_key key))) none);
})
