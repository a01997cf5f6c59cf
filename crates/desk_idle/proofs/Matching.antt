-- The least address that a line matches, and what is selected there.
use Rattle.std.proofs.Common.{◌≡◌, ◌∙◌, ℕ, suc, ◌<◌, ◌≤◌, ◌^◌, Bool, true, cond, List, [], ◌∷◌, Option, Some, None, IsSome, ap, arith, inl, inr, length, refl, subst, sym, map, get_or}
use Rattle.std.specs.Prelude.{filter, is_none, slice_get}
use Rattle.std.specs.List.{All, AllByRecursion, Contains, list_all, list_any}
use Rattle.std.specs.List.Sorted.{IsStrictlyIncreasing}
use Rattle.std.specs.Option.{option_map}
use Rattle.std.proofs.lemmas.Bool.{and_parts, cases_Bool, cond-true, cond-false, eq-eqb, eqb-true, or_cases, or_left, true≢false}
use Rattle.std.proofs.lemmas.List.Elements.{All-contains, All-from_recursion}
use Rattle.std.proofs.lemmas.List.Kept.{AllPairs-from_increasing}
use Rattle.desk_text.specs.Address.{number_of}
use Rattle.desk_text.specs.AddrSet.{is_among}
use Rattle.desk_exports.specs.declared.entry.Clients.{Clients}
use Rattle.desk_exports.specs.declared.entry.Clients.TheVariants.{Hosts}
use Rattle.desk_policy.specs.Weights.{name_weight, selected, weight_by, weight_of}
use Rattle.desk_policy.specs.declared.row.Row.{Row}
use Rattle.desk_text.specs.declared.address.Addr.{Addr}
use Rattle.desk_idle.specs.Idle.{first_selected}
use Rattle.desk_idle.specs.PrivateMarks.{IsLeastAmong, IsLeastMatch, IsLeastOf}
use Rattle.desk_idle.proofs.Removal.{greatest_or_not, selected-some, weighs}

-- ---- a line for names

named_some : (who : Clients) (names : List (List ℕ)) (addresses : List ℕ) (address : ℕ) → who ≡ Hosts names → is_among address addresses ≡ true → IsSome (weight_by who addresses address)
named_some who names addresses address is among =
    subst IsSome (sym (ap (λ (w : Clients). weight_by w addresses address) is ∙ cond-true (is_among address addresses) (Some name_weight) None among)) refl

nothing : (o : Option ℕ) → o ≡ None → IsSome o → ⊥
nothing None e some = true≢false (sym some)
nothing (Some w) e some = let wrong : Some w ≡ None = e in cc

some_named : (who : Clients) (names : List (List ℕ)) (addresses : List ℕ) (address : ℕ) → who ≡ Hosts names → IsSome (weight_by who addresses address) → is_among address addresses ≡ true
some_named who names addresses address is some =
    elim (cases_Bool (is_among address addresses)) [
      | inl among ↦ among
      | inr not ↦ absurd (nothing (weight_by who addresses address) (ap (λ (w : Clients). weight_by w addresses address) is ∙ cond-false (is_among address addresses) (Some name_weight) None not) some)
    ]

pub least_named : (row : Row) (names : List (List ℕ)) → row.entry.clients ≡ Hosts names → (o : Option Addr) → IsLeastAmong row.addrs o → IsLeastMatch row o
least_named row names is None none = λ address below.
    ap (λ (w : Clients). weight_by w row.addrs address) is ∙ ap (λ (addresses : List ℕ). cond (is_among address addresses) (Some name_weight) None) none
least_named row names is (Some address) least = record {
  is_address = least.is_address;
  matches = named_some row.entry.clients names row.addrs _ is least.among;
  least = λ other some. least.least other (some_named row.entry.clients names row.addrs other is some);
}

-- the first of numbers that rise is the least
pub first_least : (first : ℕ) (others : List ℕ) → first < 2 ^ 32 → IsStrictlyIncreasing (first ∷ others) → IsLeastOf (first ∷ others) first
first_least first others below rise = record {
  is_address = below;
  among = or_left _ _ (eq-eqb first first refl);
  least = λ other among. elim (or_cases _ _ among) [
    | inl here ↦ (let same = eqb-true first other here in omega arith)
    | inr later ↦ (let lt = below_all first others other (after first others rise) later in omega arith)
  ];
}
  where
    below_all : (x : ℕ) (xs : List ℕ) (y : ℕ) → All (λ z. x < z) xs → is_among y xs ≡ true → x < y
    below_all x [] y all among = absurd (true≢false (sym among))
    below_all x (z ∷ xs) y all among =
        elim (or_cases _ _ among) [
          | inl here ↦ (let same = eqb-true z y here in let h = all 0 0 (omega arith) in omega arith)
          | inr later ↦ below_all x xs y (λ k d inside. all (suc k) d (omega arith)) later
        ]

    after : (x : ℕ) (xs : List ℕ) → IsStrictlyIncreasing (x ∷ xs) → All (λ z. x < z) xs
    after x xs up = λ k d inside. AllPairs-from_increasing (x ∷ xs) up 0 (suc k) d (omega arith) (omega arith)

pub least_first : (items : List Addr) (addresses : List ℕ) (number : ℕ) (other : Addr) → map number_of items ≡ addresses → IsStrictlyIncreasing addresses → 1 ≤ length items → number ≡ number_of (get_or items 0 other)
    → number < 2 ^ 32 → IsLeastOf addresses number
least_first [] addresses number other are rise some is below = absurd (omega arith)
least_first (first ∷ others) addresses number other are rise some is below =
    let same : addresses ≡ number ∷ map number_of others = sym are ∙ ap (λ (n : ℕ). n ∷ map number_of others) (sym is) in
    subst (λ (ns : List ℕ). IsLeastOf ns number) (sym same) (first_least number (map number_of others) below (subst IsStrictlyIncreasing same rise))

-- ---- where a line matches, one is selected

some_front : (p : Row → Bool) (rows : List Row) → list_any p rows ≡ true → filter p rows ≡ [] → ⊥
some_front p [] e f = true≢false (sym e)
some_front p (row ∷ rows) e f =
    elim (cases_Bool (p row)) [
      | inl passes ↦ let wrong : row ∷ filter p rows ≡ [] = sym (ap (λ b. cond b (row ∷ filter p rows) (filter p rows)) passes) ∙ f in cc
      | inr fails ↦ elim (or_cases _ _ e) [
        | inl passes ↦ absurd (true≢false (sym passes ∙ fails))
        | inr later ↦ some_front p rows later (sym (ap (λ b. cond b (row ∷ filter p rows) (filter p rows)) fails) ∙ f)
      ]
    ]

pub all_of : {X : Type 0} (p : X → Bool) (xs : List X) (x : X) → list_all p xs ≡ true → Contains xs x → p x ≡ true
all_of {X = X} p xs x all has = All-contains (λ y. p y ≡ true) xs x (All-from_recursion (λ y. p y ≡ true) xs (each xs all)) has
  where
    each : (ys : List X) → list_all p ys ≡ true → AllByRecursion (λ y. p y ≡ true) ys
    each [] e = tt
    each (y ∷ ys) e = let s = and_parts _ _ e in (s.0, each ys s.1)

none_some : (o : Option ℕ) → is_none o ≡ true → IsSome o → ⊥
none_some None e some = true≢false (sym some)
none_some (Some w) e some = true≢false (sym e)

pub selects : (rows : List Row) (row : Row) (address : ℕ) → Contains rows row → IsSome (weight_of row address) → selected rows address ≡ [] → ⊥
selects rows row address has some none =
    elim (greatest_or_not rows address) [
      | inl g ↦ some_front (weighs address g.weight) rows g.some (sym (selected-some rows address g.weight g.some g.all) ∙ none)
      | inr not ↦ none_some (weight_of row address) (all_of (λ (other : Row). is_none (weight_of other address)) rows row not has) some
    ]

no_first : (rows : List Row) → option_map (λ (row : Row). row.entry.line) (slice_get rows 0) ≡ None → rows ≡ []
no_first [] e = refl
no_first (row ∷ rows) e = let wrong : Some row.entry.line ≡ None = e in cc

pub some_first : (rows : List Row) (row : Row) (address : ℕ) → Contains rows row → IsSome (weight_of row address) → first_selected rows address ≡ None → ⊥
some_first rows row address has some none = selects rows row address has some (no_first (selected rows address) none)
