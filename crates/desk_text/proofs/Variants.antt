-- A list has each value of an enum without fields if it has one of each tag, which is a test that computes: no proof has to name
-- the values one by one.
use denote.Enum.Bare.{Bare, sameb, same_true}
use denote.Enum.Declared.{Declared, rowss, tag_of}
use denote.Enum.Enum.{Sum, tag}
use denote.Struct.Field.{Field}
use Rattle.std.proofs.Common.{◌≡◌, ◌⊎◌, inl, inr, ℕ, suc, Bool, true, false, ◌&&◌, ◌==◌, List, [], ◌∷◌, refl, arith}
use Rattle.std.specs.List.{IsAmong, list_any}
use Rattle.std.proofs.lemmas.Bool.{or_cases}

-- a test passes for the tag of each variant
abbrev pub passes_all : List (List Field) → (ℕ → Bool) → Bool
passes_all [] passes = true
passes_all (variant ∷ variants) passes = passes 0 && passes_all variants (λ n. passes (suc n))

both_first : (a b : Bool) → (a && b) ≡ true → a ≡ true
both_first true b both = refl
both_first false b both = absurd (cc)

both_second : (a b : Bool) → (a && b) ≡ true → b ≡ true
both_second true b both = both
both_second false b both = absurd (cc)

passes_each : (variants : List (List Field)) (passes : ℕ → Bool) → passes_all variants passes ≡ true → (s : Sum (rowss variants)) → passes (tag (rowss variants) s) ≡ true
passes_each [] passes all s = absurd s
passes_each (variant ∷ variants) passes all (inl x) = both_first (passes 0) (passes_all variants (λ n. passes (suc n))) all
passes_each (variant ∷ variants) passes all (inr s) = passes_each variants (λ n. passes (suc n)) (both_second (passes 0) (passes_all variants (λ n. passes (suc n))) all) s

-- a list has a value of this tag
abbrev pub has_tag : (D : Declared) → List D.D → ℕ → Bool
has_tag D xs n = list_any (λ x. n == tag_of D x) xs

-- a list that has a value of each tag passes each value's test
pub is_listed : (D : Declared) (xs : List D.D) → passes_all D.parts (has_tag D xs) ≡ true → (x : D.D) → list_any (sameb D x) xs ≡ true
is_listed D xs all x = passes_each D.parts (has_tag D xs) all (D.to x)

among_same : (D : Declared) → Bare D.parts → (x : D.D) (xs : List D.D) → list_any (sameb D x) xs ≡ true → IsAmong xs x
among_same D bare x [] there = absurd (cc)
among_same D bare x (y ∷ ys) there =
    let cases : (sameb D x y ≡ true) ⊎ (list_any (sameb D x) ys ≡ true) = or_cases (sameb D x y) (list_any (sameb D x) ys) there in
    elim cases [
      | inl same ↦ (0, (omega arith, same_true D bare x y same))
      | inr more ↦
          let among = among_same D bare x ys more in
          (suc among.0, (omega (arith, among.1.0), among.1.1))
    ]

-- and each value is among its elements
pub is_among : (D : Declared) → Bare D.parts → (xs : List D.D) → passes_all D.parts (has_tag D xs) ≡ true → (x : D.D) → IsAmong xs x
is_among D bare xs all x = among_same D bare x xs (is_listed D xs all x)
