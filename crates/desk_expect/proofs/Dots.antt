-- What stands before `/...` at the end of a text.
use denote.Ref.{Bor}
use Rattle.std.proofs.Common.{◌≡◌, ◌≢◌, ℕ, ◌-◌, ◌+◌, ◌++◌, true, false, cond, List, Option, Some, None, length, take, drop, sym, ap, ◌∙◌, arith, inl, inr}
use Rattle.std.specs.Prelude.{codes, nat_lt}
use Rattle.std.specs.Option.{MatchOption, option_copied}
use Rattle.std.specs.Str.{bytes_eq}
use Rattle.std.specs.Str.Pattern.{FindsTextSuffix}
use Rattle.std.specs.Cmp.Lexicographic.{bytes_decides}
use Rattle.std.proofs.lemmas.Bool.{cases_Bool, cond-false, cond-true, le-ltb}
use Rattle.std.proofs.lemmas.List.{drop_at, length-append, length-take-le, take-append-drop}
use Rattle.desk_expect.specs.Scope.{before_dots, ends_in_dots}

-- it ends so
pub with_dots : (text front : List ℕ) (k : ℕ) → k ≡ length (codes "/...") → text ≡ take (length text - k) text ++ codes "/..." → front ≡ take (length text - k) text → Some front ≡ before_dots text
with_dots text front k four split is =
    let n : length text ≡ length (take (length text - k) text) + 4 = ap length split ∙ length-append (take (length text - k) text) (codes "/...") in
    let long : nat_lt (length text) 4 ≡ false = le-ltb (length text) 4 (omega arith) in
    let end : drop (length text - 4) text ≡ codes "/..." =
    ap (drop (length text - 4)) split ∙ drop_at (take (length text - k) text) (codes "/...") (length text - 4) (omega (arith, length-take-le (length text - k) text (omega arith))) in
    let yes : bytes_eq (drop (length text - 4) text) (codes "/...") ≡ true = (bytes_decides (drop (length text - 4) text) (codes "/...")).1 end in
    let ends : ends_in_dots text ≡ true = cond-false (nat_lt (length text) 4) _ _ long ∙ yes in
    ap Some (is ∙ ap (λ m. take (length text - m) text) four) ∙ sym (ap (λ b. cond b (Some (take (length text - 4) text)) None) ends)

-- it does not
pub without_dots : (text : List ℕ) → ((front : List ℕ) → text ≡ front ++ codes "/..." → ⊥) → None ≡ before_dots text
without_dots text never =
    let fails : ends_in_dots text ≡ false =
    elim (cases_Bool (ends_in_dots text)) as (λ _. ends_in_dots text ≡ false) [
      | inl ends ↦ absurd (at_end ends)
      | inr not ↦ not
    ] in
    sym (ap (λ b. cond b (Some (take (length text - 4) text)) None) fails)
  where
    at_end : ends_in_dots text ≡ true → ⊥
    at_end ends = elim (cases_Bool (bytes_eq (drop (length text - 4) text) (codes "/..."))) [
      | inl same ↦ never (take (length text - 4) text) (sym (take-append-drop (length text - 4) text) ∙ ap (λ t. take (length text - 4) text ++ t) ((bytes_decides (drop (length text - 4) text) (codes "/...")).0 same))
      | inr other ↦ elim (cases_Bool (nat_lt (length text) 4)) [
        | inl short ↦ (let e : false ≡ true = sym (cond-true (nat_lt (length text) 4) false (bytes_eq (drop (length text - 4) text) (codes "/...")) short) ∙ ends in cc)
        | inr long ↦ (let e : false ≡ true = sym (cond-false (nat_lt (length text) 4) false (bytes_eq (drop (length text - 4) text) (codes "/...")) long ∙ other) ∙ ends in cc)
      ]
    ]

pub stripped : (text : List ℕ) (r : Option (Bor (List ℕ)))
    → MatchOption r ((front : List ℕ) → text ≢ front ++ codes "/...") (λ x. (n : ℕ) × FindsTextSuffix (codes "/...") text (Some n) × (x.now ≡ take (length text - n) text) × (length x.now + n ≡ length text))
    → option_copied r ≡ before_dots text
stripped text None h = without_dots text h
stripped text (Some x) h = with_dots text x.now h.0 h.1.0 h.1.1 h.2
