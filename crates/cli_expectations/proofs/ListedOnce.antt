-- Lines listed once, one more at a time.
use Rattle.std.proofs.Common.{◌≡◌, ◌⊎◌, ◌<◌, ◌+◌, ◌==◌, ◌||◌, ◌&&◌, ◌++◌, ◌∙◌, ℕ, Bool, true, false, not, cond, List, [], ◌∷◌, Option, Some, None, ap, arith, eqb-true, filter, get_or, inl, inr, length, map, refl, sym, take}
use Rattle.std.specs.List.{cons_option, filter_map, list_any}
use Rattle.std.proofs.lemmas.Bool.Decides.{nat_tests}
use Rattle.std.proofs.lemmas.List.{append-nil, map-append, take_more}
use Rattle.std.proofs.lemmas.List.Elements.{filter-append, filter_map-append}
use Rattle.cli_expectations.specs.BreachesJson.{BreachValue, breach_value}
use Rattle.cli_expectations.specs.NamedLines.{each_once, line_named, lines_once, same_line}
use Rattle.cli_expectations.specs.PrivateNamedLines.{with_line, with_once}
use Rattle.cli_expectations.specs.declared.breaches_json.Breach.{Breach}
use Rattle.cli_expectations.specs.declared.named_lines.NamedLine.{NamedLine}

abbrev other : NamedLine → NamedLine → Bool
other f g = not (same_line g f)

split : (b : Bool) → (b ≡ true) ⊎ (b ≡ false)
split true = inl refl
split false = inr refl

both : (a b c d : ℕ) → (a == b && c == d) ≡ true → (a ≡ b) × (c ≡ d)
both a b c d h = elim (split (a == b)) [
  | inl e ↦ (eqb-true a b e, eqb-true c d (sym (ap (λ t. t && c == d) e) ∙ h))
  | inr e ↦ (let never : false ≡ true = sym (ap (λ t. t && c == d) e) ∙ h in cc)
]

-- one that is like another is like no other than that
alike_apart : (x y f : NamedLine) → same_line y x ≡ true → same_line x f ≡ false → same_line y f ≡ false
alike_apart x y f alike apart =
    let same = both y.fs.0 x.fs.0 y.line x.line alike in
    ap (λ (n : ℕ). n == f.fs.0 && y.line == f.line) same.0 ∙ ap (λ (n : ℕ). x.fs.0 == f.fs.0 && n == f.line) same.1 ∙ apart

one_way : (a b : ℕ) (v : Bool) → (a == b) ≡ v → (b == a) ≡ v
one_way a b true e = grind (arith, nat_tests)
one_way a b false e = grind (arith, nat_tests)

turned : (x f : NamedLine) → same_line f x ≡ same_line x f
turned x f =
    ap (λ (t : Bool). t && f.line == x.line) (one_way x.fs.0 f.fs.0 (x.fs.0 == f.fs.0) refl) ∙ ap (λ (t : Bool). x.fs.0 == f.fs.0 && t) (one_way x.line f.line (x.line == f.line) refl)

add_there : (lines : List NamedLine) (f : NamedLine) → list_any (λ g. same_line g f) lines ≡ true → with_line lines f ≡ lines
add_there lines f e = ap (λ b. cond b lines (lines ++ f ∷ [])) e

add_new : (lines : List NamedLine) (f : NamedLine) → list_any (λ g. same_line g f) lines ≡ false → with_line lines f ≡ lines ++ f ∷ []
add_new lines f e = ap (λ b. cond b lines (lines ++ f ∷ [])) e

-- leaving out another line leaves in those like f
kept_there : (lines : List NamedLine) (x f : NamedLine) → same_line x f ≡ false → list_any (λ g. same_line g f) (filter (other x) lines) ≡ list_any (λ g. same_line g f) lines
kept_there [] x f apart = refl
kept_there (y ∷ lines) x f apart =
    let again : list_any (λ g. same_line g f) (filter (other x) lines) ≡ list_any (λ g. same_line g f) lines = kept_there lines x f apart in
    elim (split (same_line y x)) [
      | inl e ↦ ap (λ b. list_any (λ g. same_line g f) (cond (not b) (y ∷ filter (other x) lines) (filter (other x) lines))) e ∙ again
          ∙ sym (ap (λ b. b || list_any (λ g. same_line g f) lines) (alike_apart x y f e apart))
      | inr e ↦ ap (λ b. list_any (λ g. same_line g f) (cond (not b) (y ∷ filter (other x) lines) (filter (other x) lines))) e
          ∙ ap (λ r. same_line y f || r) again
    ]

one_left : (x f : NamedLine) (v : Bool) → same_line x f ≡ v → filter (other x) (f ∷ []) ≡ cond (not v) (f ∷ []) []
one_left x f v e = ap (λ b. cond (not b) (f ∷ []) []) (turned x f ∙ e)

-- one more, behind a first one
behind : (x f : NamedLine) (ys : List NamedLine) → x ∷ filter (other x) (with_line ys f) ≡ with_line (x ∷ filter (other x) ys) f
behind x f ys =
    let left : List NamedLine = filter (other x) ys in
    elim (split (list_any (λ g. same_line g f) ys)) [
      | inl there ↦ ap (λ zs. x ∷ filter (other x) zs) (add_there ys f there) ∙ sym (elim (split (same_line x f)) [
        | inl alike ↦ add_there (x ∷ left) f (ap (λ b. b || list_any (λ g. same_line g f) left) alike)
        | inr apart ↦ add_there (x ∷ left) f (ap (λ b. b || list_any (λ g. same_line g f) left) apart ∙ kept_there ys x f apart ∙ there)
      ])
      | inr new ↦ ap (λ zs. x ∷ filter (other x) zs) (add_new ys f new) ∙ ap (λ zs. x ∷ zs) (filter-append (other x) ys (f ∷ [])) ∙ (elim (split (same_line x f)) [
        | inl alike ↦ ap (λ zs. x ∷ (left ++ zs)) (one_left x f true alike) ∙ ap (λ zs. x ∷ zs) (append-nil left)
            ∙ sym (add_there (x ∷ left) f (ap (λ b. b || list_any (λ g. same_line g f) left) alike))
        | inr apart ↦ ap (λ zs. x ∷ (left ++ zs)) (one_left x f false apart)
            ∙ sym (add_new (x ∷ left) f (ap (λ b. b || list_any (λ g. same_line g f) left) apart ∙ kept_there ys x f apart ∙ new))
      ])
    ]

once_more : (lines : List NamedLine) (f : NamedLine) → each_once (lines ++ f ∷ []) ≡ with_line (each_once lines) f
once_more [] f = refl
once_more (x ∷ lines) f = ap (λ zs. x ∷ filter (other x) zs) (once_more lines f) ∙ behind x f (each_once lines)

one_named : (lines : List NamedLine) (named : Option NamedLine) → each_once (lines ++ cons_option named []) ≡ with_once (each_once lines) named
one_named lines None = ap each_once (append-nil lines)
one_named lines (Some f) = once_more lines f

abbrev named_by : BreachValue → Option NamedLine
named_by breach = line_named breach.range.value.verdict

-- one breach more
pub lines_more : (breaches : List Breach) (i : ℕ) (breach : Breach) → i < length breaches → breach ≡ get_or breaches i breach
    → lines_once (map breach_value (take (i + 1) breaches)) ≡ with_once (lines_once (map breach_value (take i breaches))) (named_by (breach_value breach))
lines_more breaches i breach below is =
    let values : List BreachValue = map breach_value (take i breaches) in
    ap (λ (some : List Breach). lines_once (map breach_value some)) (take_more breaches i breach below ∙ ap (λ (b : Breach). take i breaches ++ b ∷ []) (sym is))
    ∙ ap lines_once (map-append breach_value (take i breaches) (breach ∷ []))
    ∙ ap each_once (filter_map-append named_by values (breach_value breach ∷ []))
    ∙ one_named (filter_map named_by values) (named_by (breach_value breach))
