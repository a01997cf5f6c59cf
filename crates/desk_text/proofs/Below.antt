-- A path is under another where what is kept of it goes on behind what is kept of the other.
use Rattle.std.proofs.Common.{◌≡◌, ◌≢◌, ◌⊎◌, inl, inr, ℕ, ◌≤◌, Bool, true, false, ◌&&◌, ◌||◌, eqb, ltb, eq-eqb, List, [], ◌∷◌, ◌++◌, length, length-append, get_or, drop, refl, sym, ap, ◌∙◌, arith}
use Rattle.std.specs.List.{starts_with, AllByRecursion}
use Rattle.std.specs.Str.{bytes_eq}
use Rattle.std.proofs.lemmas.Bool.{and_right, cases_Bool, cases_lt, eqb-true, eqb-false, lt-ltb, ne_eqb, true≢false}
use Rattle.std.proofs.lemmas.Bool.Decides.{Decides-eqb}
use Rattle.std.proofs.lemmas.List.{drop_all, drop_more}
use Rattle.std.proofs.lemmas.Slice.Eq.{starts_is}
use Rattle.std.proofs.Math.Bool.{and-true}
use Rattle.desk_text.specs.Path.{components, is_under}
use Rattle.desk_text.specs.PrivatePath.{ends_before, ends_component, goes_below, kept_text}
use Rattle.desk_text.proofs.Slashes.{IsComponent, NoSlash, are_components}

apart : (a : ℕ) → eqb a 47 ≡ false → eqb 47 a ≡ false
apart a e = ne_eqb 47 a (λ same. eqb-false a 47 e (sym same))

and_assoc : (a b c : Bool) → ((a && b) && c) ≡ (a && (b && c))
and_assoc true b c = refl
and_assoc false b c = refl

component_below : (x y : List ℕ) (path above : List (List ℕ)) → NoSlash x → NoSlash y
    → goes_below (x ++ kept_text path) (y ++ kept_text above) ≡ (bytes_eq x y && goes_below (kept_text path) (kept_text above))
component_below [] [] path above h k = refl
component_below [] (b ∷ y) [] above h k = refl
component_below [] (b ∷ y) (z ∷ path) above h k = ap (λ t. t && goes_below (z ++ kept_text path) (y ++ kept_text above)) (apart b k.0)
component_below (a ∷ x) [] path [] h k = h.0
component_below (a ∷ x) [] path (z ∷ above) h k = ap (λ t. t && goes_below (x ++ kept_text path) (z ++ kept_text above)) h.0
component_below (a ∷ x) (b ∷ y) path above h k =
    ap (λ t. eqb a b && t) (component_below x y path above h.1 k.1) ∙ sym (and_assoc (eqb a b) (bytes_eq x y) (goes_below (kept_text path) (kept_text above)))

kept_below : (path above : List (List ℕ)) → AllByRecursion IsComponent path → AllByRecursion IsComponent above → goes_below (kept_text path) (kept_text above) ≡ is_under path above
kept_below [] [] h k = refl
kept_below (x ∷ path) [] h k = refl
kept_below [] (y ∷ above) h k = refl
kept_below (x ∷ path) (y ∷ above) h k =
    component_below x y path above h.0.1 k.0.1 ∙ ap (λ t. bytes_eq x y && t) (kept_below path above h.1 k.1)

-- of two texts that keep their own components
pub under_kept : (path above : List ℕ) → kept_text (components path) ≡ path → kept_text (components above) ≡ above
    → goes_below path above ≡ is_under (components path) (components above)
under_kept path above e f =
    ap (λ t. goes_below t above) (sym e) ∙ ap (goes_below (kept_text (components path))) (sym f)
    ∙ kept_below (components path) (components above) (are_components path) (are_components above)

-- what strip_prefix tells of the text
pub goes_below-front : (above rest : List ℕ) → goes_below (above ++ rest) above ≡ ends_component rest
goes_below-front [] [] = refl
goes_below-front [] (b ∷ rest) = refl
goes_below-front (a ∷ above) rest = ap (λ t. t && goes_below (above ++ rest) above) (eq-eqb a a refl) ∙ goes_below-front above rest

pub goes_below-none : (path above : List ℕ) → ((rest : List ℕ) → path ≢ above ++ rest) → goes_below path above ≡ false
goes_below-none path [] h = absurd (h path refl)
goes_below-none [] (a ∷ above) h = refl
goes_below-none (b ∷ path) (a ∷ above) h =
    let cases : (eqb b a ≡ true) ⊎ (eqb b a ≡ false) = cases_Bool (eqb b a) in
    elim cases [
      | inl e ↦ ap (λ t. t && goes_below path above) e ∙ goes_below-none path above (λ rest same. h rest (ap (λ x. x ∷ path) (eqb-true b a e) ∙ ap (λ t. a ∷ t) same))
      | inr e ↦ ap (λ t. t && goes_below path above) e
    ]

-- a text that is long enough ends at a place just if its rest from there on ends a component
ends-drop : (path : List ℕ) (place : ℕ) → place ≤ length path → ends_before path place ≡ ends_component (drop place path)
ends-drop path place le =
    elim (cases_lt place (length path)) [
      | inl lt ↦
          let apart : eqb place (length path) ≡ false = ne_eqb place (length path) (λ e. omega arith) in
          ap (λ b. b || (ltb place (length path) && eqb (get_or path place 0) 47)) apart
          ∙ ap (λ b. b && eqb (get_or path place 0) 47) (lt-ltb place (length path) lt)
          ∙ ap ends_component (sym (drop_more path place 0 lt))
      | inr ge ↦
          ap (λ b. b || (ltb place (length path) && eqb (get_or path place 0) 47)) (eq-eqb place (length path) (omega arith))
          ∙ ap ends_component (sym (drop_all place path ge))
    ]

-- the byte behind the other path, and then the other path itself
pub below-is : (path above : List ℕ) → (ends_before path (length above) && starts_with eqb path above) ≡ goes_below path above
below-is path above =
    let tells = starts_is Decides-eqb path above (starts_with eqb path above) refl in
    let cases : (starts_with eqb path above ≡ true) ⊎ (starts_with eqb path above ≡ false) = cases_Bool (starts_with eqb path above) in
    elim cases [
      | inl here ↦
          let rest = drop (length above) path in
          let whole : path ≡ above ++ rest = tells.0 here in
          let long : length above ≤ length path = omega (arith, ap length whole, length-append above rest) in
          ap (λ b. ends_before path (length above) && b) here ∙ and-true (ends_before path (length above)) ∙ ends-drop path (length above) long
          ∙ sym (goes_below-front above rest) ∙ ap (λ t. goes_below t above) (sym whole)
      | inr apart ↦
          and_right _ _ apart ∙ sym (goes_below-none path above (λ rest same. true≢false (sym (tells.1 rest same) ∙ apart)))
    ]
