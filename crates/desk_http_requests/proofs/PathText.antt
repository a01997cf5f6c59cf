-- Bytes that are no text are no path.
use Rattle.std.proofs.Common.{◌≡◌, ◌∙◌, ℕ, ◌+◌, Bool, true, false, cond, List, [], ◌∷◌, Option, None, refl, subst, sym}
use Rattle.std.specs.List.{position_from}
use Rattle.std.specs.Str.{IsUtf8, is_utf8, chars, bytes_eq}
use Rattle.std.proofs.lemmas.Iterator.Adapters.{position_from-zero}
use Rattle.std.proofs.lemmas.Str.{IsUtf8-from_is_utf8}
use Rattle.std.proofs.lemmas.Slice.Eq.{bytes_eq-Decides}
use lib.Utf8.{encode}
use Rattle.desk_http_requests.specs.Routes.{Route, place_of, routes}

-- a text that is one of these bytes is text
not_this : (text path : List ℕ) → is_utf8 text ≡ true → (IsUtf8 path → ⊥) → bytes_eq text path ≡ true → ⊥
not_this text path is none same = none (subst IsUtf8 ((bytes_eq-Decides text path).0 same) (IsUtf8-from_is_utf8 text is))

past : (b : Bool) (here rest : Option ℕ) → (b ≡ true → ⊥) → None ≡ rest → None ≡ cond b here rest
past true here rest never is = absurd (never refl)
past false here rest never is = is

-- the paths of routes are texts
abbrev AreTexts : List Route → Type 0
AreTexts [] = Unit {0}
AreTexts (route ∷ rest) = (is_utf8 route.path ≡ true) × AreTexts rest

none_from : (place : ℕ) (rs : List Route) (path : List ℕ) → AreTexts rs → (IsUtf8 path → ⊥) → None ≡ position_from (λ (route : Route). bytes_eq route.path path) place rs
none_from place [] path texts none = refl
none_from place (r ∷ rest) path texts none = past (bytes_eq r.path path) _ _ (not_this r.path path texts.0 none) (none_from (place + 1) rest path texts.1 none)

the_texts : AreTexts routes
unfolding is_utf8 chars encode
the_texts = (refl, (refl, (refl, (refl, (refl, (refl, tt))))))

pub no_route : (path : List ℕ) → (IsUtf8 path → ⊥) → None ≡ place_of path
no_route path none = none_from 0 routes path the_texts none ∙ sym (position_from-zero (λ (route : Route). bytes_eq route.path path) routes)
