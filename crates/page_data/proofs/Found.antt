-- What an optional value means.
use Rattle.std.proofs.Common.{◌≡◌, ◌∙◌, Option, None, Some, ap, sym}
use Rattle.std.specs.Option.{option_map}

module _ {T A : Type 0} (meaning : T → A) (value : A) where
  pub found_is : (found : T) (o : Option T) → o ≡ Some found → option_map meaning o ≡ Some value → meaning found ≡ value
  found_is found o is means = same (meaning found) (sym (ap (option_map meaning) is) ∙ means)
    where
      same : (one : A) → Some one ≡ Some value → one ≡ value
      same one e = cc

  nothing : Option A
  nothing = None

  apart : nothing ≡ Some value → ⊥
  unfolding nothing
  apart e = cc

  pub none_found : (o : Option T) → o ≡ None → option_map meaning o ≡ Some value → ⊥
  unfolding nothing
  none_found o is means = apart (sym (ap (option_map meaning) is) ∙ means)
