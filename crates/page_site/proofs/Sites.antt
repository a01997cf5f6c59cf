-- What the reading of a site gives, and the path `/`.
use Rattle.std.proofs.Common.{◌≡◌, ℕ, List, [], Result, Ok, Err, ap, codes, refl, sym}
use Rattle.desk_text.specs.Path.{read_path}
use Rattle.desk_policy.specs.Contradiction.{HasNoContradiction}
use Rattle.desk_policy.specs.Parsing.{read_site}
use Rattle.desk_policy.specs.Policy.{Content}
use Rattle.desk_policy.specs.Site.{SiteTexts}
use Rattle.page_data.specs.Laws.{IsSoundIfRead, IsSoundSite}

-- The policy that a site's texts write is sound, if no two of its lines contradict each other.
pub sound : (texts : SiteTexts) (content : Content) → IsSoundIfRead content → read_site texts ≡ Ok content → HasNoContradiction content → IsSoundSite content
sound texts content law is consistent = law texts content is refl refl consistent

abbrev value_or : {X F : Type 0} → X → Result X F → X
value_or other (Ok value) = value
value_or other (Err fault) = other

-- The path `/` has no component.
pub is_root : (root : List (List ℕ)) → read_path (codes "/") ≡ Ok root → root ≡ []
is_root root is = sym (ap (value_or []) is)
