-- What several exports files change.
use Rattle.std.specs.Prelude.{◌≡◌, ℕ, List}
use Rattle.desk_origins.specs.declared.origins.Origin.{Origin}
use Rattle.desk_policy.specs.Listings.{listing_of}
use Rattle.desk_policy.specs.Policy.{Content, with_origins}
use Rattle.desk_policy.specs.Verdict.{verdict_of}

-- each client has the same verdicts and the same listing by both policies
pub record AnswersAlike (one other : Content) : Type 0 where
  pub verdicts : (address : ℕ) (path : List (List ℕ)) → verdict_of one address path ≡ verdict_of other address path
  pub listings : (address : ℕ) → listing_of one address ≡ listing_of other address

-- Of which of several texts each line is, changes no answer: only how lines are named rests on it.
abbrev pub NamesAloneChange : Type 0
NamesAloneChange = (content : Content) (origins : List Origin) → AnswersAlike (with_origins content origins) content
