-- Changes by which clients may do more. (this project's own)
use Rattle.std.specs.Prelude.{◌≡◌, ℕ, Bool, count_by, nat_lt}
use Rattle.desk_policy.specs.Policy.{Content}
use Rattle.page_data.specs.Class.{class_of, rank_of}
use Rattle.page_places.specs.Changes.{AreChangesIn, ChangesValue, PlaceChange}

-- the class of the verdict after a change is greater than that before
abbrev pub widens : PlaceChange → Bool
widens one = nat_lt (rank_of (class_of one.change.value.before)) (rank_of (class_of one.change.value.after))

-- At so many of the changes between two policies at the places of a file system clients may do more.
pub record AreSoManyIn (before after : Content) (fs count : ℕ) : Type 0 where
  pub changes : ChangesValue
  pub are : AreChangesIn before after fs changes
  pub count_is : count ≡ count_by widens changes.rows
