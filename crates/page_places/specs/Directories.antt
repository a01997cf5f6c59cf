-- The directories of a file system that lines write, and its places by two policies. (this project's own)
use Rattle.std.specs.Prelude.{◌≡◌, ℕ, ◌++◌, ◌∷◌, [], List, Some, filter, map, not}
use Rattle.desk_text.specs.Path.{same_path}
use Rattle.desk_tables.specs.FileSystems.{fs_of}
use Rattle.desk_tables.specs.declared.filesystems.Mount.{Mount}
use Rattle.desk_policy.specs.Listings.{written}
use Rattle.desk_policy.specs.Policy.{Content, rows_of}
use Rattle.desk_policy.specs.Verdict.{is_in}
use Rattle.desk_impact.specs.Impact.{mount_at}
use Rattle.desk_impact.specs.Places.{AreInOrder, Directory, Others, Place}

-- the directories of a file system that these lines write
abbrev pub own_of : List Mount → ℕ → List (List (List ℕ)) → List (List (List ℕ))
own_of table fs dirs = filter (λ dir. is_in (fs_of table dir) fs) dirs

-- those that its lines write by one policy or the other
abbrev pub own_dirs : Content → Content → ℕ → List (List (List ℕ))
own_dirs before after fs = own_of before.table fs (written (rows_of before fs)) ++ own_of before.table fs (written (rows_of after fs))

-- those of them below the mount point
abbrev pub below : List (List ℕ) → List (List (List ℕ)) → List (List (List ℕ))
below mount dirs = filter (λ dir. not (same_path dir mount)) dirs

-- the places of a mount point: itself, the written directories below it, and the others
abbrev pub places_with : List (List ℕ) → List (List (List ℕ)) → List Place
places_with mount dirs = Directory mount ∷ map Directory (below mount dirs) ++ Others mount ∷ []

-- the places of a file system by two policies: the directories in byte order, and the others last
pub record ArePlacesOf (before after : Content) (fs : ℕ) (places : List Place) : Type 0 where
  pub mount : List (List ℕ)
  pub dirs : List (List (List ℕ))
  pub mount_is : mount_at before fs ≡ Some mount
  pub dirs_are : AreInOrder (own_dirs before after fs) dirs
  pub are : places ≡ places_with mount dirs
