-- What the private contracts of `listing` cite.
use Rattle.std.specs.Prelude.{◌≡◌, ◌⊎◌, ℕ, ◌++◌, Contains, List, [], ◌∷◌, Option, None, Some}
use Rattle.desk_policy.specs.SiteFile.{NamesNoMount, exports_file_name}
use Rattle.desk_core.specs.Listing.{HeldFile}

-- these are the printed mount points that these files name
pub record AreNamed (files mounts : List (List ℕ)) : Type 0 where
  pub each : (mount : List ℕ) → Contains mounts mount → Contains files (exports_file_name mount)
  pub all : (mount : List ℕ) → Contains files (exports_file_name mount) → Contains mounts mount

-- the mount points that files name, and those that more files name
abbrev pub NamesMore : List (List ℕ) → List (List ℕ) → List (List ℕ) → Type 0
NamesMore more old new = (files : List (List ℕ)) → AreNamed files old → AreNamed (files ++ more) new

-- the mount points, and that which this file names, if it is an exports file
abbrev pub GainsNamed : List ℕ → List (List ℕ) → List (List ℕ) → Type 0
GainsNamed file old new =
    (NamesNoMount file × (new ≡ old)) ⊎ ((mount : List ℕ) × (file ≡ exports_file_name mount) × (new ≡ old ++ mount ∷ []))

-- the files, and one more, if there is one
abbrev pub with_file : List HeldFile → Option HeldFile → List HeldFile
with_file files None = files
with_file files (Some file) = files ++ file ∷ []
