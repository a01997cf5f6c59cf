-- Files that are read one by one, as the functions that read them say it. (this project's own)
use Rattle.std.specs.Prelude.{◌≡◌, ℕ, List, [], ◌∷◌, Option}
use Rattle.cli_files.specs.Files.{HasTextIfGiven, Leaves}

-- files that are read in turn have these texts, and leave this of the input
abbrev pub ReadsTo : List (List ℕ × Option (List ℕ)) → Option (List ℕ) → List (List ℕ) → Option (List ℕ) → Type 0
ReadsTo [] known [] left = left ≡ known
ReadsTo [] known (text ∷ texts) left = ⊥
ReadsTo (file ∷ files) known [] left = ⊥
ReadsTo (file ∷ files) known (text ∷ texts) left =
    HasTextIfGiven file.0 file.1 known text × ((between : Option (List ℕ)) × (Leaves file.1 known between × ReadsTo files between texts left))
