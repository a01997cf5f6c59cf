-- What the private contracts of `texts_back` cite.
use Rattle.std.specs.Prelude.{◌++◌, List, [], ◌∷◌, Option, None, Some}
use Rattle.desk_split.specs.Joining.{StoredFile}

-- the files, and the one that was found, if one was
abbrev pub with_found : List StoredFile → Option StoredFile → List StoredFile
with_found files None = files
with_found files (Some file) = files ++ file ∷ []
