-- The words of the joined text: it is the text that desk_split joins of files that have no comment line.
use Rattle.std.proofs.Common.{[], ◌∷◌, map, sym, ap, ◌∙◌}
use Rattle.std.proofs.lemmas.List.Folds.{flat_map-map}
use Rattle.desk_split.specs.Joining.{StoredFile, section as file_section}
use Rattle.desk_split.specs.Laws.{JoinKeepsWords, words_in}
use Rattle.desk_joined.specs.Joining.{NamedText}
use Rattle.desk_joined.specs.Laws.{JoinedLinesHaveTheWordsOfAll}

-- a file whose name would break a comment line, so that it has none
abbrev pub bare : NamedText → StoredFile
bare file = record { name = 10 ∷ []; rev = 0; author = []; text = file.text }

pub words_of_all : JoinKeepsWords → JoinedLinesHaveTheWordsOfAll
words_of_all keeps files =
    ap words_in (sym (flat_map-map file_section bare files))
    ∙ keeps (map bare files)
    ∙ flat_map-map (λ (file : StoredFile). words_in file.text) bare files
