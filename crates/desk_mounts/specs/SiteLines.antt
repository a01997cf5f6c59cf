-- The text of file systems that `site` keeps. (this project's own)
use Rattle.std.specs.Prelude.{ℕ, Bool, ◌||◌, List, ◌∷◌, ◌++◌, codes, if◌then◌else◌}
use Rattle.std.specs.Char.{encode_utf8}
use Rattle.std.specs.List.{flat_map}
use Rattle.std.specs.Str.{chars}
use Rattle.desk_text.specs.Bytes.{is_blank}
use Rattle.desk_text.specs.Path.{path_text}
use Rattle.desk_text.specs.Word.{is_special}
use Rattle.desk_tables.specs.declared.filesystems.Mount.{Mount}

-- a character of a word that does not stand for itself: a blank, a quote or a backslash
abbrev pub is_marked : ℕ → Bool
is_marked c = is_blank c || is_special c

-- a character as a word has it: one that does not stand for itself has a backslash before it
abbrev pub written : ℕ → List ℕ
written c = if is_marked c then 92 ∷ encode_utf8 c else encode_utf8 c

-- the word that stands for a text
abbrev pub written_word : List ℕ → List ℕ
written_word text = flat_map written (chars text)

-- the line of a mount point, as `/usr site`
abbrev pub site_line : Mount → List ℕ
site_line mount = written_word (path_text mount.path) ++ codes " site\n"

-- a line for each mount point of a table
abbrev pub site_text : List Mount → List ℕ
site_text table = flat_map site_line table
