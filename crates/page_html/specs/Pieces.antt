-- Pieces of the page: texts and links. (this project's own, over HTML)
use Rattle.std.specs.Prelude.{ℕ, List, ◌++◌, codes}
use Rattle.std.specs.Fmt.{decimal}
use Rattle.std.specs.List.{join_by}
use Rattle.page_html.specs.Escaping.{escaped}

-- a text stands in `code`, so that it does not turn what is beside it
abbrev pub code : List ℕ → List ℕ
code text = codes "<code>" ++ escaped text ++ codes "</code>"

-- texts with commas between them
abbrev pub code_list : List (List ℕ) → List ℕ
code_list texts = join_by code (codes ", ") texts

-- a link to a line of the text of a file system, and one to the file system
abbrev pub line_link : ℕ → ℕ → List ℕ
line_link fs line = codes "<a class=\"l\" href=\"#f" ++ decimal fs ++ codes "-" ++ decimal line ++ codes "\">line " ++ decimal line ++ codes "</a>"

abbrev pub system_link : ℕ → List ℕ → List ℕ
system_link fs name = codes "<a href=\"#f" ++ decimal fs ++ codes "\">" ++ code name ++ codes "</a>"
