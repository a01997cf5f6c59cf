-- What each part of the page comes to. (this project's own, over HTML)
use Rattle.std.specs.Prelude.{ℕ, List, ◌++◌, codes, drop, length, nat_le, take, if◌then◌else◌}
use Rattle.std.specs.Fmt.{decimal}
use Rattle.page_html.specs.Amounts.{and_more}
use Rattle.page_html.specs.Escaping.{attribute, escaped, escaped_line}
use Rattle.page_html.specs.Numbers.{number}
use Rattle.page_html.specs.Pieces.{code, code_list}
use Rattle.page_html.specs.PartAmounts.{percent_of, plural}

-- words of the page's own between two tags: no character of them is markup either
abbrev pub within : List ℕ → List ℕ → List ℕ → List ℕ
within start words end = start ++ attribute words ++ end

-- words that stand out, words that stand for nothing, small ones, and a word as it is written in a file or a command
abbrev pub strong : List ℕ → List ℕ
strong words = within (codes "<b>") words (codes "</b>")

abbrev pub zero : List ℕ → List ℕ
zero words = within (codes "<span class=\"zero\">") words (codes "</span>")

abbrev pub small : List ℕ → List ℕ
small words = within (codes "<small>") words (codes "</small>")

abbrev pub word : List ℕ → List ℕ
word words = within (codes "<code>") words (codes "</code>")

-- words with a word of the style sheet, or of the page's own places, in the tag before them
abbrev pub classed : List ℕ → List ℕ → List ℕ → List ℕ → List ℕ
classed start class words end = start ++ attribute class ++ within (codes "\">") words end

-- a badge, how much a line stands out, and a link to a place of the page
abbrev pub badge : List ℕ → List ℕ → List ℕ
badge class words = classed (codes "<span class=\"b ") class words (codes "</span>")

abbrev pub level : List ℕ → List ℕ → List ℕ
level class words = classed (codes "<b class=\"l ") class words (codes "</b>")

abbrev pub link : List ℕ → List ℕ → List ℕ
link place words = classed (codes "<a href=\"#") place words (codes "</a>")

-- so many of what small words say, and how much of a whole
abbrev pub small_count : ℕ → List ℕ → List ℕ
small_count count words = codes "<small>" ++ number count ++ within (codes " ") words (codes "</small>")

abbrev pub small_plural : ℕ → List ℕ → List ℕ → List ℕ
small_plural count one more = codes "<small>" ++ plural count one more ++ codes "</small>"

abbrev pub small_percent : ℕ → ℕ → List ℕ
small_percent count whole = codes "<small>" ++ percent_of count whole ++ codes "</small>"

-- a digest, and a line of a file
abbrev pub digest : List ℕ → List ℕ
digest text = codes "<code class=\"sha\">" ++ escaped text ++ codes "</code>"

abbrev pub code_line : List ℕ → List ℕ
code_line line = codes "<code>" ++ escaped_line line ++ codes "</code>"

-- at most so many texts, and how many more there are
abbrev pub some_codes : ℕ → List (List ℕ) → List ℕ
some_codes most texts =
    if nat_le (length texts) most then code_list texts else code_list (take most texts) ++ and_more (length (drop most texts))

-- a link to a line, with the name of its file system
abbrev pub link_start : ℕ → ℕ → List ℕ
link_start fs line = codes "<a href=\"#f" ++ decimal fs ++ codes "-" ++ decimal line ++ codes "\">"

abbrev pub link_end : ℕ → List ℕ
link_end line = codes " line&nbsp;" ++ decimal line ++ codes "</a>"

abbrev pub system_line : ℕ → List ℕ → ℕ → List ℕ
system_line fs name line = link_start fs line ++ code name ++ link_end line
