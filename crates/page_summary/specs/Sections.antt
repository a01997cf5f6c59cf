-- The sections of the page, and its end. (this project's own, over HTML)
use Rattle.std.specs.Prelude.{ℕ, List}
use Rattle.page_html.specs.Blocks.{tag_html}
use Rattle.page_html.specs.declared.blocks.Tag.{Tag}
use Rattle.page_html.specs.declared.blocks.Tag.TheVariants.{EachStart, FilesStart, NamesStart, NetworksStart, PageEnd, SectionEnd, SystemsStart, WarningsStart}
use Rattle.page_summary.specs.declared.sections.Section.{Section}
use Rattle.page_summary.specs.declared.sections.Section.TheVariants.{Each, Files, Names, Networks, Systems, Warnings}

-- how a section begins, with its heading, and how it ends
abbrev pub tag_of : Section → Tag
tag_of Systems = SystemsStart
tag_of Networks = NetworksStart
tag_of Each = EachStart
tag_of Warnings = WarningsStart
tag_of Names = NamesStart
tag_of Files = FilesStart

unfoldable pub section_start : Section → List ℕ
section_start section = tag_html (tag_of section)

abbrev pub section_end : List ℕ
section_end = tag_html SectionEnd

-- the end of the page
abbrev pub footer : List ℕ
footer = tag_html PageEnd
