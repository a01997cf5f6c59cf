-- What stands around rows and parts: elements, tags and facts. (this project's own, over HTML)
use Rattle.std.specs.Prelude.{ℕ, List, ◌++◌, codes}
use Rattle.std.specs.Fmt.{decimal}
use Rattle.page_html.specs.Items.{Item, items_html}
use Rattle.page_html.specs.PartPieces.{within}
use Rattle.page_html.specs.Tables.{Frame, cells_html}
use Rattle.page_html.specs.declared.blocks.Element.{Element}
use Rattle.page_html.specs.declared.blocks.Element.TheVariants as element
use Rattle.page_html.specs.declared.blocks.Tag.{Tag}
use Rattle.page_html.specs.declared.blocks.Tag.TheVariants as tag

-- an element that has parts
abbrev pub element_start : Element → List ℕ
element_start element.Title = codes "<h1>"
element_start element.Heading = codes "<h3>"
element_start element.Subheading = codes "<h4>"
element_start element.PlacesHeading = codes "<h4 class=\"sub\">"
element_start element.PlaceHeading = codes "<h5>"
element_start element.Paragraph = codes "<p>"
element_start element.State = codes "<p class=\"state\">"
element_start element.Cut = codes "<p class=\"cut\">"
element_start element.Names = codes "<p class=\"names\">"
element_start element.Up = codes "<p class=\"up\">"
element_start element.Commands = codes "<pre><code>"
element_start element.Figure = codes "<figure>"
element_start element.Entry = codes "<li>"
element_start element.Fold = codes "<details><summary>"
element_start element.OpenFold = codes "<details open><summary>"

abbrev pub element_end : Element → List ℕ
element_end element.Title = codes "</h1>\n"
element_end element.Heading = codes "</h3>\n"
element_end element.Subheading = codes "</h4>\n"
element_end element.PlacesHeading = codes "</h4>\n"
element_end element.PlaceHeading = codes "</h5>\n"
element_end element.Paragraph = codes "</p>\n"
element_end element.State = codes "</p>\n"
element_end element.Cut = codes "</p>\n"
element_end element.Names = codes "</p>\n"
element_end element.Up = codes "</p>\n"
element_end element.Commands = codes "</code></pre>\n"
element_end element.Figure = codes "</figure>\n"
element_end element.Entry = codes "</li>\n"
element_end element.Fold = codes "</summary>\n"
element_end element.OpenFold = codes "</summary>\n"

abbrev pub element_html : Element → List (Item (List ℕ)) → List ℕ
element_html one items = element_start one ++ items_html items ++ element_end one

-- a tag that stands alone
abbrev pub tag_html : Tag → List ℕ
tag_html tag.HeaderStart = codes "<header>\n<p class=\"kind\">Export report</p>\n"
tag_html tag.SummaryStart = codes "<section id=\"summary\">\n<h2>Summary</h2>\n"
tag_html tag.SystemsStart = codes "<section id=\"systems\">\n<h2>File systems</h2>\n"
tag_html tag.NetworksStart = codes "<section id=\"networks\">\n<h2>Networks of the site</h2>\n"
tag_html tag.EachStart = codes "<section id=\"each\">\n<h2>Each file system</h2>\n"
tag_html tag.WarningsStart = codes "<section id=\"warnings\">\n<h2>Warnings</h2>\n"
tag_html tag.NamesStart = codes "<section id=\"names\">\n<h2>Netgroups and names</h2>\n"
tag_html tag.FilesStart = codes "<section id=\"files\">\n<h2>Files and revisions</h2>\n"
tag_html tag.TableEnd = codes "</tbody>\n</table></div>\n"
tag_html tag.FoldEnd = codes "</details>\n"
tag_html tag.FindingsStart = codes "<ul class=\"mine\">"
tag_html tag.ListEnd = codes "</ul>\n"
tag_html tag.MapsStart = codes "<div class=\"maps\">\n"
tag_html tag.MapsEnd = codes "</div>\n"
tag_html tag.ProposalStart = codes "<section class=\"wait\">\n"
tag_html tag.PlaceStart = codes "<section class=\"place\">\n"
tag_html tag.SectionEnd = codes "</section>\n"
tag_html tag.PageEnd = codes "</main>\n</body>\n</html>\n"

-- the beginning of what tells of a file system, which links lead to
abbrev pub system_start : ℕ → List ℕ
system_start fs = codes "<section class=\"fs\" id=\"f" ++ decimal fs ++ codes "\">\n"

-- facts, each with its term
abbrev pub facts_start : List ℕ → List ℕ
facts_start class = within (codes "<dl class=\"") class (codes "\">\n")

abbrev pub facts_html : Frame → List (List (Item (List ℕ))) → List ℕ
facts_html frame facts = facts_start frame.class ++ cells_html frame.columns facts ++ codes "</dl>\n"
