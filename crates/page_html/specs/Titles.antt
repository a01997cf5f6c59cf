-- The title of a table: its caption, and what the box around it is called. (this project's own, over HTML)
use Rattle.std.specs.Prelude.{ℕ, List, map}
use Rattle.std.specs.List.{flat_map}
use Rattle.page_html.specs.Escaping.{attribute}
use Rattle.page_html.specs.Pieces.{code}
use Rattle.page_html.specs.PartAmounts.{more}
use Rattle.page_html.specs.declared.titles.Title.{Title as LentTitle}
use Rattle.page_html.specs.declared.titles.Title.TheVariants as lent

-- a part of a title: words of the page's own, a name of a site's, or how many more names there are
pub data Title (T : Type 0) : Type 0 where
  Said : List ℕ → Title T
  Named : T → Title T
  Further : ℕ → Title T

-- a part of a title by value
abbrev pub title_of : LentTitle → Title (List ℕ)
title_of (lent.Said words) = Said words.now
title_of (lent.Named name) = Named name.now
title_of (lent.Further count) = Further count

abbrev pub titles_of : List LentTitle → List (Title (List ℕ))
titles_of title = map title_of title

-- in the caption
abbrev pub caption_html : Title (List ℕ) → List ℕ
caption_html (Said words) = attribute words
caption_html (Named name) = code name
caption_html (Further count) = more count

unfoldable pub captions_html : List (Title (List ℕ)) → List ℕ
captions_html title = flat_map caption_html title

-- the same as an attribute, which has no elements
abbrev pub label_html : Title (List ℕ) → List ℕ
label_html (Said words) = attribute words
label_html (Named name) = attribute name
label_html (Further count) = more count

unfoldable pub labels_html : List (Title (List ℕ)) → List ℕ
labels_html title = flat_map label_html title
