-- Images of the page's own. (this project's own)
use Rattle.std.specs.Prelude.{ℕ, List}
use Rattle.std.specs.String.{string_bytes}
use Rattle.page_html.specs.declared.images.Drawn.{Drawn}

-- what an image is so far, as HTML
abbrev pub image_html : Drawn → List ℕ
image_html image = string_bytes image.html
