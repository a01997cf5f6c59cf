-- How the page is read. (this project's own, over HTML)
use Rattle.std.specs.Prelude.{ℕ, List}
use Rattle.page_lists.specs.declared.reading.TheConstants.{HOW_TO_READ}

-- how the page is read
unfoldable pub how_to_read : List ℕ
how_to_read = HOW_TO_READ.now
