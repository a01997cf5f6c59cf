-- The head of the page. (this project's own, over the HTML Living Standard and Content Security Policy Level 3)
use Rattle.std.specs.Prelude.{ℕ, List, ◌++◌, codes}
use Rattle.page_html.specs.Escaping.{attribute}
use Rattle.page_html.specs.declared.style.TheConstants.{STYLE}

-- what stands before the policy: nothing of it is fetched or run
abbrev pub before_policy : List ℕ
before_policy = codes "<!DOCTYPE html>\n<html lang=\"en\">\n<head>\n<meta charset=\"utf-8\">\n<meta http-equiv=\"Content-Security-Policy\" content=\""

-- the policy that a browser keeps on the page, and the SHA-256 of the style sheet in Base64
abbrev pub style_digest : List ℕ
style_digest = codes "sha256-4rdn4sO52TbfG+mO+vk3R53Tm58Fof8PUx7CskmmetY="

abbrev pub policy : List ℕ
policy = codes "default-src 'none'; style-src '" ++ style_digest ++ codes "'"

-- what stands between the policy and the word for the database
abbrev pub behind_policy : List ℕ
behind_policy = codes "\">\n<meta name=\"viewport\" content=\"width=device-width, initial-scale=1\">\n<meta name=\"color-scheme\" content=\"light dark\">\n<meta name=\"referrer\" content=\"no-referrer\">\n<meta name=\"robots\" content=\"noindex\">\n<title>Exports of "

abbrev pub head_start : List ℕ
head_start = before_policy ++ policy ++ behind_policy

-- the style sheet, as it stands in src/style.rt, behind the title
unfoldable pub style : List ℕ
style = STYLE.now

abbrev pub sheet : List ℕ
sheet = codes "</title>\n<style>" ++ style ++ codes "</style>\n</head>\n<body>\n"

-- the head, with the word for the database as the title
abbrev pub page_head : List ℕ → List ℕ
page_head database = head_start ++ attribute database ++ sheet
