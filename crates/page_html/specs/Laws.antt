-- What a page makes of a site's texts, what a list says that is cut, and what the head of a page lets a browser do. (this project's own,
-- over Content Security Policy Level 3, 2.2.1 and 6.7.2)
use Rattle.std.specs.Prelude.{◌≡◌, ℕ, suc, ◌+◌, ◌≤◌, ◌==◌, List, [], ◌∷◌, ◌++◌, codes, drop, length, map, take, if◌then◌else◌}
use Rattle.std.specs.Str.{IsUtf8}
use Rattle.page_html.specs.Amounts.{and_more}
use Rattle.page_html.specs.Escaping.{attribute}
use Rattle.page_html.specs.TextLaws.{NoTextIsMarkup}
use Rattle.page_html.specs.Numbers.{number}
use Rattle.page_html.specs.Pieces.{code_list}
use Rattle.page_html.specs.Ranges.{left_out, range_list, ranges_text}
use Rattle.page_html.specs.declared.ranges.Span.{Span}
use Rattle.page_html.specs.Head.{before_policy, behind_policy, page_head, policy, sheet, style_digest}
use Rattle.page_html.specs.Pages.{Block, Piece, Attribute, Shown, ShownLine, block_with, html, page_html, page_pieces, piece_with}
use Rattle.page_html.specs.PartPieces.{some_codes}

-- Each page is made of pieces. Its own bytes, and where a site's texts stand between them, are the same whatever these say: with other texts
-- in their place, just the texts among the pieces are others. No character of a text is markup. And of two pages that differ in one text
-- alone, the bytes differ.
pub record PagesAreMadeOfPieces : Type 0 where
  pub made : (page : List (Block (List ℕ))) → page_html page ≡ html (page_pieces page)
  pub own : (f : List ℕ → List ℕ) (page : List (Block (List ℕ))) → page_pieces (map (block_with f) page) ≡ map (piece_with f) (page_pieces page)
  pub free : NoTextIsMarkup
  pub apart : (before behind : List (Piece (List ℕ))) (text other : List ℕ) → IsUtf8 text → IsUtf8 other
      → html (before ++ Shown text ∷ behind) ≡ html (before ++ Shown other ∷ behind) → text ≡ other
  pub lines_apart : (before behind : List (Piece (List ℕ))) (text other : List ℕ) → IsUtf8 text → IsUtf8 other
      → html (before ++ ShownLine text ∷ behind) ≡ html (before ++ ShownLine other ∷ behind) → text ≡ other
  pub attributes_apart : (before behind : List (Piece (List ℕ))) (text other : List ℕ) → IsUtf8 text → IsUtf8 other
      → html (before ++ Attribute text ∷ behind) ≡ html (before ++ Attribute other ∷ behind) → text ≡ other

-- Of texts that are too many the first are shown, and behind them how many more there are: all others. Of ranges the first 8 are shown, and
-- of the others, which are folded, the number; of very many 248 of these are listed, and it is said how many more there are.
pub record ListsSayWhatTheyLeaveOut : Type 0 where
  pub few : (most : ℕ) (texts : List (List ℕ)) → length texts ≤ most → some_codes most texts ≡ code_list texts
  pub many : (most others : ℕ) (texts : List (List ℕ)) → length texts ≡ most + suc others
      → some_codes most texts ≡ code_list (take most texts) ++ and_more (suc others)
  pub ranges : (others : ℕ) (spans : List Span) → length spans ≡ 256 + suc others
      → ranges_text spans ≡ range_list (take 8 spans)
      ++ (codes "<details><summary>" ++ number (248 + suc others) ++ codes " more</summary>\n"
      ++ (range_list (take 248 (drop 8 spans)) ++ left_out (suc others)) ++ codes "</details>\n")

-- what stands before the first of a byte
abbrev pub before : ℕ → List ℕ → List ℕ
before b [] = []
before b (c ∷ cs) = if c == b then [] else c ∷ before b cs

-- a byte before the first of some texts
abbrev pub onto : ℕ → List (List ℕ) → List (List ℕ)
onto c [] = (c ∷ []) ∷ []
onto c (word ∷ words) = (c ∷ word) ∷ words

-- a text cut at each of a byte
abbrev pub cut_at : ℕ → List ℕ → List (List ℕ)
cut_at b [] = [] ∷ []
cut_at b (c ∷ cs) = if c == b then [] ∷ cut_at b cs else onto c (cut_at b cs)

-- the words among what is cut at spaces
abbrev pub words_in : List (List ℕ) → List (List ℕ)
words_in [] = []
words_in ([] ∷ words) = words_in words
words_in ((c ∷ cs) ∷ words) = (c ∷ cs) ∷ words_in words

-- the directives of a policy: each has a name, and the sources that it allows
abbrev pub directives : List ℕ → List (List (List ℕ))
directives text = map (λ one. words_in (cut_at 32 one)) (cut_at 59 text)

-- The policy of a page stands in its head before all that could be fetched, an attribute without a quotation mark in it. Nothing may be
-- fetched or run, by whatever a page says, and there is no source but the digest of the page's own style sheet.
pub record NothingIsFetchedOrRun : Type 0 where
  pub stands : (database : List ℕ) → page_head database ≡ before_policy ++ policy ++ behind_policy ++ attribute database ++ sheet
  pub ends : before 34 (policy ++ behind_policy) ≡ policy
  pub allows : directives policy
      ≡ (codes "default-src" ∷ codes "'none'" ∷ []) ∷ (codes "style-src" ∷ (codes "'" ++ style_digest ++ codes "'") ∷ []) ∷ []
