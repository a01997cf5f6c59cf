-- What is made of blocks, piece by piece.
use Rattle.std.proofs.Common.{◌≡◌, ℕ, List, [], ◌∷◌, ◌++◌, ◌∙◌, Bool, true, false, ap, append-nil, map, refl, sym}
use Rattle.std.specs.Prelude.{Contains, if◌then◌else◌}
use Rattle.std.specs.List.{AllByRecursion, flat_map}
use Rattle.std.proofs.lemmas.List.Concat.{flat_map-append}
use Rattle.page_html.specs.Blocks.{element_html, facts_html, system_start, tag_html}
use Rattle.page_html.specs.Head.{page_head}
use Rattle.page_html.specs.Items.{Item}
use Rattle.page_html.specs.Pages.{Alone, Block, Facts, Fixed, Head, In, Row, Start, SystemStart, block_html, page_html}
use Rattle.page_html.specs.Tables.{Frame, row_html, rows_html, table_start}
use Rattle.page_html.specs.Titles.{Title}
use Rattle.page_html.specs.declared.blocks.Element.{Element}
use Rattle.page_html.specs.declared.blocks.Tag.{Tag}
use Rattle.page_html.specs.declared.blocks.Tag.TheVariants.{TableEnd}
use Rattle.page_site.specs.MadeOfBlocks.{HasNoOtherHtml, IsMadeOfBlocks, IsPicture, fixed_texts}
use Rattle.page_site.specs.Pieces.{Just, Then, Told}
use Rattle.page_html.proofs.Plain.{ArePlain, ArePlainCells, cells_alone, items_alone}

page_append : (some others : List (Block (List ℕ))) → page_html (some ++ others) ≡ page_html some ++ page_html others
unfolding page_html
page_append some others = flat_map-append block_html some others

pub all_append : {X : Type 0} (P : X → Type 0) (some others : List X) → AllByRecursion P some → AllByRecursion P others → AllByRecursion P (some ++ others)
all_append P [] others own its = its
all_append P (one ∷ some) others own its = (own.0, all_append P some others own.1 its)

pub nothing_made : IsMadeOfBlocks []
unfolding page_html
nothing_made = record { blocks = []; are = refl; own = tt }

pub block_made : (block : Block (List ℕ)) → HasNoOtherHtml block → IsMadeOfBlocks (block_html block)
unfolding page_html
block_made block own = record { blocks = block ∷ []; are = sym (append-nil (block_html block)); own = (own, tt) }

pub append_made : {some others : List ℕ} → IsMadeOfBlocks some → IsMadeOfBlocks others → IsMadeOfBlocks (some ++ others)
append_made {some = some} own its = record {
  blocks = own.blocks ++ its.blocks;
  are = ap (λ t. some ++ t) its.are ∙ ap (λ t. t ++ page_html its.blocks) own.are ∙ sym (page_append own.blocks its.blocks);
  own = all_append HasNoOtherHtml own.blocks its.blocks own.own its.own;
}

pub same_made : {text other : List ℕ} → text ≡ other → IsMadeOfBlocks other → IsMadeOfBlocks text
same_made same made = record { blocks = made.blocks; are = same ∙ made.are; own = made.own }

pub if_made : (is : Bool) {some others : List ℕ} → IsMadeOfBlocks some → IsMadeOfBlocks others → IsMadeOfBlocks (if is then some else others)
if_made true own its = own
if_made false own its = its

-- ---- blocks
pub element_made : (element : Element) (items : List (Item (List ℕ))) → ArePlain items → IsMadeOfBlocks (element_html element items)
element_made element items plain = block_made (In element items) (items_alone IsPicture items plain.are)

pub tag_made : (tag : Tag) → IsMadeOfBlocks (tag_html tag)
tag_made tag = block_made (Alone tag) tt

pub head_made : (word : List ℕ) → IsMadeOfBlocks (page_head word)
head_made word = block_made (Head word) tt

pub system_start_made : (fs : ℕ) → IsMadeOfBlocks (system_start fs)
system_start_made fs = block_made (SystemStart fs) tt

pub fixed_made : (html : List ℕ) → Contains fixed_texts html → IsMadeOfBlocks html
fixed_made html has = block_made (Fixed html) has

pub start_made : (frame : Frame) (title : List (Title (List ℕ))) → IsMadeOfBlocks (table_start frame title)
start_made frame title = block_made (Start frame title) tt

pub facts_made : (frame : Frame) (facts : List (List (Item (List ℕ)))) → ArePlainCells facts → IsMadeOfBlocks (facts_html frame facts)
facts_made frame facts plain = block_made (Facts frame facts) (cells_alone IsPicture facts plain.are)

pub row_made : (frame : Frame) (cells : List (List (Item (List ℕ)))) → ArePlainCells cells → IsMadeOfBlocks (row_html frame cells)
row_made frame cells plain = block_made (Row frame cells) (cells_alone IsPicture cells plain.are)

-- ---- lists
pub each_made : {X : Type 0} (text : X → List ℕ) → ((x : X) → IsMadeOfBlocks (text x)) → (xs : List X) → IsMadeOfBlocks (flat_map text xs)
each_made text made [] = nothing_made
each_made text made (x ∷ xs) = append_made (made x) (each_made text made xs)

pub rows_made : {X : Type 0} (frame : Frame) (cells : X → List (List (Item (List ℕ)))) → ((x : X) → ArePlainCells (cells x)) → (xs : List X)
    → IsMadeOfBlocks (rows_html frame (map cells xs))
unfolding rows_html
rows_made frame cells plain [] = nothing_made
rows_made frame cells plain (x ∷ xs) = append_made (row_made frame (cells x) (plain x)) (rows_made frame cells plain xs)

pub table_made : {X : Type 0} (frame : Frame) (title : List (Title (List ℕ))) (cells : X → List (List (Item (List ℕ)))) → ((x : X) → ArePlainCells (cells x)) → (xs : List X)
    → IsMadeOfBlocks (table_start frame title ++ rows_html frame (map cells xs) ++ tag_html TableEnd)
table_made frame title cells plain xs = append_made (append_made (start_made frame title) (rows_made frame cells plain xs)) (tag_made TableEnd)

-- ---- relations
abbrev pub IsMadeIf : (List ℕ → Type 0) → Type 0
IsMadeIf Is = (text : List ℕ) → Is text → IsMadeOfBlocks text

pub just_made : {words : List ℕ} → IsMadeOfBlocks words → IsMadeIf (Just words)
just_made made text same = same_made same made

pub told_made : {A : Type 0} (Is : A → Type 0) (words : A → List ℕ) → ((value : A) → Is value → IsMadeOfBlocks (words value)) → IsMadeIf (Told Is words)
told_made Is words made text told = same_made told.text_is (made told.value told.is)

pub then_made : {First Second : List ℕ → Type 0} → IsMadeIf First → IsMadeIf Second → IsMadeIf (Then First Second)
then_made first second text both = same_made both.text_is (append_made (first both.first both.is_first) (second both.second both.is_second))
