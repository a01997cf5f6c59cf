-- The cells of a row of the table of networks. (this project's own)
use Rattle.std.specs.Prelude.{ℕ, ◌==◌, List, [], ◌∷◌, ◌++◌, codes, drop, length, take, if◌then◌else◌}
use Rattle.desk_policy.specs.Policy.{Content}
use Rattle.desk_policy.specs.Prints.{mount_text}
use Rattle.page_html.specs.Items.{Break, Item, Own, Plural, System, Words, Zero}
use Rattle.page_findings.specs.Badges.{badge_item, measured_items}
use Rattle.page_findings.specs.Joining.{joined}
use Rattle.page_findings.specs.declared.badges.Measure.TheVariants.{Share}
use Rattle.page_maps.specs.declared.networks.SystemClass.{SystemClass}
use Rattle.page_maps.specs.declared.networks.SystemCounts.{SystemCounts}

-- what is said of each of some file systems, with a part between each two, and a dash if there are none
abbrev pub each_or_dash : {X : Type 0} → (X → List (Item (List ℕ))) → Item (List ℕ) → List X → List (Item (List ℕ))
each_or_dash items between [] = Own (Zero (codes "-")) ∷ []
each_or_dash items between (first ∷ others) = joined items between (first ∷ others)

-- behind those file systems that are named, how many more there are, if there are any
abbrev pub more_systems : Item (List ℕ) → ℕ → List (Item (List ℕ))
more_systems between count =
    if count == 0 then [] else between ∷ Own (Plural count (codes "more file system") (codes "more file systems")) ∷ []

-- of some values, each of a file system, what is said of the first 12, and how many more there are
abbrev pub some_of : {X : Type 0} → (X → List (Item (List ℕ))) → Item (List ℕ) → List X → List (Item (List ℕ))
some_of items between values = each_or_dash items between (take 12 values) ++ more_systems between (length (drop 12 values))

-- a link to a file system
abbrev pub link : Content → ℕ → Item (List ℕ)
link content fs = System fs (mount_text content fs)

-- a file system, and what all addresses may there, and what stands between two of them
abbrev pub alike : Content → SystemClass → List (Item (List ℕ))
alike content one = link content one.fs.0 ∷ Own (Words (codes " ")) ∷ badge_item one.class ∷ []

abbrev pub semicolon : Item (List ℕ)
semicolon = Own (Words (codes "; "))

-- a file system, and how many addresses may what there, and what stands between two of them
abbrev pub counted : Content → SystemCounts → List (Item (List ℕ))
counted content one = link content one.fs.0 ∷ Own (Words (codes " ")) ∷ measured_items Share one.counts

abbrev pub line_break : Item (List ℕ)
line_break = Own Break

-- the cell of the file systems on which all addresses may the same, and that of those on which they do not
abbrev pub alike_cell : Content → List SystemClass → List (Item (List ℕ))
alike_cell content ones = some_of (alike content) semicolon ones

abbrev pub mixed_cell : Content → List SystemCounts → List (Item (List ℕ))
mixed_cell content ones = some_of (counted content) line_break ones
