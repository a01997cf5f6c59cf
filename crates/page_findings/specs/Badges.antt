-- Badges of classes, marks of levels, and how many addresses are of which class. (this project's own)
use Rattle.std.specs.Prelude.{ℕ, ◌==◌, ◌^◌, List, [], ◌∷◌, ◌++◌, codes, if◌then◌else◌}
use Rattle.page_data.specs.declared.class.Class.{Class}
use Rattle.page_data.specs.declared.class.Class.TheVariants.{Denied, ReadOnly, ReadWrite, RootKept}
use Rattle.page_data.specs.declared.counts.Counts.{Counts}
use Rattle.page_data.specs.declared.reasons.Level.{Level}
use Rattle.page_data.specs.declared.reasons.Level.TheVariants.{LookFirst, Check}
use Rattle.page_html.specs.Items.{Badge, Item, Number, Own, PartOf, Space, Words, items_html}
use Rattle.page_html.specs.Items as items
use Rattle.page_findings.specs.Joining.{comma, joined}
use Rattle.page_findings.specs.declared.badges.Measure.{Measure}
use Rattle.page_findings.specs.declared.badges.Measure.TheVariants.{Count, Share}

-- the badge of a class, which the style sheet tells apart by more than its colour
abbrev pub badge_item : Class → Item (List ℕ)
badge_item Denied = Own (Badge (codes "n") (codes "denied"))
badge_item ReadOnly = Own (Badge (codes "o") (codes "read-only"))
badge_item ReadWrite = Own (Badge (codes "w") (codes "read-write"))
badge_item RootKept = Own (Badge (codes "r") (codes "root kept"))

-- the mark of a level
abbrev pub level_item : Level → Item (List ℕ)
level_item LookFirst = Own (items.Level (codes "look-first") (codes "look first"))
level_item Check = Own (items.Level (codes "check") (codes "check"))

-- the words for a class
abbrev pub class_words : Class → List ℕ
class_words Denied = codes "denied"
class_words ReadOnly = codes "read-only"
class_words ReadWrite = codes "read-write"
class_words RootKept = codes "root kept"

-- how many addresses are of a class
abbrev pub count_of : Counts → Class → ℕ
count_of counts Denied = counts.denied
count_of counts ReadOnly = counts.read_only
count_of counts ReadWrite = counts.read_write
count_of counts RootKept = counts.root_kept

-- a class, if some address has it
abbrev pub if_any : Counts → Class → List Class
if_any counts class = if count_of counts class == 0 then [] else class ∷ []

-- the classes of a mount that is granted which some address has, the most first
unfoldable pub present : Counts → List Class
present counts = if_any counts RootKept ++ if_any counts ReadWrite ++ if_any counts ReadOnly

-- how many addresses are of a class, as `root kept 1`, or with its badge what part of all; no line is broken before a number
abbrev pub class_items : Measure → Counts → Class → List (Item (List ℕ))
class_items Count counts class = Own (Words (class_words class)) ∷ Own Space ∷ Own (Number (count_of counts class)) ∷ []
class_items Share counts class = badge_item class ∷ Own Space ∷ Own (PartOf (count_of counts class) (2 ^ 32)) ∷ []

-- the same of some classes, or that there is nobody
abbrev pub classes_items : Measure → Counts → List Class → List (Item (List ℕ))
classes_items measure counts [] = Own (Words (codes "nobody")) ∷ []
classes_items measure counts (first ∷ others) = joined (class_items measure counts) comma (first ∷ others)

-- the same of all that some address has, as `root kept 1, read-only 255`
abbrev pub measured_items : Measure → Counts → List (Item (List ℕ))
measured_items measure counts = classes_items measure counts (present counts)

unfoldable pub count_words : Counts → List ℕ
count_words counts = items_html (measured_items Count counts)
