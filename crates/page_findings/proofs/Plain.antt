-- The parts that tell of classes, and why lines stand out, have no picture.
use Rattle.std.proofs.Common.{ℕ, List, [], ◌∷◌, Option, Some, None, codes, drop, length, refl, take}
use Rattle.desk_exports.specs.declared.entry.Flavour.{Flavour}
use Rattle.desk_exports.specs.declared.entry.Terms.{Terms}
use Rattle.page_data.specs.ReasonValues.{Another, GrantsMore, ReasonValue, WiderValue, wider_value}
use Rattle.page_data.specs.declared.class.Class.{Class}
use Rattle.page_data.specs.declared.class.Class.TheVariants.{Denied, ReadOnly, ReadWrite, RootKept}
use Rattle.page_data.specs.declared.counts.Counts.{Counts}
use Rattle.page_data.specs.declared.reasons.Level.{Level}
use Rattle.page_data.specs.declared.reasons.Level.TheVariants.{Check, LookFirst}
use Rattle.page_data.specs.declared.reasons.Reason.{Reason}
use Rattle.page_data.specs.declared.reasons.Reason.TheVariants.{NeverDecides, ForEverybodyReadOnly, ForEverybodyReadWrite, ServerGrantsMore}
use Rattle.page_findings.specs.Badges.{badge_item, class_items, classes_items, level_item, measured_items, present}
use Rattle.page_findings.specs.FindingWords.{FindingValue, colon, decide_words, deciding, finding_items, flavour_item, flavour_items, for_everybody, line_item, listed, reason_items, some_lines, value_items, wider}
use Rattle.page_findings.specs.Joining.{comma, joined}
use Rattle.page_findings.specs.declared.badges.Measure.{Measure}
use Rattle.page_findings.specs.declared.badges.Measure.TheVariants.{Count, Share}
use Rattle.page_html.specs.Items.{AndMore, Item, Own, Words}
use Rattle.page_html.proofs.Plain.{ArePlain, IsPlain, plain_append, plain_cons, plain_each}

pub plain_joined : {X : Type 0} (items : X → List (Item (List ℕ))) (between : Item (List ℕ)) → IsPlain between → ((x : X) → ArePlain (items x)) → (xs : List X) → ArePlain (joined items between xs)
plain_joined items between is plain [] = record { are = refl }
plain_joined items between is plain (x ∷ xs) = plain_append (plain x) (plain_each (λ other. between ∷ items other) (λ other. plain_cons is (plain other)) xs)

pub badge_plain : (class : Class) → IsPlain (badge_item class)
badge_plain Denied = record { is = refl }
badge_plain ReadOnly = record { is = refl }
badge_plain ReadWrite = record { is = refl }
badge_plain RootKept = record { is = refl }

pub level_plain : (level : Level) → IsPlain (level_item level)
level_plain LookFirst = record { is = refl }
level_plain Check = record { is = refl }

pub comma_plain : IsPlain comma
comma_plain = record { is = refl }

class_plain : (measure : Measure) (counts : Counts) (class : Class) → ArePlain (class_items measure counts class)
class_plain Count counts class = record { are = refl }
class_plain Share counts class = plain_cons (badge_plain class) (record { are = refl })

classes_plain : (measure : Measure) (counts : Counts) (classes : List Class) → ArePlain (classes_items measure counts classes)
classes_plain measure counts [] = record { are = refl }
classes_plain measure counts (first ∷ others) = plain_joined (class_items measure counts) comma comma_plain (class_plain measure counts) (first ∷ others)

pub measured_plain : (measure : Measure) (counts : Counts) → ArePlain (measured_items measure counts)
measured_plain measure counts = classes_plain measure counts (present counts)

-- ---- reasons
flavours_plain : (flavours : List Flavour) → ArePlain (flavour_items flavours)
flavours_plain flavours = plain_joined flavour_item colon (record { is = refl }) (λ flavour. record { are = refl }) flavours

everybody_plain : (access : List ℕ) (terms : Terms) → ArePlain (for_everybody access terms)
everybody_plain access terms = record { are = (flavours_plain terms.flavours).are }

some_lines_plain : (fs : ℕ) (lines : List ℕ) → ArePlain (some_lines fs lines)
some_lines_plain fs lines =
    let more : ArePlain (Own (AndMore (length (drop 6 lines))) ∷ []) = record { are = refl } in
    plain_append (plain_joined (line_item fs) comma comma_plain (λ line. record { are = refl }) (take 6 lines)) more

deciding_plain : (fs : ℕ) (lines : List ℕ) → ArePlain (deciding fs lines)
deciding_plain fs lines =
    let decide : ArePlain (Own (Words (decide_words (length lines))) ∷ []) = record { are = refl } in
    record { are = (plain_append (some_lines_plain fs lines) decide).are }

listed_plain : (directory : Option (List (List ℕ))) → ArePlain (listed directory)
listed_plain (Some directory) = record { are = refl }
listed_plain None = record { are = refl }

wider_plain : (fs : ℕ) (found : WiderValue) → ArePlain (wider fs found)
wider_plain fs found = record { are = (listed_plain found.directory).are }

reason_plain : (finding : FindingValue) (reason : Reason) → ArePlain (reason_items finding reason)
reason_plain finding NeverDecides = deciding_plain finding.fs finding.deciding
reason_plain finding ForEverybodyReadOnly = everybody_plain (codes "read-only") finding.terms
reason_plain finding ForEverybodyReadWrite = everybody_plain (codes "read-write") finding.terms
reason_plain finding (ServerGrantsMore found) = wider_plain finding.fs (wider_value found)
reason_plain finding reason = record { are = refl }

value_plain : (finding : FindingValue) (reason : ReasonValue) → ArePlain (value_items finding reason)
value_plain finding (GrantsMore found) = wider_plain finding.fs found
value_plain finding (Another reason) = reason_plain finding reason

pub finding_plain : (finding : FindingValue) → ArePlain (finding_items finding)
finding_plain finding = plain_joined (value_items finding) comma comma_plain (value_plain finding) finding.reasons
