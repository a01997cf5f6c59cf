-- What is found of the lines of a site is found in one way, by value. (this project's own)
use Rattle.std.specs.Prelude.{◌≡◌, ℕ, ◌≤◌, All, List, Ok, length, map}
use Rattle.desk_policy.specs.Parsing.{read_site}
use Rattle.desk_policy.specs.Policy.{Content}
use Rattle.desk_policy.specs.Site.{SiteTexts}
use Rattle.page_data.specs.Laws.{IsSound, IsSoundSite}
use Rattle.page_data.specs.ReasonValues.{ReasonsValue, reasons_value}
use Rattle.page_data.specs.declared.lines.LineReasons.{LineReasons}
use Rattle.page_findings.specs.Deciding.{AreDecidedFor, DecidedFor}
use Rattle.page_findings.specs.Figures.{HasDirectories}
use Rattle.page_findings.specs.Findings.{AreFindings}
use Rattle.page_findings.specs.Flavours.{AreFlavoursInUse, UseValue}
use Rattle.page_findings.specs.Lines.{AreLinesOfSite, AreReasonsOfSite, LineValue, flavours_of, known_line}

-- the same lines by value
abbrev pub AreAlike : List LineValue → List LineValue → Type 0
AreAlike lines others = map known_line lines ≡ map known_line others

-- the reasons of the lines of a file system, and of each file system, by value
abbrev pub known_reasons : List LineReasons → List ReasonsValue
known_reasons reasons = map reasons_value reasons

abbrev pub AllHaveLikeReasons : List (List LineReasons) → List (List LineReasons) → Type 0
AllHaveLikeReasons reasons others = map known_reasons reasons ≡ map known_reasons others

-- a line has no more flavours than there are
abbrev pub HasFewFlavours : LineValue → Type 0
HasFewFlavours line = length (flavours_of line) ≤ 4

-- Of a sound site there is one list of lines with what is told of each, by value, one of those that stand out, and one of the lines that
-- decide in place of those that never do; and of lines one number of directories, and one list of their flavours.
pub record LinesAreToldInOneWay : Type 0 where
  pub reasons : (content : Content) (reasons others : List (List LineReasons)) → IsSoundSite content → AreReasonsOfSite content reasons
      → AreReasonsOfSite content others → AllHaveLikeReasons reasons others
  pub decided : (content : Content) (fs : ℕ) (reasons others : List LineReasons) (found other_found : List DecidedFor) → IsSound content fs
      → known_reasons reasons ≡ known_reasons others → AreDecidedFor content fs reasons found → AreDecidedFor content fs others other_found
      → found ≡ other_found
  pub lines : (content : Content) (lines others : List LineValue) → IsSoundSite content → AreLinesOfSite content lines → AreLinesOfSite content others
      → AreAlike lines others
  pub findings : (content : Content) (lines others found other_found : List LineValue) → IsSoundSite content → AreLinesOfSite content lines
      → AreLinesOfSite content others → AreFindings lines found → AreFindings others other_found → AreAlike found other_found
  pub directories : (lines others : List LineValue) (count other : ℕ) → AreAlike lines others → HasDirectories lines count
      → HasDirectories others other → count ≡ other
  pub flavours : (lines others : List LineValue) (uses other_uses : List UseValue) → AreAlike lines others → All HasFewFlavours lines
      → AreFlavoursInUse lines uses → AreFlavoursInUse others other_uses → uses ≡ other_uses

-- The lines of a site that is read have no more flavours than there are.
abbrev pub ReadLinesHaveFewFlavours : Type 0
ReadLinesHaveFewFlavours =
    (texts : SiteTexts) (content : Content) → read_site texts ≡ Ok content → (lines : List LineValue) → AreLinesOfSite content lines
    → All HasFewFlavours lines
