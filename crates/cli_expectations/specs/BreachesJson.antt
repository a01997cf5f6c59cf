-- How what breaks expectations is printed as JSON. (RFC 8259; the members are this project's own)
use Rattle.std.specs.Prelude.{ℕ, Bool, true, false, List, [], ◌∷◌, ◌++◌, codes, map}
use Rattle.std.specs.List.{flat_map}
use Rattle.std.specs.Str.{chars}
use Rattle.serde_json.specs.Data.{Data, Members, boolean, member, no_members, number, object, string, unsigned}
use Rattle.serde_json.specs.Written.{compact_text}
use Rattle.desk_text.specs.Address.{addr_text}
use Rattle.desk_text.specs.Path.{path_text}
use Rattle.desk_policy.specs.Policy.{Content}
use Rattle.desk_policy.specs.Prints.{verdict_line}
use Rattle.desk_who.specs.Runs.{Run, run_value}
use Rattle.desk_impact.specs.Places.{Directory, Others, Place, place_of}
use Rattle.desk_expect.specs.Judging.{JudgedValue, PlaceJudged, judged_value}
use Rattle.desk_expect.specs.ReportText.{BrokenValue}
use Rattle.desk_expect.specs.declared.expectation.Expectation.{Expectation}
use Rattle.desk_check.specs.FindingJson.{shown_in_json}
use Rattle.cli_expectations.specs.declared.breaches_json.Breach.{Breach}

-- a range of addresses for which an expectation is broken at a place
pub record BreachValue : Type 0 where
  pub expectation : Expectation
  pub place : Place
  pub range : Run JudgedValue

-- the same by value
abbrev pub breach_value : Breach → BreachValue
breach_value breach = record { expectation = breach.expectation.now; place = place_of breach.place; range = run_value judged_value breach.range }

-- the ranges of a section
abbrev pub breaches_at : Expectation → PlaceJudged → List BreachValue
breaches_at expectation section = map (λ range. record { expectation = expectation; place = section.place; range = range }) section.ranges

-- those of an expectation, section by section, and of all that are broken
abbrev pub breaches_of : BrokenValue → List BreachValue
breaches_of broken = flat_map (breaches_at broken.expectation) broken.sections

abbrev pub breaches_in : List BrokenValue → List BreachValue
breaches_in broken = flat_map breaches_of broken

-- the directory of a place, and whether the place is the others of it
abbrev pub dir_of : Place → List (List ℕ)
dir_of (Directory path) = path
dir_of (Others root) = root

abbrev pub is_others : Place → Bool
is_others (Directory path) = false
is_others (Others root) = true

-- who gives the verdict, if it is that of the server alone: the member before the others
abbrev pub with_by : Bool → Members → Members
with_by true members = member (codes "by") (string (codes "mountd")) members
with_by false members = members

-- a range as an object, its members in the byte order of their keys
abbrev pub value_of : Content → List ℕ → BreachValue → Data
value_of content file breach = object
    (with_by breach.range.value.by_server
    (member (codes "dir") (string (path_text (dir_of breach.place)))
    (member (codes "expectation") (string breach.expectation.text)
    (member (codes "first") (string (addr_text breach.range.first))
    (member (codes "kind") (string (codes "broken"))
    (member (codes "last") (string (addr_text breach.range.last))
    (member (codes "line") (number (unsigned breach.expectation.line))
    (member (codes "others") (boolean (is_others breach.place))
    (member (codes "path") (string file)
    (member (codes "verdict") (string (verdict_line content breach.range.value.verdict)) no_members))))))))))

-- the object as it is written, with each control character by its code
abbrev pub object_text : Content → List ℕ → BreachValue → List ℕ
object_text content file breach = flat_map shown_in_json (chars (compact_text (value_of content file breach)))

-- all in their order, with commas between them
abbrev pub elements_text : Content → List ℕ → List BreachValue → List ℕ
elements_text content file [] = []
elements_text content file (breach ∷ more) = object_text content file breach ++ flat_map (λ later. codes "," ++ object_text content file later) more

-- the list of them, on a line of its own
abbrev pub list_text : Content → List ℕ → List BreachValue → List ℕ
list_text content file breaches = codes "[" ++ elements_text content file breaches ++ codes "]\n"

-- what breaks the expectations of a file
abbrev pub breaches_json : Content → List ℕ → List BrokenValue → List ℕ
breaches_json content file broken = list_text content file (breaches_in broken)
