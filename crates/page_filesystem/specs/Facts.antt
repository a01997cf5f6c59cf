-- The facts of a file system. (this project's own)
use Rattle.std.specs.Prelude.{ℕ, ◌==◌, Bool, false, List, [], ◌∷◌, ◌++◌, Option, Some, None, codes, if◌then◌else◌}
use Rattle.std.specs.Option.{option_copied}
use Rattle.desk_core.specs.declared.head.Head.{Head}
use Rattle.desk_exports.specs.Profile.{profile_number}
use Rattle.desk_exports.specs.declared.profile.Profile.{Profile}
use Rattle.page_html.specs.Blocks.{facts_html}
use Rattle.page_html.specs.Items.{Code, Codes, Item, Nothing, Number, Own, Words}
use Rattle.page_html.specs.Tables.{Fact, Frame}
use Rattle.page_findings.specs.Badges.{measured_items}
use Rattle.page_findings.specs.declared.badges.Measure.TheVariants.{Share}
use Rattle.page_filesystem.specs.declared.parts.FileSystemPart.{FileSystemPart}

-- the terms of the facts
abbrev pub frame : Frame
frame = record {
  class = codes "facts";
  is_titled = false;
  columns =
      Fact (codes "In force") ∷ Fact (codes "Custodians") ∷ Fact (codes "Guarded") ∷ Fact (codes "May mount some of it") ∷ [];
}

-- who approved a revision, if it needed that
abbrev pub approved_by : Option (List ℕ) → List (Item (List ℕ))
approved_by None = Own Nothing ∷ Own Nothing ∷ []
approved_by (Some name) = Own (Words (codes ", approved by ")) ∷ Code name ∷ []

-- the profile, if it is the old one
abbrev pub profile : Profile → Item (List ℕ)
profile given = if profile_number given == 1 then Own (Words (codes ", of profile 1")) else Own Nothing

-- the newest revision of a file, as `revision 3 by ada, approved by bob`
abbrev pub written : Head → List (Item (List ℕ))
written head =
    Own (Words (codes "revision ")) ∷ Own (Number head.rev) ∷ Own (Words (codes " by ")) ∷ Code head.author ∷ approved_by head.approver
    ++ profile head.profile ∷ []

abbrev pub revision : Option Head → List (Item (List ℕ))
revision None = Own (Words (codes "no revision")) ∷ []
revision (Some head) = written head

-- whether a change needs two custodians
abbrev pub guarded : Bool → Item (List ℕ)
guarded is_guarded =
    if is_guarded then Own (Words (codes "yes: a change of its exports needs two of them"))
    else Own (Words (codes "no: each of them may change it alone"))

-- The facts of a file system: the newest revision of its file, who keeps that, whether it is guarded, and how many addresses may mount some
-- directory.
abbrev pub fact_cells : FileSystemPart → List (List (Item (List ℕ)))
fact_cells part =
    revision (option_copied part.head) ∷ (Codes part.custodians.now ∷ []) ∷ (guarded part.guarded ∷ []) ∷ measured_items Share part.counts ∷ []

abbrev pub facts : FileSystemPart → List ℕ
facts part = facts_html frame (fact_cells part)
