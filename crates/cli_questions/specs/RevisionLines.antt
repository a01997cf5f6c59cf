-- What is printed of the revisions of a file. (this project's own)
use Rattle.std.specs.Prelude.{ℕ, ◌++◌, ◌∷◌, Bool, false, not, List, [], Option, Some, None, codes, if◌then◌else◌}
use Rattle.std.specs.Fmt.{decimal}
use Rattle.std.specs.List.{flat_map}
use Rattle.desk_exports.specs.declared.profile.Profile.{Profile}
use Rattle.desk_exports.specs.declared.profile.Profile.TheVariants.{One, Two}
use Rattle.desk_policy.specs.SiteFile.{is_of_seven}
use Rattle.desk_store.specs.declared.desk.Signature.{Signature}

-- the class of a network counts in a text of a file: it is an exports file's, of profile 1
abbrev pub counts_classes : List ℕ → Profile → Bool
counts_classes file One = not (is_of_seven file)
counts_classes file Two = false

-- what is told of a revision's profile: of a text in which classes count, its number
abbrev pub profile_mark : List ℕ → Profile → List ℕ
profile_mark file profile = if counts_classes file profile then codes ", profile 1" else []

-- the line of a revision that nobody approved, as `rev 1 site`, with a mark
abbrev pub plain_line : ℕ → List ℕ → List ℕ → List ℕ
plain_line rev author mark = codes "rev " ++ decimal rev ++ 32 ∷ author ++ mark ++ 10 ∷ []

-- the line of one that was approved, as `rev 2 ulf, approved by site`, with a mark
abbrev pub approved_line : ℕ → List ℕ → List ℕ → List ℕ → List ℕ
approved_line rev author approver mark = codes "rev " ++ decimal rev ++ 32 ∷ author ++ codes ", approved by " ++ approver ++ mark ++ 10 ∷ []

-- the line of a revision by who approved it, if somebody did
abbrev pub line_by : ℕ → List ℕ → Option (List ℕ) → List ℕ → List ℕ
line_by rev author None mark = plain_line rev author mark
line_by rev author (Some approver) mark = approved_line rev author approver mark

-- the line of a revision of a file
abbrev pub revision_line : List ℕ → Signature → List ℕ
revision_line file revision = line_by revision.rev revision.author revision.approver (profile_mark file revision.profile)

-- the lines of a file's revisions
abbrev pub log_text : List ℕ → List Signature → List ℕ
log_text file revisions = flat_map (revision_line file) revisions
