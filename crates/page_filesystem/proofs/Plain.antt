-- The parts that tell of a file system, and the cells of its tables, have no picture.
use Rattle.std.proofs.Common.{ℕ, ◌==◌, List, [], ◌∷◌, Bool, true, false, Option, Some, None, codes, refl}
use Rattle.std.specs.Option.{option_copied}
use Rattle.desk_core.specs.declared.head.Head.{Head}
use Rattle.desk_exports.specs.Profile.{profile_number}
use Rattle.desk_exports.specs.declared.profile.Profile.{Profile}
use Rattle.page_data.specs.Counts.{granted_of}
use Rattle.page_data.specs.declared.counts.Counts.{Counts}
use Rattle.page_filesystem.specs.Facts as facts
use Rattle.page_filesystem.specs.Findings.{entry_items}
use Rattle.page_filesystem.specs.Gutter as gutter
use Rattle.page_filesystem.specs.Proposals as proposals
use Rattle.page_filesystem.specs.Shares as shares
use Rattle.page_filesystem.specs.Texts as texts
use Rattle.page_filesystem.specs.Texts.{TextLine}
use Rattle.page_filesystem.specs.declared.gutter.Note.{Note}
use Rattle.page_filesystem.specs.declared.gutter.Said.{Said as LineSaid}
use Rattle.page_filesystem.specs.declared.gutter.Said.TheVariants.{Grants, MatchesNobody, NeverDecides}
use Rattle.page_filesystem.specs.declared.gutter.Told.{Told}
use Rattle.page_filesystem.specs.declared.parts.FileSystemPart.{FileSystemPart}
use Rattle.page_filesystem.specs.declared.shares.Share.{Share}
use Rattle.page_filesystem.specs.declared.shares.Space.{Space}
use Rattle.page_filesystem.specs.declared.shares.Space.TheVariants as spaces
use Rattle.page_findings.specs.FindingWords.{FindingValue}
use Rattle.page_findings.specs.declared.badges.Measure.TheVariants.{Share as Shared}
use Rattle.page_html.specs.Items.{Nothing, Number, Own, Words, Zero}
use Rattle.page_html.proofs.Plain.{ArePlain, ArePlainCells, IsPlain, cells_cons, part, parts, plain_append, plain_cons, plain_if, some_cells}
use Rattle.page_findings.proofs.Plain.{badge_plain, finding_plain, level_plain, measured_plain}

-- ---- facts
approved_plain : (name : Option (List ℕ)) → ArePlain (facts.approved_by name)
approved_plain None = record { are = refl }
approved_plain (Some name) = record { are = refl }

profile_plain : (given : Profile) → IsPlain (facts.profile given)
profile_plain given = plain_if (profile_number given == 1) (part (Own (Words (codes ", of profile 1"))) refl) (part (Own Nothing) refl)

revision_plain : (head : Option Head) → ArePlain (facts.revision head)
revision_plain None = record { are = refl }
revision_plain (Some head) =
    let profile = plain_cons (profile_plain head.profile) (parts [] refl) in
    record { are = (plain_append (approved_plain head.approver) profile).are }

guarded_plain : (is : Bool) → IsPlain (facts.guarded is)
guarded_plain true = record { is = refl }
guarded_plain false = record { is = refl }

pub fact_plain : (part : FileSystemPart) → ArePlainCells (facts.fact_cells part)
fact_plain part =
    let last = cells_cons (plain_cons (guarded_plain part.guarded) (parts [] refl)) (cells_cons (measured_plain Shared part.counts) (some_cells [] refl)) in
    cells_cons (revision_plain (option_copied part.head)) (record { are = last.are })

-- ---- lines that stand out
pub entry_plain : (finding : FindingValue) → ArePlain (entry_items finding)
entry_plain finding = plain_cons (level_plain finding.level) (record { are = (finding_plain finding).are })

-- ---- proposals
pub proposed_as_plain : (author : List ℕ) (revision : ℕ) (guarded : Bool) → ArePlain (proposals.proposed_as author revision guarded)
proposed_as_plain author revision true = record { are = refl }
proposed_as_plain author revision false = record { are = refl }

not_yet_plain : (is : Bool) → IsPlain (proposals.not_yet is)
not_yet_plain true = record { is = refl }
not_yet_plain false = record { is = refl }

pub proposed_plain : (in_force : List (List ℕ)) (number : ℕ) (line : List ℕ) → ArePlainCells (proposals.proposed_cells in_force number line)
proposed_plain in_force number line =
    let last = cells_cons (plain_cons (not_yet_plain (proposals.is_among in_force line)) (parts [] refl)) (some_cells [] refl) in record { are = last.are }

-- ---- the text in force
does_plain : (said : LineSaid) → ArePlain (gutter.does said)
does_plain (Grants class true count) = plain_cons (badge_plain class) (record { are = refl })
does_plain (Grants class false count) = plain_cons (badge_plain class) (record { are = refl })
does_plain MatchesNobody = record { are = refl }
does_plain NeverDecides = record { are = refl }

granted_plain : (said : LineSaid) → IsPlain (gutter.granted_to said)
granted_plain (Grants class for_everybody count) = record { is = refl }
granted_plain MatchesNobody = record { is = refl }
granted_plain NeverDecides = record { is = refl }

-- of a line with a note only the cells that are made by a case of what it does are proved, the others are computed
noted_plain : (line : TextLine) (note : Note) (told : Option Told) → ArePlainCells (texts.text_cells (record line { note = Some (record note { told = told }) }))
noted_plain line note None = record { are = refl }
noted_plain line note (Some told) =
    let count = cells_cons (plain_cons (granted_plain told.said) (parts [] refl)) (some_cells [] refl) in
    record { are = (cells_cons (does_plain told.said) count).are }

line_plain : (line : TextLine) (note : Option Note) → ArePlainCells (texts.text_cells (record line { note = note }))
line_plain line None = record { are = refl }
line_plain line (Some note) = noted_plain line note note.told

pub text_plain : (line : TextLine) → ArePlainCells (texts.text_cells line)
text_plain line = line_plain line line.note

-- ---- where its clients are
space_plain : (space : Space) → IsPlain (shares.space_item space)
space_plain spaces.All = record { is = refl }
space_plain spaces.OutsidePrivate = record { is = refl }
space_plain (spaces.Network first prefix) = record { is = refl }

of_class_plain : (count : ℕ) → IsPlain (shares.count_item count)
of_class_plain count = plain_if (count == 0) (part (Own (Zero (codes "0"))) refl) (part (Own (Number count)) refl)

counts_plain : (counts : Counts) → ArePlainCells ((shares.count_item counts.read_only ∷ []) ∷ (shares.count_item counts.read_write ∷ []) ∷ (shares.count_item counts.root_kept ∷ []) ∷ shares.granted_items (granted_of counts) (shares.size_of counts) ∷ [])
counts_plain counts =
    cells_cons (plain_cons (of_class_plain counts.read_only) (parts [] refl))
    (cells_cons (plain_cons (of_class_plain counts.read_write) (parts [] refl))
    (cells_cons (plain_cons (of_class_plain counts.root_kept) (parts [] refl)) (record { are = refl })))

pub share_plain : (share : Share) → ArePlainCells (shares.cells share)
share_plain share = cells_cons (plain_cons (space_plain share.space) (parts [] refl)) (record { are = (counts_plain share.counts).are })
