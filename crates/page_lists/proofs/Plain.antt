-- No cell of the lists has a picture.
use Rattle.std.proofs.Common.{ℕ, ◌==◌, List, [], ◌∷◌, Bool, true, false, Option, Some, None, codes, drop, length, map, refl, take}
use Rattle.desk_core.specs.declared.head.Head.{Head}
use Rattle.desk_exports.specs.Profile.{profile_number}
use Rattle.desk_policy.specs.SiteFile.{is_of_seven}
use Rattle.desk_tables.specs.declared.filesystems.FsId.{FsId}
use Rattle.page_html.specs.Items.{AndMore, Digits, Item, Own, Ranges, Strong, Words, Zero}
use Rattle.page_html.specs.Ranges.{Ends}
use Rattle.page_html.specs.Tables.{cells_of}
use Rattle.page_html.proofs.Plain.{ArePlain, ArePlainCells, IsPlain, cells_cons, either_plain, part, parts, plain_append, plain_cons, plain_each, plain_if, some_cells}
use Rattle.page_lists.specs.Files as files
use Rattle.page_lists.specs.Hosts as hosts
use Rattle.page_lists.specs.Mentions.{all_of, later, mention, some_of, some_or}
use Rattle.page_lists.specs.NameCells.{span_of, stands_for, written_by}
use Rattle.page_lists.specs.Netgroups as netgroups
use Rattle.page_lists.specs.Uses.{MentionValue, OfGroup, OfHost, OfLine, OfSystem, NameValue}
use Rattle.page_lists.specs.Warnings as warnings
use Rattle.page_lists.specs.declared.hosts.HostKind.{HostKind}
use Rattle.page_lists.specs.declared.hosts.HostKind.TheVariants.{Ipv6, Known, Unknown}

-- ---- what a cell names
mention_plain : (one : MentionValue) → ArePlain (mention one)
mention_plain (OfSystem fs name) = record { are = refl }
mention_plain (OfLine fs name line) = record { are = refl }
mention_plain (OfHost name) = record { are = refl }
mention_plain (OfGroup name) = record { are = refl }

all_plain : (mentions : List MentionValue) → ArePlain (all_of mentions)
all_plain [] = record { are = refl }
all_plain (first ∷ others) = plain_append (mention_plain first) (plain_each later (λ other. record { are = (mention_plain other).are }) others)

pub some_plain : (most : ℕ) (mentions : List MentionValue) → ArePlain (some_of most mentions)
some_plain most mentions =
    let more : ArePlain (Own (AndMore (length (drop most mentions))) ∷ []) = record { are = refl } in
    plain_append (all_plain (take most mentions)) more

some_or_plain : (most : ℕ) (nothing : Item (List ℕ)) → IsPlain nothing → (mentions : List MentionValue) → ArePlain (some_or most nothing mentions)
some_or_plain most nothing is mentions = either_plain (length mentions == 0) (plain_cons is (record { are = refl })) (some_plain most mentions)

-- ---- what is told of a name, in the last cells
stands_for_plain : (ranges : List Ends) → ArePlain (stands_for ranges ∷ [])
stands_for_plain ranges =
    plain_cons (plain_if (length ranges == 0) (part (Own (Strong (codes "nobody"))) refl) (part (Own (Ranges (map span_of ranges))) refl)) (parts [] refl)

written_by_plain : (uses : List MentionValue) → ArePlain (written_by uses)
written_by_plain uses = some_or_plain 6 (Own (Zero (codes "no line"))) (record { is = refl }) uses

facts_plain : (facts : NameValue) → ArePlainCells ((stands_for facts.ranges ∷ []) ∷ written_by facts.uses ∷ [])
facts_plain facts = cells_cons (stands_for_plain facts.ranges) (cells_cons (written_by_plain facts.uses) (some_cells [] refl))

-- ---- Rows: only the cells that are made by a case are proved one by one, the others are computed.
kind_plain : (kind : HostKind) → ArePlain (hosts.kind kind ∷ [])
kind_plain Known = record { are = refl }
kind_plain Ipv6 = record { are = refl }
kind_plain Unknown = record { are = refl }

pub host_plain : (row : hosts.RowValue) → ArePlainCells (hosts.cells row)
host_plain row = record { are = (cells_cons (kind_plain row.kind) (facts_plain row.facts)).are }

pub netgroup_plain : (row : netgroups.RowValue) → ArePlainCells (netgroups.cells row)
netgroup_plain row =
    let members : ArePlain (netgroups.members_of row.members) = some_or_plain 8 (Own (Words (codes "-"))) (record { is = refl }) row.members in
    record { are = (cells_cons members (facts_plain row.facts)).are }

line_plain : (fs : Option FsId) (number : ℕ) → ArePlain (warnings.line fs number)
line_plain None number = record { are = refl }
line_plain (Some fs) number = record { are = refl }

pub warning_plain : (row : warnings.RowValue) → ArePlainCells (warnings.cells row)
warning_plain row = record { are = (cells_cons (line_plain row.fs row.line) (some_cells [] refl)).are }

approver_plain : (name : Option (List ℕ)) → ArePlain (files.name_or_dash name ∷ [])
approver_plain None = record { are = refl }
approver_plain (Some name) = record { are = refl }

profile_plain : (head : Head) → ArePlain (files.profile (Some head) ∷ [])
profile_plain head = plain_cons (plain_if (is_of_seven head.file) (part files.dash refl) (part (Own (Digits (profile_number head.profile))) refl)) (parts [] refl)

remark_plain : (proposer : Option (List ℕ)) (is_unlisted : Bool) → ArePlain (files.remark proposer is_unlisted)
remark_plain None true = record { are = refl }
remark_plain None false = record { are = refl }
remark_plain (Some name) true = record { are = refl }
remark_plain (Some name) false = record { are = refl }

file_plain_with : (newest : Option Head) (row : files.RowValue) → ArePlainCells (cells_of (files.told newest) row)
file_plain_with None row = record { are = (cells_cons (remark_plain row.proposer row.is_unlisted) (some_cells [] refl)).are }
file_plain_with (Some head) row =
    let remark = cells_cons (remark_plain row.proposer row.is_unlisted) (some_cells [] refl) in
    record { are = (cells_cons (approver_plain head.approver) (cells_cons (profile_plain head) remark)).are }

pub file_plain : (row : files.RowValue) → ArePlainCells (files.cells row)
file_plain row = file_plain_with row.head row
