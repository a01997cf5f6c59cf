-- The parts that tell of changes, openings and directories, and the cells of the tables, have no picture.
use Rattle.std.proofs.Common.{ℕ, ◌==◌, List, [], ◌∷◌, Bool, Result, Ok, Err, codes, drop, length, refl, take}
use Rattle.desk_impact.specs.Places.{Directory, Others, Place, place_of}
use Rattle.desk_policy.specs.Verdict.{Grant}
use Rattle.desk_policy.specs.declared.verdict.Denial.{Denial}
use Rattle.desk_policy.specs.declared.verdict.Denial.TheVariants.{NoFileSystem, NoLine, NotListed}
use Rattle.page_data.specs.Class.{class_of}
use Rattle.page_html.specs.Items.{AndMore, Own, Words}
use Rattle.page_html.specs.Titles.{Further, Named, Said, Title}
use Rattle.page_html.specs.declared.ranges.Span.{Span}
use Rattle.page_findings.specs.Joining.{comma}
use Rattle.page_places.specs.ChangeRows as changes
use Rattle.page_places.specs.Lists as lists
use Rattle.page_places.specs.Names.{more_directories, place_item, shown}
use Rattle.page_places.specs.Openings.{opening_items, opening_list, told_items}
use Rattle.page_places.specs.Rows as rows
use Rattle.page_places.specs.Rows.{RowValue}
use Rattle.page_places.specs.declared.openings.PlaceOpening.{PlaceOpening}
use Rattle.page_html.proofs.Plain.{ArePlain, ArePlainCells, IsPlain, cells_cons, part, parts, plain_append, plain_cons, plain_if, some_cells}
use Rattle.page_findings.proofs.Plain.{badge_plain, comma_plain, plain_joined}
use Rattle.page_places.specs.Changes.{PlaceChange}

-- ---- changes
place_plain : (place : Place) → IsPlain (place_item place)
place_plain (Directory path) = record { is = refl }
place_plain (Others mount) = record { is = refl }

words_plain : (verdict : Result Grant Denial) → ArePlain (changes.words_behind verdict)
words_plain (Ok grant) = record { are = refl }
words_plain (Err denial) = record { are = refl }

verdict_plain : (verdict : Result Grant Denial) → ArePlain (changes.verdict_items verdict)
verdict_plain verdict = plain_cons (badge_plain (class_of verdict)) (words_plain verdict)

pub change_plain : (one : PlaceChange) → ArePlainCells (changes.cells one)
change_plain one =
    let verdicts = cells_cons (verdict_plain one.change.value.before) (cells_cons (verdict_plain one.change.value.after) (some_cells [] refl)) in
    cells_cons (plain_cons (place_plain one.place) (parts [] refl)) (record { are = verdicts.are })

-- ---- what the server grants
opening_plain : (fs : ℕ) (one : PlaceOpening) → ArePlain (opening_items fs one)
opening_plain fs one = plain_cons (place_plain (place_of one.place)) (record { are = refl })

pub told_plain : (fs : ℕ) (openings : List PlaceOpening) → ArePlain (told_items fs openings)
told_plain fs openings =
    let more : ArePlain (Own (AndMore (length (drop 6 openings))) ∷ []) = record { are = refl } in
    let some : ArePlain (opening_list fs (take 6 openings)) = plain_joined (opening_items fs) comma comma_plain (opening_plain fs) (take 6 openings) in
    record { are = (plain_append some more).are }

-- ---- the names of directories
pub shown_plain : (title : Title (List ℕ)) → IsPlain (shown title)
shown_plain (Said words) = record { is = refl }
shown_plain (Named name) = record { is = refl }
shown_plain (Further count) = record { is = refl }

directories_plain : (count : ℕ) → IsPlain (lists.directories count)
directories_plain count = plain_if (count == 0) (part (Own (Words (codes "other directories"))) refl) (part (more_directories count) refl)

pub unlisted_plain : (count : ℕ) (has_others : Bool) → ArePlain (lists.unlisted count has_others)
unlisted_plain count has_others = let directories = plain_cons (directories_plain count) (parts [] refl) in record { are = directories.are }

-- ---- the table of who may mount them
clients_plain : (spans : List Span) (verdict : Result Grant Denial) → IsPlain (rows.clients spans verdict)
clients_plain spans (Ok grant) = record { is = refl }
clients_plain spans (Err (NotListed fs line)) = record { is = refl }
clients_plain spans (Err (NoLine fs)) = record { is = refl }
clients_plain spans (Err NoFileSystem) = record { is = refl }

reason_plain : (fs : ℕ) (verdict : Result Grant Denial) → ArePlain (rows.reason fs verdict)
reason_plain fs (Ok grant) = record { are = refl }
reason_plain fs (Err (NotListed named line)) = record { are = refl }
reason_plain fs (Err (NoLine named)) = record { are = refl }
reason_plain fs (Err NoFileSystem) = record { are = refl }

pub row_plain : (fs : ℕ) (row : RowValue) → ArePlainCells (rows.cells fs row)
row_plain fs row =
    let last = cells_cons (reason_plain fs row.verdict) (some_cells [] refl) in
    cells_cons (plain_cons (badge_plain (class_of row.verdict)) (parts [] refl))
    (cells_cons (plain_cons (clients_plain row.spans row.verdict) (parts [] refl)) (record { are = last.are }))
