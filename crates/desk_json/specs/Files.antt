-- The files that have a revision or a proposal, as `files` prints them as JSON. (this project's own)
use Rattle.std.specs.Prelude.{ℕ, ◌+◌, ◌++◌, List, [], ◌∷◌, Option, Some, None, codes, map}
use Rattle.std.specs.Option.{option_map}
use Rattle.serde_json.specs.Data.{Data, string}
use Rattle.desk_core.specs.Listing.{name_by}
use Rattle.desk_core.specs.declared.proposal.Proposal.{Proposal}
use Rattle.desk_service.specs.Files.{ListedFile, ListedFiles}
use Rattle.desk_service.specs.declared.files.Mark.{Mark}
use Rattle.desk_service.specs.declared.files.Mark.TheVariants.{Guarded, Plain, Unlisted}
use Rattle.desk_http_bodies.specs.Json.{count, entries, list, member_if}

-- the mark of a file, if it has one
abbrev pub mark_word : Mark → Option (List ℕ)
mark_word Plain = None
mark_word Guarded = Some (codes "guarded")
mark_word Unlisted = Some (codes "unlisted")

-- a proposal: who proposes it, and the number that its revision would have
abbrev pub proposed_data : Proposal → Data
proposed_data proposal = entries ((codes "author", string proposal.author) ∷ (codes "rev", count (proposal.base + 1)) ∷ [])

-- what is told of a file: its name, its mark, the author and the number of its newest revision, and its proposal, as far as there are any
abbrev pub listed_data : List ℕ → Option (List ℕ) → Option (List ℕ) → Option ℕ → Option Data → Data
listed_data name mark author rev proposal = entries (
    member_if (codes "author") string author
    ++ (member_if (codes "mark") string mark
    ++ ((codes "name", string name)
    ∷ (member_if (codes "proposal") (λ value. value) proposal
    ++ member_if (codes "rev") count rev))))

abbrev pub file_data : ListedFile → Data
file_data file =
    listed_data (name_by file.newest file.proposal) (mark_word file.mark) (option_map (λ revision. revision.author) file.newest)
    (option_map (λ revision. revision.rev) file.newest) (option_map proposed_data file.proposal)

-- the files, in their order
abbrev pub files_data : ListedFiles → Data
files_data listed = entries ((codes "files", list (map file_data listed.files)) ∷ [])
