-- The lines of the files that have a revision or a proposal, as `files` prints them. (this project's own)
use Rattle.std.specs.Prelude.{ℕ, ◌+◌, ◌++◌, List, [], ◌∷◌, Option, Some, None, codes}
use Rattle.std.specs.Fmt.{decimal}
use Rattle.std.specs.List.{flat_map}
use Rattle.desk_core.specs.Head.{Revision}
use Rattle.desk_core.specs.declared.proposal.Proposal.{Proposal}
use Rattle.desk_service.specs.Files.{ListedFile, ListedFiles}
use Rattle.desk_service.specs.declared.files.Mark.{Mark}
use Rattle.desk_service.specs.declared.files.Mark.TheVariants.{Guarded, Plain, Unlisted}

-- the mark of a file, after its author
abbrev pub mark_text : Mark → List ℕ
mark_text Plain = []
mark_text Guarded = codes " guarded"
mark_text Unlisted = codes " unlisted"

-- the line of a revision: its file, number and author, as `exports:/u2 rev 2 ulf`, and a mark
abbrev pub revision_line : List ℕ → ℕ → List ℕ → List ℕ → List ℕ
revision_line file rev author mark = file ++ codes " rev " ++ decimal rev ++ 32 ∷ author ++ mark ++ 10 ∷ []

-- the line of a file's newest revision, with its mark, if it has one
abbrev pub newest_line : Mark → Option Revision → List ℕ
newest_line mark None = []
newest_line mark (Some revision) = revision_line revision.file revision.rev revision.author (mark_text mark)

-- the line of a proposal: its file, the number that it would have, and who proposes it, as `exports:/u2 proposed rev 3 ulf`
abbrev pub proposed_line : List ℕ → ℕ → List ℕ → List ℕ
proposed_line file rev author = file ++ codes " proposed rev " ++ decimal rev ++ 32 ∷ author ++ 10 ∷ []

-- that of a file, if it has one
abbrev pub proposal_line : Option Proposal → List ℕ
proposal_line None = []
proposal_line (Some proposal) = proposed_line proposal.file (proposal.base + 1) proposal.author

-- the lines of a file: of its newest revision, and of its proposal
abbrev pub file_lines : ListedFile → List ℕ
file_lines file = newest_line file.mark file.newest ++ proposal_line file.proposal

-- the lines of files, in their order
abbrev pub files_text : ListedFiles → List ℕ
files_text listed = flat_map file_lines listed.files
