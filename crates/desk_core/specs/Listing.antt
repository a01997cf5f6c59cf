-- The files that have a revision or a proposal. (this project's own)
use Rattle.std.specs.Prelude.{◌≡◌, ◌≢◌, ◌⊎◌, ℕ, ◌++◌, true, All, Contains, List, [], Option, Some, None, map}
use Rattle.std.specs.Cmp.Lexicographic.{slice_cmp}
use Rattle.std.specs.List.{AllPairs, filter_map}
use Rattle.std.specs.Option.{option_copied, option_map}
use Rattle.std.specs.Ordering.{is_lt, nat_cmp}
use Rattle.desk_policy.specs.SiteFile.{exports_file_name}
use Rattle.desk_core.specs.Head.{Newest, Revision}
use Rattle.desk_core.specs.Judging.{seven}
use Rattle.desk_core.specs.Standing.{Standing}
use Rattle.desk_core.specs.declared.proposal.Proposal.{Proposal}
use Rattle.desk_core.specs.declared.listing.HeldFile.{HeldFile as LentFile}

-- a file: its newest revision, and its proposal
pub record HeldFile : Type 0 where
  pub newest : Option Revision
  pub proposal : Option Proposal

-- the same by value
abbrev pub file_of : LentFile → HeldFile
file_of file = record { newest = option_copied file.newest; proposal = option_copied file.proposal }

-- the name of a file, which stands with its revision and with its proposal
abbrev pub name_by : Option Revision → Option Proposal → List ℕ
name_by (Some revision) proposal = revision.file
name_by None (Some proposal) = proposal.file
name_by None None = []

abbrev pub name_of : HeldFile → List ℕ
name_of file = name_by file.newest file.proposal

-- a revision of one of the seven files, of which none is guarded: so it has no proposal
abbrev pub revised_file : Revision → HeldFile
revised_file revision = record { newest = Some revision; proposal = None }

-- those of the seven files that have a revision, in the order of a site
abbrev pub seven_files : Newest → List HeldFile
seven_files newest = filter_map (λ file. option_map revised_file (newest file)) seven

-- the exports file of a printed mount point
abbrev pub exports_file : Standing → List ℕ → HeldFile
exports_file standing mount = record { newest = standing.newest (exports_file_name mount); proposal = standing.proposals (exports_file_name mount) }

-- a file has a revision, or a proposal
abbrev pub IsHeld : Standing → List ℕ → Type 0
IsHeld standing file = (standing.newest file ≢ None) ⊎ (standing.proposals file ≢ None)

-- These are the printed mount points whose exports files have a revision or a proposal, in byte order, each once.
pub record AreMountsWithExports (standing : Standing) (mounts : List (List ℕ)) : Type 0 where
  pub ascending : AllPairs (λ mount later. is_lt (slice_cmp nat_cmp mount later) ≡ true) mounts
  pub each : All (λ mount. IsHeld standing (exports_file_name mount)) mounts
  pub all : (mount : List ℕ) → IsHeld standing (exports_file_name mount) → Contains mounts mount

-- These are the files that have a revision or a proposal: those of the seven, and then the exports files by mount point.
pub record AreHeldFiles (standing : Standing) (files : List HeldFile) : Type 0 where
  pub mounts : List (List ℕ)
  pub are : AreMountsWithExports standing mounts
  pub files_are : files ≡ seven_files standing.newest ++ map (exports_file standing) mounts
