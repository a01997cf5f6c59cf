-- What is told of a file system is told in one way: it goes by the values of what it is made of. (this project's own)
use Rattle.std.specs.Prelude.{◌≡◌, ℕ, List, Option, Some, None, map}
use Rattle.std.specs.Option.{option_copied}
use Rattle.desk_policy.specs.declared.row.Row.{Row}
use Rattle.desk_who.specs.Runs.{Run}
use Rattle.page_data.specs.Values.{AreRunsOfSome}
use Rattle.page_data.specs.declared.class.Class.{Class}
use Rattle.page_findings.specs.FindingWords.{finding_value}
use Rattle.page_findings.specs.Lines.{LineValue}
use Rattle.page_findings.specs.UniqueLaws.{AreAlike}
use Rattle.page_findings.specs.declared.finding_words.Finding.{Finding}
use Rattle.page_places.specs.Groups.{groups_text}
use Rattle.page_filesystem.specs.CountedShares.{AreShares}
use Rattle.page_filesystem.specs.Findings.{findings_list}
use Rattle.page_filesystem.specs.Notes.{notes_of}
use Rattle.page_filesystem.specs.Outcomes.{outcome_text}
use Rattle.page_filesystem.specs.OwnParts.{IsPartOf, own_lines, runs_in}
use Rattle.page_filesystem.specs.Parts.{file_system}
use Rattle.page_filesystem.specs.declared.counted_shares.Shares.{Shares}
use Rattle.page_filesystem.specs.declared.own_parts.FileSystemData.{FileSystemData}
use Rattle.page_filesystem.specs.declared.parts.FileSystemPart.{FileSystemPart}
use Rattle.page_filesystem.specs.declared.parts.ProposalPart.{ProposalPart}

-- of two proposals the same is told
pub record AreProposalsAlike (proposal other : ProposalPart) : Type 0 where
  pub author : proposal.author.now ≡ other.author.now
  pub revision : proposal.revision ≡ other.revision
  pub text : proposal.text.now ≡ other.text.now
  pub outcome : outcome_text proposal.outcome ≡ outcome_text other.outcome

-- the same, if one waits
abbrev pub AreAlikeIfAny : Option ProposalPart → Option ProposalPart → Type 0
AreAlikeIfAny None None = Unit {0}
AreAlikeIfAny (Some proposal) (Some other) = AreProposalsAlike proposal other
AreAlikeIfAny None (Some other) = ⊥
AreAlikeIfAny (Some proposal) None = ⊥

-- the same is given of a file system, wherever it is kept
pub record AreGivenAlike (given other : FileSystemData) : Type 0 where
  pub policy : given.policy.now ≡ other.policy.now
  pub fs : given.fs.0 ≡ other.fs.0
  pub classes : runs_in given ≡ runs_in other
  pub lines : AreAlike (own_lines given) (own_lines other)
  pub head : option_copied given.head ≡ option_copied other.head
  pub findings : map finding_value given.findings.now ≡ map finding_value other.findings.now
  pub proposal : AreAlikeIfAny given.proposal other.proposal
  pub maps : given.maps.now ≡ other.maps.now
  pub groups : (fs : ℕ) → groups_text fs given.groups.now ≡ groups_text fs other.groups.now
  pub group_count : given.group_count ≡ other.group_count
  pub unlisted : given.unlisted ≡ other.unlisted
  pub has_unlisted_others : given.has_unlisted_others ≡ other.has_unlisted_others

-- The shares of a file system are one list; the notes on its text and the lines that stand out are told by their values; and so the part
-- on it has one text.
pub record FileSystemsAreToldInOneWay : Type 0 where
  pub shares : (runs : List (Run Class)) (rows : List Row) (made other : Shares) → AreRunsOfSome runs → AreShares runs rows made → AreShares runs rows other
      → made ≡ other
  pub notes : (lines others : List LineValue) (text : List ℕ) → AreAlike lines others → notes_of lines text ≡ notes_of others text
  pub findings : (findings others : List Finding) → map finding_value findings ≡ map finding_value others → findings_list findings ≡ findings_list others
  pub parts : (given other : FileSystemData) (part second : FileSystemPart) → AreRunsOfSome (runs_in given) → AreGivenAlike given other → IsPartOf given part
      → IsPartOf other second → file_system part ≡ file_system second
