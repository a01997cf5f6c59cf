-- What is said of the lines of a policy: those that decide nothing, networks of every address, and opinions; and by which mountd(8)
-- does something else. (this project's own)
use Rattle.std.specs.Prelude.{◌≡◌, ◌++◌, ◌==◌, Bool, List, [], ◌∷◌, Option, Some, None, filter, if◌then◌else◌, map, ℕ}
use Rattle.std.specs.List.{flat_map, list_any}
use Rattle.std.specs.Option.{option_copied}
use Rattle.desk_policy.specs.Contradiction.{HasNoContradiction}
use Rattle.desk_policy.specs.Policy.{Content}
use Rattle.desk_policy.specs.declared.row.Row.{Row}
use Rattle.desk_policy.specs.declared.warning.Warning.{Warning}
use Rattle.desk_idle.specs.declared.idle.Idle.{Idle}
use Rattle.desk_idle.specs.declared.idle.Reason.{Reason}
use Rattle.desk_idle.specs.declared.idle.Reason.TheVariants as reason
use Rattle.desk_server.specs.declared.repeated_client.RepeatedClient.{RepeatedClient}
use Rattle.desk_server.specs.declared.wider_grant.WiderGrant.{WiderGrant}
use Rattle.desk_remarks.specs.EntryRemarks.{entry_remarks}
use Rattle.desk_remarks.specs.SaidOfSystems.{AreSaid}
use Rattle.desk_remarks.specs.UnwarnedLines.{is_unwarned}
use Rattle.desk_remarks.specs.declared.remark.Example.{Example}
use Rattle.desk_remarks.specs.declared.remark.LineRemark.{LineRemark}
use Rattle.desk_remarks.specs.declared.remark.Remark.{Remark}
use Rattle.desk_remarks.specs.declared.remark.Remark.TheVariants as remark
use Rattle.desk_remarks.specs.declared.said_of_systems.Said.{Said}

-- the remark that a line decides nothing, by its reason: another one if mountd(8) may grant by the line
abbrev pub remark_of : Bool → Reason → Remark
remark_of grants reason.NoClient = remark.NoClient
remark_of grants (reason.Shadowed line address) = if grants then remark.ShadowedHere else remark.Shadowed
remark_of grants (reason.Repeated line address) = remark.Repeated

-- what shows it: the address and the line that the reason gives
abbrev pub example_of : Reason → Option Example
example_of reason.NoClient = None
example_of (reason.Shadowed line address) = Some (record { line = line; address = address })
example_of (reason.Repeated line address) = Some (record { line = line; address = address })

abbrev pub idle_remark_if : Bool → Idle → LineRemark
idle_remark_if grants idle = record { line = idle.line; remark = remark_of grants idle.reason; example = example_of idle.reason; directory = None }

-- the server grants more by this line
abbrev pub grants_more : List WiderGrant → ℕ → Bool
grants_more wider line = list_any (λ one. one.other == line) wider

-- a line decides nothing, where the server grants this more
abbrev pub idle_remark : List WiderGrant → Idle → LineRemark
idle_remark wider idle = idle_remark_if (grants_more wider idle.line) idle

-- the server grants more by another line, at this address, and this directory, if it is one
abbrev pub wider_remark : WiderGrant → LineRemark
wider_remark wider = record {
  line = wider.line;
  remark = remark.ServerGrantsMore;
  example = Some (record { line = wider.other; address = wider.address });
  directory = option_copied wider.directory;
}

-- an earlier line has this client of a line
abbrev pub repeated_remark : RepeatedClient → LineRemark
repeated_remark repeated = record {
  line = repeated.line;
  remark = remark.RepeatedClient;
  example = Some (record { line = repeated.other; address = repeated.address });
  directory = None;
}

-- what is said of the lines of a file system that decide nothing
abbrev pub idle_remarks : Said → List LineRemark
idle_remarks said = map (idle_remark said.wider) said.idle

-- what is said of those by which mountd(8) does something else
abbrev pub server_remarks : Said → List LineRemark
server_remarks said = map wider_remark said.wider ++ map repeated_remark said.repeated

-- what is said of each of these lines by itself, with opinions or without
abbrev pub remarks_by_line : Bool → List (List Row) → List LineRemark
remarks_by_line opinions files = flat_map (λ rows. flat_map (λ row. entry_remarks opinions row.entry) rows) files

-- What is said of the lines of a policy that does not contradict itself: of each file system just those that decide nothing, and
-- what is said of each line by itself, but nothing of a line of which a word is warned of; and of each file system, whatever words
-- are warned of, just those to whose clients the server grants more, and those that have a client of an earlier one.
pub record AreRemarksOf (opinions : Bool) (content : Content) (warnings : List Warning) (found : List LineRemark) : Type 0 where
  pub saids : List Said
  pub are_said : AreSaid content saids
  pub are : found ≡ filter (is_unwarned warnings) (flat_map idle_remarks saids ++ remarks_by_line opinions content.rows) ++ flat_map server_remarks saids

-- The same of any policy: nothing is said of the lines of one that contradicts itself.
pub record AreRemarks (opinions : Bool) (content : Content) (warnings : List Warning) (found : List LineRemark) : Type 0 where
  pub consistent : HasNoContradiction content → AreRemarksOf opinions content warnings found
  pub contradictory : (HasNoContradiction content → ⊥) → found ≡ []
