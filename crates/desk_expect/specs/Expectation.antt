-- What a line expects, and when that holds. (this project's own)
use Rattle.std.specs.Prelude.{◌≡◌, ℕ, ◌<◌, ◌^◌, ◌||◌, not, Bool, true, List, Result, if◌then◌else◌}
use Rattle.std.specs.List.{list_any}
use Rattle.desk_tables.specs.declared.hosts.HostRow.{HostRow}
use Rattle.desk_netgroup.specs.declared.group_line.GroupLine.{GroupLine}
use Rattle.desk_policy.specs.Policy.{Content}
use Rattle.desk_policy.specs.Verdict.{Grant, verdict_of}
use Rattle.desk_policy.specs.declared.verdict.Denial.{Denial}
use Rattle.desk_impact.specs.Sections.{is_in_scope}
use Rattle.desk_server.specs.Server.{server_verdict_of}
use Rattle.desk_expect.specs.Action.{is_allowed_by}
use Rattle.desk_expect.specs.Audience.{contains}
use Rattle.desk_expect.specs.Meaning.{Subject, is_meant}
use Rattle.desk_expect.specs.declared.action.Action.{Action}
use Rattle.desk_expect.specs.declared.expectation.Expectation.{Expectation}
use Rattle.desk_expect.specs.declared.scope.Scope.{Scope}

-- a line as it is written: its number and its words, whom it is about, and what they may do, or may not, and where
pub record Promise : Type 0 where
  pub line : ℕ
  pub text : List ℕ
  pub subject : Subject
  pub forbids : Bool
  pub action : Action
  pub scopes : List Scope

-- An expectation is what a line promises, with just the addresses that its names mean.
pub record IsExpectationOf (netgroups : List GroupLine) (hosts : List HostRow) (promise : Promise) (expectation : Expectation) : Type 0 where
  pub line : expectation.line ≡ promise.line
  pub text : expectation.text ≡ promise.text
  pub audience : (address : ℕ) → address < 2 ^ 32 → contains expectation.audience address ≡ is_meant netgroups hosts promise.subject address
  pub forbids : expectation.forbids ≡ promise.forbids
  pub action : expectation.action ≡ promise.action
  pub scopes : expectation.scopes ≡ promise.scopes

-- a scope has a path: that of its directory, or, if all below are meant, one below it too
abbrev pub is_in : List (List ℕ) → Scope → Bool
is_in path scope = is_in_scope scope.path scope.below path

-- one of the scopes has a path
abbrev pub is_in_some : List Scope → List (List ℕ) → Bool
is_in_some scopes path = list_any (is_in path) scopes

-- Verdicts of this desk and of the server keep what a line says of an action: if it says `may not`, neither allows it; else that of
-- this desk does. (What this desk allows the server allows, too.)
abbrev pub keep : Bool → Action → Result Grant Denial → Result Grant Denial → Bool
keep forbids action own server = if forbids then not (is_allowed_by action own || is_allowed_by action server) else is_allowed_by action own

-- A line holds: at each address that it is about, and for each path of its directories, the verdicts of this desk and of the server
-- keep what it says.
abbrev pub Holds : List GroupLine → List HostRow → Content → Promise → Type 0
Holds netgroups hosts content promise =
    (address : ℕ) (path : List (List ℕ)) → address < 2 ^ 32 → is_meant netgroups hosts promise.subject address ≡ true → is_in_some promise.scopes path ≡ true
    → keep promise.forbids promise.action (verdict_of content address path) (server_verdict_of content address path) ≡ true
