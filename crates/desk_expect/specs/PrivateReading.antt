-- What the private contracts of the reading cite.
use Rattle.std.specs.Prelude.{◌≡◌, ℕ, ◌<◌, ◌^◌, ◌++◌, ◌||◌, true, false, List, Option, Some, Result, Ok, Err, is_none}
use Rattle.std.specs.List.{filter_map, list_any}
use Rattle.desk_text.specs.declared.reading.ReadError.{ReadError}
use Rattle.desk_text.specs.declared.reading.ReadError.TheVariants.{Fault, Memory}
use Rattle.desk_tables.specs.declared.hosts.HostRow.{HostRow}
use Rattle.desk_netgroup.specs.declared.group_line.GroupLine.{GroupLine}
use Rattle.desk_expect.specs.Audience.{AudienceValue, contains}
use Rattle.desk_expect.specs.Expectation.{IsExpectationOf, Promise}
use Rattle.desk_expect.specs.Form.{is_everybody, named}
use Rattle.desk_expect.specs.Meaning.{Subject, are_for, is_meant, is_unknown}
use Rattle.desk_expect.specs.Names.{is_bad_address}
use Rattle.desk_expect.specs.Rules.{is_nobody}
use Rattle.desk_expect.specs.Scope.{read_scope}
use Rattle.desk_expect.specs.Spans.{SpanEnds, is_held}
use Rattle.desk_expect.specs.declared.expectation.Expectation.{Expectation}
use Rattle.desk_expect.specs.declared.rules.Rule.{Rule}
use Rattle.desk_expect.specs.declared.rules.Rule.TheVariants.{BadAddress, BadPath, Nobody, UnknownName}
use Rattle.desk_expect.specs.declared.scope.Scope.{Scope}

-- an expectation is what a line answers
pub record AnswersLine (netgroups : List GroupLine) (hosts : List HostRow) (answer : Result (Option Promise) Rule) (expectation : Expectation) : Type 0 where
  pub promise : Promise
  pub is : answer ≡ Ok (Some promise)
  pub of : IsExpectationOf netgroups hosts promise expectation

abbrev pub ReadsLine : List GroupLine → List HostRow → Result (Option Promise) Rule → Result Expectation (ReadError Rule) → Type 0
ReadsLine netgroups hosts answer (Ok expectation) = AnswersLine netgroups hosts answer expectation
ReadsLine netgroups hosts answer (Err (Fault rule)) = answer ≡ Err rule
ReadsLine netgroups hosts answer (Err Memory) = Unit {0}

-- the scopes of directories, or that one cannot be read
abbrev pub ReadsScopes : List (List ℕ) → Result (List Scope) (ReadError Rule) → Type 0
ReadsScopes dirs (Ok scopes) = (list_any (λ dir. is_none (read_scope dir)) dirs ≡ false) × (scopes ≡ filter_map read_scope dirs)
ReadsScopes dirs (Err (Fault rule)) = (rule ≡ BadPath) × (list_any (λ dir. is_none (read_scope dir)) dirs ≡ true)
ReadsScopes dirs (Err Memory) = Unit {0}

-- whom a line is about that has these words before and after its `but`
abbrev pub subject_with : List (List ℕ) → List (List ℕ) → Subject
subject_with whom but = record { everybody = is_everybody whom; names = named whom; but = but }

-- a set has all addresses, or just those that names mean
abbrev pub HoldsWhom : List GroupLine → List HostRow → List (List ℕ) → SpanEnds → Type 0
HoldsWhom netgroups hosts whom set = (address : ℕ) → address < 2 ^ 32 → is_held set address ≡ (is_everybody whom || are_for netgroups hosts (named whom) address)

-- an audience has just the addresses that are meant
abbrev pub IsAudienceOf : List GroupLine → List HostRow → Subject → AudienceValue → Type 0
IsAudienceOf netgroups hosts subject audience = (address : ℕ) → address < 2 ^ 32 → contains audience address ≡ is_meant netgroups hosts subject address

-- the names of a line are good and known, and it is about some address: just those of the audience
pub record HasAudience (netgroups : List GroupLine) (hosts : List HostRow) (whom but : List (List ℕ)) (audience : AudienceValue) : Type 0 where
  pub good : list_any is_bad_address (named whom ++ but) ≡ false
  pub known : list_any (is_unknown netgroups hosts) (named whom ++ but) ≡ false
  pub some : is_nobody netgroups hosts (subject_with whom but) ≡ false
  pub each : IsAudienceOf netgroups hosts (subject_with whom but) audience

-- a line is about nobody that can be found out, since it breaks this rule
abbrev pub BreaksSubject : List GroupLine → List HostRow → List (List ℕ) → List (List ℕ) → Rule → Type 0
BreaksSubject netgroups hosts whom but BadAddress = list_any is_bad_address (named whom ++ but) ≡ true
BreaksSubject netgroups hosts whom but UnknownName = (list_any is_bad_address (named whom ++ but) ≡ false) × (list_any (is_unknown netgroups hosts) (named whom ++ but) ≡ true)
BreaksSubject netgroups hosts whom but Nobody =
    (list_any is_bad_address (named whom ++ but) ≡ false) × (list_any (is_unknown netgroups hosts) (named whom ++ but) ≡ false) × (is_nobody netgroups hosts (subject_with whom but) ≡ true)
BreaksSubject netgroups hosts whom but rule = ⊥

abbrev pub ReadsAudience : List GroupLine → List HostRow → List (List ℕ) → List (List ℕ) → Result AudienceValue (ReadError Rule) → Type 0
ReadsAudience netgroups hosts whom but (Ok audience) = HasAudience netgroups hosts whom but audience
ReadsAudience netgroups hosts whom but (Err (Fault rule)) = BreaksSubject netgroups hosts whom but rule
ReadsAudience netgroups hosts whom but (Err Memory) = Unit {0}
