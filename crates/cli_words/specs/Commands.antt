-- The commands of the program: a row for each, with its words and its options, as `clap` reads them. (this project's own)
use Rattle.std.specs.Prelude.{◌⊎◌, ℕ, ◌++◌, true, List, [], ◌∷◌, Option, Some, find, map, codes, option_and_then, option_map}
use Rattle.std.specs.Str.{bytes_eq}
use Rattle.clap.specs.Lexer.{usize_max}
use Rattle.clap.specs.Words.{App, IsAmong, Kinds, Row, Rule, fault_of, new_app, new_rule, subcommand_of, with_rule, with_subcommand}
use Rattle.clap.specs.declared.builder.ArgAction.TheVariants.{Append, Set, SetTrue}
use Rattle.clap.specs.declared.error.ErrorKind.TheVariants.{DisplayHelp, DisplayVersion}
use Rattle.cli_words.specs.declared.arguments.Argument.{Argument}
use Rattle.cli_words.specs.declared.arguments.Kind.{Kind}
use Rattle.cli_words.specs.declared.arguments.Kind.TheVariants as kind
use Rattle.cli_words.specs.declared.commands.CommandRow as code
use Rattle.cli_words.specs.declared.commands.Shared.{Shared}
use Rattle.cli_words.specs.declared.commands.Shared.TheVariants as taken
use Rattle.cli_words.specs.declared.commands.Subcommand.{Subcommand}
use Rattle.cli_words.specs.declared.commands.Subcommand.TheVariants as subcommand

-- a word that is required, and taken as it is
abbrev pub word : List ℕ → Rule
word name = record (new_rule name) { required = true; action = Some Set }

-- a word that may be left out
abbrev pub optional_word : List ℕ → Rule
optional_word name = record (new_rule name) { action = Some Set }

-- one word or more, or left out
abbrev pub optional_words : List ℕ → Rule
optional_words name = record (optional_word name) { range = Some (record { start_inclusive = 1; end_inclusive = usize_max }) }

-- an option with one value
abbrev pub option : List ℕ → Rule
option name = record (new_rule name) { long = Some name; action = Some Set; value_names = 1 }

-- an option with one value that has to be given
abbrev pub required_option : List ℕ → Rule
required_option name = record (option name) { required = true }

-- an option with one value that may be given more than once
abbrev pub repeated_option : List ℕ → Rule
repeated_option name = record (option name) { action = Some Append }

-- an option without a value
abbrev pub flag : List ℕ → Rule
flag name = record (new_rule name) { long = Some name; action = Some SetTrue }

-- a command with its name, its words, which options it shares with others, and its own options, each in their order
pub record CommandRow : Type 0 where
  pub command : Subcommand
  pub name : List ℕ
  pub words : List Rule
  pub shared : Shared
  pub options : List Rule

abbrev row : Subcommand → List ℕ → List Rule → Shared → List Rule → CommandRow
row command name words shared options = record { command = command; name = name; words = words; shared = shared; options = options }

-- the options that name the files of tables and of mount points, and the folder of a site's files
abbrev pub table_options : List Rule
table_options = option (codes "hosts") ∷ option (codes "networks") ∷ option (codes "passwd") ∷ option (codes "group") ∷ option (codes "netgroup") ∷ option (codes "mounts") ∷ option (codes "site") ∷ []

-- the options that name more exports files
abbrev pub more_options : List Rule
more_options = repeated_option (codes "and") ∷ flag (codes "zfs") ∷ []

-- which of these options a command shares with others
abbrev pub tables_of : Shared → List Rule
tables_of taken.Nothing = []
tables_of taken.Tables = table_options
tables_of taken.Texts = table_options

abbrev pub more_of : Shared → List Rule
more_of taken.Nothing = []
more_of taken.Tables = []
more_of taken.Texts = more_options

-- the commands, in the order of the help
abbrev pub commands : List CommandRow
commands =
    row subcommand.Try (codes "try") (optional_word (codes "FILE") ∷ optional_word (codes "HOST") ∷ optional_word (codes "DIR") ∷ optional_words (codes "MOUNT") ∷ []) taken.Texts (option (codes "as") ∷ flag (codes "why") ∷ flag (codes "mountd") ∷ flag (codes "json") ∷ [])
    ∷ row subcommand.Split (codes "split") (word (codes "FILE") ∷ word (codes "FILESYSTEMS") ∷ []) taken.Nothing []
    ∷ row subcommand.Check (codes "check") (optional_word (codes "FILE") ∷ optional_words (codes "MOUNT") ∷ []) taken.Texts (flag (codes "brief") ∷ flag (codes "strict") ∷ flag (codes "json") ∷ flag (codes "sarif") ∷ flag (codes "opinions") ∷ option (codes "ignore") ∷ [])
    ∷ row subcommand.Clients (codes "clients") (optional_word (codes "FILE") ∷ optional_word (codes "DIR") ∷ optional_words (codes "MOUNT") ∷ []) taken.Texts (flag (codes "mountd") ∷ flag (codes "json") ∷ [])
    ∷ row subcommand.Lists (codes "lists") (optional_word (codes "FILE") ∷ optional_word (codes "HOST") ∷ optional_words (codes "MOUNT") ∷ []) taken.Texts []
    ∷ row subcommand.Terms (codes "terms") (optional_word (codes "FILE") ∷ optional_words (codes "MOUNT") ∷ []) taken.Texts []
    ∷ row subcommand.Compare (codes "compare") (optional_word (codes "OLD") ∷ optional_word (codes "NEW") ∷ optional_words (codes "MOUNT") ∷ []) taken.Tables (flag (codes "all") ∷ flag (codes "json") ∷ [])
    ∷ row subcommand.Test (codes "test") (optional_word (codes "FILE") ∷ optional_word (codes "EXPECTATIONS") ∷ optional_words (codes "MOUNT") ∷ []) taken.Texts (flag (codes "json") ∷ flag (codes "sarif") ∷ [])
    ∷ row subcommand.Init (codes "init") (word (codes "DB") ∷ word (codes "DIR") ∷ []) taken.Nothing []
    ∷ row subcommand.Ask (codes "ask") (word (codes "DB") ∷ word (codes "HOST") ∷ word (codes "DIR") ∷ []) taken.Nothing (option (codes "as") ∷ flag (codes "why") ∷ flag (codes "mountd") ∷ flag (codes "json") ∷ [])
    ∷ row subcommand.Show (codes "show") (word (codes "DB") ∷ word (codes "HOST") ∷ []) taken.Nothing (flag (codes "json") ∷ [])
    ∷ row subcommand.Exports (codes "exports") (word (codes "DB") ∷ []) taken.Nothing (flag (codes "terms") ∷ flag (codes "json") ∷ [])
    ∷ row subcommand.Who (codes "who") (word (codes "DB") ∷ word (codes "DIR") ∷ []) taken.Nothing (flag (codes "mountd") ∷ flag (codes "json") ∷ [])
    ∷ row subcommand.Put (codes "put") (word (codes "DB") ∷ word (codes "NAME") ∷ optional_word (codes "FILE") ∷ []) taken.Nothing (option (codes "proposal") ∷ required_option (codes "base") ∷ required_option (codes "caller") ∷ option (codes "key") ∷ option (codes "key-file") ∷ [])
    ∷ row subcommand.Impact (codes "impact") (word (codes "DB") ∷ word (codes "NAME") ∷ optional_word (codes "FILE") ∷ []) taken.Nothing (flag (codes "all") ∷ flag (codes "proposal") ∷ flag (codes "json") ∷ [])
    ∷ row subcommand.Audit (codes "audit") (word (codes "DB") ∷ word (codes "EXPECTATIONS") ∷ optional_word (codes "NAME") ∷ optional_word (codes "FILE") ∷ []) taken.Nothing (flag (codes "proposal") ∷ flag (codes "json") ∷ flag (codes "sarif") ∷ [])
    ∷ row subcommand.Log (codes "log") (word (codes "DB") ∷ word (codes "NAME") ∷ []) taken.Nothing (flag (codes "json") ∷ [])
    ∷ row subcommand.Cat (codes "cat") (word (codes "DB") ∷ word (codes "NAME") ∷ []) taken.Nothing (option (codes "rev") ∷ flag (codes "json") ∷ [])
    ∷ row subcommand.Proposal (codes "proposal") (word (codes "DB") ∷ word (codes "NAME") ∷ []) taken.Nothing (flag (codes "json") ∷ [])
    ∷ row subcommand.Files (codes "files") (word (codes "DB") ∷ []) taken.Nothing (flag (codes "json") ∷ [])
    ∷ row subcommand.Report (codes "report") (word (codes "DB") ∷ []) taken.Nothing []
    ∷ row subcommand.Write (codes "write") (word (codes "DB") ∷ word (codes "DIR") ∷ []) taken.Nothing []
    ∷ row subcommand.Copy (codes "copy") (word (codes "DB") ∷ word (codes "FILE") ∷ []) taken.Nothing []
    ∷ row subcommand.Serve (codes "serve") (word (codes "DB") ∷ []) taken.Nothing (required_option (codes "port") ∷ required_option (codes "connections") ∷ option (codes "timeout") ∷ [])
    ∷ []

-- an argument of the code
abbrev pub rule_of_kind : Kind → List ℕ → Rule
rule_of_kind kind.Word name = word name
rule_of_kind kind.MaybeWord name = optional_word name
rule_of_kind kind.MaybeWords name = optional_words name
rule_of_kind (kind.Valued value) name = option name
rule_of_kind (kind.Needed value) name = required_option name
rule_of_kind (kind.Repeated value) name = repeated_option name
rule_of_kind kind.Flag name = flag name

abbrev pub rule_for : Argument → Rule
rule_for argument = rule_of_kind argument.kind argument.name.now

-- a row of the code
abbrev pub row_of : code.CommandRow → CommandRow
row_of r = row r.command r.name.now (map rule_for r.words.now) r.shared (map rule_for r.options.now)

-- a command line with these arguments too, in their order
abbrev pub with_rules : App → List Rule → App
with_rules app [] = app
with_rules app (rule ∷ more) = with_rules (with_rule app rule) more

-- what a command takes: its words, then the options of tables and those that name more exports files, if it shares them, and then its own options
abbrev pub rules_of : CommandRow → List Rule
rules_of row = row.words ++ tables_of row.shared ++ more_of row.shared ++ row.options

-- the command line of a command
abbrev pub app_of_row : CommandRow → App
app_of_row row = with_rules (new_app row.name) (rules_of row)

-- a program with these commands too, in their order
abbrev pub with_commands : App → List CommandRow → App
with_commands app [] = app
with_commands app (row ∷ more) = with_commands (with_subcommand app (app_of_row row).top) more

-- the program without its commands
abbrev pub program : App
program = record (new_app (codes "exportdesk")) {
  top = record (new_app (codes "exportdesk")).top {
    has_version = true;
    disable_help_subcommand = true;
    subcommand_required = true;
  };
}

-- the program's command line
abbrev pub command_line : App
command_line = with_commands program commands

-- the words behind the program's name, as clap is given them
abbrev pub line_of : List (List ℕ) → List (List ℕ)
line_of words = codes "exportdesk" ∷ words

-- the kinds of error that clap may find in the words
abbrev pub faults_of : List (List ℕ) → Kinds
faults_of words = fault_of command_line (line_of words)

-- the words ask for help or for the version
abbrev pub AskForHelp : List (List ℕ) → Type 0
AskForHelp words = IsAmong DisplayHelp (faults_of words) ⊎ IsAmong DisplayVersion (faults_of words)

-- the command of this name
abbrev pub command_named : List ℕ → Option Subcommand
command_named name = option_map (λ row. row.command) (find (λ row. bytes_eq row.name name) commands)

-- the command that clap finds with these rows of words, if it finds one
abbrev pub command_of : Option (List ℕ × List Row) → Option (Subcommand × List Row)
command_of found = option_and_then (λ named. option_map (λ command. (command, named.1)) (command_named named.0)) found

abbrev pub command_found : List (List ℕ) → Option (Subcommand × List Row)
command_found words = command_of (subcommand_of command_line (line_of words))
