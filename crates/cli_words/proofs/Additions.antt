-- What is added to a command line that is being made.
use Rattle.std.proofs.Common.{◌≡◌, ◌∙◌, ◌||◌, ◌+◌, ◌<◌, ◌++◌, ◌∷◌, [], ℕ, List, false, ap, ap₂, get_or, length, map, refl, take, Option, Some, None, IsSomeAnd}
use Rattle.std.proofs.lemmas.List.{map_more}
use Rattle.clap.specs.Simple.{app_of_fields}
use Rattle.clap.specs.Words.{AddsArg, AddsSubcommand, App, Rule, with_rule, with_subcommand}
use Rattle.clap.specs.declared.builder.Arg.{Arg}
use Rattle.clap.specs.declared.builder.Command.{Command}
use Rattle.clap.specs.declared.builder.Command.TheOpen.{Command-F}
use Rattle.clap.specs.declared.builder.Command.TheViews.{out-Command}
use Rattle.clap.specs.declared.builder.range.ValueRange.{ValueRange}
use Rattle.cli_words.specs.Commands as spec
use Rattle.cli_words.specs.Commands.{app_of_row, rule_for, row_of, with_rules}
use Rattle.cli_words.specs.PrivateLine.{IsArgument, IsCommand, with_arguments, with_commands}
use Rattle.cli_words.specs.declared.arguments.Argument.{Argument}
use Rattle.cli_words.specs.declared.commands.CommandRow.{CommandRow}

-- an argument is added
pub argument_added : (old : Command) (argument : Arg) (new : Command) (app : App) (rule : Rule) → IsCommand app old → IsArgument rule argument → AddsArg old argument new → IsCommand (with_rule app rule) new
argument_added old argument new app rule before added adds = record {
  is = adds.shape added.local ∙ ap₂ with_rule before.is added.is;
  local = adds.globals ∙ ap₂ (λ x y. x || y) before.local added.local;
}

-- a subcommand is added
pub command_added : (old sub new : Command) (app added : App) → IsCommand app old → IsCommand added sub → AddsSubcommand old sub new → IsCommand (with_subcommand app added.top) new
command_added old sub new app added before is adds = record {
  is = adds.shape is.local ∙ ap₂ with_subcommand before.is (ap (λ (a : App). a.top) is.is);
  local = adds.globals ∙ ap₂ (λ x y. x || y) before.local is.local;
}

-- how many words an argument takes
pub range_is : (given : Option ValueRange) (range : ValueRange) → IsSomeAnd given (λ found. found ≡ range) → given ≡ Some range
range_is None range same = elim same [ ]
range_is (Some found) range same = ap Some same

-- a command by its fields
pub by_fields : (command : Command) (fields : Command-F Command) (app : App) → out-Command command ≡ fields → app_of_fields fields ≡ app → fields.has_globals ≡ false → IsCommand app command
by_fields command fields app same is local = record {
  is = ap app_of_fields same ∙ is;
  local = ap (λ (given : Command-F Command). given.has_globals) same ∙ local;
}

-- arguments are added in turn
pub rules_in_turn : (app : App) (xs ys : List Rule) → with_rules app (xs ++ ys) ≡ with_rules (with_rules app xs) ys
rules_in_turn app [] ys = refl
rules_in_turn app (x ∷ xs) ys = rules_in_turn (with_rule app x) xs ys

-- one more argument
pub arguments_more : (app : App) (xs : List Argument) (i : ℕ) (d : Argument) → i < length xs → with_arguments app (take (i + 1) xs) ≡ with_rule (with_arguments app (take i xs)) (rule_for (get_or xs i d))
arguments_more app xs i d within =
    ap (with_rules app) (map_more rule_for xs i d within) ∙ rules_in_turn app (map rule_for (take i xs)) (rule_for (get_or xs i d) ∷ [])

-- commands are added in turn
commands_in_turn : (app : App) (xs ys : List spec.CommandRow) → spec.with_commands app (xs ++ ys) ≡ spec.with_commands (spec.with_commands app xs) ys
commands_in_turn app [] ys = refl
commands_in_turn app (x ∷ xs) ys = commands_in_turn (with_subcommand app (app_of_row x).top) xs ys

-- one more command
pub commands_more : (app : App) (xs : List CommandRow) (i : ℕ) (d : CommandRow) → i < length xs → with_commands app (take (i + 1) xs) ≡ with_subcommand (with_commands app (take i xs)) (app_of_row (row_of (get_or xs i d))).top
commands_more app xs i d within =
    ap (spec.with_commands app) (map_more row_of xs i d within) ∙ commands_in_turn app (map row_of (take i xs)) (row_of (get_or xs i d) ∷ [])

-- the words of a command, the options that it shares, and its own options are added in turn
pub all_in_turn : (app : App) (words tables more options : List Rule) → with_rules app (words ++ tables ++ more ++ options) ≡ with_rules (with_rules (with_rules (with_rules app words) tables) more) options
all_in_turn app words tables more options =
    rules_in_turn app (words ++ tables ++ more) options
    ∙ ap (λ a. with_rules a options) (rules_in_turn app (words ++ tables) more ∙ ap (λ a. with_rules a more) (rules_in_turn app words tables))
