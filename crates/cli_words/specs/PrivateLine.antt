-- A command line that is being made, as what the functions that make it say of it. (this project's own)
use Rattle.std.specs.Prelude.{◌≡◌, List, Result, IfOk, false, map}
use Rattle.std.specs.declared.alloc.AllocError.{AllocError}
use Rattle.clap.specs.Words.{App, Rule, app_of, rule_of}
use Rattle.clap.specs.declared.builder.Arg.{Arg}
use Rattle.clap.specs.declared.builder.Command.{Command}
use Rattle.clap.specs.declared.builder.Command.TheViews.{out-Command}
use Rattle.cli_words.specs.Commands as spec
use Rattle.cli_words.specs.declared.arguments.Argument.{Argument}
use Rattle.cli_words.specs.declared.commands.CommandRow.{CommandRow}

-- an argument of this rule, which is not one of subcommands too
pub record IsArgument (rule : Rule) (argument : Arg) : Type 0 where
  pub is : rule_of argument ≡ rule
  pub local : argument.global ≡ false

-- a command of this shape, without arguments of subcommands
pub record IsCommand (app : App) (command : Command) : Type 0 where
  pub is : app_of command ≡ app
  pub local : (out-Command command).has_globals ≡ false

-- a command of this shape is made, unless memory ran out
abbrev pub IsMade : App → Result Command AllocError → Type 0
IsMade app made = IfOk made (IsCommand app)

-- a command with these arguments too
abbrev pub with_arguments : App → List Argument → App
with_arguments app arguments = spec.with_rules app (map spec.rule_for arguments)

-- a program with these commands too
abbrev pub with_commands : App → List CommandRow → App
with_commands app rows = spec.with_commands app (map spec.row_of rows)
