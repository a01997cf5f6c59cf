-- What the private contract of the rules of a line cites.
use Rattle.std.specs.Prelude.{Bool, true, false, Option, Result, Ok, Err, if◌then◌else◌}
use Rattle.desk_tables.specs.declared.filesystems.FsId.{FsId}
use Rattle.desk_exports.specs.Lines.{unless_broken}
use Rattle.desk_exports.specs.Rules.{first_broken_rule}
use Rattle.desk_exports.specs.Tables.{TableRows}
use Rattle.desk_exports.specs.declared.grammar.GrammarLine.{GrammarLine}
use Rattle.desk_exports.specs.declared.rules.Rule.{Rule}
use Rattle.desk_exports.specs.declared.rules.Rule.TheVariants.{StrayComment}

-- whether a line has an entry, or the first rule that it breaks
abbrev pub has_entry : TableRows → Option FsId → GrammarLine → Result Bool Rule
has_entry tables own_fs line =
    if line.is_v4 then (if line.has_stray_comment then Err StrayComment else Ok false)
    else unless_broken (first_broken_rule tables own_fs line) true
