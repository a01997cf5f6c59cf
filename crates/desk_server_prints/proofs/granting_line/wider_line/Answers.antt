use Rattle.std.proofs.Common.{◌≡◌, ◌∙◌, List, ap, rules, sym}
use Rattle.std.specs.Prelude.{Err, filter}
use Rattle.desk_text.specs.Address.{number_of}
use Rattle.desk_policy.specs.Verdict.{verdict_result}
use Rattle.desk_policy.specs.Weights.{selected}
use Rattle.desk_policy.specs.declared.row.Row.{Row}
use Rattle.desk_policy.specs.declared.verdict.Denial.TheVariants.{NoFileSystem, NoLine, NotListed}
use Rattle.desk_server_prints.specs.PrivateGrantingLine.{is_wider}
use Rattle.desk_server_prints.specs.GrantingLine.{first_number}
use Rattle.desk_server_prints.proofs.Unlisted.{no_file_system, no_line, not_listed}
use Rattle.desk_server_prints.proofs.granting_line.wider_line.Goals as goal

pub returns-in-Denied-NotListed : goal.returns-in-Denied-NotListed
returns-in-Denied-NotListed c =
    let address = number_of c.args.address in
    let path = c.args.path.now in
    let denied : verdict_result c.args.verdict.now ≡ Err (NotListed c.in-Denied-NotListed.fs c.in-Denied-NotListed.field-0-1) = search rules in
    c.wider_among.ensures
    ∙ ap (λ (rows : List Row). first_number (selected (filter (is_wider address path) rows) address)) c.rows.ensures
    ∙ sym (not_listed c.args.policy.now address path c.in-Denied-NotListed.fs c.in-Denied-NotListed.field-0-1 (sym c.requires ∙ denied))

pub returns-in-Denied-NoLine : goal.returns-in-Denied-NoLine
returns-in-Denied-NoLine c =
    let denied : verdict_result c.args.verdict.now ≡ Err (NoLine c.in-Denied-NoLine.field-0-0) = search rules in
    no_line c.args.policy.now (number_of c.args.address) c.args.path.now c.in-Denied-NoLine.field-0-0 (sym c.requires ∙ denied)

pub returns-in-Denied-NoFileSystem : goal.returns-in-Denied-NoFileSystem
returns-in-Denied-NoFileSystem c =
    let denied : verdict_result c.args.verdict.now ≡ Err NoFileSystem = search rules in
    no_file_system c.args.policy.now (number_of c.args.address) c.args.path.now (sym c.requires ∙ denied)
