use Rattle.std.proofs.Common.{◌≡◌, ◌∙◌, Bool, List, ℕ, Option, Some, IsSome, ap, subst, sym}
use Rattle.std.specs.List.{filter_map}
use Rattle.std.specs.Option.{option_map, option_zip}
use Rattle.std.specs.Result.{result_ok}
use Rattle.desk_exports.specs.Clients.{clients_of}
use Rattle.desk_exports.specs.Entry.{entry_with}
use Rattle.desk_exports.specs.declared.entry.Clients.{Clients}
use Rattle.desk_exports.specs.declared.entry.Entry.{Entry}
use Rattle.desk_exports.specs.declared.grammar.GrammarLine.{GrammarLine}
use Rattle.desk_exports.proofs.entry.entry_on_terms.Goals as goal

pub unwrap-clients-requires : goal.unwrap-clients-requires
unwrap-clients-requires c =
    let line : GrammarLine = c.args.line in
    let read : c.in-Ok.clients ≡ clients_of c.args.networks.now line.settings line.names =
    c.in-Ok.ensures ∙ ap (λ settings. clients_of c.args.networks.now settings line.names) c.as_slice.ensures in
    subst IsSome (sym read) c.requires

pub returns-in-Ok-into_oks : goal.returns-in-Ok-into_oks
returns-in-Ok-into_oks c =
    let line : GrammarLine = c.args.line in
    let clients : Clients = c.unwrap-clients.result in
    let written : clients_of c.args.networks.now line.settings line.names ≡ Some clients =
    sym (c.in-Ok.ensures ∙ ap (λ settings. clients_of c.args.networks.now settings line.names) c.as_slice.ensures) ∙ c.unwrap-clients.ensures in
    let entry : Bool → List (List (List ℕ)) → Entry = λ all dirs. record { line = c.args.number; alldirs = all; dirs = dirs; terms = c.args.terms; clients = clients } in
    ap (λ (k : Option Clients). option_map (entry_with c.args.number line) (option_zip (Some c.args.terms) k)) written
    ∙ ap (λ all. Some (entry all (filter_map result_ok line.directories))) (sym c.has-alldirs.ensures)
    ∙ ap (λ dirs. Some (entry c.has-alldirs.result dirs)) (sym c.in-Ok-into_oks.ensures)
