use Rattle.std.proofs.Common.{◌≡◌, ◌∙◌, IfOk, Option, Some, None, IsSome, ap, refl, subst, sym}
use Rattle.std.specs.Option.{option_map, option_zip}
use Rattle.desk_exports.specs.Clients.{clients_of}
use Rattle.desk_exports.specs.Entry.{entry_with, terms_of}
use Rattle.desk_exports.specs.Tables.{TableRows, table_rows}
use Rattle.desk_exports.specs.declared.entry.Clients.{Clients}
use Rattle.desk_exports.specs.declared.entry.Entry.{Entry}
use Rattle.desk_exports.specs.declared.entry.Terms.{Terms}
use Rattle.desk_exports.specs.declared.grammar.GrammarLine.{GrammarLine}
use Rattle.desk_exports.proofs.entry.make_entry.Goals as goal

-- where an entry is made of terms and clients, there are both
some_terms : (f : Terms × Clients → Entry) (t : Option Terms) (k : Option Clients) → IsSome (option_map f (option_zip t k)) → IsSome t
some_terms f None k h = h
some_terms f (Some terms) k h = refl

some_clients : (f : Terms × Clients → Entry) (t : Option Terms) (k : Option Clients) → IsSome (option_map f (option_zip t k)) → IsSome k
some_clients f None k h = absurd (cc)
some_clients f (Some terms) None h = h
some_clients f (Some terms) (Some clients) h = refl

pub unwrap-requires : goal.unwrap-requires
unwrap-requires c =
    let tables : TableRows = table_rows c.args.tables.now in
    let line : GrammarLine = c.args.line in
    let read : c.in-Ok.terms ≡ terms_of tables line.settings = c.in-Ok.ensures ∙ ap (terms_of tables) c.settings.ensures in
    subst IsSome (sym read) (some_terms (entry_with c.args.number line) (terms_of tables line.settings) (clients_of tables.networks line.settings line.names) c.requires)

pub entry_on_terms-requires : goal.entry_on_terms-requires
entry_on_terms-requires c =
    let tables : TableRows = table_rows c.args.tables.now in
    let line : GrammarLine = c.args.line in
    some_clients (entry_with c.args.number line) (terms_of tables line.settings) (clients_of tables.networks line.settings line.names) c.requires

pub returns-in-Ok : goal.returns-in-Ok
returns-in-Ok c =
    let tables : TableRows = table_rows c.args.tables.now in
    let line : GrammarLine = c.args.line in
    let written : Some c.unwrap.result ≡ terms_of tables line.settings = sym c.unwrap.ensures ∙ c.in-Ok.ensures ∙ ap (terms_of tables) c.settings.ensures in
    let K : Option Terms → Type 0 = λ t. IfOk c.entry_on_terms.result (λ entry. option_map (entry_with c.args.number line) (option_zip t (clients_of tables.networks line.settings line.names)) ≡ Some entry) in
    subst K written c.entry_on_terms.ensures
