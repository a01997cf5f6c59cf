-- What a line that breaks no rule says. (exports(5))
use Rattle.std.specs.Prelude.{ℕ, Bool, List, [], ◌∷◌, Option, option_and_then, if◌then◌else◌}
use Rattle.std.specs.List.{filter_map}
use Rattle.std.specs.Option.{option_map, option_zip}
use Rattle.std.specs.Result.{result_ok}
use Rattle.desk_tables.specs.CredentialText.{read_credential}
use Rattle.desk_tables.specs.declared.credentials.Cred.{Cred}
use Rattle.desk_exports.specs.Clients.{clients_of}
use Rattle.desk_exports.specs.Flavours.{flavours_of}
use Rattle.desk_exports.specs.Options.{has_option, setting_or, value_of}
use Rattle.desk_exports.specs.Tables.{TableRows}
use Rattle.desk_exports.specs.declared.entry.Clients.{Clients}
use Rattle.desk_exports.specs.declared.entry.Entry.{Entry}
use Rattle.desk_exports.specs.declared.entry.Flavour.{Flavour}
use Rattle.desk_exports.specs.declared.entry.Mapping.{Mapping}
use Rattle.desk_exports.specs.declared.entry.Mapping.TheVariants.{Root, All}
use Rattle.desk_exports.specs.declared.entry.Terms.{Terms}
use Rattle.desk_exports.specs.declared.grammar.GrammarLine.{GrammarLine}
use Rattle.desk_exports.specs.declared.options.Keyword.TheVariants as keyword
use Rattle.desk_exports.specs.declared.options.Setting.{Setting}

-- the credential that uid 0 acts as if no option says another
abbrev pub nobody : Cred
nobody = record { uid = 65534; gids = 65533 ∷ [] }

-- the credential of a text, if it stands for one
abbrev pub cred_of : TableRows → List ℕ → Option Cred
cred_of tables text = option_and_then result_ok (read_credential tables.users tables.groups text)

-- The mapping of a line: everybody acts as one credential, or uid 0 does. If neither option is written, uid 0 acts as
-- nobody.
abbrev pub mapping_of : TableRows → List Setting → Option Mapping
mapping_of tables settings =
    if has_option keyword.MapAll settings then option_map All (option_and_then (cred_of tables) (value_of keyword.MapAll settings))
    else option_map Root (setting_or keyword.MapRoot settings nobody (cred_of tables))

abbrev pub terms_with : Bool → List Flavour × Mapping → Terms
terms_with ro parts = record { ro = ro; flavours = parts.0; map = parts.1 }

-- the terms that the options say
abbrev pub terms_of : TableRows → List Setting → Option Terms
terms_of tables settings = option_map (terms_with (has_option keyword.ReadOnly settings)) (option_zip (flavours_of settings) (mapping_of tables settings))

abbrev pub entry_with : ℕ → GrammarLine → Terms × Clients → Entry
entry_with number line parts = record {
  line = number;
  dirs = filter_map result_ok line.directories;
  alldirs = has_option keyword.AllDirs line.settings;
  terms = parts.0;
  clients = parts.1;
}

-- The entry of the line with this number. There is none if a value that is written cannot be parsed: that a line which
-- breaks no rule has one is a law.
abbrev pub entry_of : TableRows → ℕ → GrammarLine → Option Entry
entry_of tables number line = option_map (entry_with number line) (option_zip (terms_of tables line.settings) (clients_of tables.networks line.settings line.names))
