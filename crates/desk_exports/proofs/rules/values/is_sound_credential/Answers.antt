use Rattle.std.proofs.Common.{◌∙◌, ap, sym, false}
use Rattle.std.specs.Option.{option_copied, option_map_or}
use Rattle.desk_tables.specs.CredentialText.{cred_breaks, cred_value, elements}
use Rattle.desk_exports.proofs.FaultlessCredentials.{faultless}
use Rattle.desk_exports.proofs.rules.values.is_sound_credential.Goals as goal

pub returns-in-Some : goal.returns-in-Some
returns-in-Some c = λ ok fault.
    let users = c.args.tables.now.users.now in
    let groups = c.args.tables.now.groups.now in
    let es = elements c.in-Some.text.now in
    ap (λ o. option_map_or (λ text. cred_breaks users groups (elements text) fault) o false) (sym c.value_of.ensures ∙ ap option_copied c.in-Some.is)
    ∙ faultless (cred_breaks users groups es) (cred_value users groups es) c.credential.result (sym c.is_ok.ensures.value ∙ ok) c.credential.ensures fault
