use Rattle.std.proofs.Common.{sym, ◌∙◌}
use Rattle.desk_tables.specs.CredentialText.{elements}
use Rattle.desk_tables.proofs.SoundCredential.{sound_answer}
use Rattle.desk_tables.proofs.credential_text.sound_credential.Goals as goal

pub returns : goal.returns
returns c =
    sound_answer c.args.users.now c.args.groups.now c.args.user.now (elements c.args.others.now) c.in_ok-uid.uid c.in_ok-gids.gids
    (sym c.sound_uid.ensures ∙ c.in_ok-uid.was) c.in_ok-gids.ensures
