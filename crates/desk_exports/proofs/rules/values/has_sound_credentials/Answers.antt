use Rattle.desk_exports.proofs.RulesAsked.{neither}
use Rattle.desk_exports.proofs.rules.values.has_sound_credentials.Goals as goal

pub returns-then-is_sound_credential : goal.returns-then-is_sound_credential
returns-then-is_sound_credential c = λ ok fault.
    neither _ _ (c.is_sound_credential.ensures c.if-is_sound_credential.true fault) (c.is_sound_credential-then-is_sound_credential.ensures ok fault)
