use Rattle.std.proofs.Common.{◌≡◌, ◌≢◌, ◌⊎◌, inl, inr, subst}
use Rattle.std.proofs.lemmas.Bool.{false≢true}
use Rattle.desk_store.specs.Keys.{AreKeysIf}
use Rattle.desk_store.specs.declared.error.DeskError.{DeskError}
use Rattle.desk_store.proofs.database.accept_keys.Goals as goal

other_one : (e one two : DeskError) → (e ≡ one) ⊎ (e ≡ two) → e ≢ one → e ≡ two
other_one e one two (inl is) other = absurd (other is)
other_one e one two (inr is) other = is

pub returns-in-Ok-false-clause-twice : goal.returns-in-Ok-false-clause-twice
returns-in-Ok-false-clause-twice c other =
    let told = subst (AreKeysIf c.args.rows.now) c.in-Ok-false.field-0-test c.in-Ok-false.ensures in
    (other_one c.not_stored.result _ _ c.not_stored.ensures.named other, λ are. false≢true (told.1 are))
