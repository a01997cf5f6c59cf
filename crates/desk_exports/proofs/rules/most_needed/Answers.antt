use Rattle.std.proofs.Common.{◌≡◌, ◌∙◌, ap, sym, refl, arith, ◌==◌, List, [], ◌∷◌, length, true}
use Rattle.std.proofs.lemmas.Bool.{eqb-true}
use Rattle.desk_exports.specs.Options.{has_valued}
use Rattle.desk_exports.specs.Rules.{cred_has}
use Rattle.desk_exports.specs.Tables.{table_rows}
use Rattle.desk_exports.specs.declared.options.Setting.{Setting}
use Rattle.desk_exports.proofs.rules.most_needed.Goals as goal

pub returns-then-is_empty : goal.returns-then-is_empty
returns-then-is_empty c = sym c.settings.ensures ∙ none c.settings.result.now (sym c.is_empty.ensures ∙ c.if-is_empty.true)
  where
    none : (xs : List Setting) → (length xs == 0) ≡ true → xs ≡ []
    none [] h = refl
    none (x ∷ xs) h = let zero_is : length (x ∷ xs) ≡ 0 = eqb-true (length (x ∷ xs)) 0 h in absurd (omega arith)

pub returns-then-not-has_valued_option : goal.returns-then-not-has_valued_option
returns-then-not-has_valued_option c =
    ap has_valued (sym c.settings-else-is_empty.ensures) ∙ sym c.has_valued_option.ensures ∙ c.if-not-has_valued_option.true

pub returns-then-has_sound_credentials : goal.returns-then-has_sound_credentials
returns-then-has_sound_credentials c = λ fault.
    let settings = c.settings-else-not-has_valued_option in
    ap (cred_has (table_rows c.args.tables.now) fault) (sym settings.ensures) ∙ c.has_sound_credentials.ensures c.if-has_sound_credentials.true fault

pub returns-else-has_sound_credentials : goal.returns-else-has_sound_credentials
returns-else-has_sound_credentials c = tt
