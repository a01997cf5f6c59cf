-- Texts that are too long, for `write_command`.
use Rattle.std.proofs.Common.{◌≡◌, Bool, true, false, List, [], ◌∷◌, Some, cond, map, refl}
use Rattle.std.specs.Prelude.{find}
use Rattle.std.specs.Option.{option_map}
use Rattle.cli_write.specs.Replacing.{name_in, text_in}
use Rattle.cli_write.specs.WriteCommand.{first_too_long, is_too_long}
use Rattle.cli_write.specs.declared.replacing.NewText.{NewText}

-- the first file with such a text has the first name
pub named_first : (files : List NewText) → option_map name_in (find (λ (file : NewText). is_too_long file.text.now) files) ≡ first_too_long (map name_in files) (map text_in files)
named_first [] = refl
named_first (file ∷ files) = by (is_too_long file.text.now) (named_first files)
  where
    by : (b : Bool) → option_map name_in (find (λ (f : NewText). is_too_long f.text.now) files) ≡ first_too_long (map name_in files) (map text_in files)
        → option_map name_in (cond b (Some file) (find (λ (f : NewText). is_too_long f.text.now) files)) ≡ cond b (Some file.name.now) (first_too_long (map name_in files) (map text_in files))
    by true e = refl
    by false e = e
