-- Whether a word is UTF-8, by the bytes that were tested, for `line_words::command_words`.
use Rattle.std.proofs.Common.{◌≡◌, ℕ, Bool, true, false, not, List, refl, sym, ap, ◌∙◌}
use Rattle.std.proofs.lemmas.Str.{IsUtf8-from_is_utf8, is_utf8-from_IsUtf8}
use Rattle.std.specs.Str.{IsUtf8, is_utf8}
use Rattle.cli_words.specs.LineWords.{is_not_utf8}

not_utf8 : (bytes : List ℕ) (b : Bool) → is_utf8 bytes ≡ b → ¬ (IsUtf8 bytes) → b ≡ false
not_utf8 bytes false is bad = refl
not_utf8 bytes true is bad = absurd (bad (IsUtf8-from_is_utf8 bytes is))

-- a word by the bytes that were tested
pub good_word : (bytes word : List ℕ) → bytes ≡ word → IsUtf8 bytes → is_not_utf8 word ≡ false
good_word bytes word same utf8 = ap is_not_utf8 (sym same) ∙ ap not (is_utf8-from_IsUtf8 bytes utf8)

pub bad_word : (bytes word : List ℕ) → bytes ≡ word → ¬ (IsUtf8 bytes) → is_not_utf8 word ≡ true
bad_word bytes word same bad = ap is_not_utf8 (sym same) ∙ ap not (not_utf8 bytes (is_utf8 bytes) refl bad)
