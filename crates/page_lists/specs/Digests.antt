-- Digests of texts. (this project's own, over FIPS 180-4)
use Rattle.std.specs.Prelude.{ℕ, List}
use Rattle.hex.specs.Hex.{encode_lower}
use Rattle.sha2.specs.Sha256.{sha256}

-- the SHA-256 of a text, in hexadecimal digits, with small letters
abbrev pub text_digest : List ℕ → List ℕ
text_digest text = encode_lower (sha256 text)
