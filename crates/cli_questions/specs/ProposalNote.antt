-- What is said of a proposal beside its text. (this project's own)
use Rattle.std.specs.Prelude.{◌≡◌, ℕ, ◌++◌, ◌∷◌, List, [], String}
use Rattle.std.specs.String.{string_bytes}
use Rattle.desk_service.specs.Approving.{digest_of}

-- a note ends with the digest of a text, and its line
abbrev pub EndsWithDigest : {A : Type 0} → List ℕ → String A → Type 0
EndsWithDigest text note = (before : List ℕ) × (string_bytes note ≡ before ++ digest_of text ++ 10 ∷ [])
