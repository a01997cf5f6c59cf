-- What the private contracts of reading a line cite.
use Rattle.std.specs.Prelude.{ℕ, ◌==◌, Bool, true, false, List, [], ◌∷◌, Option, None, Some, option_and_then, if◌then◌else◌}
use Rattle.desk_netgroup.specs.declared.token.Token.{Token}
use Rattle.desk_netgroup.specs.declared.token.Token.TheVariants.{Open, Close, Comma, Word}

-- the token of a character that is not of a word, if it is no blank
abbrev pub mark_tokens : ℕ → List Token
mark_tokens c = if c == 40 then Open ∷ [] else if c == 41 then Close ∷ [] else if c == 44 then Comma ∷ [] else []

-- a `(` is open after a token, if one is open before it
abbrev pub is_open_after : Bool → Token → Bool
is_open_after was Open = true
is_open_after was Close = false
is_open_after was Comma = was
is_open_after was (Word word) = was

-- the host field of a triple, from what stands after its `(`
abbrev pub host_field : List Token → List ℕ
host_field (Word host ∷ more) = host
host_field _ = []

-- what stands after a field, which is a word or empty
abbrev pub after_field : List Token → List Token
after_field (Word word ∷ more) = more
after_field tokens = tokens

-- what stands after a comma, and after a `)`
abbrev pub after_comma : List Token → Option (List Token)
after_comma (Comma ∷ more) = Some more
after_comma _ = None

abbrev pub after_close : List Token → Option (List Token)
after_close (Close ∷ more) = Some more
after_close _ = None

-- what stands after a triple, from what stands after its `(`
abbrev pub after_triple : List Token → Option (List Token)
after_triple tokens =
    option_and_then (λ user. option_and_then (λ domain. after_close (after_field domain)) (after_comma (after_field user))) (after_comma (after_field tokens))
