-- What the header lines of a request say of its body and of the connection. (RFC 9112, sections 6 and 9.6; the limits are this
-- project's own)
use Rattle.std.specs.Prelude.{ℕ, Bool, ◌||◌, ◌==◌, nat_lt, nat_le, ◌&&◌, List, [], ◌∷◌, length, map, filter, codes, Option, Some, None, Result, Ok, Err, if◌then◌else◌}
use Rattle.std.specs.List.{list_any}
use Rattle.std.specs.Str.{str_eq_ignore_ascii_case}
use Rattle.std.specs.Str.Parse.{digits_value}
use Rattle.httparse.specs.Grammar.{RequestHead}
use Rattle.httparse.specs.Spans.{name_and_value}
use Rattle.desk_text.specs.Bytes.{is_digits}
use Rattle.desk_http_messages.specs.declared.requests.StreamFault.{StreamFault}
use Rattle.desk_http_messages.specs.declared.requests.StreamFault.TheVariants.{TransferEncoding, BadLength, BodyTooLarge}

-- a header's name, and its value without the white space around it
abbrev pub Header : Type 0
Header = List ℕ × List ℕ

-- the values of the headers of this name, which is compared without ASCII case
abbrev pub header_values : List ℕ → List Header → List (List ℕ)
header_values name headers = map (λ h. h.1) (filter (λ h. str_eq_ignore_ascii_case h.0 name) headers)

-- the headers of a head, in order
abbrev pub headers_of : RequestHead → List Header
headers_of head = map name_and_value head.fields

-- the length that these Content-Length values give: 0 if there is none; a value that is not digits, or a second one, gives none
abbrev pub given_length : List (List ℕ) → Option ℕ
given_length [] = Some 0
given_length (value ∷ []) = if is_digits value then Some (digits_value 10 value) else None
given_length (value ∷ other ∷ values) = None

-- a length that was given, if a body may be so long
abbrev pub limited_length : Option ℕ → Result ℕ StreamFault
limited_length None = Err BadLength
limited_length (Some n) = if nat_le n 65536 then Ok n else Err BodyTooLarge

-- how long the body after these headers is, or the first fault that holds
abbrev pub body_length : List Header → Result ℕ StreamFault
body_length headers =
    if nat_lt 0 (length (header_values (codes "transfer-encoding") headers)) then Err TransferEncoding
    else limited_length (given_length (header_values (codes "content-length") headers))

-- there is a header Connection whose whole value is close
abbrev pub asks_to_close : List Header → Bool
asks_to_close headers = list_any (λ h. str_eq_ignore_ascii_case h.0 (codes "connection") && str_eq_ignore_ascii_case h.1 (codes "close")) headers

-- the stream ends after the reply to this request
abbrev pub ends_stream : RequestHead → Bool
ends_stream head = head.minor == 0 || asks_to_close (headers_of head)
