-- Each answer is that of the definition at the bytes.
use Rattle.std.proofs.Common.{◌≡◌, ◌≤◌, sym, ◌∙◌, ap, ap₂, Ok, Err, length, rules, subst, take, true≢false}
use Rattle.std.proofs.lemmas.List.{length-take-le}
use Rattle.std.proofs.lemmas.Str.{IsUtf8-string_bytes, utf8_valid_len_le}
use Rattle.std.specs.Str.{IsUtf8, valid_up_to}
use Rattle.std.specs.Str.Lossy.{utf8_valid_len}
use Rattle.std.specs.String.{string_bytes}
use Rattle.cli_files.specs.Input.{not_utf8_behind}
use Rattle.cli_files.proofs.TextFaults.{refused, taken}
use Rattle.cli_files.proofs.input.text_of.Goals as goal

pub slice_bounds-front-end : goal.slice_bounds-front-end
slice_bounds-front-end c =
    let place_is : c.valid_up_to.result ≡ utf8_valid_len c.args.bytes.items = c.valid_up_to.ensures ∙ ap valid_up_to c.utf8_error.ensures ∙ c.in-Err.ensures.valid_len in
    let bytes_are : c.as_bytes.result.now ≡ c.args.bytes.items = c.as_bytes.ensures ∙ ap (λ v. v.items) c.in-Err.ensures.err in
    rw (place_is, bytes_are) (sym (length-take-le (utf8_valid_len c.args.bytes.items) c.args.bytes.items (utf8_valid_len_le c.args.bytes.items)))

pub returns-in-Ok : goal.returns-in-Ok
returns-in-Ok c =
    let short : length c.args.bytes.items ≤ 16777216 = search rules in
    let text_is : string_bytes c.in-Ok.text ≡ c.args.bytes.items = ap (λ v. v.items) c.in-Ok.ensures.ok in
    ap Ok text_is ∙ sym (taken c.args.bytes.items short (subst IsUtf8 text_is (IsUtf8-string_bytes c.in-Ok.text)))

pub returns-in-Err : goal.returns-in-Err
returns-in-Err c =
    let short : length c.args.bytes.items ≤ 16777216 = search rules in
    let place_is : c.valid_up_to.result ≡ utf8_valid_len c.args.bytes.items = c.valid_up_to.ensures ∙ ap valid_up_to c.utf8_error.ensures ∙ c.in-Err.ensures.valid_len in
    let bytes_are : c.as_bytes.result.now ≡ c.args.bytes.items = c.as_bytes.ensures ∙ ap (λ v. v.items) c.in-Err.ensures.err in
    ap Err (c.not_utf8_behind.ensures ∙ ap₂ (λ n xs. not_utf8_behind (take n xs)) place_is bytes_are)
    ∙ sym (refused c.args.bytes.items short (λ utf8. true≢false (sym (c.in-Err.ensures.succeeds utf8))))
