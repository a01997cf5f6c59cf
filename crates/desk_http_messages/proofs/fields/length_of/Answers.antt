use Rattle.std.proofs.Common.{◌≡◌, true, take, get_or, arith, sym, ◌∙◌}
use Rattle.std.specs.Char.{is_ascii_digit}
use Rattle.std.specs.List.{list_all}
use Rattle.std.specs.Str.Parse.{digits_value}
use Rattle.std.proofs.lemmas.Int.Digits.{digits_value_more}
use Rattle.std.proofs.lemmas.List.Folds.{list_all_more}
use Rattle.desk_http_messages.proofs.FieldLemmas.{both, length_step, digit_is}
use Rattle.desk_http_messages.proofs.fields.length_of.Goals as goal

pub loop-digit-preserved : goal.loop-digit-preserved
loop-digit-preserved c =
    let bytes = c.args.digits.now in
    let i = c.loop-digit.digit-index in
    let b = get_or bytes i 0 in
    let v = digits_value 10 (take i bytes) in
    let is_digit : is_ascii_digit b ≡ true = sym c.if-not-is_ascii_digit.ensures.value in
    let more = digits_value_more 10 bytes i (omega arith) in
    let digit = digit_is b is_digit in
    let all = list_all_more is_ascii_digit bytes i 0 (omega arith) in
    record {
      digits = all ∙ both (list_all is_ascii_digit (take i bytes)) (is_ascii_digit b) c.loop-digit.invariant.digits is_digit;
      value = length_step _ _ _ _ b _ _ c.min-length.ensures c.loop-digit.invariant.value c.from.ensures digit more;
    }
