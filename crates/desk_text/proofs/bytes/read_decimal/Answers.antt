use Rattle.std.proofs.Common.{sym, ◌∙◌}
use Rattle.desk_text.proofs.Decimals.{none_parsed}
use Rattle.desk_text.proofs.bytes.read_decimal.Goals as goal

pub returns-in_default-2 : goal.returns-in_default-2
returns-in_default-2 c =
    none_parsed c.args.most c.args.text.now c.parse.result c.in_default.field-0 c.parse.ensures.value.0 c.in_default.is c.ranges.most.fits
    (sym c.is_digits.ensures ∙ c.if-not-is_digits.false) (sym c.has_leading_zero.ensures ∙ c.if-has_leading_zero.false)
