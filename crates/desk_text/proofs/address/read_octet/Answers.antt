use Rattle.std.proofs.Common.{◌∙◌, refl, sym, ap, take, get_or, arith}
use Rattle.std.specs.Char.{is_ascii_digit}
use Rattle.std.specs.List.{list_all}
use Rattle.std.proofs.lemmas.Bool.{and_from}
use Rattle.std.proofs.lemmas.List.{take_more}
use Rattle.std.proofs.lemmas.List.Recursion.{and_push}
use Rattle.std.proofs.lemmas.Int.Digits.{digits_value_more}
use Rattle.std.proofs.lemmas.Str.{digit_value_digit}
use Rattle.std.proofs.lemmas.Str.Parse.{digit_from_value}
use Rattle.desk_text.proofs.address.read_octet.Goals as goal

pub loop-b-preserved : goal.loop-b-preserved
loop-b-preserved c =
    let part = c.args.part.now in
    let i = c.loop-b.b-index in
    let digit = digit_value_digit (get_or part i 0) (digit_from_value (get_or part i 0) c.if-not-is_ascii_digit.ensures.bound) in
    record {
      digits = ap (list_all is_ascii_digit) (take_more part i 0 c.loop-b-test.true) ∙ and_push (list_all is_ascii_digit) is_ascii_digit refl (λ _ _. refl) (take i part) (get_or part i 0)
          ∙ and_from _ _ c.loop-b.invariant.digits (sym c.is_ascii_digit.ensures.value ∙ c.if-not-is_ascii_digit.false);
      value = rw (digits_value_more 10 part i c.loop-b-test.true) (omega (arith, digit, c.from.ensures, c.min-value.ensures, c.loop-b.invariant.value));
    }
