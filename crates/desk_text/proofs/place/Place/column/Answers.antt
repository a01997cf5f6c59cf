use Rattle.std.proofs.Common.{◌≡◌, ◌-◌, take, length, ap, ◌∙◌, arith}
use Rattle.std.specs.Str.{chars}
use Rattle.desk_text.proofs.place.Place.column.Goals as goal

pub returns : goal.returns
returns c =
    let all : c.args.self.start - 0 ≡ c.args.self.start = omega arith in
    let text = c.range.ensures.value ∙ ap (λ n. take n c.args.line.now) all in
    omega (arith, c.count_characters.ensures.count ∙ ap (λ t. length (chars t)) text)
