use Rattle.std.proofs.Common.{◌∙◌, ap, sym}
use Rattle.std.specs.Option.{option_copied, option_map}
use Rattle.std.specs.Str.{bytes_eq}
use Rattle.desk_exports.specs.Options.{OptionRow, row_of}
use Rattle.desk_exports.proofs.OptionRows.{find_of_image}
use Rattle.desk_exports.proofs.options.find_option.Goals as goal

pub returns-in-Some : goal.returns-in-Some
returns-in-Some c =
    ap (option_map (λ (r : OptionRow). r.keyword)) (ap (option_map row_of) (sym (ap option_copied c.in-Some.is) ∙ c.first_named.ensures) ∙ find_of_image row_of (λ r. bytes_eq r.name c.args.name.now) c.args.rows.now)

pub returns-in-None : goal.returns-in-None
returns-in-None c =
    ap (option_map (λ (r : OptionRow). r.keyword)) (ap (option_map row_of) (sym (ap option_copied c.in-None.is) ∙ c.first_named.ensures) ∙ find_of_image row_of (λ r. bytes_eq r.name c.args.name.now) c.args.rows.now)
