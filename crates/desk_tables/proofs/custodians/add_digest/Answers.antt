use Rattle.std.proofs.Common.{◌∙◌, ap, Some, None, cond}
use Rattle.std.specs.Option.{option_or}
use Rattle.std.specs.Str.{bytes_eq}
use Rattle.desk_tables.specs.Custodians as spec
use Rattle.desk_tables.proofs.CustodianLemmas.{digest_push}
use Rattle.desk_tables.proofs.custodians.add_digest.Goals as goal

pub returns : goal.returns
returns c = λ before has q.
    c.in_ok-add_first.ensures q
    ∙ ap (λ o. option_or o (cond (bytes_eq q c.as_str.result.now) (Some c.args.row.digest) None)) (has q)
    ∙ ap (λ n. option_or (spec.digest_of before q) (cond (bytes_eq q n) (Some c.args.row.digest) None)) c.as_str.ensures
    ∙ digest_push before c.args.row q
