-- The policy of the entries has no warnings.
use Rattle.std.proofs.Common.{◌∙◌, List, Ok, Result, ap, sym}
use Rattle.desk_tables.specs.declared.filesystems.FsId.{FsId}
use Rattle.desk_exports.specs.declared.entry.Entry.{Entry}
use Rattle.desk_origins.specs.declared.origins.Origin.{Origin}
use Rattle.desk_policy.specs.Parsing.{read_of, then_read, whole_policy, without_warnings}
use Rattle.desk_policy.specs.Policy.{Content, content_of, with_origins}
use Rattle.desk_policy.specs.declared.site_fault.SiteFault.{SiteFault}
use Rattle.desk_policy.proofs.parsing.parse_whole_without_warnings.Goals as goal

pub returns : goal.returns
unfolding content_of
returns c =
    let origins = c.args.origins.now in
    let ok : Content → List Origin → Result Content SiteFault = λ content texts. Ok (with_origins content texts) in
    let next : Result (List (FsId × Entry)) SiteFault → Result Content SiteFault = λ read. without_warnings (read_of origins (then_read read (whole_policy c.args.site_tables.now c.args.filesystems))) in
    ap next c.in_ok-entries.ensures.read
    ∙ ap (λ content. ok content origins) (sym c.in_ok-policy.ensures)
    ∙ ap (ok c.in_ok-policy.policy) (sym c.in_ok-own.ensures)
    ∙ ap Ok (sym c.with_origins.ensures)
