use Rattle.std.proofs.Common.{◌≡◌, Option, Some, None, sym, ◌∙◌, ap, ℕ}
use Rattle.std.specs.Option.{option_map}
use Rattle.desk_tables.specs.FileSystems.{fs_of}
use Rattle.desk_tables.specs.declared.filesystems.FsId.{FsId}
use Rattle.desk_policy.specs.Policy.{rows_of}
use Rattle.desk_policy.specs.Weights.{selected}
use Rattle.desk_policy.specs.Verdict.{verdict_among, verdict_in, verdict_of, lists, lists_here}
use Rattle.desk_policy.proofs.VerdictLines.{among_agree, lists_same}
use Rattle.desk_policy.proofs.verdict.decide.Goals as goal

-- a file system by its number
number_found : (o : Option ℕ) (fs : FsId) → Some fs ≡ option_map (λ i. record { 0 = i }) o → o ≡ Some fs.0
number_found None fs e = cc
number_found (Some i) fs e = let s : fs ≡ record { 0 = i } = cc in sym (ap (λ (f : FsId). Some f.0) s)

abbrev no_file_system : Option FsId
no_file_system = None

none_found : (o : Option ℕ) → no_file_system ≡ option_map (λ i. record { 0 = i }) o → o ≡ None
none_found None e = cc
none_found (Some i) e = cc

pub returns-in-None : goal.returns-in-None
unfolding verdict_of
returns-in-None c =
    let content = c.args.policy.now in
    let path = c.args.path.now in
    let e : fs_of content.table path ≡ None =
    ap (λ table. fs_of table path) (sym c.filesystems.ensures) ∙ none_found _ c.in-None.ensures in
    sym (ap (verdict_in content c.args.address.number path) e)

pub returns-in-Some : goal.returns-in-Some
unfolding verdict_of
returns-in-Some c =
    let content = c.args.policy.now in
    let fs = c.in-Some.fs in
    let path = c.args.path.now in
    let e : fs_of content.table path ≡ Some fs.0 =
    ap (λ table. fs_of table path) (sym c.filesystems.ensures) ∙ number_found _ fs c.in-Some.ensures in
    c.verdict_by_scan.ensures
    ∙ ap (λ rows. verdict_among fs (lists_here path) (selected rows c.args.address.number)) c.rows.ensures
    ∙ among_agree fs _ (lists content fs.0 path) (lists_same content fs.0 path e) (selected (rows_of content fs.0) c.args.address.number)
    ∙ sym (ap (verdict_in content c.args.address.number path) e)
