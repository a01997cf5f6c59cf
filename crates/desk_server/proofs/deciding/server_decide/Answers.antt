use mathlib.Core.Path.{fun_ext}
use Rattle.std.proofs.Common.{◌≡◌, ◌∙◌, ℕ, Option, Some, None, ap, sym}
use Rattle.std.specs.Option.{option_map}
use Rattle.desk_text.specs.Address.{number_of}
use Rattle.desk_tables.specs.FileSystems.{fs_of}
use Rattle.desk_tables.specs.declared.filesystems.FsId.{FsId}
use Rattle.desk_policy.specs.Policy.{Content, rows_of}
use Rattle.desk_index.proofs.SelectedLines.{lists_same}
use Rattle.desk_server.specs.Server.{server_verdict_among, server_verdict_in, server_verdict_of}
use Rattle.desk_server.proofs.deciding.server_decide.Goals as goal

-- a file system by its number
number_found : (o : Option ℕ) (fs : FsId) → Some fs ≡ option_map (λ i. record { 0 = i }) o → o ≡ Some fs.0
number_found None fs e = cc
number_found (Some i) fs e = let s : fs ≡ record { 0 = i } = cc in sym (ap (λ (f : FsId). Some f.0) s)

abbrev no_file_system : Option FsId
no_file_system = None

none_found : (o : Option ℕ) → no_file_system ≡ option_map (λ i. record { 0 = i }) o → o ≡ None
none_found None e = cc
none_found (Some i) e = cc

pub returns-in-Some : goal.returns-in-Some
unfolding server_verdict_of
returns-in-Some c =
    let content = c.args.index.now in
    let fs = c.in-Some.fs in
    let address = number_of c.args.address in
    let path = c.args.path.now in
    let here : fs_of content.table path ≡ Some fs.0 =
    ap (λ table. fs_of table path) (sym (c.filesystems.ensures ∙ ap (λ (k : Content). k.table) c.policy-2.ensures)) ∙ number_found _ fs c.in-Some.ensures in
    c.decide_in.ensures ∙ ap (λ p. server_verdict_among fs p (rows_of content fs.0) address) (fun_ext (λ row. lists_same content fs.0 path here row)) ∙ sym (ap (server_verdict_in content address path) here)

pub returns-in-None : goal.returns-in-None
unfolding server_verdict_of
returns-in-None c =
    let content = c.args.index.now in
    let path = c.args.path.now in
    let none : fs_of content.table path ≡ None =
    ap (λ table. fs_of table path) (sym (c.filesystems.ensures ∙ ap (λ (k : Content). k.table) c.policy-2.ensures)) ∙ none_found _ c.in-None.ensures in
    sym (ap (server_verdict_in content (number_of c.args.address) path) none)
