-- The file system of a mount point, by its printed form.
use Rattle.std.proofs.Common.{◌≡◌, ◌∙◌, ℕ, List, Option, Some, None, ap, sym}
use Rattle.std.specs.Prelude.{position}
use Rattle.std.specs.Option.{option_map}
use Rattle.std.specs.Str.{bytes_eq}
use Rattle.desk_text.specs.Path.{path_text}
use Rattle.desk_tables.specs.declared.filesystems.FsId.{FsId}
use Rattle.desk_tables.specs.declared.filesystems.Mount.{Mount}
use Rattle.desk_policy.specs.Policy.{Content}
use Rattle.desk_server_notes.specs.MountFindings.{filesystem_at}

number_found : (o : Option ℕ) (fs : FsId) → Some fs ≡ option_map (λ i. record { 0 = i }) o → o ≡ Some fs.0
number_found None fs e = cc
number_found (Some i) fs e = let s : fs ≡ record { 0 = i } = cc in sym (ap (λ (f : FsId). Some f.0) s)

pub placed : (content : Content) (mount : List (List ℕ)) (table : List Mount) (text : List ℕ) (fs : FsId) → table ≡ content.table → text ≡ path_text mount
    → Some fs ≡ option_map (λ i. record { 0 = i }) (position (λ one. bytes_eq (path_text one.path) text) table) → filesystem_at content mount ≡ Some fs.0
placed content mount table text fs same printed e =
    ap (λ (t : List ℕ). position (λ (one : Mount). bytes_eq (path_text one.path) t) content.table) (sym printed)
    ∙ ap (λ (ms : List Mount). position (λ (one : Mount). bytes_eq (path_text one.path) text) ms) (sym same)
    ∙ number_found (position (λ (one : Mount). bytes_eq (path_text one.path) text) table) fs e
