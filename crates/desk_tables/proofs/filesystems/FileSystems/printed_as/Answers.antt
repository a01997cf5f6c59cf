use Rattle.std.proofs.Common.{rules, ◌≡◌, ◌∙◌, List, ap}
use Rattle.std.specs.Prelude.{position}
use Rattle.std.specs.Option.{option_map}
use Rattle.std.specs.Str.{bytes_eq}
use Rattle.desk_text.specs.Path.{path_text}
use Rattle.desk_tables.specs.declared.filesystems.Mount.{Mount}
use Rattle.desk_tables.proofs.filesystems.FileSystems.printed_as.Goals as goal

pub returns : goal.returns
returns c =
    let mounts : List Mount = c.as_slice.result.now in
    let same : mounts ≡ c.args.self.now = c.as_slice.ensures ∙ c.deref.ensures ∙ c.self.view_is in
    let named : c.map.result ≡ option_map (λ i. record { 0 = i }) c.place_printed.result = search rules in
    named ∙ ap (option_map (λ i. record { 0 = i })) (c.place_printed.ensures ∙ ap (λ (table : List Mount). position (λ mount. bytes_eq (path_text mount.path) c.args.text.now) table) same)
