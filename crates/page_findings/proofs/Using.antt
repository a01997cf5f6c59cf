-- What is told of flavours, by the lines that have them.
use Rattle.std.proofs.Common.{◌≡◌, ◌∙◌, List, ap, length, map}
use Rattle.std.specs.Prelude.{count_by}
use Rattle.std.specs.List.{dedup}
use Rattle.desk_exports.specs.declared.entry.Flavour.{Flavour}
use Rattle.page_findings.specs.Flavours.{UseValue, lines_with, same_number, use_of}
use Rattle.page_findings.specs.Lines.{LineValue, is_read_write}

pub use_is : (one : UseValue) (given own : List LineValue) (flavours : List Flavour) → own ≡ lines_with flavours given → one.flavours ≡ flavours → one.lines ≡ length own → one.read_write ≡ count_by is_read_write own
    → one.filesystems ≡ dedup same_number (map (λ line. line.fs) own) → one ≡ use_of given flavours
use_is one given own flavours are same lines read_write filesystems =
    ap (λ f. record { flavours = f; lines = one.lines; read_write = one.read_write; filesystems = one.filesystems }) same
    ∙ ap (λ n. record { flavours = flavours; lines = n; read_write = one.read_write; filesystems = one.filesystems }) (lines ∙ ap length are)
    ∙ ap (λ n. record { flavours = flavours; lines = length (lines_with flavours given); read_write = n; filesystems = one.filesystems }) (read_write ∙ ap (count_by is_read_write) are)
    ∙ ap (λ fs. record { flavours = flavours; lines = length (lines_with flavours given); read_write = count_by is_read_write (lines_with flavours given); filesystems = fs })
    (filesystems ∙ ap (λ some. dedup same_number (map (λ (line : LineValue). line.fs) some)) are)
