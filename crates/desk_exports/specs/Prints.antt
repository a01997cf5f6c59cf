-- Flavours, terms and faults as they are printed. (exports(5), in this project's own form)
use Rattle.std.specs.Prelude.{ℕ, List, ◌++◌, ◌∷◌, codes, map, if◌then◌else◌}
use Rattle.std.specs.Fmt.{decimal}
use Rattle.std.specs.List.{join_with_byte}
use Rattle.desk_text.specs.declared.reading.LineFault.{LineFault}
use Rattle.desk_tables.specs.Credentials.{cred_text}
use Rattle.desk_exports.specs.Flavours.{flavour_word}
use Rattle.desk_exports.specs.Rules.{rule_name, rule_number}
use Rattle.desk_exports.specs.declared.entry.Flavour.{Flavour}
use Rattle.desk_exports.specs.declared.entry.Mapping.{Mapping}
use Rattle.desk_exports.specs.declared.entry.Mapping.TheVariants.{Root, All}
use Rattle.desk_exports.specs.declared.entry.Terms.{Terms}
use Rattle.desk_exports.specs.declared.rules.Rule.{Rule}

-- flavours are printed with colons between them
abbrev pub flavours_text : List Flavour → List ℕ
flavours_text flavours = join_with_byte 58 (map flavour_word flavours)

-- who acts as which credential, as `root=65534:65533`
abbrev pub mapping_text : Mapping → List ℕ
mapping_text (Root cred) = codes "root=" ++ cred_text cred
mapping_text (All cred) = codes "all=" ++ cred_text cred

-- terms as they are printed, as `rw sec=krb5:sys root=65534:65533`
abbrev pub terms_text : Terms → List ℕ
terms_text terms = (if terms.ro then codes "ro" else codes "rw") ++ codes " sec=" ++ flavours_text terms.flavours ++ 32 ∷ mapping_text terms.map

-- a fault, as `fault line 3 rule 14 NetAndHost`
abbrev pub fault_line : LineFault Rule → List ℕ
fault_line fault = codes "fault line " ++ decimal fault.line ++ codes " rule " ++ decimal (rule_number fault.rule) ++ 32 ∷ rule_name fault.rule
