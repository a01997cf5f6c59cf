-- The terms of a mount in words. (this project's own, over exports(5))
use Rattle.std.specs.Prelude.{ℕ, ◌==◌, List, ◌++◌, codes, if◌then◌else◌}
use Rattle.std.specs.List.{join_by}
use Rattle.desk_tables.specs.Credentials.{cred_text}
use Rattle.desk_exports.specs.Flavours.{flavour_word}
use Rattle.desk_exports.specs.declared.entry.Flavour.{Flavour}
use Rattle.desk_exports.specs.declared.entry.Flavour.TheVariants.{Sys, Krb5, Krb5i, Krb5p}
use Rattle.desk_exports.specs.declared.entry.Mapping.{Mapping}
use Rattle.desk_exports.specs.declared.entry.Mapping.TheVariants.{All, Root}
use Rattle.desk_exports.specs.declared.entry.Terms.{Terms}

-- what a flavour does
abbrev pub flavour_meaning : Flavour → List ℕ
flavour_meaning Sys = codes "user ids taken on trust"
flavour_meaning Krb5 = codes "Kerberos"
flavour_meaning Krb5i = codes "Kerberos with integrity"
flavour_meaning Krb5p = codes "Kerberos with encryption"

-- a flavour, as `Kerberos (krb5)`
abbrev pub flavour_words : Flavour → List ℕ
flavour_words flavour = flavour_meaning flavour ++ codes " (" ++ flavour_word flavour ++ codes ")"

-- flavours, most preferred first
abbrev pub flavours_words : List Flavour → List ℕ
flavours_words flavours = join_by flavour_words (codes " or ") flavours

-- their names, as a line writes them
abbrev pub flavour_names : List Flavour → List ℕ
flavour_names flavours = codes "<code>" ++ join_by flavour_word (codes ":") flavours ++ codes "</code>"

-- who acts as whom
abbrev pub mapping_words : Mapping → List ℕ
mapping_words (Root cred) =
    if cred.uid == 0 then codes "root stays root (" ++ cred_text cred ++ codes ")" else codes "root acts as " ++ cred_text cred
mapping_words (All cred) =
    if cred.uid == 0 then codes "every user acts as root (" ++ cred_text cred ++ codes ")" else codes "every user acts as " ++ cred_text cred

-- terms, as `read-write; root acts as 65534:65533; user ids taken on trust (sys)`
abbrev pub terms_words : Terms → List ℕ
terms_words terms =
    (if terms.ro then codes "read-only" else codes "read-write") ++ codes "; " ++ mapping_words terms.map ++ codes "; "
    ++ flavours_words terms.flavours
