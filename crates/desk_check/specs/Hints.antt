-- Hints for words that other systems have in their exports files, or older texts. (this project's own, for exports(5) of
-- FreeBSD and of Linux)
use Rattle.std.specs.Prelude.{ℕ, ◌==◌, ◌/◌, ◌^◌, Bool, ◌&&◌, ◌||◌, not, List, [], ◌∷◌, Option, Some, None, Result, Ok, Err, bytes_eq, codes, length, nat_lt, slice_index, if◌then◌else◌}
use Rattle.std.specs.List.{list_any, slice_split}
use Rattle.desk_text.specs.Address.{read_short}
use Rattle.desk_text.specs.declared.address.AddrFault.{AddrFault}
use Rattle.desk_tables.specs.declared.rules.TableRule.TheVariants as listed
use Rattle.desk_exports.specs.Clients.{prefix_text}
use Rattle.desk_exports.specs.Grammar.{after_dash, option_name}
use Rattle.desk_exports.specs.Options.{is_name_among, keyword_of, takes_no_value}
use Rattle.desk_exports.specs.declared.options.Keyword.{Keyword}
use Rattle.desk_exports.specs.declared.options.Keyword.TheVariants.{LeftOut, Mask, Network, Unknown}
use Rattle.desk_exports.specs.declared.rules.Rule.TheVariants as broken
use Rattle.desk_policy.specs.declared.site_fault.SiteRule.{SiteRule}
use Rattle.desk_policy.specs.declared.site_fault.SiteRule.TheVariants as rule
use Rattle.desk_policy.specs.declared.warning.WarningKind.{WarningKind}
use Rattle.desk_policy.specs.declared.warning.WarningKind.TheVariants as kind
use Rattle.desk_findings.specs.declared.finding.Matter.{Matter}
use Rattle.desk_findings.specs.declared.finding.Matter.TheVariants as matter

-- options of Linux that have no counterpart
abbrev pub names_without_counterpart : List (List ℕ)
names_without_counterpart =
    codes "sync" ∷ codes "async" ∷ codes "secure" ∷ codes "insecure" ∷ codes "subtree_check" ∷ codes "no_subtree_check"
    ∷ codes "wdelay" ∷ codes "no_wdelay" ∷ codes "hide" ∷ codes "nohide" ∷ codes "crossmnt" ∷ codes "fsid" ∷ []

-- for an option of Linux of this name
abbrev pub name_hint : List ℕ → Option (List ℕ)
name_hint name =
    if bytes_eq name (codes "rw") then Some (codes "leave it out, since a line without -ro is read-write")
    else if bytes_eq name (codes "no_root_squash") then Some (codes "write -maproot=root")
    else if bytes_eq name (codes "root_squash") then Some (codes "leave it out, since root is mapped to nobody without it")
    else if bytes_eq name (codes "all_squash") then Some (codes "write -mapall=nobody")
    else if is_name_among (codes "anonuid" ∷ codes "anongid" ∷ []) name then Some (codes "write -maproot=UID:GID, or -mapall=UID:GID for every user")
    else if is_name_among names_without_counterpart name then Some (codes "leave it out, since FreeBSD has no such option")
    else None

-- the word has this byte
abbrev pub has_byte : ℕ → List ℕ → Bool
has_byte byte word = list_any (λ b. b == byte) word

-- for the name of an option that is not accepted with its value; in other systems the value of ro, rw, root and access
-- names the clients, which must not be lost
abbrev pub value_hint : List ℕ → Option (List ℕ)
value_hint name =
    if is_name_among (codes "ro" ∷ codes "o" ∷ []) name then Some (codes "write -ro without a value, and each client that the value names as a host behind the options")
    else if bytes_eq name (codes "root") then Some (codes "write -maproot=root, and each client that the value names as a host, on a line of its own: a line without hosts is for everybody")
    else if is_name_among (codes "rw" ∷ codes "access" ∷ []) name then Some (codes "write each client that the value names as a host behind the options")
    else if takes_no_value (keyword_of name) then Some (codes "write it without a value")
    else name_hint name

-- an option between the commas is empty
abbrev pub has_empty_piece : List ℕ → Bool
has_empty_piece options = list_any (λ option. length option == 0) (slice_split (λ b. b == 44) options)

-- for an option that is not accepted as it is written, without its dash; one that is empty is shown by its whole word
abbrev pub option_hint : List ℕ → Option (List ℕ)
option_hint option =
    if has_byte 44 option && has_empty_piece option then Some (codes "take out a comma too many")
    else if has_byte 61 option then value_hint (option_name option)
    else name_hint option

abbrev pub begins_with_at : List ℕ → Bool
begins_with_at word = slice_index word 0 == 64

-- for the name of an option of Linux that stands among the hosts: what takes it from there says that hosts must stay
abbrev pub bare_name_hint : List ℕ → Option (List ℕ)
bare_name_hint name =
    if bytes_eq name (codes "no_root_squash") then Some (codes "write -maproot=root before the hosts, and name them: a line without hosts is for everybody")
    else if bytes_eq name (codes "root_squash") then Some (codes "leave it out, but keep or name a host: root is mapped to nobody without it, and a line without hosts is for everybody")
    else if bytes_eq name (codes "all_squash") then Some (codes "write -mapall=nobody before the hosts, and name them: a line without hosts is for everybody")
    else if is_name_among (codes "anonuid" ∷ codes "anongid" ∷ []) name then Some (codes "write -maproot=UID:GID, or -mapall=UID:GID for every user, before the hosts, and name them: a line without hosts is for everybody")
    else if is_name_among names_without_counterpart name then Some (codes "leave it out, but keep or name a host: FreeBSD has no such option, and a line without hosts is for everybody")
    else None

-- for the name of an option of another system that has no dash
abbrev pub bare_other_hint : List ℕ → Option (List ℕ)
bare_other_hint name =
    if bytes_eq name (codes "rw") then Some (codes "leave it out, but keep or name a host: a line without -ro is read-write, and one without hosts is for everybody")
    else bare_name_hint name

-- for an option that has no dash; a letter by itself is rather a host
abbrev pub bare_keyword_hint : List ℕ → Keyword → Option (List ℕ)
bare_keyword_hint name Network = Some (codes "write a dash before it")
bare_keyword_hint name Mask = Some (codes "write a dash before it")
bare_keyword_hint name LeftOut = bare_other_hint name
bare_keyword_hint name Unknown = bare_other_hint name
bare_keyword_hint name keyword =
    if length name == 1 then None else Some (codes "write a dash before it, and name the hosts: a line without hosts is for everybody")

-- for the name of an option that has no dash
abbrev pub bare_hint : List ℕ → Option (List ℕ)
bare_hint name = bare_keyword_hint name (keyword_of name)

-- for the name of an option that has a value, but no dash
abbrev pub bare_value_hint : List ℕ → Option (List ℕ)
bare_value_hint name =
    if bytes_eq name (codes "ro") then Some (codes "write -ro without a value, and each client that the value names as a host")
    else if bytes_eq name (codes "root") then Some (codes "write -maproot=root, and each client that the value names as a host, on a line of its own: a line without hosts is for everybody")
    else if is_name_among (codes "rw" ∷ codes "access" ∷ []) name then Some (codes "write each client that the value names as a host")
    else bare_hint name

-- for a word with a parenthesis, before which a host or a network may stand
abbrev pub parenthesis_hint : List ℕ → List ℕ
parenthesis_hint word =
    if has_byte 47 word then codes "write -network before the network, -mask in place of the / before a mask, and the options before both, with a dash and without parentheses"
    else codes "write the options before the hosts, with a dash and without parentheses, as in -ro 10.0.0.5"

-- for a word that stands among the hosts
abbrev pub host_hint : List ℕ → Option (List ℕ)
host_hint word =
    if has_byte 40 word then Some (parenthesis_hint word)
    else if has_byte 42 word || has_byte 63 word then Some (codes "there are no wildcards: write hosts, a netgroup, or -network with a prefix")
    else if begins_with_at word then Some (codes "write a netgroup without the @")
    else if has_byte 44 word then Some (codes "write a dash before options, blanks between hosts, and -mask before a mask: a line without hosts or a network is for everybody")
    else if has_byte 61 word then bare_value_hint (option_name word)
    else bare_hint word

-- for such a word that is accepted
abbrev pub unknown_host_hint : List ℕ → Option (List ℕ)
unknown_host_hint word =
    if has_byte 47 word && not (has_byte 40 word) then Some (codes "write -network before a network, and -mask in place of the / before a mask")
    else host_hint word

-- for a network or a mask that is not accepted: a mask behind a `/` goes behind `-mask`
abbrev pub mask_hint : List ℕ → Option (List ℕ)
mask_hint word =
    if has_byte 46 (prefix_text word) then Some (codes "write -mask in place of the /, as in -network 10.0.0.0 -mask 255.255.255.0")
    else None

-- for a network that has neither a prefix nor a mask: what the class of its address would give, by its first part
abbrev pub class_hint : ℕ → Option (List ℕ)
class_hint address =
    if nat_lt (address / 2 ^ 24) 128 then Some (codes "its class would be /8, which older texts mean")
    else if nat_lt (address / 2 ^ 24) 192 then Some (codes "its class would be /16, which older texts mean")
    else if nat_lt (address / 2 ^ 24) 224 then Some (codes "its class would be /24, which older texts mean")
    else None

-- the same by its number; if that does not stand there as it is, what the class of each address would give
abbrev pub number_hint : Result ℕ AddrFault → Option (List ℕ)
number_hint (Ok address) = class_hint address
number_hint (Err fault) = Some (codes "older texts mean the prefix of its class, by its first number: /8 up to 127, /16 up to 191, /24 up to 223")

abbrev pub network_hint : List ℕ → Option (List ℕ)
network_hint word = number_hint (read_short word)

-- for a custodian who is not listed: one who is not named is that of the site, and the mark of a guarded file system is none
abbrev pub custodian_hint : List ℕ → Option (List ℕ)
custodian_hint word =
    if length word == 0 then Some (codes "write one for site")
    else if bytes_eq word (codes "!guarded") then Some (codes "write it once, behind the mount point")
    else None

-- for the slice that breaks a rule
abbrev pub rule_hint : SiteRule → List ℕ → Option (List ℕ)
rule_hint (rule.Table listed.Custodian) word = custodian_hint word
rule_hint (rule.Line broken.UnknownOption) word = option_hint (after_dash word)
rule_hint (rule.Line broken.BadAddress) word = host_hint word
rule_hint (rule.Line broken.BadMask) word = mask_hint word
rule_hint (rule.Line broken.NoMask) word = network_hint word
rule_hint rule word = None

-- for a word that is odd
abbrev pub kind_hint : WarningKind → List ℕ → Option (List ℕ)
kind_hint kind.UnknownHost word = unknown_host_hint word
kind_hint kind word = None

-- for the slice that a finding is about
abbrev pub hint : Matter → List ℕ → Option (List ℕ)
hint (matter.Fault rule other) word = rule_hint rule word
hint (matter.Contradiction other address) word = None
hint (matter.Warning kind) word = kind_hint kind word
hint (matter.Remark remark example) word = None
