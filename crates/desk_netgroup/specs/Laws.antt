-- What the definitions come to, in the terms of netgroup(5).
use Rattle.std.specs.Prelude.{◌≡◌, ◌↔◌, ℕ, ◌&&◌, Bool, true, false, not, List, [], ◌∷◌, ◌++◌, Some, Err, filter, slice_get}
use Rattle.std.specs.List.{flat_map, list_all, list_any}
use Rattle.std.specs.Str.{bytes_eq}
use Rattle.desk_text.specs.Bytes.{is_blank}
use Rattle.desk_text.specs.Lines.{LogicalLine}
use Rattle.desk_netgroup.specs.Netgroups.{AreDistinct, AreHostsOf, faults_after, hosts_of, is_among, members_of, netgroup_faults, read_netgroups, with_lines}
use Rattle.desk_netgroup.specs.Token.{begins_with_word, is_of_word, tokens}
use Rattle.desk_netgroup.specs.Walk.{hosts_in_order}
use Rattle.desk_netgroup.specs.declared.faults.GroupFault.{GroupFault}
use Rattle.desk_netgroup.specs.declared.group_line.GroupLine.{GroupLine}
use Rattle.desk_netgroup.specs.declared.group_line.Member.{Member}
use Rattle.desk_netgroup.specs.declared.group_line.Member.TheVariants.{Group, Host}
use Rattle.desk_netgroup.specs.declared.token.Token.{Token}
use Rattle.desk_netgroup.specs.declared.token.Token.TheVariants.{Open, Close, Comma, Word}

-- a token as it is written
abbrev pub token_text : Token → List ℕ
token_text Open = 40 ∷ []
token_text Close = 41 ∷ []
token_text Comma = 44 ∷ []
token_text (Word word) = word

-- the text ends with a character of a word
abbrev pub ends_with_word : List ℕ → Bool
ends_with_word [] = false
ends_with_word (c ∷ []) = is_of_word c
ends_with_word (c ∷ d ∷ text) = ends_with_word (d ∷ text)

-- The tokens of a text are its characters without the blanks; characters of a word side by side are one word; and where
-- a text is cut but not within a word, it has the tokens of both parts. So two words have a blank between them, or
-- another token.
pub record TokensAreTheText : Type 0 where
  pub kept : (text : List ℕ) → flat_map token_text (tokens text) ≡ filter (λ c. not (is_blank c)) text
  pub word : (c : ℕ) (text : List ℕ) → list_all is_of_word (c ∷ text) ≡ true → tokens (c ∷ text) ≡ Word (c ∷ text) ∷ []
  pub cut : (text after : List ℕ) → (ends_with_word text && begins_with_word after) ≡ false → tokens (text ++ after) ≡ tokens text ++ tokens after

-- a member is a triple with this host
abbrev pub is_host : List ℕ → Member → Bool
is_host host (Host name) = bytes_eq host name
is_host host (Group name) = false

-- a member is the group of this name
abbrev pub is_group : List ℕ → Member → Bool
is_group group (Host name) = false
is_group group (Group name) = bytes_eq group name

-- sets of hosts, one for each group, are closed: a group has the hosts of its triples, and those of its member groups
pub record AreClosed (lines : List GroupLine) (has : List ℕ → List ℕ → Bool) : Type 0 where
  pub own : (group host : List ℕ) → list_any (is_host host) (members_of lines group) ≡ true → has group host ≡ true
  pub below : (group inner host : List ℕ) → list_any (is_group inner) (members_of lines group) ≡ true → has inner host ≡ true → has group host ≡ true

-- The hosts of groups are the least closed sets: cycles add nothing, and no number of levels gives more.
pub record HostsAreLeast : Type 0 where
  pub closed : (lines : List GroupLine) → AreClosed lines (λ group host. is_among host (hosts_of lines group))
  pub least : (lines : List GroupLine) (has : List ℕ → List ℕ → Bool) → AreClosed lines has → (group host : List ℕ) → is_among host (hosts_of lines group) ≡ true → has group host ≡ true

-- The hosts of a group in the order of the walk are just its hosts, and none stands twice.
pub record OrderKeepsTheHosts : Type 0 where
  pub same : (lines : List GroupLine) (name : List ℕ) → AreHostsOf lines name (hosts_in_order lines name)
  pub once : (lines : List GroupLine) (name : List ℕ) → AreDistinct (hosts_in_order lines name)

-- the groups of the chain, each a member of the one before, lead from this group to a triple with the host
abbrev pub Leads : List GroupLine → List ℕ → List (List ℕ) → List ℕ → Type 0
Leads lines group [] host = list_any (is_host host) (members_of lines group) ≡ true
Leads lines group (inner ∷ chain) host = (list_any (is_group inner) (members_of lines group) ≡ true) × Leads lines inner chain host

-- a host is a group's exactly if some chain leads to it
abbrev pub HostsAreReached : Type 0
HostsAreReached = (lines : List GroupLine) (group host : List ℕ) → (is_among host (hosts_of lines group) ≡ true) ↔ ((chain : List (List ℕ)) × Leads lines group chain host)

-- The fault that a refused file reports is the first of its faults; and a file that has one is refused.
abbrev pub FirstOfFaultsIsReported : Type 0
FirstOfFaultsIsReported = (text : List ℕ) (fault : GroupFault) → (read_netgroups text ≡ Err fault) ↔ (slice_get (netgroup_faults text) 0 ≡ Some fault)

-- The faults of lines and further ones: those of the lines, and those of the further ones after the groups that the good
-- ones among the lines define.
abbrev pub FaultsFollowGoodLines : Type 0
FaultsFollowGoodLines = (lines more : List LogicalLine) → faults_after [] (lines ++ more) ≡ faults_after [] lines ++ faults_after (with_lines [] lines) more
