-- The faults of a netgroup line. (netgroup(5); the rules and their order are this project's own)
use Rattle.std.specs.Prelude.{◌≡◌, ℕ, ◌==◌, ◌||◌, nat_lt, Bool, true, false, not, List, [], ◌∷◌, Option, None, codes, find, length, option_and_then, slice_index, if◌then◌else◌}
use Rattle.std.specs.List.{IsAmong, list_any}
use Rattle.std.specs.Option.{is_none, is_some, option_map}
use Rattle.desk_text.specs.Lines.{LogicalLine, logical_lines}
use Rattle.desk_text.specs.Place.{IsOfLine, LiesIn}
use Rattle.desk_text.specs.Said.{Said, row}
use Rattle.desk_netgroup.specs.GroupLine.{group_named, group_on, tokens_of}
use Rattle.desk_netgroup.specs.declared.faults.GroupFault.{GroupFault}
use Rattle.desk_netgroup.specs.declared.faults.GroupRule.{GroupRule}
use Rattle.desk_netgroup.specs.declared.faults.GroupRule.TheVariants as rule
use Rattle.desk_netgroup.specs.declared.faults.PlacedFault.{PlacedFault}
use Rattle.desk_netgroup.specs.declared.group_line.GroupLine.{GroupLine}
use Rattle.desk_netgroup.specs.declared.token.Token.{Token}
use Rattle.desk_netgroup.specs.declared.token.Token.TheVariants.{Open, Close, Comma, Word}

-- a token is a word
abbrev pub is_word : Token → Bool
is_word (Word word) = true
is_word Open = false
is_word Close = false
is_word Comma = false

-- what stands after the first word
abbrev pub after_first_word : List Token → List Token
after_first_word [] = []
after_first_word (token ∷ more) = if is_word token then more else after_first_word more

-- a word that begins a comment
abbrev pub is_comment : Token → Bool
is_comment (Word word) = slice_index word 0 == 35
is_comment Open = false
is_comment Close = false
is_comment Comma = false

-- the most bytes that a word may have
abbrev pub longest_word : ℕ
longest_word = 255

-- a word of more bytes
abbrev pub is_long : Token → Bool
is_long (Word word) = nat_lt longest_word (length word)
is_long Open = false
is_long Close = false
is_long Comma = false

abbrev pub is_close : Token → Bool
is_close Close = true
is_close Open = false
is_close Comma = false
is_close (Word word) = false

-- some `(` has no `)` after it
abbrev pub has_unclosed : List Token → Bool
has_unclosed [] = false
has_unclosed (Open ∷ more) = not (list_any is_close more) || has_unclosed more
has_unclosed (Close ∷ more) = has_unclosed more
has_unclosed (Comma ∷ more) = has_unclosed more
has_unclosed (Word word ∷ more) = has_unclosed more

-- the number of the earlier line that defines the group that this line defines
abbrev pub earlier_line : List GroupLine → LogicalLine → Option ℕ
earlier_line earlier line = option_and_then (λ group. option_map (λ other. other.line) (group_named earlier group.name)) (group_on line)

-- whether a line breaks a rule, after lines that define these groups
abbrev pub breaks : List GroupLine → LogicalLine → GroupRule → Bool
breaks earlier line rule.BadTriple = is_none (group_on line) || list_any is_long (tokens_of line)
breaks earlier line rule.Unclosed = has_unclosed (tokens_of line)
breaks earlier line rule.Duplicate = is_some (earlier_line earlier line)
breaks earlier line rule.StrayComment = list_any is_comment (after_first_word (tokens_of line))

-- the order in which a broken rule is reported
abbrev pub rules_in_order : List GroupRule
rules_in_order = rule.StrayComment ∷ rule.Unclosed ∷ rule.BadTriple ∷ rule.Duplicate ∷ []

abbrev pub first_broken_rule : List GroupLine → LogicalLine → Option GroupRule
first_broken_rule earlier line = find (breaks earlier line) rules_in_order

-- the earlier line is named with Duplicate alone
abbrev pub other_of : GroupRule → Option ℕ → Option ℕ
other_of rule.BadTriple earlier = None
other_of rule.Unclosed earlier = None
other_of rule.Duplicate earlier = earlier
other_of rule.StrayComment earlier = None

-- the fault of a line, after lines that define these groups
abbrev pub fault_on : List GroupLine → LogicalLine → Option GroupFault
fault_on earlier line =
    option_map (λ rule. record { line = line.number; rule = rule; other = other_of rule (earlier_line earlier line) }) (first_broken_rule earlier line)

-- The fault is told at a place of the text, on a physical line of the logical line that has its number.
pub record IsPlaced (text : List ℕ) (placed : PlacedFault) : Type 0 where
  pub line : LogicalLine
  pub among : IsAmong (logical_lines text) line
  pub number : placed.fault.line ≡ line.number
  pub own : IsOfLine line placed.place
  pub lies : LiesIn text placed.place

-- what is printed of a rule: its number, its name, and what is said of the slice that breaks it
abbrev pub said : GroupRule → Said
said rule.BadTriple = row 1 (codes "BadTriple") (codes "does not fit: a line is a netgroup and its members, each a netgroup or (host,user,domain), in words of at most 255 bytes")
said rule.Unclosed = row 2 (codes "Unclosed") (codes "is a parenthesis that is not closed")
said rule.Duplicate = row 3 (codes "Duplicate") (codes "is defined on an earlier line already")
said rule.StrayComment = row 4 (codes "StrayComment") (codes "begins with # but is not the first word: put a comment on a line of its own")

abbrev pub rule_number : GroupRule → ℕ
rule_number rule = (said rule).number

abbrev pub rule_name : GroupRule → List ℕ
rule_name rule = (said rule).name

abbrev pub rule_sentence : GroupRule → List ℕ
rule_sentence rule = (said rule).sentence
