-- The form of a line, step by step.
use Rattle.std.proofs.Common.{◌≡◌, ℕ, ◌+◌, ◌<◌, ◌≤◌, ◌||◌, Bool, true, false, not, List, [], ◌∷◌, ◌++◌, length, get_or, take, map, Option, Some, None, refl, sym, ap, ◌∙◌, append_assoc, arith}
use Rattle.std.specs.Prelude.{MatchOption, option_and_then}
use Rattle.std.specs.Borrow.{Bor}
use Rattle.std.specs.List.{flat_map, list_any}
use Rattle.std.specs.Option.{option_copied}
use Rattle.std.proofs.lemmas.Bool.{or_right}
use Rattle.std.proofs.lemmas.List.{append-nil, take_all, take_more, get_or-map, length-map}
use Rattle.std.proofs.lemmas.List.Concat.{flat_map-append}
use Rattle.std.proofs.lemmas.List.Folds.{list_any-append}
use Rattle.desk_text.specs.Lines.{PhysicalLine, joined_text}
use Rattle.desk_text.specs.Views.{line_of_part}
use Rattle.desk_text.specs.declared.lines.Part.{Part}
use Rattle.desk_netgroup.specs.Faults.{has_unclosed, is_close}
use Rattle.desk_netgroup.specs.GroupLine.{followed_by, host_member, members}
use Rattle.desk_netgroup.specs.PrivateLine.{after_triple, host_field, is_open_after}
use Rattle.desk_netgroup.specs.Token.{tokens}
use Rattle.desk_netgroup.specs.declared.group_line.Member.{Member}
use Rattle.desk_netgroup.specs.declared.token.Token.{Token}
use Rattle.desk_netgroup.specs.declared.token.Token.TheVariants.{Open, Close, Comma, Word}
use Rattle.desk_netgroup.proofs.TokenLemmas.{joined}

-- ---- members

pub followed_twice : (first second : List Member) (others : Option (List Member)) → followed_by first (followed_by second others) ≡ followed_by (first ++ second) others
followed_twice first second None = refl
followed_twice first second (Some others) = ap Some (sym (append_assoc first second others))

followed_by_none : (others : Option (List Member)) → others ≡ followed_by [] others
followed_by_none None = refl
followed_by_none (Some others) = refl

-- a triple by its parts
abbrev after_open : List Token → Option (List Member)
after_open ts = option_and_then (λ more. followed_by (host_member (host_field ts)) (members more)) (after_triple ts)

open_is : (ts : List Token) → members (Open ∷ ts) ≡ after_open ts
open_is (Comma ∷ Comma ∷ Close ∷ more) = followed_by_none (members more)
open_is (Comma ∷ Comma ∷ Word domain ∷ Close ∷ more) = followed_by_none (members more)
open_is (Comma ∷ Word user ∷ Comma ∷ Close ∷ more) = followed_by_none (members more)
open_is (Comma ∷ Word user ∷ Comma ∷ Word domain ∷ Close ∷ more) = followed_by_none (members more)
open_is (Word host ∷ Comma ∷ Comma ∷ Close ∷ more) = refl
open_is (Word host ∷ Comma ∷ Comma ∷ Word domain ∷ Close ∷ more) = refl
open_is (Word host ∷ Comma ∷ Word user ∷ Comma ∷ Close ∷ more) = refl
open_is (Word host ∷ Comma ∷ Word user ∷ Comma ∷ Word domain ∷ Close ∷ more) = refl
open_is _ = refl

pub open_none : (ts : List Token) → after_triple ts ≡ None → members (Open ∷ ts) ≡ None
open_none ts e = open_is ts ∙ ap (option_and_then (λ more. followed_by (host_member (host_field ts)) (members more))) e

pub open_some : (ts more : List Token) → after_triple ts ≡ Some more → members (Open ∷ ts) ≡ followed_by (host_member (host_field ts)) (members more)
open_some ts more e = open_is ts ∙ ap (option_and_then (λ rest. followed_by (host_member (host_field ts)) (members rest))) e

-- what reading a triple answers
pub open_read : (rest : Option (Bor (List Token))) (old new : List Member) (token : Token) (ts : List Token) → token ≡ Open → option_copied rest ≡ after_triple ts → new ≡ old ++ host_member (host_field ts)
    → MatchOption rest (members (token ∷ ts) ≡ None) (λ after. followed_by old (members (token ∷ ts)) ≡ followed_by new (members after.now))
open_read None old new token ts is triple more = ap (λ t. members (t ∷ ts)) is ∙ open_none ts (sym triple)
open_read (Some after) old new token ts is triple more =
    ap (λ t. followed_by old (members (t ∷ ts))) is ∙ ap (followed_by old) (open_some ts after.now (sym triple))
    ∙ followed_twice old (host_member (host_field ts)) (members after.now) ∙ ap (λ ms. followed_by ms (members after.now)) (sym more)

-- ---- parentheses

or_false : (b : Bool) → (b || false) ≡ b
or_false true = refl
or_false false = refl

or_true : (b : Bool) → (b || true) ≡ true
or_true true = refl
or_true false = refl

-- a list of tokens with one more
close_last : (ts : List Token) (t : Token) → list_any is_close (ts ++ t ∷ []) ≡ (list_any is_close ts || is_close t)
close_last ts t = list_any-append is_close ts (t ∷ []) ∙ ap (λ b. list_any is_close ts || b) (or_false (is_close t))

same_closes : (ts : List Token) (t : Token) → is_close t ≡ false → list_any is_close (ts ++ t ∷ []) ≡ list_any is_close ts
same_closes ts t e = close_last ts t ∙ ap (λ b. list_any is_close ts || b) e ∙ or_false (list_any is_close ts)

open_last : (ts : List Token) → has_unclosed (ts ++ Open ∷ []) ≡ true
open_last [] = refl
open_last (Open ∷ ts) = or_right _ _ (open_last ts)
open_last (Close ∷ ts) = open_last ts
open_last (Comma ∷ ts) = open_last ts
open_last (Word word ∷ ts) = open_last ts

closed_last : (ts : List Token) → has_unclosed (ts ++ Close ∷ []) ≡ false
closed_last [] = refl
closed_last (Open ∷ ts) = ap (λ b. not b || has_unclosed (ts ++ Close ∷ [])) (close_last ts Close ∙ or_true (list_any is_close ts)) ∙ closed_last ts
closed_last (Close ∷ ts) = closed_last ts
closed_last (Comma ∷ ts) = closed_last ts
closed_last (Word word ∷ ts) = closed_last ts

other_last : (ts : List Token) (t : Token) → is_close t ≡ false → has_unclosed (t ∷ []) ≡ false → has_unclosed (ts ++ t ∷ []) ≡ has_unclosed ts
other_last [] t e u = u
other_last (Open ∷ ts) t e u = ap (λ b. not b || has_unclosed (ts ++ t ∷ [])) (same_closes ts t e) ∙ ap (λ b. not (list_any is_close ts) || b) (other_last ts t e u)
other_last (Close ∷ ts) t e u = other_last ts t e u
other_last (Comma ∷ ts) t e u = other_last ts t e u
other_last (Word word ∷ ts) t e u = other_last ts t e u

unclosed_last : (ts : List Token) (t : Token) → is_open_after (has_unclosed ts) t ≡ has_unclosed (ts ++ t ∷ [])
unclosed_last ts Open = sym (open_last ts)
unclosed_last ts Close = sym (closed_last ts)
unclosed_last ts Comma = sym (other_last ts Comma refl refl)
unclosed_last ts (Word word) = sym (other_last ts (Word word) refl refl)

pub unclosed_at : (ts : List Token) (i : ℕ) (t : Token) → i < length ts → t ≡ get_or ts i t → is_open_after (has_unclosed (take i ts)) t ≡ has_unclosed (take (i + 1) ts)
unclosed_at ts i t within is =
    unclosed_last (take i ts) t ∙ ap (λ x. has_unclosed (take i ts ++ x ∷ [])) is ∙ ap has_unclosed (sym (take_more ts i t within))

-- ---- the tokens of a line's parts

tokens_of_texts : (parts : List PhysicalLine) → flat_map tokens (map (λ part. part.text) parts) ≡ flat_map (λ part. tokens part.text) parts
tokens_of_texts [] = refl
tokens_of_texts (part ∷ parts) = ap (λ ts. tokens part.text ++ ts) (tokens_of_texts parts)

module _ (items : List Part) (parts : List PhysicalLine) (same : map line_of_part items ≡ parts) (i : ℕ) where
  parts_length : length items ≡ length parts
  parts_length = sym (length-map items line_of_part) ∙ ap (λ (xs : List PhysicalLine). length xs) same

  pub tokens_more : (d : Part) (within : i < length items) (all new : List Token) → all ≡ flat_map (λ part. tokens part.text) (take i parts)
      → new ≡ all ++ tokens (get_or items i d).text.now → new ≡ flat_map (λ part. tokens part.text) (take (i + 1) parts)
  tokens_more d within all new so_far e =
      let at : get_or parts i (line_of_part d) ≡ line_of_part (get_or items i d) = ap (λ ps. get_or ps i (line_of_part d)) (sym same) ∙ get_or-map line_of_part items i d (line_of_part d) within in
      e ∙ ap (λ ts. ts ++ tokens (get_or items i d).text.now) so_far
      ∙ ap (λ ts. flat_map (λ part. tokens part.text) (take i parts) ++ ts) (sym (append-nil (tokens (get_or items i d).text.now)))
      ∙ sym (flat_map-append (λ part. tokens part.text) (take i parts) (line_of_part (get_or items i d) ∷ []))
      ∙ ap (λ p. flat_map (λ part. tokens part.text) (take i parts ++ p ∷ [])) (sym at)
      ∙ ap (flat_map (λ part. tokens part.text)) (sym (take_more parts i (line_of_part d) (omega (arith, within, parts_length))))

  pub all_tokens : length items ≤ i → (all : List Token) → all ≡ flat_map (λ part. tokens part.text) (take i parts) → all ≡ tokens (joined_text parts)
  all_tokens ended all so_far =
      so_far ∙ ap (flat_map (λ part. tokens part.text)) (take_all i parts (omega (arith, ended, parts_length)))
      ∙ sym (tokens_of_texts parts) ∙ sym (joined (map (λ part. part.text) parts))
