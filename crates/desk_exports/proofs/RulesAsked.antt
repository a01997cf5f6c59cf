-- The rules that need what a line does not have are not broken, and need not be asked.
use denote.Enum.Bare.{sameb, same_true}
use Rattle.std.proofs.Common.{◌≡◌, ◌⊎◌, inl, inr, ℕ, ◌+◌, ◌<◌, Bool, true, false, cond, not, ◌&&◌, ◌||◌, List, [], ◌∷◌, ◌++◌, Option, Some, None, drop, find, get_or, length, map, take, ◌==◌, option_and_then, refl, sym, ap, ◌∙◌}
use Rattle.std.specs.Prelude.{count_by, is_some, nat_lt}
use Rattle.std.specs.List.{filter, fold, list_any}
use Rattle.std.specs.Option.{option_map_or, option_or}
use Rattle.std.proofs.lemmas.Bool.{both_ways, cases_Bool, cond-true, cond-false, or_parts}
use Rattle.std.proofs.lemmas.Grind.{flat_map-append}
use Rattle.std.proofs.lemmas.List.{append-nil, map-append, take-append-drop, take_more}
use Rattle.std.proofs.lemmas.List.Folds.{find-append}
use Rattle.desk_tables.specs.declared.credential_text.CredFault.{CredFault}
use Rattle.desk_tables.specs.declared.credential_text.CredFault.TheVariants as cred
use Rattle.desk_tables.specs.declared.filesystems.FsId.{FsId}
use Rattle.desk_exports.specs.Options.{gives_value, has_option, has_valued, of_value, same_keyword, takes_value, value_of}
use Rattle.desk_exports.specs.PrivateRules.{HasAtMost, asked, group_of, is_had}
use Rattle.desk_exports.specs.Rules.{breaks, cred_has, first_broken_rule, is_unknown, lacks_value, rule_groups, rules_in_order, stands_twice}
use Rattle.desk_exports.specs.Tables.{TableRows}
use Rattle.desk_exports.specs.contracts.options.Keyword.{the_type}
use Rattle.desk_exports.specs.contracts.rules.Rule.{the_type as rule_type}
use Rattle.desk_exports.specs.declared.grammar.GrammarLine.{GrammarLine}
use Rattle.desk_exports.specs.declared.options.Keyword.{Keyword}
use Rattle.desk_exports.specs.declared.options.Keyword.TheVariants as keyword
use Rattle.desk_exports.specs.declared.options.Setting.{Setting}
use Rattle.desk_exports.specs.declared.rules.Group as code
use Rattle.desk_exports.specs.declared.rules.Needs.{Needs}
use Rattle.desk_exports.specs.declared.rules.Needs.TheVariants.{Words, Options, Values, Credentials}
use Rattle.desk_exports.specs.declared.rules.Rule.{Rule}
use Rattle.desk_exports.specs.declared.rules.Rule.TheVariants as rule
use Rattle.desk_exports.proofs.OptionRows.{valued_all, valued_flavours, valued_mask, valued_network, valued_root}

pub neither : (a b : Bool) → a ≡ false → b ≡ false → (a || b) ≡ false
neither a b ea eb = ap (λ x. x || b) ea ∙ eb

not_first : (a b : Bool) → a ≡ false → (a && b) ≡ false
not_first a b ea = ap (λ x. x && b) ea

not_second : (a b : Bool) → b ≡ false → (a && b) ≡ false
not_second true b eb = eb
not_second false b eb = refl

-- an option that takes a value is not written
unwritten : (k : Keyword) → takes_value k ≡ true → (ss : List Setting) → has_valued ss ≡ false → has_option k ss ≡ false
unwritten k takes [] e = refl
unwritten k takes (s ∷ ss) e =
    let parts = or_parts (takes_value s.keyword) (has_valued ss) e in
    let here : (same_keyword s.keyword k ≡ true) ⊎ (same_keyword s.keyword k ≡ false) = cases_Bool (same_keyword s.keyword k) in
    elim here [
      | inl same ↦ absurd (both_ways (takes_value s.keyword) parts.0 (ap takes_value (same_true the_type tt s.keyword k same) ∙ takes))
      | inr other ↦ neither (same_keyword s.keyword k) (has_option k ss) other (unwritten k takes ss parts.1)
    ]

-- what is not written has no value, and does not stand twice
no_value : (k : Keyword) (ss : List Setting) → has_option k ss ≡ false → value_of k ss ≡ None
no_value k [] e = refl
no_value k (s ∷ ss) e =
    let parts = or_parts (same_keyword s.keyword k) (has_option k ss) e in
    ap (option_and_then (λ (t : Setting). t.value)) (cond-false (gives_value k s) (Some s) (find (gives_value k) ss) (not_first (same_keyword s.keyword k) (option_map_or (λ v. not (length v == 0)) s.value false) parts.0))
    ∙ no_value k ss parts.1

counts_none : (k : Keyword) (ss : List Setting) → has_option k ss ≡ false → count_by (λ (s : Setting). same_keyword s.keyword k) ss ≡ 0
counts_none k [] e = refl
counts_none k (s ∷ ss) e =
    let parts = or_parts (same_keyword s.keyword k) (has_option k ss) e in
    ap (λ b. fold (λ (n : ℕ) (t : Setting). n + cond (same_keyword t.keyword k) 1 0) (0 + cond b 1 0) ss) parts.0 ∙ counts_none k ss parts.1

lacks_none : (ss : List Setting) → has_valued ss ≡ false → list_any lacks_value ss ≡ false
lacks_none [] e = refl
lacks_none (s ∷ ss) e =
    let parts = or_parts (takes_value s.keyword) (has_valued ss) e in
    neither (lacks_value s) (list_any lacks_value ss) (not_first (takes_value s.keyword) (option_map_or (λ v. length v == 0) s.value true) parts.0) (lacks_none ss parts.1)

module _ (tables : TableRows) (own_fs : Option FsId) (line : GrammarLine) (none : has_valued line.settings ≡ false) where
  no : (k : Keyword) → takes_value k ≡ true → has_option k line.settings ≡ false
  no k takes = unwritten k takes line.settings none

  says_nothing : (k : Keyword) (test : List ℕ → Bool) → takes_value k ≡ true → of_value k test line.settings ≡ false
  says_nothing k test takes = ap (λ o. option_map_or test o false) (no_value k line.settings (no k takes))

  once : (k : Keyword) → takes_value k ≡ true → stands_twice line.settings k ≡ false
  once k takes = ap (λ n. nat_lt 1 n) (counts_none k line.settings (no k takes))

  no_fault : (test : List ℕ → Bool) → (of_value keyword.MapRoot test line.settings || of_value keyword.MapAll test line.settings) ≡ false
  no_fault test = neither (of_value keyword.MapRoot test line.settings) (of_value keyword.MapAll test line.settings) (says_nothing keyword.MapRoot test valued_root) (says_nothing keyword.MapAll test valued_all)

-- what the first group needs of a rule that it has
abbrev pub needs_of : Rule → Needs
needs_of r = option_map_or (λ g. g.needs) (find (λ g. list_any (sameb rule_type r) g.rules) rule_groups) Words

-- each line has its words
never : {X : Type 0} (has : Needs) → is_had has Words ≡ false → X
never Words e = absurd (cc)
never Options e = absurd (cc)
never Values e = absurd (cc)
never Credentials e = absurd (cc)

module _ (tables : TableRows) (own_fs : Option FsId) (line : GrammarLine) where
  no_options : (has : Needs) → HasAtMost tables line has → is_had has Options ≡ false → line.settings ≡ []
  no_options Words most e = most
  no_options Options most e = absurd (cc)
  no_options Values most e = absurd (cc)
  no_options Credentials most e = absurd (cc)

  no_values : (has : Needs) → HasAtMost tables line has → is_had has Values ≡ false → has_valued line.settings ≡ false
  no_values Words most e = ap has_valued most
  no_values Options most e = most
  no_values Values most e = absurd (cc)
  no_values Credentials most e = absurd (cc)

  faultless : (has : Needs) → HasAtMost tables line has → is_had has Credentials ≡ false → (fault : CredFault) → cred_has tables fault line.settings ≡ false
  faultless Words most e fault = no_fault tables own_fs line (ap has_valued most) _
  faultless Options most e fault = no_fault tables own_fs line most _
  faultless Values most e fault = most fault
  faultless Credentials most e fault = absurd (cc)

  not_broken : (has : Needs) → HasAtMost tables line has → (r : Rule) → is_had has (needs_of r) ≡ false → breaks tables own_fs line r ≡ false
  not_broken has most rule.OpenQuote e = refl
  not_broken has most rule.StrayComment e = never has e
  not_broken has most rule.NotAbsolute e = never has e
  not_broken has most rule.DirectoryLate e = never has e
  not_broken has most rule.BadPath e = never has e
  not_broken has most rule.DirectoryElsewhere e = never has e
  not_broken has most rule.UnknownOption e = ap (list_any is_unknown) (no_options has most e)
  not_broken has most rule.OptionLeftOut e = ap (has_option keyword.LeftOut) (no_options has most e)
  not_broken has most rule.ValueMissing e = lacks_none line.settings (no_values has most e)
  not_broken has most rule.RepeatedOption e =
      let a = once tables own_fs line (no_values has most e) keyword.MapRoot valued_root in
      let b = once tables own_fs line (no_values has most e) keyword.MapAll valued_all in
      let c = once tables own_fs line (no_values has most e) keyword.Sec valued_flavours in
      let d = once tables own_fs line (no_values has most e) keyword.Network valued_network in
      let f = once tables own_fs line (no_values has most e) keyword.Mask valued_mask in
      simp (a, b, c, d, f)
  not_broken has most rule.BadAddress e = never has e
  not_broken has most rule.BadMask e = neither _ _ (says_nothing tables own_fs line (no_values has most e) keyword.Network _ valued_network) (not_second _ _ (says_nothing tables own_fs line (no_values has most e) keyword.Mask _ valued_mask))
  not_broken has most rule.MaskTwice e = not_first _ _ (no tables own_fs line (no_values has most e) keyword.Mask valued_mask)
  not_broken has most rule.MaskAlone e = not_first _ _ (no tables own_fs line (no_values has most e) keyword.Mask valued_mask)
  not_broken has most rule.NoClass e = not_second _ _ (not_second _ _ (says_nothing tables own_fs line (no_values has most e) keyword.Network _ valued_network))
  not_broken has most rule.NoMask e = not_second _ _ (not_second _ _ (says_nothing tables own_fs line (no_values has most e) keyword.Network _ valued_network))
  not_broken has most rule.NetAndHost e = not_first _ _ (no tables own_fs line (no_values has most e) keyword.Network valued_network)
  not_broken has most rule.RootAndAll e = not_first _ _ (no tables own_fs line (no_values has most e) keyword.MapRoot valued_root)
  not_broken has most rule.BadFlavour e = says_nothing tables own_fs line (no_values has most e) keyword.Sec _ valued_flavours
  not_broken has most rule.UnknownUser e = faultless has most e cred.UnknownUser
  not_broken has most rule.UnknownGroup e = faultless has most e cred.UnknownGroup
  not_broken has most rule.TooManyGroups e = faultless has most e cred.TooManyGroups
  not_broken has most rule.EmptyElement e = faultless has most e cred.EmptyElement
  not_broken has most rule.Range e = faultless has most e cred.Range
  not_broken has most rule.AlldirsMany e = not_first _ _ (ap (has_option keyword.AllDirs) (no_options has most e))
  not_broken has most rule.AlldirsNotRoot e = not_first _ _ (ap (has_option keyword.AllDirs) (no_options has most e))

-- what no element that is left out passes is found among the others
found_beside : {X : Type 0} (p q : X → Bool) → ((x : X) → q x ≡ false → p x ≡ false) → (xs : List X) → find p (filter q xs) ≡ find p xs
found_beside p q fails [] = refl
found_beside p q fails (x ∷ xs) =
    let kept : (q x ≡ true) ⊎ (q x ≡ false) = cases_Bool (q x) in
    elim kept [
      | inl stays ↦ ap (find p) (cond-true (q x) (x ∷ filter q xs) (filter q xs) stays) ∙ ap (λ o. cond (p x) (Some x) o) (found_beside p q fails xs)
      | inr goes ↦ ap (find p) (cond-false (q x) (x ∷ filter q xs) (filter q xs) goes) ∙ found_beside p q fails xs ∙ sym (cond-false (p x) (Some x) (find p xs) (fails x goes))
    ]

-- To ask the rules that the line has enough for is enough.
pub first_asked : (tables : TableRows) (own_fs : Option FsId) (line : GrammarLine) (has : Needs) → HasAtMost tables line has
    → find (breaks tables own_fs line) (asked has rule_groups) ≡ first_broken_rule tables own_fs line
first_asked tables own_fs line has most =
    ap (find (breaks tables own_fs line)) (sym (filtered has)) ∙ found_beside (breaks tables own_fs line) (λ r. is_had has (needs_of r)) (not_broken tables own_fs line has most) rules_in_order
  where
    filtered : (has : Needs) → filter (λ r. is_had has (needs_of r)) rules_in_order ≡ asked has rule_groups
    filtered Words = refl
    filtered Options = refl
    filtered Values = refl
    filtered Credentials = refl

pub none_found_if : (found : Option Rule) → is_some found ≡ false → found ≡ None
none_found_if None e = refl
none_found_if (Some r) e = absurd (cc)

-- ---- the groups of the code, one by one
module _ (p : Rule → Bool) (has : Needs) (gs : List code.Group) (i : ℕ) (d : code.Group) (within : i < length gs) where
  abbrev pub so_far : List code.Group → List Rule
  so_far groups = asked has (map group_of groups)

  abbrev pub here : List Rule
  here = asked has (group_of (get_or gs i d) ∷ [])

  with_next : find p (so_far (take (i + 1) gs)) ≡ option_or (find p (so_far (take i gs))) (find p here)
  with_next =
      ap (λ groups. find p (so_far groups)) (take_more gs i d within)
      ∙ ap (λ groups. find p (asked has groups)) (map-append group_of (take i gs) (get_or gs i d ∷ []))
      ∙ ap (find p) (flat_map-append _ (map group_of (take i gs)) (group_of (get_or gs i d) ∷ []))
      ∙ find-append p (so_far (take i gs)) here

  -- the rules of a group, if they are asked
  if_had : is_had has (get_or gs i d).needs ≡ true → here ≡ (get_or gs i d).rules.now
  if_had had = ap (λ b. cond b (get_or gs i d).rules.now [] ++ []) had ∙ append-nil (get_or gs i d).rules.now

  pub skipped : find p (so_far (take i gs)) ≡ None → is_had has (get_or gs i d).needs ≡ false → find p (so_far (take (i + 1) gs)) ≡ None
  skipped before not_had = with_next ∙ ap (λ o. option_or o (find p here)) before ∙ ap (λ b. find p (cond b (get_or gs i d).rules.now [] ++ [])) not_had

  pub none_next : find p (so_far (take i gs)) ≡ None → is_had has (get_or gs i d).needs ≡ true → find p (get_or gs i d).rules.now ≡ None → find p (so_far (take (i + 1) gs)) ≡ None
  none_next before had none = with_next ∙ ap (λ o. option_or o (find p here)) before ∙ ap (find p) (if_had had) ∙ none

  pub found_next : (found : Option Rule) → find p (so_far (take i gs)) ≡ None → is_had has (get_or gs i d).needs ≡ true → found ≡ find p (get_or gs i d).rules.now
      → is_some found ≡ true → found ≡ find p (so_far gs)
  found_next None before had e some = absurd (cc)
  found_next (Some r) before had e some =
      let now : option_or (find p (so_far (take i gs))) (find p here) ≡ Some r = ap (λ o. option_or o (find p here)) before ∙ ap (find p) (if_had had) ∙ sym e in
      sym (ap (λ groups. find p (so_far groups)) (sym (take-append-drop (i + 1) gs))
      ∙ ap (λ groups. find p (asked has groups)) (map-append group_of (take (i + 1) gs) (drop (i + 1) gs))
      ∙ ap (find p) (flat_map-append _ (map group_of (take (i + 1) gs)) (map group_of (drop (i + 1) gs)))
      ∙ find-append p (so_far (take (i + 1) gs)) (so_far (drop (i + 1) gs))
      ∙ ap (λ o. option_or o (find p (so_far (drop (i + 1) gs)))) (with_next ∙ now))
