-- Levels beyond the number of groups give no more hosts, so the hosts of groups are the least closed sets.
use Rattle.std.proofs.Common.{◌≡◌, ℕ, zero, suc, ◌+◌, ◌<◌, ◌≤◌, ◌||◌, Bool, true, false, cond, List, [], ◌∷◌, length, Option, Some, sym, ◌∙◌, ap, subst, refl, inl, inr, ◌⊎◌, arith}
use Rattle.std.specs.Prelude.{find}
use Rattle.std.specs.List.{flat_map, list_any}
use Rattle.std.specs.Option.{option_map_or}
use Rattle.std.specs.Str.{bytes_eq}
use Rattle.std.proofs.lemmas.Bool.{or_cases, or_left, or_right, cases_Bool, cond-false, true≢false}
use Rattle.std.proofs.lemmas.List.Folds.{list_any-append}
use Rattle.std.proofs.lemmas.Slice.Eq.{bytes_eq-Decides}
use Rattle.desk_netgroup.specs.declared.group_line.GroupLine.{GroupLine}
use Rattle.desk_netgroup.specs.declared.group_line.Member.{Member}
use Rattle.desk_netgroup.specs.declared.group_line.Member.TheVariants.{Group, Host}
use Rattle.desk_netgroup.specs.Laws.{is_host, is_group, AreClosed, HostsAreLeast, HostsAreReached, Leads}
use Rattle.desk_netgroup.specs.Netgroups.{is_among, members_of, hosts_by, hosts_within, hosts_of}

-- ---- the hosts of members

pub cases_of : (of : List ℕ → List (List ℕ)) (host : List ℕ) (ms : List Member) → is_among host (flat_map (hosts_by of) ms) ≡ true
    → (list_any (is_host host) ms ≡ true) ⊎ ((inner : List ℕ) × (list_any (is_group inner) ms ≡ true) × (is_among host (of inner) ≡ true))
cases_of of host [] e = absurd (true≢false (sym e))
cases_of of host (Host name ∷ ms) e =
    elim (or_cases (bytes_eq host name) (is_among host (flat_map (hosts_by of) ms)) e) [
      | inl here ↦ inl (or_left _ _ here)
      | inr later ↦ elim (cases_of of host ms later) [ inl own ↦ inl (or_right (bytes_eq host name) _ own) | inr below ↦ inr (below.0, or_right false _ below.1, below.2) ]
    ]
cases_of of host (Group name ∷ ms) e =
    elim (or_cases (is_among host (of name)) (is_among host (flat_map (hosts_by of) ms)) (sym (list_any-append (bytes_eq host) (of name) (flat_map (hosts_by of) ms)) ∙ e)) [
      | inl here ↦ inr (name, or_left _ _ ((bytes_eq-Decides name name).1 refl), here)
      | inr later ↦ elim (cases_of of host ms later) [ inl own ↦ inl (or_right false _ own) | inr below ↦ inr (below.0, or_right (bytes_eq below.0 name) _ below.1, below.2) ]
    ]

pub own_of : (of : List ℕ → List (List ℕ)) (host : List ℕ) (ms : List Member) → list_any (is_host host) ms ≡ true → is_among host (flat_map (hosts_by of) ms) ≡ true
own_of of host [] e = absurd (true≢false (sym e))
own_of of host (Host name ∷ ms) e = elim (or_cases (bytes_eq host name) (list_any (is_host host) ms) e) [ inl here ↦ or_left _ _ here | inr later ↦ or_right _ _ (own_of of host ms later) ]
own_of of host (Group name ∷ ms) e = list_any-append (bytes_eq host) (of name) (flat_map (hosts_by of) ms) ∙ or_right _ _ (own_of of host ms e)

pub below_of : (of : List ℕ → List (List ℕ)) (inner host : List ℕ) (ms : List Member) → list_any (is_group inner) ms ≡ true → is_among host (of inner) ≡ true → is_among host (flat_map (hosts_by of) ms) ≡ true
below_of of inner host [] e h = absurd (true≢false (sym e))
below_of of inner host (Host name ∷ ms) e h = or_right (bytes_eq host name) _ (below_of of inner host ms e h)
below_of of inner host (Group name ∷ ms) e h =
    list_any-append (bytes_eq host) (of name) (flat_map (hosts_by of) ms)
    ∙ elim (or_cases (bytes_eq inner name) (list_any (is_group inner) ms) e) [
      | inl here ↦ or_left _ _ (ap (λ n. is_among host (of n)) (sym ((bytes_eq-Decides inner name).0 here)) ∙ h)
      | inr later ↦ or_right _ _ (below_of of inner host ms later h)
    ]

-- ---- groups that a chain may still meet

abbrev fresh : List (List ℕ) → List GroupLine → ℕ
fresh met [] = 0
fresh met (l ∷ ls) = cond (is_among l.name met) 0 1 + fresh met ls

abbrev is_defined : List ℕ → List GroupLine → Bool
is_defined group ls = list_any (λ line. bytes_eq group line.name) ls

module _ (lines : List GroupLine) where
  -- a chain of groups none of which was met
  abbrev LeadsOff : List (List ℕ) → List ℕ → List (List ℕ) → List ℕ → Type 0
  LeadsOff met group [] host = (is_among group met ≡ false) × (list_any (is_host host) (members_of lines group) ≡ true)
  LeadsOff met group (inner ∷ chain) host = (is_among group met ≡ false) × (list_any (is_group inner) (members_of lines group) ≡ true) × LeadsOff met inner chain host

  off_from : (group : List ℕ) (chain : List (List ℕ)) (host : List ℕ) → Leads lines group chain host → LeadsOff [] group chain host
  off_from group [] host h = (refl, h)
  off_from group (inner ∷ chain) host h = (refl, h.0, off_from inner chain host h.1)

  not_either : (a b : Bool) → a ≡ false → b ≡ false → (a || b) ≡ false
  not_either a b p q = ap (λ x. x || b) p ∙ q

  -- a chain meets a group nowhere, or has a part that begins there
  split : (met : List (List ℕ)) (target group : List ℕ) (chain : List (List ℕ)) (host : List ℕ) → LeadsOff met group chain host
      → LeadsOff (target ∷ met) group chain host ⊎ ((part : List (List ℕ)) × (length part ≤ length chain) × LeadsOff met target part host)
  split met target group [] host h =
      elim (cases_Bool (bytes_eq group target)) [
        | inl same ↦ inr ([], omega arith, subst (λ g. LeadsOff met g [] host) ((bytes_eq-Decides group target).0 same) h)
        | inr other ↦ inl (not_either _ _ other h.0, h.1)
      ]
  split met target group (inner ∷ chain) host h =
      elim (cases_Bool (bytes_eq group target)) [
        | inl same ↦ inr (inner ∷ chain, omega arith, subst (λ g. LeadsOff met g (inner ∷ chain) host) ((bytes_eq-Decides group target).0 same) h)
        | inr other ↦ elim (split met target inner chain host h.2) [
          | inl off ↦ inl (not_either _ _ other h.0, h.1, off)
          | inr part ↦ inr (part.0, (let l = part.1 in omega arith), part.2)
        ]
      ]

  -- a group with a member is defined
  found_defined : (group : List ℕ) (p : Member → Bool) (ls : List GroupLine) → list_any p (option_map_or (λ (line : GroupLine). line.members) (find (λ line. bytes_eq group line.name) ls) []) ≡ true → is_defined group ls ≡ true
  found_defined group p [] e = absurd (true≢false (sym e))
  found_defined group p (l ∷ ls) e =
      elim (cases_Bool (bytes_eq group l.name)) [
        | inl here ↦ or_left _ _ here
        | inr not_here ↦ or_right _ _ (found_defined group p ls (ap (λ (o : Option GroupLine). list_any p (option_map_or (λ (line : GroupLine). line.members) o [])) (sym (cond-false (bytes_eq group l.name) (Some l) (find (λ line. bytes_eq group line.name) ls) not_here)) ∙ e))
      ]

  cond_le : (a b : Bool) → cond (a || b) 0 1 ≤ cond b 0 1
  cond_le true true = omega arith
  cond_le true false = omega arith
  cond_le false b = omega arith

  cond_less : (a b : Bool) → a ≡ true → b ≡ false → cond a 0 1 < cond b 0 1
  cond_less true false p q = omega arith
  cond_less true true p q = absurd (true≢false q)
  cond_less false b p q = absurd (true≢false (sym p))

  cond_few : (b : Bool) → cond b 0 1 ≤ 1
  cond_few true = omega arith
  cond_few false = omega arith

  fresh_le : (met : List (List ℕ)) (group : List ℕ) (ls : List GroupLine) → fresh (group ∷ met) ls ≤ fresh met ls
  fresh_le met group [] = omega arith
  fresh_le met group (l ∷ ls) = (let h = fresh_le met group ls in let k = cond_le (bytes_eq l.name group) (is_among l.name met) in omega arith)

  fresh_less : (met : List (List ℕ)) (group : List ℕ) (ls : List GroupLine) → is_defined group ls ≡ true → is_among group met ≡ false → fresh (group ∷ met) ls < fresh met ls
  fresh_less met group [] d f = absurd (true≢false (sym d))
  fresh_less met group (l ∷ ls) d f =
      elim (or_cases (bytes_eq group l.name) (is_defined group ls) d) [
        | inl here ↦
            let is : group ≡ l.name = (bytes_eq-Decides group l.name).0 here in
            let new : (bytes_eq l.name group || is_among l.name met) ≡ true = or_left _ _ ((bytes_eq-Decides l.name group).1 (sym is)) in
            let old : is_among l.name met ≡ false = ap (λ n. is_among n met) (sym is) ∙ f in
            let a = cond_less (bytes_eq l.name group || is_among l.name met) (is_among l.name met) new old in
            let h = fresh_le met group ls in
            omega arith
        | inr later ↦ (let h = fresh_less met group ls later f in let k = cond_le (bytes_eq l.name group) (is_among l.name met) in omega arith)
      ]

  fresh_few : (met : List (List ℕ)) (ls : List GroupLine) → fresh met ls ≤ length ls
  fresh_few met [] = omega arith
  fresh_few met (l ∷ ls) = (let h = fresh_few met ls in let k = cond_few (is_among l.name met) in omega arith)

  member_less : (met : List (List ℕ)) (group : List ℕ) (p : Member → Bool) → list_any p (members_of lines group) ≡ true → is_among group met ≡ false → fresh (group ∷ met) lines < fresh met lines
  member_less met group p e f = fresh_less met group lines (found_defined group p lines e) f

  abbrev Within : ℕ → Type 0
  Within levels = (met : List (List ℕ)) (group : List ℕ) (chain : List (List ℕ)) (host : List ℕ) → fresh met lines ≤ levels → LeadsOff met group chain host → is_among host (hosts_within lines levels group) ≡ true

  more_levels : (levels : ℕ) → Within levels → (bound : ℕ) (met : List (List ℕ)) (group : List ℕ) (chain : List (List ℕ)) (host : List ℕ)
      → length chain ≤ bound → fresh met lines ≤ suc levels → LeadsOff met group chain host → is_among host (hosts_within lines (suc levels) group) ≡ true
  more_levels levels before bound met group [] host b l h = own_of (hosts_within lines levels) host (members_of lines group) h.1
  more_levels levels before zero met group (inner ∷ chain) host b l h = absurd (omega arith)
  more_levels levels before (suc bound) met group (inner ∷ chain) host b l h =
      elim (split met group inner chain host h.2) [
        | inl off ↦ below_of (hosts_within lines levels) inner host (members_of lines group) h.1
            (before (group ∷ met) inner chain host (let less = member_less met group (is_group inner) h.1 h.0 in omega arith) off)
        | inr part ↦ more_levels levels before bound met group part.0 host (let s = part.1 in omega arith) l part.2
      ]

  within_fresh : (levels : ℕ) → Within levels
  within_fresh zero met group [] host l h = absurd (let less = member_less met group (is_host host) h.1 h.0 in omega arith)
  within_fresh zero met group (inner ∷ chain) host l h = absurd (let less = member_less met group (is_group inner) h.1 h.0 in omega arith)
  within_fresh (suc levels) met group chain host l h = more_levels levels (within_fresh levels) (length chain) met group chain host (omega arith) l h

  -- what a chain leads to is a host of the group
  pub reached : (group : List ℕ) (chain : List (List ℕ)) (host : List ℕ) → Leads lines group chain host → is_among host (hosts_of lines group) ≡ true
  unfolding hosts_of
  reached group chain host h = within_fresh (length lines) [] group chain host (fresh_few [] lines) (off_from group chain host h)

  chain_within : (levels : ℕ) (group host : List ℕ) → is_among host (hosts_within lines levels group) ≡ true → (chain : List (List ℕ)) × Leads lines group chain host
  chain_within zero group host e = absurd (true≢false (sym e))
  chain_within (suc levels) group host e =
      elim (cases_of (hosts_within lines levels) host (members_of lines group) e) [
        | inl own ↦ ([], own)
        | inr below ↦ (let r = chain_within levels below.0 host below.2 in (below.0 ∷ r.0, (below.1, r.1)))
      ]

  pub chain_of : (group host : List ℕ) → is_among host (hosts_of lines group) ≡ true → (chain : List (List ℕ)) × Leads lines group chain host
  unfolding hosts_of
  chain_of group host e = chain_within (length lines) group host e

  pub closed : AreClosed lines (λ group host. is_among host (hosts_of lines group))
  closed = record {
    own = λ group host e. reached group [] host e;
    below = λ group inner host e h. (let r = chain_of inner host h in reached group (inner ∷ r.0) host (e, r.1));
  }

  least_chain : (has : List ℕ → List ℕ → Bool) → AreClosed lines has → (group : List ℕ) (chain : List (List ℕ)) (host : List ℕ) → Leads lines group chain host → has group host ≡ true
  least_chain has c group [] host h = c.own group host h
  least_chain has c group (inner ∷ chain) host h = c.below group inner host h.0 (least_chain has c inner chain host h.1)

  pub least : (has : List ℕ → List ℕ → Bool) → AreClosed lines has → (group host : List ℕ) → is_among host (hosts_of lines group) ≡ true → has group host ≡ true
  least has c group host e = (let r = chain_of group host e in least_chain has c group r.0 host r.1)

pub hosts_are_least : HostsAreLeast
hosts_are_least = record { closed = closed; least = least }

pub hosts_are_reached : HostsAreReached
hosts_are_reached lines group host = (chain_of lines group host, λ r. reached lines group r.0 host r.1)
