-- A walk that enters each group once meets the hosts in their order.
use Rattle.std.proofs.Common.{◌≡◌, ℕ, zero, suc, ◌+◌, ◌<◌, ◌≤◌, ◌||◌, ◌⊎◌, Bool, true, false, cond, List, [], ◌∷◌, ◌++◌, length, length-append, Option, Some, None, refl, sym, ap, ◌∙◌, inl, inr, append_assoc, arith}
use Rattle.std.specs.Prelude.{not, reverse}
use Rattle.std.specs.Option.{option_map_or}
use Rattle.std.specs.Str.{bytes_eq}
use Rattle.std.proofs.lemmas.Bool.{cases_Bool, cond-false, cond-true, true≢false}
use Rattle.std.proofs.lemmas.List.{append-nil, length-reverse, reverse-append, reverse-reverse}
use Rattle.std.proofs.lemmas.Slice.Eq.{bytes_eq-Decides}
use Rattle.desk_netgroup.specs.GroupLine.{group_named}
use Rattle.desk_netgroup.specs.Netgroups.{members_of}
use Rattle.desk_netgroup.specs.PrivateWalk.{Enters}
use Rattle.desk_netgroup.specs.Walk.{all_members, hosts_met, without}
use Rattle.desk_netgroup.specs.declared.group_line.GroupLine.{GroupLine}
use Rattle.desk_netgroup.specs.declared.group_line.Member.{Member}
use Rattle.desk_netgroup.specs.declared.group_line.Member.TheVariants.{Group, Host}
use Rattle.desk_netgroup.proofs.Walking.{same_name}

-- ---- groups that are left out

both_same : (b : Bool) (line : Option GroupLine) → cond b line line ≡ line
both_same true line = refl
both_same false line = refl

left_out : (a b : Bool) (line rest : Option GroupLine) → (a ≡ true → b ≡ true) → cond b None rest ≡ cond b None (cond a line rest)
left_out true true line rest same = refl
left_out true false line rest same = absurd (true≢false (sym (same refl)))
left_out false true line rest same = refl
left_out false false line rest same = refl

left_in : (a b : Bool) (line rest : Option GroupLine) → (a ≡ true → b ≡ true → ⊥) → cond a line (cond b None rest) ≡ cond b None (cond a line rest)
left_in true true line rest apart = absurd (apart refl refl)
left_in true false line rest apart = refl
left_in false true line rest apart = refl
left_in false false line rest apart = refl

module _ (name : List ℕ) where
  pub named_without : (lines : List GroupLine) (other : List ℕ) → group_named (without name lines) other ≡ cond (bytes_eq other name) None (group_named lines other)
  named_without [] other = sym (both_same (bytes_eq other name) None)
  named_without (line ∷ lines) other =
      let rest = named_without lines other in
      let a = bytes_eq other line.name in
      let b = bytes_eq other name in
      let is_left : Bool → List GroupLine = λ gone. cond (not gone) (line ∷ without name lines) (without name lines) in
      elim (cases_Bool (bytes_eq name line.name)) [
        | inl gone ↦
            ap (λ g. group_named (is_left g) other) gone ∙ rest
            ∙ left_out a b (Some line) (group_named lines other) (λ e. (bytes_eq-Decides other name).1 (same_name other line.name e ∙ sym (same_name name line.name gone)))
        | inr kept ↦
            ap (λ g. group_named (is_left g) other) kept ∙ ap (λ r. cond a (Some line) r) rest
            ∙ left_in a b (Some line) (group_named lines other) (λ e f. true≢false (sym ((bytes_eq-Decides name line.name).1 (sym (same_name other name f) ∙ same_name other line.name e)) ∙ kept))
      ]

  pub members_leave : (lines : List GroupLine) → length (members_of lines name) + length (all_members (without name lines)) ≤ length (all_members lines)
  members_leave [] = omega arith
  members_leave (line ∷ lines) =
      let h = members_leave lines in
      let all : length (all_members (line ∷ lines)) ≡ length line.members + length (all_members lines) = length-append line.members (all_members lines) in
      let found : Bool → ℕ = λ here. length (option_map_or (λ (l : GroupLine). l.members) (cond here (Some line) (group_named lines name)) []) in
      let stay : Bool → ℕ = λ here. length (all_members (cond (not here) (line ∷ without name lines) (without name lines))) in
      elim (cases_Bool (bytes_eq name line.name)) [
        | inl here ↦
            let m : length (members_of (line ∷ lines) name) ≡ length line.members = ap found here in
            let w : length (all_members (without name (line ∷ lines))) ≡ length (all_members (without name lines)) = ap stay here in
            omega arith
        | inr later ↦
            let m : length (members_of (line ∷ lines) name) ≡ length (members_of lines name) = ap found later in
            let w : length (all_members (without name (line ∷ lines))) ≡ length (all_members (line ∷ without name lines)) = ap stay later in
            let v : length (all_members (line ∷ without name lines)) ≡ length line.members + length (all_members (without name lines)) = length-append line.members (all_members (without name lines)) in
            omega arith
      ]

-- ---- the walk

-- how far a walk from a group has come: the hosts that were met, and those that are met from here on, are all
pub record IsInOrder (lines : List GroupLine) (name : List ℕ) (entered : List ℕ → Bool) (pending : List Member) (met : List (List ℕ)) : Type 0 where
  pub left : List GroupLine
  pub steps : ℕ
  pub named : (group : List ℕ) → group_named left group ≡ cond (entered group) None (group_named lines group)
  pub enough : length pending + length (all_members left) ≤ steps
  pub same : met ++ hosts_met steps left (reverse pending) ≡ hosts_met (suc (length (all_members lines))) lines (Group name ∷ [])

positive : (n : ℕ) → 0 < n → (k : ℕ) × (n ≡ suc k)
positive zero some = absurd (omega arith)
positive (suc k) some = (k, refl)

last_first : (rest : List Member) (member : Member) → reverse (rest ++ member ∷ []) ≡ member ∷ reverse rest
last_first rest member = reverse-append rest (member ∷ [])

members_found : (lines : List GroupLine) (group : List ℕ) (found : Option GroupLine) → group_named lines group ≡ found → members_of lines group ≡ option_map_or (λ line. line.members) found []
members_found lines group found is = ap (λ (o : Option GroupLine). option_map_or (λ (l : GroupLine). l.members) o []) is

-- a group that is entered is left out
pub entered_more : (old same : Bool) (line : Option GroupLine) → cond same None (cond old None line) ≡ cond (old || same) None line
entered_more true true line = refl
entered_more true false line = refl
entered_more false true line = refl
entered_more false false line = refl

module _ (lines left : List GroupLine) (entered : List ℕ → Bool) (group : List ℕ) (left_are : (other : List ℕ) → group_named left other ≡ cond (entered other) None (group_named lines other)) where
  -- a group that is not left has no members, and another one its own
  pub no_members : (entered group ≡ true) ⊎ (group_named lines group ≡ None) → members_of left group ≡ []
  no_members (inl was) = members_found left group None (left_are group ∙ cond-true (entered group) None (group_named lines group) was)
  no_members (inr none) = members_found left group None (left_are group ∙ ap (λ line. cond (entered group) None line) none ∙ both_same (entered group) None)

  pub its_members : (line : GroupLine) → entered group ≡ false → group_named lines group ≡ Some line → members_of left group ≡ line.members
  its_members line fresh is = members_found left group (Some line) (left_are group ∙ cond-false (entered group) None (group_named lines group) fresh ∙ is)

-- a group that is not defined is left out
pub passed_by : (lines : List GroupLine) (old new : List ℕ → Bool) (group : List ℕ) → group_named lines group ≡ None → ((name : List ℕ) → new name ≡ old name)
    → (other : List ℕ) → cond (bytes_eq other group) None (cond (old other) None (group_named lines other)) ≡ cond (new other) None (group_named lines other)
passed_by lines old new group none same_ones other =
    elim (cases_Bool (bytes_eq other group)) [
      | inl same ↦
          cond-true (bytes_eq other group) None (cond (old other) None (group_named lines other)) same
          ∙ sym (ap (λ line. cond (new other) None line) (ap (group_named lines) (same_name other group same) ∙ none) ∙ both_same (new other) None)
      | inr apart ↦
          cond-false (bytes_eq other group) None (cond (old other) None (group_named lines other)) apart
          ∙ ap (λ b. cond b None (group_named lines other)) (sym (same_ones other))
    ]

module _ (lines : List GroupLine) (name : List ℕ) where
  pub order_host : (entered : List ℕ → Bool) (rest : List Member) (met : List (List ℕ)) (host : List ℕ)
      → IsInOrder lines name entered (rest ++ Host host ∷ []) met → IsInOrder lines name entered rest (met ++ host ∷ [])
  order_host entered rest met host so_far =
      let count = length-append rest (Host host ∷ []) in
      let enough = so_far.enough in
      let n = positive so_far.steps (omega arith) in
      let more = n.1 in
      record {
        left = so_far.left;
        steps = n.0;
        named = so_far.named;
        enough = omega arith;
        same = append_assoc met (host ∷ []) (hosts_met n.0 so_far.left (reverse rest))
            ∙ ap (λ members. met ++ hosts_met (suc n.0) so_far.left members) (sym (last_first rest (Host host)))
            ∙ ap (λ k. met ++ hosts_met k so_far.left (reverse (rest ++ Host host ∷ []))) (sym more)
            ∙ so_far.same;
      }

  -- a group is left out from here on, and its members come first
  order_entered : (old new : List ℕ → Bool) (rest pending : List Member) (met : List (List ℕ)) (group : List ℕ)
      → (so_far : IsInOrder lines name old (rest ++ Group group ∷ []) met)
      → ((other : List ℕ) → cond (bytes_eq other group) None (cond (old other) None (group_named lines other)) ≡ cond (new other) None (group_named lines other))
      → reverse pending ≡ members_of so_far.left group ++ reverse rest
      → IsInOrder lines name new pending met
  order_entered old new rest pending met group so_far entered members =
      let count = length-append rest (Group group ∷ []) in
      let enough = so_far.enough in
      let n = positive so_far.steps (omega arith) in
      let more = n.1 in
      let fewer = members_leave group so_far.left in
      let first = ap (λ (ms : List Member). length ms) members in
      let both = length-append (members_of so_far.left group) (reverse rest) in
      let turned = length-reverse pending in
      let turned_rest = length-reverse rest in
      record {
        left = without group so_far.left;
        steps = n.0;
        named = λ other. named_without group so_far.left other ∙ ap (λ line. cond (bytes_eq other group) None line) (so_far.named other) ∙ entered other;
        enough = omega arith;
        same = ap (λ ms. met ++ hosts_met n.0 (without group so_far.left) ms) members
            ∙ ap (λ ms. met ++ hosts_met (suc n.0) so_far.left ms) (sym (last_first rest (Group group)))
            ∙ ap (λ k. met ++ hosts_met k so_far.left (reverse (rest ++ Group group ∷ []))) (sym more)
            ∙ so_far.same;
      }

  pub order_group : (old new : List ℕ → Bool) (rest pending : List Member) (met : List (List ℕ)) (group : List ℕ) (found : Option GroupLine) → found ≡ group_named lines group
      → Enters found group old new rest pending → IsInOrder lines name old (rest ++ Group group ∷ []) met → IsInOrder lines name new pending met
  order_group old new rest pending met group None is step so_far =
      order_entered old new rest pending met group so_far (passed_by lines old new group (sym is) step.0)
      (ap reverse step.1 ∙ ap (λ ms. ms ++ reverse rest) (sym (no_members lines so_far.left old group so_far.named (inr (sym is)))))
  order_group old new rest pending met group (Some line) is step so_far =
      order_entered old new rest pending met group so_far
      (λ other. entered_more (old other) (bytes_eq other group) (group_named lines other) ∙ ap (λ b. cond b None (group_named lines other)) (sym (step.0 other)))
      (elim (cases_Bool (old group)) [
        | inl was ↦
            ap reverse (step.1 ∙ cond-true (old group) rest (rest ++ reverse line.members) was)
            ∙ ap (λ ms. ms ++ reverse rest) (sym (no_members lines so_far.left old group so_far.named (inl was)))
        | inr fresh ↦
            ap reverse (step.1 ∙ cond-false (old group) rest (rest ++ reverse line.members) fresh) ∙ reverse-append rest (reverse line.members)
            ∙ ap (λ ms. ms ++ reverse rest) (reverse-reverse line.members ∙ sym (its_members lines so_far.left old group so_far.named line fresh (sym is)))
      ])

  -- the walk begins at the group alone
  pub order_begins : (old new : List ℕ → Bool) (none pending : List Member) → ((group : List ℕ) → old group ≡ false) → none ≡ []
      → Enters (group_named lines name) name old new none pending → IsInOrder lines name new pending []
  order_begins old new none pending fresh empty step =
      let count = length-append none (Group name ∷ []) in
      let nothing = ap (λ (ms : List Member). length ms) empty in
      order_group old new none pending [] name (group_named lines name) refl step (record {
        left = lines;
        steps = suc (length (all_members lines));
        named = λ group. ap (λ b. cond b None (group_named lines group)) (sym (fresh group));
        enough = omega arith;
        same = ap (λ (ms : List Member). hosts_met (suc (length (all_members lines))) lines (reverse (ms ++ Group name ∷ []))) empty;
      })

  nothing_met : (steps : ℕ) (left : List GroupLine) → hosts_met steps left [] ≡ []
  nothing_met zero left = refl
  nothing_met (suc steps) left = refl

  pub order_ends : (entered : List ℕ → Bool) (met : List (List ℕ)) → IsInOrder lines name entered [] met
      → met ≡ hosts_met (suc (length (all_members lines))) lines (Group name ∷ [])
  order_ends entered met all = sym (ap (λ hosts. met ++ hosts) (nothing_met all.steps all.left) ∙ append-nil met) ∙ all.same
