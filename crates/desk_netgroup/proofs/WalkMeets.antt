-- A walk in order meets just the hosts of the group.
use Rattle.std.proofs.Common.{◌≡◌, ℕ, zero, suc, ◌+◌, ◌≤◌, ◌||◌, Bool, false, cond, List, [], ◌∷◌, ◌++◌, length, length-append, Option, Some, None, refl, sym, ap, subst, ◌∙◌, inl, inr, append_assoc, arith}
use Rattle.std.specs.Prelude.{reverse}
use Rattle.std.specs.Str.{bytes_eq}
use Rattle.std.proofs.lemmas.Bool.{cases_Bool, cond-false, cond-true}
use Rattle.std.proofs.lemmas.List.{append-nil, reverse-append}
use Rattle.desk_netgroup.specs.GroupLine.{group_named}
use Rattle.desk_netgroup.specs.Laws.{OrderKeepsTheHosts}
use Rattle.desk_netgroup.specs.Netgroups.{hosts_of, is_among, members_of}
use Rattle.desk_netgroup.specs.PrivateWalk.{Enters}
use Rattle.desk_netgroup.specs.Walk.{all_members, hosts_in_order, hosts_met, without}
use Rattle.desk_netgroup.specs.declared.group_line.GroupLine.{GroupLine}
use Rattle.desk_netgroup.specs.declared.group_line.Member.{Member}
use Rattle.desk_netgroup.specs.declared.group_line.Member.TheVariants.{Group, Host}
use Rattle.desk_netgroup.proofs.OnceLemmas.{distinct, same_texts}
use Rattle.desk_netgroup.proofs.Walking.{ends, enters_start, has_begun, has_begun_more, HasBegun, IsWalked, meets_group, meets_host}
use Rattle.desk_netgroup.proofs.WalkOrder.{entered_more, its_members, members_leave, named_without, no_members, passed_by}

first_last : (member : Member) (more : List Member) → reverse (member ∷ more) ≡ reverse more ++ member ∷ []
first_last member more = reverse-append (member ∷ []) more

module _ (lines : List GroupLine) where
  -- the groups that are left are those that were not entered
  abbrev AreLeft : List GroupLine → (List ℕ → Bool) → Type 0
  AreLeft left entered = (group : List ℕ) → group_named left group ≡ cond (entered group) None (group_named lines group)

  -- a step of the walk, at a group
  record Step (left : List GroupLine) (old : List ℕ → Bool) (group : List ℕ) (more : List Member) : Type 0 where
    new : List ℕ → Bool
    enters : Enters (group_named lines group) group old new (reverse more) (reverse (members_of left group ++ more))
    others : (other : List ℕ) → cond (bytes_eq other group) None (cond (old other) None (group_named lines other)) ≡ cond (new other) None (group_named lines other)

  step_at : (left : List GroupLine) (old : List ℕ → Bool) (group : List ℕ) (more : List Member) (found : Option GroupLine) → found ≡ group_named lines group → AreLeft left old → Step left old group more
  step_at left old group more None is left_are = record {
    new = old;
    enters = subst (λ o. Enters o group old old (reverse more) (reverse (members_of left group ++ more))) is
        ((λ name. refl), ap (λ ms. reverse (ms ++ more)) (no_members lines left old group left_are (inr (sym is))));
    others = passed_by lines old old group (sym is) (λ name. refl);
  }
  step_at left old group more (Some line) is left_are =
      let new : List ℕ → Bool = λ name. old name || bytes_eq name group in
      record {
        new = new;
        enters = subst (λ o. Enters o group old new (reverse more) (reverse (members_of left group ++ more))) is (
          (λ name. refl),
          elim (cases_Bool (old group)) [
            | inl was ↦
                ap (λ ms. reverse (ms ++ more)) (no_members lines left old group left_are (inl was))
                ∙ sym (cond-true (old group) (reverse more) (reverse more ++ reverse line.members) was)
            | inr fresh ↦
                ap (λ ms. reverse (ms ++ more)) (its_members lines left old group left_are line fresh (sym is)) ∙ reverse-append line.members more
                ∙ sym (cond-false (old group) (reverse more) (reverse more ++ reverse line.members) fresh)
          ],
        );
        others = λ other. entered_more (old other) (bytes_eq other group) (group_named lines other);
      }

  module _ (name : List ℕ) where
    abbrev MeetsThem : List (List ℕ) → Type 0
    MeetsThem met = (host : List ℕ) → is_among host met ≡ is_among host (hosts_of lines name)

    -- a walk that has steps enough, from here to its end
    walks_on : (steps : ℕ) (left : List GroupLine) (pending : List Member) (entered : List ℕ → Bool) (met : List (List ℕ)) → AreLeft left entered
        → length pending + length (all_members left) ≤ steps → HasBegun lines name entered → IsWalked lines name entered (reverse pending) met
        → MeetsThem (met ++ hosts_met steps left pending)
    walks_on zero left [] entered met left_are enough begun walked = subst MeetsThem (sym (append-nil met)) (ends lines name entered met begun walked)
    walks_on zero left (member ∷ more) entered met left_are enough begun walked = absurd (omega arith)
    walks_on (suc steps) left [] entered met left_are enough begun walked = subst MeetsThem (sym (append-nil met)) (ends lines name entered met begun walked)
    walks_on (suc steps) left (Host host ∷ more) entered met left_are enough begun walked =
        subst MeetsThem (append_assoc met (host ∷ []) (hosts_met steps left more))
        (walks_on steps left more entered (met ++ host ∷ []) left_are (omega arith) begun
        (meets_host lines name entered (reverse more) met host (subst (λ ms. IsWalked lines name entered ms met) (first_last (Host host) more) walked)))
    walks_on (suc steps) left (Group group ∷ more) entered met left_are enough begun walked =
        let step = step_at left entered group more (group_named lines group) refl left_are in
        let fewer = members_leave group left in
        let both = length-append (members_of left group) more in
        let pending = reverse (members_of left group ++ more) in
        walks_on steps (without group left) (members_of left group ++ more) step.new met
        (λ other. named_without group left other ∙ ap (λ line. cond (bytes_eq other group) None line) (left_are other) ∙ step.others other)
        (omega arith)
        (has_begun_more lines name step.new pending (reverse more) entered group (group_named lines group) step.enters begun)
        (meets_group lines name entered step.new (reverse more) pending met group (group_named lines group) refl step.enters
        (subst (λ ms. IsWalked lines name entered ms met) (first_last (Group group) more) walked))

    walk_meets : MeetsThem (hosts_met (suc (length (all_members lines))) lines (Group name ∷ []))
    walk_meets =
        let none : List ℕ → Bool = λ group. false in
        let step = step_at lines none name [] (group_named lines name) refl (λ group. refl) in
        let fewer = members_leave name lines in
        let both = length-append (members_of lines name) [] in
        let pending = reverse (members_of lines name ++ []) in
        walks_on (length (all_members lines)) (without name lines) (members_of lines name ++ []) step.new []
        (λ other. named_without name lines other ∙ step.others other)
        (omega arith)
        (has_begun lines name step.new pending [] none (group_named lines name) refl step.enters)
        (enters_start lines name none step.new [] pending (λ group. refl) refl step.enters)

pub order_keeps_the_hosts : OrderKeepsTheHosts
unfolding hosts_in_order
order_keeps_the_hosts = record {
  same = λ lines name host. same_texts (hosts_met (suc (length (all_members lines))) lines (Group name ∷ [])) host ∙ walk_meets lines name host;
  once = λ lines name. distinct (hosts_met (suc (length (all_members lines))) lines (Group name ∷ []));
}
