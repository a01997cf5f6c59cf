use Rattle.std.proofs.Common.{◌≡◌, ◌++◌, ◌∙◌, ℕ, List, [], ◌∷◌, map, length, length-append, ap, sym, subst, refl, rules, arith}
use Rattle.std.specs.Borrow.{Bor}
use Rattle.std.specs.BTreeSet.{contains_text}
use Rattle.desk_netgroup.specs.GroupLine.{group_named}
use Rattle.desk_netgroup.specs.declared.group_line.Member.{Member}
use Rattle.desk_netgroup.specs.declared.group_line.Member.TheVariants.{Group, Host}
use Rattle.desk_netgroup.proofs.WalkOrder.{IsInOrder, order_begins, order_ends, order_group, order_host}
use Rattle.desk_netgroup.proofs.Walking.{IsWalked, ends, has_begun, has_begun_more, meets_group, meets_host, enters_less, enters_start, map_append}
use Rattle.desk_netgroup.proofs.walk.met_hosts.Goals as goal

abbrev members : List (Bor Member) → List Member
members xs = map (λ x. x.now) xs

abbrev texts : List (Bor (List ℕ)) → List (List ℕ)
texts xs = map (λ x. x.now) xs

pub loop-member-init : goal.loop-member-init
loop-member-init c =
    let lines = c.args.groups.now in
    let name = c.args.name.now in
    let none : members c.new-pending.result.items ≡ [] = ap members c.new-pending.ensures.items in
    let hosts : texts c.new-met.result.items ≡ [] = ap texts c.new-met.ensures.items in
    let step = c.in_ok-enter.ensures in (
      has_begun lines name (contains_text c.enter.new.entered) (members c.enter.new.pending.items) (members c.new-pending.result.items) (contains_text c.new-entered.result) (group_named lines name) refl step,
      subst (λ (hs : List (List ℕ)). IsWalked lines name (contains_text c.enter.new.entered) (members c.enter.new.pending.items) hs) (sym hosts)
          (enters_start lines name (contains_text c.new-entered.result) (contains_text c.enter.new.entered) (members c.new-pending.result.items) (members c.enter.new.pending.items) (search rules) none step),
      subst (λ (hs : List (List ℕ)). IsInOrder lines name (contains_text c.enter.new.entered) (members c.enter.new.pending.items) hs) (sym hosts)
          (order_begins lines name (contains_text c.new-entered.result) (contains_text c.enter.new.entered) (members c.new-pending.result.items) (members c.enter.new.pending.items) (search rules) none step),
    )

pub loop-member-preserved-in-Continue-branch-2 : goal.loop-member-preserved-in-Continue-branch-2
loop-member-preserved-in-Continue-branch-2 c =
    let lines = c.args.groups.now in
    let name = c.args.name.now in
    let entered = contains_text c.loop-member.entered in
    let rest = members c.pop.new.self.items in
    let met = texts c.loop-member.met.items in
    let popped : members c.loop-member.pending.items ≡ rest ++ Host c.in-Host.host ∷ [] =
    ap members c.in-Some.ensures.items ∙ map_append _ c.pop.new.self.items (c.in-Some.member ∷ []) ∙ ap (λ (m : Member). rest ++ m ∷ []) c.in-Host.is in
    let pushed : texts c.push.new.self.items ≡ met ++ c.in-Host.host ∷ [] =
    ap texts c.in_ok-push-in-Host.ensures.items ∙ map_append _ c.loop-member.met.items (c.as_str.result ∷ []) ∙ ap (λ (t : List ℕ). met ++ t ∷ []) c.as_str.ensures in (
      c.loop-member.invariant.0,
      subst (λ (hs : List (List ℕ)). IsWalked lines name entered rest hs) (sym pushed)
          (meets_host lines name entered rest met c.in-Host.host (subst (λ (ps : List Member). IsWalked lines name entered ps met) popped c.loop-member.invariant.1)),
      subst (λ (hs : List (List ℕ)). IsInOrder lines name entered rest hs) (sym pushed)
          (order_host lines name entered rest met c.in-Host.host (subst (λ (ps : List Member). IsInOrder lines name entered ps met) popped c.loop-member.invariant.2)),
    )

pub loop-member-smaller : goal.loop-member-smaller
loop-member-smaller c =
    let lines = c.args.groups.now in
    let rest = members c.pop.new.self.items in
    let g = c.as_str-in-Group.result.now in
    let popped : members c.loop-member.pending.items ≡ rest ++ c.in-Some.member.now ∷ [] =
    ap members c.in-Some.ensures.items ∙ map_append _ c.pop.new.self.items (c.in-Some.member ∷ []) in
    let more = ap (λ (ms : List Member). length ms) popped ∙ length-append rest (c.in-Some.member.now ∷ []) in
    let less = enters_less lines c.args.name.now (contains_text c.loop-member.entered) (contains_text c.enter-in-Group.new.entered) g rest (members c.enter-in-Group.new.pending.items) (group_named lines g) refl c.in_ok-enter-in-Group.ensures in
    omega arith

pub loop-member-smaller-in-Continue-branch-2 : goal.loop-member-smaller-in-Continue-branch-2
loop-member-smaller-in-Continue-branch-2 c =
    let rest = members c.pop.new.self.items in
    let popped : members c.loop-member.pending.items ≡ rest ++ c.in-Some.member.now ∷ [] =
    ap members c.in-Some.ensures.items ∙ map_append _ c.pop.new.self.items (c.in-Some.member ∷ []) in
    let more = ap (λ (ms : List Member). length ms) popped ∙ length-append rest (c.in-Some.member.now ∷ []) in
    omega arith

pub loop-member-preserved : goal.loop-member-preserved
loop-member-preserved c =
    let lines = c.args.groups.now in
    let name = c.args.name.now in
    let entered = contains_text c.loop-member.entered in
    let rest = members c.pop.new.self.items in
    let met = texts c.loop-member.met.items in
    let popped : members c.loop-member.pending.items ≡ rest ++ Group c.as_str-in-Group.result.now ∷ [] =
    ap members c.in-Some.ensures.items ∙ map_append _ c.pop.new.self.items (c.in-Some.member ∷ []) ∙ ap (λ (m : Member). rest ++ m ∷ []) (c.in-Group.is ∙ ap Group (sym c.as_str-in-Group.ensures)) in
    let step = c.in_ok-enter-in-Group.ensures in (
      has_begun_more lines name (contains_text c.enter-in-Group.new.entered) (members c.enter-in-Group.new.pending.items) rest entered c.as_str-in-Group.result.now (group_named lines c.as_str-in-Group.result.now) step c.loop-member.invariant.0,
      meets_group lines name entered (contains_text c.enter-in-Group.new.entered) rest (members c.enter-in-Group.new.pending.items) met c.as_str-in-Group.result.now (group_named lines c.as_str-in-Group.result.now) refl step
          (subst (λ (ps : List Member). IsWalked lines name entered ps met) popped c.loop-member.invariant.1),
      order_group lines name entered (contains_text c.enter-in-Group.new.entered) rest (members c.enter-in-Group.new.pending.items) met c.as_str-in-Group.result.now (group_named lines c.as_str-in-Group.result.now) refl step
          (subst (λ (ps : List Member). IsInOrder lines name entered ps met) popped c.loop-member.invariant.2),
    )

pub returns-clause-hosts : goal.returns-clause-hosts
returns-clause-hosts c =
    ends c.args.groups.now c.args.name.now (contains_text c.loop-member.entered) (texts c.loop-member.met.items) c.loop-member.invariant.0
    (subst (λ (ps : List Member). IsWalked c.args.groups.now c.args.name.now (contains_text c.loop-member.entered) ps (texts c.loop-member.met.items)) (search rules) c.loop-member.invariant.1)

pub returns-clause-order : goal.returns-clause-order
returns-clause-order c =
    order_ends c.args.groups.now c.args.name.now (contains_text c.loop-member.entered) (texts c.loop-member.met.items)
    (subst (λ (ps : List Member). IsInOrder c.args.groups.now c.args.name.now (contains_text c.loop-member.entered) ps (texts c.loop-member.met.items)) (search rules) c.loop-member.invariant.2)
