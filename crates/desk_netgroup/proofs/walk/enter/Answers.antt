use Rattle.std.proofs.Common.{◌≡◌, ◌||◌, ◌++◌, ◌∙◌, true, false, cond, ℕ, List, Option, Some, Ok, Err, Result, map, reverse, rules, ap, sym, subst, string_bytes}
use Rattle.std.specs.BTreeSet.{contains_text}
use Rattle.std.specs.Borrow.{Bor}
use Rattle.std.specs.Option.{option_copied}
use Rattle.std.specs.Result.{OnOk}
use Rattle.std.specs.Str.{bytes_eq}
use Rattle.std.proofs.lemmas.Bool.{cond-false}
use Rattle.std.proofs.lemmas.Map.Text.{btree_set_updates_text}
use Rattle.desk_netgroup.specs.GroupLine.{group_named}
use Rattle.desk_netgroup.specs.PrivateWalk.{Enters}
use Rattle.desk_netgroup.specs.declared.group_line.GroupLine.{GroupLine}
use Rattle.desk_netgroup.specs.declared.group_line.Member.{Member}
use Rattle.desk_netgroup.proofs.SetLemmas.{added, flip}
use Rattle.desk_netgroup.proofs.walk.enter.Goals as goal

ok_map : {X Y : Type 0} {P Q : Type 0} (r : Result X Y) → (P → Q) → OnOk r P → OnOk r Q
ok_map (Ok x) f p = f p
ok_map (Err y) f p = tt

abbrev members : List (Bor Member) → List Member
members xs = map (λ x. x.now) xs

pub returns : goal.returns
returns c =
    let name = c.args.name.now in
    let line : GroupLine = c.in-Some.line.now in
    let key : string_bytes c.in_ok-from_str.field-0 ≡ name = c.in_ok-from_str.ensures.ok in
    let old = contains_text c.args.entered.now in
    let new = contains_text c.insert.new.self in
    let entered : (n : List ℕ) → new n ≡ (old n || bytes_eq n name) = λ n.
    btree_set_updates_text (string_bytes c.in_ok-from_str.field-0) c.args.entered.now c.insert.new.self true c.in_ok-insert.ensures.updates n
    ∙ ap (λ k. cond (bytes_eq k n) true (old n)) key ∙ ap (λ b. cond b true (old n)) (flip name n) ∙ added (old n) (bytes_eq n name) in
    let is : Some line ≡ group_named c.args.groups.now name = sym (ap option_copied c.in-Some.is) ∙ c.group.ensures in
    let unseen : old name ≡ false = search rules in
    ok_map c.push_reversed.result (λ (pushed : members c.push_reversed.new.pending.items ≡ members c.args.pending.now.items ++ reverse c.as_slice.result.now).
    let done : Enters (Some line) name old new (members c.args.pending.now.items) (members c.push_reversed.new.pending.items) = (
      entered,
      pushed ∙ ap (λ (ms : List Member). members c.args.pending.now.items ++ reverse ms) c.as_slice.ensures
          ∙ sym (cond-false (old name) (members c.args.pending.now.items) (members c.args.pending.now.items ++ reverse line.members) unseen),
    ) in
    subst (λ (o : Option GroupLine). Enters o name old new (members c.args.pending.now.items) (members c.push_reversed.new.pending.items)) is done)
    c.push_reversed.ensures
