-- The texts so far were seen; those that are kept, and the new ones of the rest, are those of all.
use Rattle.std.proofs.Common.{◌≡◌, ◌++◌, [], List, ℕ, drop, map, string_bytes, take}
use Rattle.std.specs.BTreeSet.{contains_text}
use Rattle.desk_netgroup.specs.Netgroups.{is_among}
use Rattle.desk_netgroup.specs.Walk.{new_texts}
use Rattle.desk_netgroup.proofs.walk.distinct_copies.Given as goal

abbrev pub invariant-loop-text : goal.invariant-loop-text
invariant-loop-text l = record {
  seen : (text : List ℕ) → contains_text l.seen text ≡ is_among text (take l.text-index (map (λ x. x.now) l.texts));
  kept : map string_bytes l.kept.items ++ new_texts (take l.text-index (map (λ x. x.now) l.texts)) (drop l.text-index (map (λ x. x.now) l.texts))
      ≡ new_texts [] (map (λ x. x.now) l.texts);
}
