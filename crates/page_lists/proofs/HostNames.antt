-- The names of hosts in an index, for `hosts::push_hosts_of`.
use Rattle.std.proofs.Common.{ℕ, List, map, subst}
use Rattle.std.specs.List.Sorted.{IsPermutation}
use Rattle.std.proofs.lemmas.List.Sorted.{Contains-permutation, IsPermutation-map, IsPermutation-sym}
use Rattle.desk_netgroup.specs.declared.group_line.GroupLine.{GroupLine}
use Rattle.desk_policy.specs.Policy.{Content}
use Rattle.page_lists.specs.Hosts.{AreHostNames}
use Rattle.page_lists.specs.NameIndex.{WrittenValue, name_key, written_names, written_value}
use Rattle.page_lists.specs.declared.name_index.WrittenName.{WrittenName}
use Rattle.page_lists.proofs.Mapped.{map_twice}

abbrev name_of : WrittenValue → List ℕ
name_of one = one.name

-- an index has just the names that lines write
pub of_policy : (netgroups : List GroupLine) (content : Content) (index : List WrittenName) (names : List (List ℕ)) → IsPermutation (written_names content) (map written_value index)
    → AreHostNames netgroups (map name_key index) names → AreHostNames netgroups (map name_of (written_names content)) names
of_policy netgroups content index names just are =
    let all = map name_of (written_names content) in
    let indexed = map name_key index in
    let moved : IsPermutation all indexed = subst (IsPermutation all) (map_twice written_value name_of index) (IsPermutation-map name_of (written_names content) (map written_value index) just) in
    record {
      ascending = are.ascending;
      each = λ name has. (let is = are.each name has in (Contains-permutation indexed all name (IsPermutation-sym all indexed moved) is.0, is.1));
      all = λ name has is. are.all name (Contains-permutation all indexed name moved has) is;
    }
