-- The lines under one key are one group, or groups of one line.
use Rattle.std.proofs.Common.{◌≡◌, ℕ, ◌<◌, ◌⊎◌, ◌&&◌, true, false, List, filter, take, length, get_or, Option, Some, None, sym, ◌∙◌, ap, subst, refl, inl, inr, arith}
use Rattle.std.specs.Prelude.{find}
use Rattle.std.proofs.lemmas.Bool.{and_parts, cases_Bool, cases_lt, eq-eqb, eqb-true, false_from_ne_true, true≢false}
use Rattle.std.proofs.lemmas.List.{get_or_default, get_or-map, length-map}
use Rattle.std.proofs.lemmas.List.Elements.{All-filter, filter_passes}
use Rattle.desk_text.specs.Network.{Block}
use Rattle.desk_exports.specs.declared.entry.Clients.{Clients}
use Rattle.desk_exports.specs.declared.entry.Clients.TheVariants as clients
use Rattle.desk_policy.specs.Keys.{Everybody, Host, LineKey, Network, has_key, has_key_by}
use Rattle.desk_policy.specs.Policy.{AreAscending}
use Rattle.desk_policy.specs.Verdict.{lists_here}
use Rattle.desk_policy.specs.declared.row.Row.{Row}
use Rattle.desk_index.specs.Keys.{AreUnderOneKey}
use Rattle.desk_index.specs.PrivateMarks.{group_by, group_of, is_one_line, lists_at, same_group}
use Rattle.desk_index.specs.PrivateNumbered.{rows_numbered}
use Rattle.desk_index.specs.declared.marks.Group.{Group}
use Rattle.desk_index.specs.declared.marks.Group.TheVariants as groups
use Rattle.desk_index.proofs.FirstFound.{find_in_filter, first_found, found_where, none_found, same_search}
use Rattle.desk_index.proofs.LinesByNumber.{find_line, is_numbered, next_found, numbered_filter}
use Rattle.desk_index.proofs.Marked.{same_groups}

-- ---- the group of a line by its key

host_group : (c : Clients) (addresses : List ℕ) (line n : ℕ) → has_key_by c addresses (Host n) ≡ true → group_by c line ≡ groups.Line line
host_group (clients.Hosts names) addresses line n e = refl
host_group (clients.Net net noted) addresses line n e = absurd (true≢false (sym e))
host_group (clients.Net6 value) addresses line n e = absurd (true≢false (sym e))
host_group clients.World addresses line n e = absurd (true≢false (sym e))

network_group : (c : Clients) (addresses : List ℕ) (line : ℕ) (net : Block) → has_key_by c addresses (Network net) ≡ true → group_by c line ≡ groups.Network net.first net.prefix
network_group (clients.Hosts names) addresses line net e = absurd (true≢false (sym e))
network_group (clients.Net own noted) addresses line net e = same_groups (groups.Network own.first own.prefix) (groups.Network net.first net.prefix) e
network_group (clients.Net6 value) addresses line net e = absurd (true≢false (sym e))
network_group clients.World addresses line net e = absurd (true≢false (sym e))

everybody_group : (c : Clients) (addresses : List ℕ) (line : ℕ) → has_key_by c addresses Everybody ≡ true → group_by c line ≡ groups.Everybody
everybody_group (clients.Hosts names) addresses line e = absurd (true≢false (sym e))
everybody_group (clients.Net own noted) addresses line e = absurd (true≢false (sym e))
everybody_group (clients.Net6 value) addresses line e = absurd (true≢false (sym e))
everybody_group clients.World addresses line e = refl

-- ---- which lines are of a group

of_network : (c : Clients) (addresses : List ℕ) (line : ℕ) (net : Block) → same_group (group_by c line) (groups.Network net.first net.prefix) ≡ has_key_by c addresses (Network net)
of_network (clients.Hosts names) addresses line net = refl
of_network (clients.Net own noted) addresses line net = refl
of_network (clients.Net6 value) addresses line net = refl
of_network clients.World addresses line net = refl

of_everybody : (c : Clients) (addresses : List ℕ) (line : ℕ) → same_group (group_by c line) groups.Everybody ≡ has_key_by c addresses Everybody
of_everybody (clients.Hosts names) addresses line = refl
of_everybody (clients.Net own noted) addresses line = refl
of_everybody (clients.Net6 value) addresses line = refl
of_everybody clients.World addresses line = refl

-- a line by itself is alone
alone : (c : Clients) (line other : ℕ) → same_group (group_by c line) (groups.Line other) ≡ true → line ≡ other
alone (clients.Hosts names) line other e = eqb-true line other e
alone (clients.Net net noted) line other e = absurd (true≢false (sym e))
alone (clients.Net6 value) line other e = eqb-true line other e
alone clients.World line other e = absurd (true≢false (sym e))

module _ (rows : List Row) (ascending : AreAscending rows) (path : List (List ℕ)) where
  -- of a line by itself, that it is found in its group tells whether it lists the path
  module _ (number : ℕ) (row : Row) (e : find (is_numbered number) rows ≡ Some row) (by_itself : group_of row ≡ groups.Line row.entry.line) where
    same_line : (k : ℕ) (d : Row) → lists_at (group_of row) path (get_or rows k d) ≡ true → (get_or rows k d).entry.line ≡ row.entry.line
    same_line k d t =
        alone (get_or rows k d).entry.clients (get_or rows k d).entry.line row.entry.line
        (subst (λ g. same_group (group_of (get_or rows k d)) g ≡ true) by_itself (and_parts (same_group (group_of (get_or rows k d)) (group_of row)) (lists_here path (get_or rows k d)) t).0)

    pub listed_alone : lists_here path row ≡ true → find (lists_at (group_of row) path) rows ≡ Some row
    listed_alone lists =
        let at = found_where (is_numbered number) rows row e in
        let group = group_of row in
        first_found (lists_at group path) rows at.place row at.within at.is
        (ap (λ b. b && lists_here path row) (ap (λ g. same_group g g) by_itself ∙ eq-eqb row.entry.line row.entry.line refl) ∙ lists)
        (λ k d less. false_from_ne_true (lists_at group path (get_or rows k d)) (λ t.
        let same = same_line k d t in
        let up = ascending k at.place d less at.within in
        let there : (get_or rows at.place d).entry.line ≡ row.entry.line = ap (λ (r : Row). r.entry.line) (get_or_default rows at.place d row at.within ∙ at.is) in
        absurd (omega arith)))

    pub unlisted_alone : lists_here path row ≡ false → find (lists_at (group_of row) path) rows ≡ None
    unlisted_alone unlisted =
        let at = found_where (is_numbered number) rows row e in
        let group = group_of row in
        none_found (lists_at group path) rows (λ k d l. false_from_ne_true (lists_at group path (get_or rows k d)) (λ t.
        let same = same_line k d t in
        let there : (get_or rows at.place d).entry.line ≡ row.entry.line = ap (λ (r : Row). r.entry.line) (get_or_default rows at.place d row at.within ∙ at.is) in
        elim (cases_lt k at.place) [
          | inl lt ↦ (let up = ascending k at.place d lt at.within in absurd (omega arith))
          | inr ge ↦ elim (cases_lt at.place k) [
            | inl gt ↦ (let up = ascending at.place k d gt l in absurd (omega arith))
            | inr le ↦
                let one : k ≡ at.place = omega arith in
                let is : get_or rows k d ≡ row = ap (λ n. get_or rows n d) one ∙ get_or_default rows at.place d row at.within ∙ at.is in
                true≢false (sym (and_parts (same_group (group_of (get_or rows k d)) group) (lists_here path (get_or rows k d)) t).1 ∙ ap (lists_here path) is ∙ unlisted)
          ]
        ]))

  module _ (lines : List ℕ) (under : AreUnderOneKey rows lines) where
    abbrev wanted : Option Row
    wanted = find (lists_here path) (rows_numbered rows lines)

    all_of_key : wanted ≡ find (λ row. has_key under.key row && lists_here path row) rows
    all_of_key =
        ap (λ ls. find (lists_here path) (rows_numbered rows ls)) under.all
        ∙ ap (find (lists_here path)) (numbered_filter (has_key under.key) rows ascending)
        ∙ find_in_filter (lists_here path) (has_key under.key) rows

    -- the line of a number under the key has the key
    has_its_key : (i : ℕ) → i < length lines → (row : Row) → find (is_numbered (get_or lines i 0)) rows ≡ Some row → has_key under.key row ≡ true
    has_its_key i l row e =
        let chosen = filter (has_key under.key) rows in
        let few : i < length chosen = (let a = ap length under.all in let b = length-map chosen (λ (r : Row). r.entry.line) in omega arith) in
        let one = get_or chosen i row in
        let line : get_or lines i 0 ≡ one.entry.line = ap (λ ls. get_or ls i 0) under.all ∙ get_or-map (λ (r : Row). r.entry.line) chosen i row 0 few in
        let found : find (is_numbered one.entry.line) rows ≡ Some one = All-filter (has_key under.key) (λ (x : Row). find (is_numbered x.entry.line) rows ≡ Some x) rows
        (λ k d l. find_line rows ascending k (get_or rows k d) l (get_or_default rows k d (get_or rows k d) l) (get_or rows k d).entry.line refl) i row few in
        let same : one ≡ row = (let g : Some one ≡ Some row = sym found ∙ ap (λ n. find (is_numbered n) rows) (sym line) ∙ e in cc) in
        subst (λ r. has_key under.key r ≡ true) same (filter_passes (has_key under.key) rows i row few)

    -- a line under the key is alone, or its group is that of all
    abbrev pub Stands : Row → Type 0
    Stands row = (group_of row ≡ groups.Line row.entry.line) ⊎ ((is_one_line (group_of row) ≡ false) × (find (lists_at (group_of row) path) rows ≡ wanted))

    whole : (group : Group) → ((row : Row) → same_group (group_of row) group ≡ has_key under.key row) → find (lists_at group path) rows ≡ wanted
    whole group same = same_search (lists_at group path) (λ row. has_key under.key row && lists_here path row) (λ row. ap (λ b. b && lists_here path row) (same row)) rows ∙ sym all_of_key

    stands_by : (key : LineKey) → under.key ≡ key → (row : Row) → has_key under.key row ≡ true → Stands row
    stands_by (Host n) k row e = inl (host_group row.entry.clients row.addrs row.entry.line n (ap (λ key. has_key key row) (sym k) ∙ e))
    stands_by (Network net) k row e =
        let is = network_group row.entry.clients row.addrs row.entry.line net (ap (λ key. has_key key row) (sym k) ∙ e) in
        inr (
          ap is_one_line is,
          ap (λ g. find (lists_at g path) rows) is
              ∙ whole (groups.Network net.first net.prefix) (λ other. of_network other.entry.clients other.addrs other.entry.line net ∙ ap (λ key. has_key key other) (sym k)),
        )
    stands_by Everybody k row e =
        let is = everybody_group row.entry.clients row.addrs row.entry.line (ap (λ key. has_key key row) (sym k) ∙ e) in
        inr (
          ap is_one_line is,
          ap (λ g. find (lists_at g path) rows) is
              ∙ whole groups.Everybody (λ other. of_everybody other.entry.clients other.addrs other.entry.line ∙ ap (λ key. has_key key other) (sym k)),
        )

    module _ (i : ℕ) (l : i < length lines) (row : Row) (e : find (is_numbered (get_or lines i 0)) rows ≡ Some row) where
      stands : Stands row
      stands = stands_by under.key refl row (has_its_key i l row e)

      pub found_in_group : (found : Row) → find (lists_here path) (rows_numbered rows (take i lines)) ≡ None → find (lists_at (group_of row) path) rows ≡ Some found → wanted ≡ Some found
      found_in_group found before f =
          elim stands [
            | inl single ↦ elim (cases_Bool (lists_here path row)) [
              | inl lists ↦ next_found (λ number. find (is_numbered number) rows) (lists_here path) lines i 0 row l before e lists ∙ sym (listed_alone (get_or lines i 0) row e single lists) ∙ f
              | inr not ↦ absurd (let g : None ≡ Some found = sym (unlisted_alone (get_or lines i 0) row e single not) ∙ f in cc)
            ]
            | inr group ↦ sym group.1 ∙ f
          ]

      pub not_in_group : find (lists_at (group_of row) path) rows ≡ None → is_one_line (group_of row) ≡ false → wanted ≡ None
      not_in_group f not =
          elim stands [
            | inl single ↦ absurd (true≢false (sym (ap is_one_line single) ∙ not))
            | inr group ↦ sym group.1 ∙ f
          ]

      pub not_alone : find (lists_at (group_of row) path) rows ≡ None → is_one_line (group_of row) ≡ true → lists_here path row ≡ false
      not_alone f one =
          elim stands [
            | inl single ↦ false_from_ne_true (lists_here path row) (λ lists. absurd (let g : None ≡ Some row = sym f ∙ listed_alone (get_or lines i 0) row e single lists in cc))
            | inr group ↦ absurd (true≢false (sym one ∙ group.0))
          ]
