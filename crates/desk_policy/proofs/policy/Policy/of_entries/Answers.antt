use Rattle.std.proofs.Common.{◌≡◌, ◌<◌, ◌++◌, inl, inr, ℕ, ltb, List, [], ◌∷◌, length, get_or, set, map, sym, subst, ◌∙◌, ap, zero-add, arith}
use Rattle.std.specs.List.{All, range_with_len}
use Rattle.std.proofs.lemmas.Bool.{cases_lt, cond-true, cond-false, lt-ltb, le-ltb}
use Rattle.std.proofs.lemmas.List.{append_assoc, append-nil, nil_from_length}
use Rattle.std.proofs.lemmas.List.FromFn.{length-map-range_with_len}
use Rattle.desk_tables.specs.declared.filesystems.FsId.{FsId}
use Rattle.desk_tables.specs.declared.hosts.HostRow.{HostRow}
use Rattle.desk_netgroup.specs.declared.group_line.GroupLine.{GroupLine}
use Rattle.desk_exports.specs.declared.entry.Entry.{Entry}
use Rattle.desk_origins.specs.declared.origins.Origin.{Origin}
use Rattle.desk_policy.specs.declared.row.Row.{Row}
use Rattle.desk_policy.specs.Policy.{AreAscending, Content, content_of, rows_placed}
use Rattle.desk_policy.specs.declared.warning.Warning.{Warning}
use Rattle.desk_policy.specs.Row.{row_of}
use Rattle.desk_policy.proofs.AscendingRows.{each_ascends}
use Rattle.desk_policy.specs.PrivatePolicy.{with_row}
use Rattle.desk_policy.proofs.EntriesByFileSystem.{none_placed, placed_beyond, placed_within}
use Rattle.desk_policy.proofs.policy.Policy.of_entries.Goals as goal

pub loop-fs-init : goal.loop-fs-init
loop-fs-init c = record {
  entries = c.into_iter-fs-iterator.ensures.into_iter_gives.0 ∙ c.into_vec-fs-items.ensures;
  lists = c.in_ok-rows.ensures ∙ none_placed c.args.netgroups.now c.args.hosts.now 0 (length c.args.filesystems);
  known = c.new-known.ensures c.args.netgroups.now c.args.hosts.now;
}

-- the next entry goes from what is left to what was read
one_more : {X : Type 0} (done left rest all : List X) (x : X) → left ≡ x ∷ rest → done ++ left ≡ all → (done ++ x ∷ []) ++ rest ≡ all
one_more done left rest all x e h = append_assoc done (x ∷ []) rest ∙ ap (λ xs. done ++ xs) (sym e) ∙ h

module _ (netgroups : List GroupLine) (hosts : List HostRow) where
  lists-length : (lists : List (List Row)) (done : List (FsId × Entry)) (n : ℕ) → lists ≡ map (rows_placed netgroups hosts done) (range_with_len 0 n) → length lists ≡ n
  lists-length lists done n h = ap length h ∙ length-map-range_with_len (rows_placed netgroups hosts done) 0 n

  module _ (lists : List (List Row)) (done : List (FsId × Entry)) (n : ℕ) (h : lists ≡ map (rows_placed netgroups hosts done) (range_with_len 0 n)) (fs : FsId) (entry : Entry) where
    -- the list of the entry's file system, if there is one, gains its line
    gains : (row : Row) → row ≡ row_of netgroups hosts entry → with_row lists fs.0 row ≡ map (rows_placed netgroups hosts (done ++ (fs, entry) ∷ [])) (range_with_len 0 n)
    gains row is = elim (cases_lt fs.0 (length lists)) [
      | inl lt ↦
          let below : fs.0 < n = omega (arith, lists-length lists done n h) in
          cond-true (ltb fs.0 (length lists)) _ _ (lt-ltb _ _ lt)
          ∙ ap (λ r. set lists fs.0 (get_or lists fs.0 [] ++ r ∷ [])) is
          ∙ ap (λ ls. set ls fs.0 (get_or ls fs.0 [] ++ row_of netgroups hosts entry ∷ [])) h
          ∙ sym (placed_within netgroups hosts done (fs, entry) 0 n fs.0 [] below (zero-add fs.0))
      | inr over ↦
          cond-false (ltb fs.0 (length lists)) _ _ (le-ltb _ _ over)
          ∙ h ∙ sym (placed_beyond netgroups hosts done (fs, entry) 0 n (inr (omega (arith, lists-length lists done n h))))
    ]

pub loop-fs-preserved : goal.loop-fs-preserved
loop-fs-preserved c =
    let keeps = c.loop-fs.invariant in
    record {
      entries = one_more c.loop-fs.yielded _ c.next.new.self.rest.items _ (c.in-Some.fs, c.in-Some.entry) c.in-Some.ensures.steps.0 keeps.entries;
      lists = c.in_ok-add_row.ensures ∙ gains c.args.netgroups.now c.args.hosts.now c.loop-fs.rows.items c.loop-fs.yielded (length c.args.filesystems) keeps.lists c.in-Some.fs c.in-Some.entry c.in_ok-row.row c.in_ok-row.ensures.row;
      known = c.in_ok-row.ensures.known;
    }

-- all entries were read, so the lists are those of all
all_lists : (netgroups : List GroupLine) (hosts : List HostRow) (all done left : List (FsId × Entry)) (lists : List (List Row)) (n : ℕ) → done ++ left ≡ all → left ≡ []
    → lists ≡ map (rows_placed netgroups hosts done) (range_with_len 0 n) → lists ≡ map (rows_placed netgroups hosts all) (range_with_len 0 n)
all_lists netgroups hosts all done left lists n entries none h =
    h ∙ ap (λ (es : List (FsId × Entry)). map (rows_placed netgroups hosts es) (range_with_len 0 n)) (sym (append-nil done) ∙ ap (λ xs. done ++ xs) (sym none) ∙ entries)

pub invariant_of-result : goal.invariant_of-result
invariant_of-result c =
    let netgroups = c.args.netgroups.now in
    let hosts = c.args.hosts.now in
    let lists = c.loop-fs.rows.items in
    let len = length c.args.filesystems in
    let none = nil_from_length c.loop-fs.fs-iterator.rest.items (sym c.loop-fs.fs-iterator.rest.ok.0 ∙ c.in-None.ensures.steps.0) in
    let keeps = c.loop-fs.invariant in
    record {
      each = lists-length netgroups hosts lists c.loop-fs.yielded len keeps.lists;
      ascending = subst (λ lists. All AreAscending lists) (sym (all_lists netgroups hosts c.args.entries c.loop-fs.yielded c.loop-fs.fs-iterator.rest.items lists len keeps.entries none keeps.lists))
          (each_ascends netgroups hosts c.args.entries (range_with_len 0 len) c.requires);
    }

pub returns : goal.returns
unfolding content_of
returns c =
    let P : List (List Row) → List Warning → List Origin → Content = λ rows warnings origins. record { table = c.args.filesystems; rows = rows; warnings = warnings; origins = origins } in
    let none = nil_from_length c.loop-fs.fs-iterator.rest.items (sym c.loop-fs.fs-iterator.rest.ok.0 ∙ c.in-None.ensures.steps.0) in
    let keeps = c.loop-fs.invariant in
    let all = all_lists c.args.netgroups.now c.args.hosts.now c.args.entries c.loop-fs.yielded c.loop-fs.fs-iterator.rest.items c.loop-fs.rows.items (length c.args.filesystems) keeps.entries none keeps.lists in
    let rows = map (rows_placed c.args.netgroups.now c.args.hosts.now c.args.entries) (range_with_len 0 (length c.args.filesystems)) in
    ap (λ lists. P lists c.new-warnings.result c.new-origins.result) all
    ∙ ap (λ warnings. P rows warnings c.new-origins.result) c.new-warnings.ensures
    ∙ ap (P rows []) c.new-origins.ensures
