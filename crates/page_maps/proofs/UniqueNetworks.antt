-- The networks that lines write have one table.
use Rattle.std.proofs.Common.{◌≡◌, ℕ, zero, suc, ◌+◌, ◌-◌, ◌<◌, ◌≤◌, ◌++◌, ◌∙◌, Bool, cond, List, [], ◌∷◌, ap, arith, get_or, length, refl, subst, sym, take}
use Rattle.std.specs.Prelude.{count_by}
use Rattle.std.specs.List.{range_with_len}
use Rattle.std.proofs.lemmas.List.{ext_get_or}
use Rattle.std.proofs.lemmas.List.Sums.{sum_by-cons}
use Rattle.desk_tables.specs.FileSystems.{fs_of}
use Rattle.desk_text.specs.Network.{Block, last_of}
use Rattle.desk_text.proofs.Blocks.{last_fits}
use Rattle.desk_policy.specs.Policy.{Content}
use Rattle.desk_policy.specs.Verdict.{is_in}
use Rattle.page_data.specs.Class.{same_class}
use Rattle.page_data.specs.Counts.{class_count, count_within}
use Rattle.page_data.specs.declared.class.Class.{Class}
use Rattle.page_data.specs.declared.class.Class.TheVariants.{Denied, ReadOnly, ReadWrite, RootKept}
use Rattle.page_data.specs.declared.counts.Counts.{Counts}
use Rattle.page_data.proofs.Agreeing.{one_most}
use Rattle.page_maps.specs.Laws.{NetworksAreToldInOneWay}
use Rattle.page_maps.specs.NetworkRows.{AreCountsOfSite, AreNetworkRows, IsCountedIn, IsNetworkRow, alike_of, parts_of}
use Rattle.page_maps.specs.NetworkTable.{GainsNetworks, networks_text}
use Rattle.page_maps.specs.declared.networks.NetworkRow.{NetworkRow}
use Rattle.page_maps.specs.declared.networks.SystemCounts.{SystemCounts}
use Rattle.page_maps.proofs.OneOrder.{ordered_in_one_way}

-- ---- addresses of which the same is said are counted alike
counted_more : (test : ℕ → Bool) (n first : ℕ) → count_by test (range_with_len first (suc n)) ≡ cond (test first) 1 0 + count_by test (range_with_len (first + 1) n)
counted_more test n first = sum_by-cons (λ address. cond (test address) 1 0) first (range_with_len (first + 1) n)

module _ (test other : ℕ → Bool) where
  counted_alike : (n first : ℕ) → ((address : ℕ) → first ≤ address → address < first + n → test address ≡ other address)
      → count_by test (range_with_len first n) ≡ count_by other (range_with_len first n)
  counted_alike zero first same = refl
  counted_alike (suc n) first same =
      counted_more test n first
      ∙ ap (λ passes. cond passes 1 0 + count_by test (range_with_len (first + 1) n)) (same first (omega arith) (omega arith))
      ∙ ap (λ rest. cond (other first) 1 0 + rest) (counted_alike n (first + 1) (λ address from before. same address (omega arith) (omega arith)))
      ∙ sym (counted_more other n first)

module _ (class_at other_at : ℕ → Class) (first last : ℕ) (same : (address : ℕ) → address ≤ last → class_at address ≡ other_at address) where
  one_count : (class : Class) → class_count class_at class first last ≡ class_count other_at class first last
  unfolding count_within
  one_count class =
      counted_alike (λ address. same_class (class_at address) class) (λ address. same_class (other_at address) class) (last + 1 - first) first
      (λ address from before. ap (λ c. same_class c class) (same address (omega arith)))

-- ---- what may be mounted from a network
one_of_counts : (counts other : Counts) → counts.denied ≡ other.denied → counts.read_only ≡ other.read_only → counts.read_write ≡ other.read_write → counts.root_kept ≡ other.root_kept → counts ≡ other
one_of_counts counts other denied read_only read_write root_kept =
    ap (λ n. record { denied = n; read_only = counts.read_only; read_write = counts.read_write; root_kept = counts.root_kept }) denied
    ∙ ap (λ n. record { denied = other.denied; read_only = n; read_write = counts.read_write; root_kept = counts.root_kept }) read_only
    ∙ ap (λ n. record { denied = other.denied; read_only = other.read_only; read_write = n; root_kept = counts.root_kept }) read_write
    ∙ ap (λ n. record { denied = other.denied; read_only = other.read_only; read_write = other.read_write; root_kept = n }) root_kept

module _ (content : Content) where
  module _ (network : Block) where
    one_counted : (fs : ℕ) (one other : SystemCounts) → IsCountedIn content network fs one → IsCountedIn content network fs other → one ≡ other
    one_counted fs one other is its =
        let within = last_fits network is.is_network in
        let same : (address : ℕ) → address ≤ last_of network → is.class_at address ≡ its.class_at address = λ address to.
        one_most content (λ path. is_in (fs_of content.table path) fs) address (is.class_at address) (its.class_at address) (is.most address (omega arith)) (its.most address (omega arith)) in
        let alike = one_count is.class_at its.class_at network.first (last_of network) same in
        let counts : one.counts ≡ other.counts = one_of_counts one.counts other.counts
        (is.are.denied ∙ alike Denied ∙ sym its.are.denied) (is.are.read_only ∙ alike ReadOnly ∙ sym its.are.read_only)
        (is.are.read_write ∙ alike ReadWrite ∙ sym its.are.read_write) (is.are.root_kept ∙ alike RootKept ∙ sym its.are.root_kept) in
        ap (λ n. record { fs = record { 0 = n }; counts = one.counts }) (is.number ∙ sym its.number)
        ∙ ap (λ (all : Counts). record { fs = other.fs; counts = all }) counts

    counted_in_one_way : (counted others : List SystemCounts) → AreCountsOfSite content network counted → AreCountsOfSite content network others → counted ≡ others
    counted_in_one_way counted others are its =
        let default : SystemCounts = record { fs = record { 0 = 0 }; counts = record { denied = 0; read_only = 0; read_write = 0; root_kept = 0 } } in
        ext_get_or default counted others (are.count ∙ sym its.count)
        (λ i within. (let many = are.count in one_counted i (get_or counted i default) (get_or others i default) (are.each i default (omega arith)) (its.each i default (omega arith))))

    one_row : (row other : NetworkRow) → IsNetworkRow content network row → IsNetworkRow content network other → row ≡ other
    one_row row other is its =
        let counted = counted_in_one_way is.counted its.counted is.are its.are in
        λ i. record {
          network = (is.own ∙ sym its.own) i;
          alike = (is.alike ∙ ap (alike_of network) counted ∙ sym its.alike) i;
          parts = (is.parts ∙ ap (parts_of network) counted ∙ sym its.parts) i;
        }

  rows_by : (row : NetworkRow) (networks : List Block) (rows others : List NetworkRow) → AreNetworkRows content networks rows → AreNetworkRows content networks others → rows ≡ others
  rows_by row networks rows others are its =
      let network : Block = record { first = 0; prefix = 0 } in
      ext_get_or row rows others (are.count ∙ sym its.count)
      (λ i within. (let many = are.count in one_row (get_or networks i network) (get_or rows i row) (get_or others i row) (are.each i network row (omega arith)) (its.each i network row (omega arith))))

  rows_in_one_way : (networks : List Block) (rows others : List NetworkRow) → AreNetworkRows content networks rows → AreNetworkRows content networks others → rows ≡ others
  rows_in_one_way networks [] [] are its = refl
  rows_in_one_way networks [] (row ∷ others) are its = rows_by row networks [] (row ∷ others) are its
  rows_in_one_way networks (row ∷ rows) others are its = rows_by row networks (row ∷ rows) others are its

  one_table : (page gained other : List ℕ) → GainsNetworks content page gained → GainsNetworks content page other → gained ≡ other
  one_table page gained other own its =
      let written = ordered_in_one_way _ own.written its.written own.ordered its.ordered in
      let listed = rows_in_one_way (take 64 own.written) own.listed its.listed own.are
      (subst (λ (networks : List Block). AreNetworkRows content (take 64 networks) its.listed) (sym written) its.are) in
      own.text ∙ ap (λ (rows : List NetworkRow). page ++ networks_text content rows (length own.written - 64)) listed
      ∙ ap (λ (networks : List Block). page ++ networks_text content its.listed (length networks - 64)) written ∙ sym its.text

pub networks_are_told_in_one_way : NetworksAreToldInOneWay
networks_are_told_in_one_way content = record { same = one_table content }
