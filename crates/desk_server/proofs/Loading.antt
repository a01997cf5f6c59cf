-- If no line has a client of an earlier one, mountd puts all lines in force.
use Rattle.std.proofs.Common.{◌≡◌, ◌∙◌, ◌++◌, ℕ, true, eqb, List, [], ◌∷◌, Some, ap, arith, inl, inr, length, length-append, map, refl, subst, sym}
use Rattle.std.specs.List.{Contains, list_any}
use Rattle.std.proofs.lemmas.Bool.{and_from, cases_lt, cond-false, eq-eqb, false_from_ne_true, true≢false}
use Rattle.std.proofs.lemmas.List.{append_assoc, get_or-map, get_or_append_left, get_or_at, get_or_past, length-map}
use Rattle.std.proofs.lemmas.List.Elements.{Contains-append_left}
use Rattle.std.proofs.lemmas.List.Folds.{list_any_at}
use Rattle.desk_tables.specs.FileSystems.{fs_of}
use Rattle.desk_exports.specs.declared.entry.Clients.{Clients}
use Rattle.desk_exports.specs.declared.entry.Clients.TheVariants as clients
use Rattle.desk_policy.specs.Keys.{Everybody, Host, LineKey, Network, has_key, has_key_by}
use Rattle.desk_policy.specs.Policy.{AreAscending, Content, rows_of}
use Rattle.desk_policy.specs.Verdict.{lists}
use Rattle.desk_policy.specs.declared.row.Row.{Row}
use Rattle.desk_policy.proofs.Contradicting.{lines_rise}
use Rattle.desk_who.specs.Who.{VerdictsAreDiscrete}
use Rattle.desk_idle.proofs.Lists.{in_middle}
use Rattle.desk_server.specs.Laws.{GrantsAreTheServersByLoadedLines, IsInForce, NothingRepeatedIsLoaded, SilenceIsTheServersVerdict}
use Rattle.desk_server.specs.RepeatedClients.{AreRepeatedClients, has_client_of, loaded, loaded_behind, loaded_content, shares_client}
use Rattle.desk_server.specs.Server.{server_verdict_among, server_verdict_of}
use Rattle.desk_server.proofs.Agreeing.{nothing_wider_is_equal}
use Rattle.desk_server.proofs.Granting.{grants_are_the_servers, server_here}
use Rattle.desk_server.proofs.Lists.{passing}

-- a client of these clients that another line has
record OwnClient (who : Clients) (addresses : List ℕ) (other : Row) : Type 0 where
  client : LineKey
  own : has_key_by who addresses client ≡ true
  theirs : has_key client other ≡ true

own_client : (who : Clients) (addresses : List ℕ) (other : Row) → has_client_of who addresses other ≡ true → OwnClient who addresses other
own_client (clients.Hosts names) addresses other e =
    let p = passing (λ address. has_key (Host address) other) addresses e in
    let has = p.1 in
    record { client = Host p.0; own = list_any_at (λ n. eqb n p.0) addresses has.0 p.0 has.1 (eq-eqb _ p.0 has.2); theirs = p.2 }
own_client (clients.Net net noted) addresses other e =
    record { client = Network net; own = and_from (eqb net.first net.first) (eqb net.prefix net.prefix) (eq-eqb net.first net.first refl) (eq-eqb net.prefix net.prefix refl); theirs = e }
own_client (clients.Net6 value) addresses other e = absurd (true≢false (sym e))
own_client clients.World addresses other e = record { client = Everybody; own = refl; theirs = e }

module _ (all : List Row) (ascending : AreAscending all) (none : AreRepeatedClients all []) where
  -- no line has a client of those before it
  shares_none : (before : List Row) (row : Row) (rows : List Row) → before ++ row ∷ rows ≡ all → list_any (shares_client row) before ≡ true → ⊥
  shares_none before row rows are e =
      let p = passing (shares_client row) before e in
      let has = p.1 in
      let own = own_client row.entry.clients row.addrs p.0 p.2 in
      let up : AreAscending (before ++ row ∷ rows) = subst AreAscending (sym are) ascending in
      true≢false (sym (none.all row p.0 own.client (subst (λ (ys : List Row). Contains ys row) are (in_middle before row rows)) (record {
        has = subst (λ (ys : List Row). Contains ys p.0) are (Contains-append_left before (row ∷ rows) p.0 has);
        earlier = lines_rise (before ++ row ∷ rows) up has.0 (length before) p.0 row has.1 (omega (arith, length-append before (row ∷ rows)))
            (get_or_append_left before (row ∷ rows) p.0 has.0 has.1 ∙ has.2) (get_or_at before row rows row (length before) refl);
        own = own.own;
        theirs = own.theirs;
      })))

  all_loaded : (before rows : List Row) → before ++ rows ≡ all → loaded_behind before rows ≡ rows
  all_loaded before [] are = refl
  all_loaded before (row ∷ rows) are =
      cond-false (list_any (shares_client row) before) (loaded_behind before rows) (row ∷ loaded_behind (before ++ row ∷ []) rows)
      (false_from_ne_true (list_any (shares_client row) before) (λ shares. shares_none before row rows are shares))
      ∙ ap (λ (ys : List Row). row ∷ ys) (all_loaded (before ++ row ∷ []) rows (append_assoc before (row ∷ []) rows ∙ are))

pub nothing_repeated_is_loaded : NothingRepeatedIsLoaded
nothing_repeated_is_loaded rows ascending none = all_loaded rows ascending none [] rows refl

-- ---- the verdicts by the lines that are loaded

rows_loaded : (content : Content) (fs : ℕ) → rows_of (loaded_content content) fs ≡ loaded (rows_of content fs)
rows_loaded content fs =
    elim (cases_lt fs (length content.rows)) [
      | inl within ↦ get_or-map loaded content.rows fs [] [] within
      | inr past ↦ get_or_past (map loaded content.rows) fs [] (omega (arith, length-map content.rows loaded)) ∙ sym (ap loaded (get_or_past content.rows fs [] past))
    ]

by_loaded : (content : Content) (fs address : ℕ) (path : List (List ℕ)) → IsInForce content → fs_of content.table path ≡ Some fs → AreRepeatedClients (rows_of content fs) []
    → server_verdict_of (loaded_content content) address path ≡ server_verdict_of content address path
by_loaded content fs address path in_force here none =
    server_here (loaded_content content) address path fs here
    ∙ ap (λ (rows : List Row). server_verdict_among (record { 0 = fs }) (lists content fs path) rows address) (rows_loaded content fs ∙ nothing_repeated_is_loaded (rows_of content fs) (in_force.ascending fs) none)
    ∙ sym (server_here content address path fs here)

pub silence_is_the_servers_verdict : VerdictsAreDiscrete → SilenceIsTheServersVerdict
silence_is_the_servers_verdict compare content fs address path in_force below here wider repeated =
    by_loaded content fs address path in_force here repeated ∙ nothing_wider_is_equal compare content fs address path in_force below here wider

pub grants_are_the_servers_by_loaded_lines : VerdictsAreDiscrete → GrantsAreTheServersByLoadedLines
grants_are_the_servers_by_loaded_lines compare content fs address path grant in_force below here repeated e =
    by_loaded content fs address path in_force here repeated ∙ grants_are_the_servers compare content address path grant in_force below e
