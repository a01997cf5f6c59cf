-- The lines that have a client of an earlier line, one line after another.
use Rattle.std.proofs.Common.{◌≡◌, ◌∙◌, ℕ, ◌<◌, ◌++◌, Bool, true, false, eqb, List, [], ◌∷◌, None, ap, arith, get_or, inl, inr, length, subst, sym, take}
use Rattle.std.specs.List.{All, AllPairs, Contains, list_any}
use Rattle.std.proofs.lemmas.Bool.{eq-eqb, or_left, or_right}
use Rattle.std.proofs.lemmas.List.{get_or-take, get_or_append_left, get_or_default, length-take, length_push}
use Rattle.std.proofs.lemmas.List.Elements.{All-contains, All-push, Contains-push, Contains-push_cases}
use Rattle.std.proofs.lemmas.List.Folds.{list_any-append}
use Rattle.std.proofs.lemmas.List.Quantifiers.{all_pairs_push}
use Rattle.desk_policy.specs.Keys.{LineKey, has_key}
use Rattle.desk_policy.specs.Policy.{AreAscending}
use Rattle.desk_policy.specs.declared.row.Row.{Row}
use Rattle.desk_server.specs.PrivateRepeatedClients.{HasClient, IsFirstSharing, IsSharing}
use Rattle.desk_server.specs.RepeatedClients.{AreRepeatedClients, IsRepeatedClient, SharesClient}
use Rattle.desk_server.specs.declared.repeated_client.RepeatedClient.{RepeatedClient}
use Rattle.desk_server.specs.declared.repeated_client.Sharing.{Sharing}

-- those of some of the lines that have a client of an earlier line
pub record AreRepeatedAmong (rows done : List Row) (found : List RepeatedClient) : Type 0 where
  pub each : All (IsRepeatedClient rows) found
  pub all : (row other : Row) (client : LineKey) → Contains done row → SharesClient rows row other client → list_any (λ one. eqb one.line row.entry.line) found ≡ true
  pub ascending : AllPairs (λ one later. one.line < later.line) found
  pub below : (line : ℕ) → All (λ row. row.entry.line < line) done → All (λ one. one.line < line) found

-- all lines
pub all_among : (rows : List Row) (found : List RepeatedClient) → AreRepeatedAmong rows rows found → AreRepeatedClients rows found
all_among rows found are = record { each = are.each; all = λ row other client has shares. are.all row other client has shares; ascending = are.ascending }

-- in lines that ascend, those before a place are before the line there
pub all_before : (rows : List Row) (i : ℕ) (row : Row) → AreAscending rows → i < length rows → row ≡ get_or rows i row → All (λ (one : Row). one.entry.line < row.entry.line) (take i rows)
all_before rows i row up within is k d inside =
    let small : k < i = omega (arith, length-take i rows) in
    let same = ap (λ (r : Row). r.entry.line) (get_or-take i rows k d small) in
    let here = ap (λ (r : Row). r.entry.line) is in
    let last = ap (λ (r : Row). r.entry.line) (get_or_default rows i d row within) in
    let lt = up k i d small within in
    omega arith

-- of one line more, those before it
before_it : (P : Row → Type 0) (done : List Row) (row : Row) → All P (done ++ row ∷ []) → All P done
before_it P done row all k d inside = subst P (get_or_append_left done (row ∷ []) d k inside) (all k d (omega (arith, length_push done row)))

last_it : (P : Row → Type 0) (done : List Row) (row : Row) → All P (done ++ row ∷ []) → P row
last_it P done row all = All-contains P (done ++ row ∷ []) row all (Contains-push done row)

module _ (rows : List Row) (row : Row) where
  to_has : (other : Row) (client : LineKey) → SharesClient rows row other client → HasClient rows row.entry.line (λ key. has_key key row) other client
  to_has other client shares = record { has = shares.has; earlier = shares.earlier; own = shares.own; theirs = shares.theirs }

  to_shares : (other : Row) (client : LineKey) → HasClient rows row.entry.line (λ key. has_key key row) other client → SharesClient rows row other client
  to_shares other client has = record { has = has.has; earlier = has.earlier; own = has.own; theirs = has.theirs }

  pub is_repeated : Contains rows row → (found : Sharing) → IsFirstSharing rows row.entry.line (λ key. has_key key row) found → (line : ℕ) → row.entry.line ≡ line
      → IsRepeatedClient rows (record { line = line; other = found.other; address = found.address })
  is_repeated has found is line number = record {
    row = row;
    has = has;
    line = number;
    other_row = is.other_row;
    client = is.client;
    shares = to_shares is.other_row is.client is.shares;
    other = is.other;
    address = is.address;
    least = λ another theirs shares. is.least another theirs (to_has another theirs shares);
  }

  pub one_alone : (done : List Row) (found : List RepeatedClient) → AreRepeatedAmong rows done found → IsSharing rows row.entry.line (λ key. has_key key row) None
      → AreRepeatedAmong rows (done ++ row ∷ []) found
  one_alone done found are alone = record {
    each = are.each;
    all = λ one other client has shares. elim (Contains-push_cases done row one has) [
      | inl before ↦ are.all one other client before shares
      | inr last ↦ absurd (alone other client (to_has other client (subst (λ (r : Row). SharesClient rows r other client) (sym last) shares)))
    ];
    ascending = are.ascending;
    below = λ line all. are.below line (before_it (λ (r : Row). r.entry.line < line) done row all);
  }

  pub one_repeated : (done : List Row) (found : List RepeatedClient) → AreRepeatedAmong rows done found → All (λ (r : Row). r.entry.line < row.entry.line) done
      → (one : RepeatedClient) → IsRepeatedClient rows one → row.entry.line ≡ one.line → AreRepeatedAmong rows (done ++ row ∷ []) (found ++ one ∷ [])
  one_repeated done found are before one is number = record {
    each = All-push (IsRepeatedClient rows) found one are.each is;
    all = λ other_row other client has shares.
        let number_is : RepeatedClient → Bool = λ (o : RepeatedClient). eqb o.line other_row.entry.line in
        let more = list_any-append number_is found (one ∷ []) in
        elim (Contains-push_cases done row other_row has) [
          | inl earlier ↦ more ∙ or_left (list_any number_is found) _ (are.all other_row other client earlier shares)
          | inr last ↦
              more ∙ or_right (list_any number_is found) _
              (or_left (eqb one.line other_row.entry.line) false (eq-eqb one.line other_row.entry.line (sym number ∙ ap (λ (r : Row). r.entry.line) last)))
        ];
    ascending = all_pairs_push (λ (o : RepeatedClient) (later : RepeatedClient). o.line < later.line) found one are.ascending (λ k d inside.
        let h = are.below row.entry.line before k d inside in omega arith);
    below = λ line all.
        let h = last_it (λ (r : Row). r.entry.line < line) done row all in
        All-push (λ (o : RepeatedClient). o.line < line) found one (are.below line (before_it (λ (r : Row). r.entry.line < line) done row all)) (omega arith);
  }
