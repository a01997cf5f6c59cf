-- What the server does otherwise, of one line of those that are found.
use Rattle.std.proofs.Common.{◌≡◌, ℕ, ◌<◌, ◌∙◌, true, false, cond, List, [], ◌∷◌, Option, None, Some, ap, find, get_or, inl, inr, refl, subst, sym}
use Rattle.std.specs.Prelude.{◌==◌, ◌||◌, All, Contains}
use Rattle.std.specs.List.{list_any}
use Rattle.std.proofs.lemmas.Bool.{cases_Bool, eqb-true, true≢false}
use Rattle.std.proofs.lemmas.List.Elements.{All-head, All-tail, Contains-get_or}
use Rattle.std.proofs.lemmas.Option.{same_Some}
use Rattle.desk_idle.specs.Laws.{WriteDirectories}
use Rattle.desk_policy.specs.Policy.{Content, rows_of}
use Rattle.desk_policy.specs.declared.row.Row.{Row}
use Rattle.desk_tables.specs.FileSystems.{fs_of}
use Rattle.desk_server.specs.RepeatedClients.{IsRepeatedClient}
use Rattle.desk_server.specs.WiderGrants.{IsWiderGrant}
use Rattle.desk_server.specs.declared.repeated_client.RepeatedClient.{RepeatedClient}
use Rattle.desk_server.specs.declared.wider_grant.WiderGrant.{WiderGrant}
use Rattle.page_data.specs.Laws.{IsSound}
use Rattle.page_data.specs.PrivateServer.{reasons_in}
use Rattle.page_data.specs.Server.{AreServerFindings, AreServerReasons, IsRepeatedOf, IsWiderOf}
use Rattle.page_data.specs.declared.server.ServerFindings.{ServerFindings}
use Rattle.page_data.proofs.Selecting.{all_of_flat}

-- lines of a sound policy write directories of their own file system
pub write_directories : (content : Content) (fs : ℕ) → IsSound content fs → WriteDirectories content fs
write_directories content fs sound = λ k d within.
    let rows = rows_of content fs in
    let row = get_or rows k d in
    record {
      own = λ i e inside. all_of_flat (λ (path : List (List ℕ)). fs_of content.table path ≡ Some fs) (λ (one : Row). one.entry.dirs) rows row (sound.own fs) (Contains-get_or rows k d within) (get_or row.entry.dirs i e) (Contains-get_or row.entry.dirs i e inside);
      some = sound.directories k d within;
    }

-- ---- one of some findings, by its line
module _ {X : Type 0} (line_of : X → ℕ) where
  -- what is found has the line, and is one of them
  pub record IsFound (P : X → Type 0) (line : ℕ) (one : X) : Type 0 where
    pub number : line_of one ≡ line
    pub is : P one

  pub one_found : (P : X → Type 0) (xs : List X) → All P xs → (line : ℕ) (one : X) → find (λ x. line_of x == line) xs ≡ Some one → IsFound P line one
  one_found P [] all line one e = absurd (let wrong : None ≡ Some one = e in cc)
  one_found P (x ∷ xs) all line one e =
      elim (cases_Bool (line_of x == line)) as (λ _. IsFound P line one) [
        | inl is ↦
            let same : x ≡ one = same_Some x one (sym (ap (λ b. cond b (Some x) (find (λ (y : X). line_of y == line) xs)) is) ∙ e) in
            record { number = ap line_of (sym same) ∙ eqb-true (line_of x) line is; is = subst P same (All-head P x xs all) }
        | inr apart ↦ one_found P xs (All-tail P x xs all) line one (sym (ap (λ b. cond b (Some x) (find (λ (y : X). line_of y == line) xs)) apart) ∙ e)
      ]

  pub none_has : (xs : List X) (line : ℕ) → find (λ x. line_of x == line) xs ≡ None → list_any (λ x. line_of x == line) xs ≡ false
  none_has [] line e = refl
  none_has (x ∷ xs) line e =
      elim (cases_Bool (line_of x == line)) as (λ _. list_any (λ (y : X). line_of y == line) (x ∷ xs) ≡ false) [
        | inl is ↦ absurd (let wrong : Some x ≡ None = sym (ap (λ b. cond b (Some x) (find (λ (y : X). line_of y == line) xs)) is) ∙ e in cc)
        | inr apart ↦
            ap (λ b. b || list_any (λ (y : X). line_of y == line) xs) apart
            ∙ none_has xs line (sym (ap (λ b. cond b (Some x) (find (λ (y : X). line_of y == line) xs)) apart) ∙ e)
      ]

abbrev pub wider_line : WiderGrant → ℕ
wider_line one = one.line

abbrev pub repeated_line : RepeatedClient → ℕ
repeated_line one = one.line

module _ (content : Content) (fs : ℕ) (found : ServerFindings) (are : AreServerFindings content fs found) (row : Row) (has : Contains (rows_of content fs) row) where
  wider : (one : Option WiderGrant) → find (λ x. wider_line x == row.entry.line) found.wider ≡ one → IsWiderOf content fs row.entry.line one
  wider None e = λ address at. true≢false (sym (are.wider.all row.entry.line address at) ∙ none_has wider_line found.wider row.entry.line e)
  wider (Some one) e =
      let is = one_found wider_line (IsWiderGrant content fs) found.wider are.wider.each row.entry.line one e in
      (is.number, is.is)

  repeated : (one : Option RepeatedClient) → find (λ x. repeated_line x == row.entry.line) found.repeated ≡ one → IsRepeatedOf (rows_of content fs) row one
  repeated None e = λ other client shares. true≢false (sym (are.repeated.all row other client has shares) ∙ none_has repeated_line found.repeated row.entry.line e)
  repeated (Some one) e =
      let is = one_found repeated_line (IsRepeatedClient (rows_of content fs)) found.repeated are.repeated.each row.entry.line one e in
      (is.number, is.is)

  -- what is found of a line are its reasons
  pub served : AreServerReasons content fs row (reasons_in found row.entry.line)
  served = record {
    wider = find (λ x. wider_line x == row.entry.line) found.wider;
    is_wider = wider (find (λ x. wider_line x == row.entry.line) found.wider) refl;
    repeated = find (λ x. repeated_line x == row.entry.line) found.repeated;
    is_repeated = repeated (find (λ x. repeated_line x == row.entry.line) found.repeated) refl;
    are = refl;
  }
