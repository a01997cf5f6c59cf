-- The verdict, and the server's, change only where a line of the file system begins or ceases to match: so the first client to whom
-- the server grants more is found there.
use Rattle.std.proofs.Common.{◌≡◌, ◌∙◌, ◌+◌, ℕ, zero, suc, ◌<◌, ◌≤◌, ◌^◌, ◌||◌, true, false, eqb, List, [], ◌∷◌, Option, Some, None, ap, arith, get_or, inl, inr, length, refl, sym}
use Rattle.std.specs.Prelude.{Err, IfOk, Ok, Result}
use Rattle.std.specs.declared.alloc.AllocError.{AllocError}
use Rattle.std.proofs.lemmas.Bool.{cases_Bool, cases_lt, eqb-true, or_cases, true≢false}
use Rattle.std.proofs.lemmas.List.Kept.{AllPairs-from_increasing}
use Rattle.desk_text.specs.Address.{number_of}
use Rattle.desk_text.specs.AddrSet.{is_among}
use Rattle.desk_text.specs.declared.addr_set.AddrSet.{AddrSet}
use Rattle.desk_tables.specs.FileSystems.{fs_of}
use Rattle.desk_policy.specs.Policy.{Content, rows_of}
use Rattle.desk_policy.specs.Verdict.{lists, verdict_in, verdict_of}
use Rattle.desk_who.specs.Runs.{AreStartsOf}
use Rattle.desk_who.specs.Starts.{AreStarts}
use Rattle.desk_who.proofs.Asked.{own_steady}
use Rattle.desk_who.proofs.Steady.{all_same}
use Rattle.desk_server.specs.Server.{server_verdict_in, server_verdict_of}
use Rattle.desk_server.proofs.Asked.{server_steady}
use Rattle.desk_server_prints.specs.Listing.{AreVerdictStarts, IsFirstOrNone, wider_at}
use Rattle.desk_server_prints.specs.PrivateListing.{IsFirstOf}
use Rattle.desk_server_prints.specs.GrantingLine.{wider_line}
use Rattle.desk_server_prints.specs.declared.listing.WiderClient.{WiderClient}

-- ---- where verdicts change

module _ (content : Content) (path : List (List ℕ)) where
  steady_here : (fs : ℕ) (starts : List ℕ) → fs_of content.table path ≡ Some fs → AreStarts (rows_of content fs) starts → AreVerdictStarts content path starts
  unfolding verdict_of server_verdict_of
  steady_here fs starts home are = record {
    own = record {
      ascend = are.ascend;
      behind = are.behind;
      steady = λ address fits none.
          ap (verdict_in content (address + 1) path) home
          ∙ own_steady (record { 0 = fs }) (lists content fs path) (rows_of content fs) address (address + 1) (all_same address (address + 1) starts (rows_of content fs) refl fits none are.steady)
          ∙ sym (ap (verdict_in content address path) home);
    };
    server = record {
      ascend = are.ascend;
      behind = are.behind;
      steady = λ address fits none.
          ap (server_verdict_in content (address + 1) path) home
          ∙ server_steady address (address + 1) (record { 0 = fs }) (lists content fs path) (rows_of content fs) (all_same address (address + 1) starts (rows_of content fs) refl fits none are.steady)
          ∙ sym (ap (server_verdict_in content address path) home);
    };
  }

  pub nowhere : fs_of content.table path ≡ None → AreVerdictStarts content path []
  unfolding verdict_of server_verdict_of
  nowhere home = record {
    own = record {
      ascend = λ k lt. absurd (omega arith);
      behind = refl;
      steady = λ address fits none. ap (verdict_in content (address + 1) path) home ∙ sym (ap (verdict_in content address path) home);
    };
    server = record {
      ascend = λ k lt. absurd (omega arith);
      behind = refl;
      steady = λ address fits none. ap (server_verdict_in content (address + 1) path) home ∙ sym (ap (server_verdict_in content address path) home);
    };
  }

  pub here : (fs : ℕ) (starts : Result AddrSet AllocError) → fs_of content.table path ≡ Some fs → IfOk starts (AreStarts (rows_of content fs)) → IfOk starts (AreVerdictStarts content path)
  here fs (Ok starts) home are = steady_here fs starts home are
  here fs (Err error) home are = are

  pub wider_starts : (starts : List ℕ) → AreVerdictStarts content path starts → AreStartsOf (wider_at content path) starts
  wider_starts starts are = record {
    ascend = are.own.ascend;
    behind = are.own.behind;
    steady = λ address fits none.
        ap (λ own. wider_line own (server_verdict_of content (address + 1) path)) (are.own.steady address fits none)
        ∙ ap (wider_line (verdict_of content address path)) (are.server.steady address fits none);
  }

-- ---- the first of all

place_of : (xs : List ℕ) (number : ℕ) → is_among number xs ≡ true → (place : ℕ) × (place < length xs) × (get_or xs place 0 ≡ number)
place_of [] number e = absurd (true≢false (sym e))
place_of (x ∷ xs) number e =
    elim (or_cases (eqb x number) (is_among number xs) e) [
      | inl here ↦ (0, omega arith, eqb-true x number here)
      | inr later ↦ let rest = place_of xs number later in (suc rest.0, (let b = rest.1 in omega arith), rest.2)
    ]

module _ (line_at : ℕ → Option ℕ) (starts : List ℕ) (are : AreStartsOf line_at starts) (first : line_at 0 ≡ None) where
  -- up to an edge before which there is a line at no start, there is none
  none_below : (edge : ℕ) → edge ≤ 2 ^ 32 → ((place : ℕ) → place < length starts → get_or starts place 0 < edge → line_at (get_or starts place 0) ≡ None)
      → (address : ℕ) → address < edge → line_at address ≡ None
  none_below edge fits none zero below = first
  none_below edge fits none (suc address) below =
      let next : suc address ≡ address + 1 = omega arith in
      ap line_at next ∙ elim (cases_Bool (is_among (address + 1) starts)) [
        | inl start ↦
            let p = place_of starts (address + 1) start in
            let is = p.2 in
            sym (ap line_at is) ∙ none p.0 p.1 (omega arith)
        | inr between ↦ are.steady address (omega arith) between ∙ none_below edge fits none address (omega arith)
      ]

  rising : (place other : ℕ) → other < length starts → place < length starts → other ≤ place → get_or starts other 0 ≤ get_or starts place 0
  rising place other there within behind = elim (cases_lt other place) [
    | inl before ↦ (let less = AllPairs-from_increasing starts are.ascend other place 0 before within in omega arith)
    | inr same ↦ (let e : other ≡ place = omega arith in let g = ap (λ (n : ℕ). get_or starts n 0) e in omega arith)
  ]

  pub first_of_all : (found : Option WiderClient) → IsFirstOf line_at starts found → IsFirstOrNone line_at found
  first_of_all None none = none_below (2 ^ 32) (omega arith) (λ place within small. none place within)
  first_of_all (Some client) is = record {
    here = is.here;
    least = none_below (number_of client.address) (let fits = is.fits in omega arith) (λ place within small. elim (cases_lt place is.place) [
      | inl before ↦ is.earlier place before
      | inr behind ↦ absurd (let address = is.address in let up = rising place is.place is.within within behind in omega arith)
    ]);
  }
