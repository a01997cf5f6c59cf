-- Texts of networks.
use Rattle.std.proofs.Common.{◌≡◌, inl, inr, ℕ, Bool, false, eqb, List, [], ◌∷◌, length, None, Ok, refl, arith}
use Rattle.std.specs.List.{list_any, position_or_len}
use Rattle.std.proofs.lemmas.Bool.{cases_Bool, cond-false}
use Rattle.std.proofs.lemmas.Bool.Decides.{nat_tests}
use Rattle.desk_text.specs.Address.{read_short}
use Rattle.desk_text.specs.Network.{read_net_text, with_addr}

-- where the first element that passes stands behind the list, there is none
none_passes : (p : ℕ → Bool) (xs : List ℕ) → position_or_len p xs ≡ length xs → list_any p xs ≡ false
none_passes p [] e = refl
none_passes p (x ∷ xs) e =
    let rest = none_passes p xs in
    elim (cases_Bool (p x)) [
      | inl passes ↦ grind (arith, nat_tests)
      | inr fails ↦ grind (arith, nat_tests)
    ]

-- without a `/` the whole text is an address
pub no_prefix : (text : List ℕ) → position_or_len (λ b. eqb b 47) text ≡ length text → read_net_text text ≡ with_addr (read_short text) (λ addr. Ok (record { addr = addr; prefix = None }))
no_prefix text none = cond-false _ _ _ (none_passes (λ b. eqb b 47) text none)
