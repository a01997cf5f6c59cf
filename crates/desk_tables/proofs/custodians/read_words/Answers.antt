use Rattle.std.proofs.Common.{◌≡◌, ◌∙◌, ap, sym, true, false, length, List, ℕ, arith, Ok, Some}
use Rattle.std.specs.List.{list_any}
use Rattle.std.specs.Str.{bytes_eq}
use Rattle.std.specs.Option.{is_some, option_map}
use Rattle.std.specs.Result.{is_err, result_ok}
use Rattle.hex.specs.Hex.{decode_sized}
use Rattle.desk_tables.specs.Custodians as spec
use Rattle.desk_tables.proofs.CustodianLemmas.{listed_names, names, is_duplicate, is_bad_digest, is_custodian, first_word, second_word}
use Rattle.desk_tables.proofs.custodians.read_words.Goals as goal

pub returns-then-contains_key : goal.returns-then-contains_key
returns-then-contains_key c = λ before has.
    let words : List (List ℕ) = c.args.words.now in
    let two : length words ≡ 2 = omega arith in
    let name : c.name-item.result ≡ spec.name_word words = first_word words c.name-item.result two c.name-item.is in
    let good : spec.is_custodian_name (spec.name_word words) ≡ true = ap spec.is_custodian_name (sym name) ∙ ap spec.is_custodian_name (sym c.as_str.ensures) ∙ sym (c.if-not-is_name.ensures) in
    let listed : list_any (bytes_eq (spec.name_word words)) (names before) ≡ true =
    ap (λ n. list_any (bytes_eq n) (names before)) (sym (c.as_str-2.ensures ∙ name)) ∙ listed_names c.as_str-2.result.now before ∙ ap is_some (sym (has c.as_str-2.result.now)) ∙ sym c.if-contains_key.ensures in
    is_duplicate (names before) words two good listed

pub returns-in_default-from_hex : goal.returns-in_default-from_hex
returns-in_default-from_hex c = λ before has.
    let words : List (List ℕ) = c.args.words.now in
    let two : length words ≡ 2 = omega arith in
    let name : c.name-item.result ≡ spec.name_word words = first_word words c.name-item.result two c.name-item.is in
    let digits : c.digest-item.result ≡ spec.digest_word words = second_word words c.digest-item.result two c.digest-item.is in
    let good : spec.is_custodian_name (spec.name_word words) ≡ true = ap spec.is_custodian_name (sym name) ∙ ap spec.is_custodian_name (sym c.as_str.ensures) ∙ sym (c.if-not-is_name.ensures) in
    let listed : list_any (bytes_eq (spec.name_word words)) (names before) ≡ false =
    ap (λ n. list_any (bytes_eq n) (names before)) (sym (c.as_str-2.ensures ∙ name)) ∙ listed_names c.as_str-2.result.now before ∙ ap is_some (sym (has c.as_str-2.result.now)) ∙ sym c.if-contains_key.ensures in
    let decoded : c.from_hex.result ≡ decode_sized (spec.digest_word words) 32 = c.from_hex.ensures ∙ ap (λ t. decode_sized t 32) (c.as_str-3.ensures ∙ digits) in
    let wrong : is_err (decode_sized (spec.digest_word words) 32) ≡ true = ap is_err (sym decoded ∙ c.in_default-from_hex.is) in
    is_bad_digest (names before) words two good listed wrong

pub returns : goal.returns
returns c = λ before has.
    let words : List (List ℕ) = c.args.words.now in
    let two : length words ≡ 2 = omega arith in
    let name : c.name-item.result ≡ spec.name_word words = first_word words c.name-item.result two c.name-item.is in
    let digits : c.digest-item.result ≡ spec.digest_word words = second_word words c.digest-item.result two c.digest-item.is in
    let good : spec.is_custodian_name (spec.name_word words) ≡ true = ap spec.is_custodian_name (sym name) ∙ ap spec.is_custodian_name (sym c.as_str.ensures) ∙ sym (c.if-not-is_name.ensures) in
    let listed : list_any (bytes_eq (spec.name_word words)) (names before) ≡ false =
    ap (λ n. list_any (bytes_eq n) (names before)) (sym (c.as_str-2.ensures ∙ name)) ∙ listed_names c.as_str-2.result.now before ∙ ap is_some (sym (has c.as_str-2.result.now)) ∙ sym c.if-contains_key.ensures in
    let decoded : c.from_hex.result ≡ decode_sized (spec.digest_word words) 32 = c.from_hex.ensures ∙ ap (λ t. decode_sized t 32) (c.as_str-3.ensures ∙ digits) in
    let right : is_err (decode_sized (spec.digest_word words) 32) ≡ false = ap is_err (sym decoded ∙ c.in-Ok.is) in
    let bytes : result_ok (decode_sized (spec.digest_word words) 32) ≡ Some c.in-Ok.digest = ap result_ok (sym decoded ∙ c.in-Ok.is) in
    let copied : c.in_ok-name.name ≡ spec.name_word words = c.in_ok-name.ensures ∙ c.as_str-4.ensures ∙ name in
    is_custodian (names before) words two good listed right
    ∙ ap (λ digest. Ok (option_map (λ (d : List ℕ). record { name = spec.name_word words; digest = d }) digest)) bytes
    ∙ ap (λ n. Ok (Some (record { name = n; digest = c.in-Ok.digest }))) (sym copied)
