-- Values that are read one after another.
use Rattle.std.proofs.Common.{◌≡◌, ℕ, Bool, true, false, cond, List, [], ◌∷◌, ◌++◌, map, filter, append-nil, Option, Some, None, refl, ap, sym, ◌∙◌, ◌+◌, ◌<◌, length, take, slice_index_or}
use Rattle.std.specs.Str.{bytes_eq}
use Rattle.std.proofs.lemmas.List.{map-append, take_more}
use Rattle.std.proofs.lemmas.List.Elements.{filter-append}
use Rattle.desk_text.specs.Bytes.{read_decimal}
use Rattle.desk_http_requests.specs.Parameters.{Parameter, each_read, pairs, put_first, values_of}
use Rattle.desk_http_requests.specs.PrivateParameters.{put_last}
use Rattle.desk_http_requests.specs.declared.parameters.Parameter.{Parameter as Lent}

put_first_none : {A : Type 0} (o : Option A) → put_first o (Some []) ≡ put_last (Some []) o
put_first_none None = refl
put_first_none (Some a) = refl

put_both : {A : Type 0} (first last : Option A) (between : Option (List A)) → put_first first (put_last between last) ≡ put_last (put_first first between) last
put_both None last between = refl
put_both (Some a) last None = refl
put_both (Some a) None (Some between) = refl
put_both (Some a) (Some b) (Some between) = refl

-- one value more
pub each_read_push : {A : Type 0} (read : List ℕ → Option A) (texts : List (List ℕ)) (text : List ℕ) → each_read read (texts ++ text ∷ []) ≡ put_last (each_read read texts) (read text)
each_read_push read [] text = put_first_none (read text)
each_read_push read (first ∷ texts) text =
    ap (put_first (read first)) (each_read_push read texts text) ∙ put_both (read first) (read text) (each_read read texts)

-- the values of a name among one parameter more
abbrev value_if : Bool → List ℕ → List (List ℕ)
value_if true value = value ∷ []
value_if false value = []

values_of_push : (name : List ℕ) (parameters : List Parameter) (p : Parameter) → values_of name (parameters ++ p ∷ []) ≡ values_of name parameters ++ value_if (bytes_eq p.0 name) p.1
values_of_push name parameters p =
    let test : Parameter → Bool = λ q. bytes_eq q.0 name in
    let value : Parameter → List ℕ = λ q. q.1 in
    ap (map value) (filter-append test parameters (p ∷ [])) ∙ map-append value (filter test parameters) (filter test (p ∷ [])) ∙ ap (λ l. values_of name parameters ++ l) (one (test p))
  where
    one : (b : Bool) → map (λ (q : Parameter). q.1) (cond b (p ∷ []) []) ≡ value_if b p.1
    one true = refl
    one false = refl

abbrev pub pair_of : Lent → Parameter
pair_of p = (p.name, p.value)

-- one parameter more: of the name, or of another
pub numbers_push_same : {A : Type 0} (read : List ℕ → Option A) (name : List ℕ) (parameters : List Lent) (p : Lent) → bytes_eq p.name name ≡ true → each_read read (values_of name (pairs (parameters ++ p ∷ []))) ≡ put_last (each_read read (values_of name (pairs parameters))) (read p.value)
numbers_push_same read name parameters p same =
    ap (λ ps. each_read read (values_of name ps)) (map-append pair_of parameters (p ∷ []))
    ∙ ap (each_read read) (values_of_push name (pairs parameters) (pair_of p) ∙ ap (λ b. values_of name (pairs parameters) ++ value_if b p.value) same)
    ∙ each_read_push read (values_of name (pairs parameters)) p.value

pub numbers_push_other : {A : Type 0} (read : List ℕ → Option A) (name : List ℕ) (parameters : List Lent) (p : Lent) → bytes_eq p.name name ≡ false → each_read read (values_of name (pairs (parameters ++ p ∷ []))) ≡ each_read read (values_of name (pairs parameters))
numbers_push_other read name parameters p other =
    ap (λ ps. each_read read (values_of name ps)) (map-append pair_of parameters (p ∷ []))
    ∙ ap (each_read read) (values_of_push name (pairs parameters) (pair_of p) ∙ ap (λ b. values_of name (pairs parameters) ++ value_if b p.value) other ∙ append-nil (values_of name (pairs parameters)))

-- the next parameter in a list, as a loop finds it
pub more_same : (most : ℕ) (name : List ℕ) (parameters : List Lent) (i : ℕ) (p : Lent) (before after : Option (List ℕ)) (text : List ℕ)
    → i < length parameters → p ≡ slice_index_or parameters i p → bytes_eq p.name name ≡ true → text ≡ p.value
    → before ≡ each_read (read_decimal most) (values_of name (pairs (take i parameters))) → after ≡ put_last before (read_decimal most text)
    → after ≡ each_read (read_decimal most) (values_of name (pairs (take (i + 1) parameters)))
more_same most name parameters i p before after text below is same value held more =
    let read = read_decimal most in
    more ∙ ap (λ o. put_last o (read text)) held ∙ ap (λ t. put_last (each_read read (values_of name (pairs (take i parameters)))) (read t)) value
    ∙ sym (numbers_push_same read name (take i parameters) p same)
    ∙ ap (λ ps. each_read read (values_of name (pairs ps))) (sym (take_more parameters i p below ∙ ap (λ q. take i parameters ++ q ∷ []) (sym is)))

pub more_other : (most : ℕ) (name : List ℕ) (parameters : List Lent) (i : ℕ) (p : Lent) (before after : Option (List ℕ))
    → i < length parameters → p ≡ slice_index_or parameters i p → bytes_eq p.name name ≡ false
    → before ≡ each_read (read_decimal most) (values_of name (pairs (take i parameters))) → after ≡ before
    → after ≡ each_read (read_decimal most) (values_of name (pairs (take (i + 1) parameters)))
more_other most name parameters i p before after below is other held same =
    let read = read_decimal most in
    same ∙ held ∙ sym (numbers_push_other read name (take i parameters) p other)
    ∙ ap (λ ps. each_read read (values_of name (pairs ps))) (sym (take_more parameters i p below ∙ ap (λ q. take i parameters ++ q ∷ []) (sym is)))
