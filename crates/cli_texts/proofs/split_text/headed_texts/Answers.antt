use Rattle.std.proofs.Common.{◌≡◌, ◌<◌, ◌++◌, ◌∙◌, ℕ, ◌+◌, List, [], ◌∷◌, drop, get_or, length, map, refl, sym, ap, append_assoc}
use Rattle.std.specs.String.{string_bytes}
use Rattle.std.proofs.lemmas.List.{append-nil, drop_all, drop_more, nil_from_length}
use Rattle.desk_tables.specs.declared.filesystems.Mount.{Mount}
use Rattle.cli_texts.specs.SplitText.{headed_text, headed_texts}
use Rattle.cli_texts.proofs.split_text.headed_texts.Goals as goal

-- one more mount point with its text
one_more : (table : List Mount) (i : ℕ) (mount : Mount) (rest others : List (List ℕ)) (text printed new all : List ℕ) → i < length table → mount ≡ get_or table i mount → rest ≡ text ∷ others
    → new ≡ printed ++ headed_text mount text → printed ++ headed_texts (drop i table) rest ≡ all → new ++ headed_texts (drop (i + 1) table) others ≡ all
one_more table i mount rest others text printed new all below is are written so_far =
    ap (λ t. t ++ headed_texts (drop (i + 1) table) others) written
    ∙ append_assoc printed (headed_text mount text) (headed_texts (drop (i + 1) table) others)
    ∙ ap (λ (m : Mount). printed ++ headed_texts (m ∷ drop (i + 1) table) (text ∷ others)) is
    ∙ ap (λ (ms : List Mount). printed ++ headed_texts ms (text ∷ others)) (sym (drop_more table i mount below))
    ∙ ap (λ ts. printed ++ headed_texts (drop i table) ts) (sym are)
    ∙ so_far

no_texts : (table : List Mount) → headed_texts table [] ≡ []
no_texts [] = refl
no_texts (mount ∷ table) = refl

pub loop-mount-preserved : goal.loop-mount-preserved
loop-mount-preserved c =
    one_more c.args.table.now c.loop-mount.mount-index c.mount-item.result (map string_bytes c.loop-mount.rest.now) (map string_bytes c.in-Some.others.now) (string_bytes c.in-Some.text.now)
    (string_bytes c.loop-mount.printed) (string_bytes c.push_headed.new.printed) (headed_texts c.args.table.now (map string_bytes c.args.texts.now))
    c.loop-mount-test.true c.mount-item.is (ap (map string_bytes) c.in-Some.ensures.cases.0)
    (c.in_ok-push_headed.ensures ∙ ap (λ t. string_bytes c.loop-mount.printed ++ headed_text c.mount-item.result t) c.as_str.ensures.value) c.loop-mount.invariant

pub returns-in_default : goal.returns-in_default
returns-in_default c =
    sym (append-nil (string_bytes c.loop-mount.printed))
    ∙ ap (λ t. string_bytes c.loop-mount.printed ++ t) (sym (no_texts (drop c.loop-mount.mount-index c.args.table.now)))
    ∙ ap (λ ts. string_bytes c.loop-mount.printed ++ headed_texts (drop c.loop-mount.mount-index c.args.table.now) (map string_bytes ts)) (sym (nil_from_length c.loop-mount.rest.now c.in_default.ensures.cases))
    ∙ c.loop-mount.invariant

pub returns : goal.returns
returns c =
    sym (append-nil (string_bytes c.loop-mount.printed))
    ∙ ap (λ ms. string_bytes c.loop-mount.printed ++ headed_texts ms (map string_bytes c.loop-mount.rest.now)) (sym (drop_all c.loop-mount.mount-index c.args.table.now c.loop-mount-test.false))
    ∙ c.loop-mount.invariant
