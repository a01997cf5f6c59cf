use Rattle.std.proofs.Common.{◌≡◌, ◌∙◌, ◌∷◌, [], ◌++◌, length, ap, sym, subst}
use Rattle.std.specs.String.{string_bytes}
use Rattle.std.proofs.lemmas.Str.{IsUtf8-string_bytes}
use Rattle.desk_exports.specs.PrivateNames.{AreEnds, pieces_from}
use Rattle.desk_exports.proofs.NamePieces.{ends_more, pieces_more}
use Rattle.desk_exports.proofs.names.Joined.push.Goals as goal

pub returns-clause-pieces : goal.returns-clause-pieces
returns-clause-pieces c =
    let old = c.args.self.now in
    let text = string_bytes old.text ++ c.args.name.now in
    let is : string_bytes c.push_str.new.self ≡ text = c.in_ok-push_str.ensures.bytes in
    let end : c.len.result ≡ length text = c.len.ensures ∙ c.push_str.new.self.bytes.ok.0 ∙ ap length is in
    ap (λ bs. pieces_from 0 bs c.push.new.self.items) is
    ∙ ap (pieces_from 0 text) (c.in_ok-push.ensures.items ∙ ap (λ k. old.ends.items ++ k ∷ []) end)
    ∙ pieces_more 0 (string_bytes old.text) old.ends.items c.args.name.now c.requires

pub returns-clause-cut : goal.returns-clause-cut
returns-clause-cut c =
    let old = c.args.self.now in
    let text = string_bytes old.text ++ c.args.name.now in
    let is : string_bytes c.push_str.new.self ≡ text = c.in_ok-push_str.ensures.bytes in
    let end : c.len.result ≡ length text = c.len.ensures ∙ c.push_str.new.self.bytes.ok.0 ∙ ap length is in
    let ends : c.push.new.self.items ≡ old.ends.items ++ length text ∷ [] = c.in_ok-push.ensures.items ∙ ap (λ k. old.ends.items ++ k ∷ []) end in
    subst (λ bs. AreEnds 0 bs c.push.new.self.items) (sym is)
    (subst (AreEnds 0 text) (sym ends) (ends_more 0 (string_bytes old.text) old.ends.items c.args.name.now (IsUtf8-string_bytes old.text) c.utf8.name c.requires))
