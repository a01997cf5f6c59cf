use Rattle.std.proofs.Common.{◌≡◌, ◌∙◌, ◌++◌, ◌==◌, ◌∷◌, [], List, ℕ, Some, None, ap, sym, append_assoc, rules}
use Rattle.std.specs.List.{slice_split}
use Rattle.std.specs.Option.{option_copied}
use Rattle.desk_exports.specs.Grammar.{last_wants, setting, settings_of}
use Rattle.desk_exports.specs.declared.options.Setting.{Setting}
use Rattle.desk_exports.proofs.PieceLemmas.{cut_first, some_piece}
use Rattle.desk_exports.proofs.WordLemmas.{last_wants-more, settings_of-more}
use Rattle.desk_exports.proofs.grammar.push_pieces.Goals as goal

pub loop-piece-preserved : goal.loop-piece-preserved
loop-piece-preserved c =
    let offer = option_copied c.args.offer in
    let so_far : List Setting = c.loop-piece.settings in
    let piece : List ℕ = c.in-Some.piece.now in
    let behind : List (List ℕ) = slice_split (λ b. b == 44) c.in-Some.behind.now in
    let cut : slice_split (λ b. b == 44) c.loop-piece.rest.now ≡ piece ∷ behind = cut_first c.loop-piece.rest.now (Some (c.in-Some.piece, c.in-Some.behind)) c.in-Some.ensures.cases in
    let some = some_piece (λ b. b == 44) c.in-Some.behind.now in
    record {
      text = search rules;
      settings =
          ap (λ settings. settings ++ settings_of offer behind) (c.in_ok-push.ensures ∙ ap (λ (one : Setting). so_far ++ one ∷ []) c.in_ok-read.ensures)
          ∙ append_assoc so_far (setting None piece ∷ []) (settings_of offer behind)
          ∙ ap (λ more. so_far ++ more) (sym (ap (settings_of offer) cut ∙ settings_of-more offer piece behind some))
          ∙ c.loop-piece.invariant.settings;
      wants = sym (ap last_wants cut ∙ last_wants-more piece behind some) ∙ c.loop-piece.invariant.wants;
    }

pub returns-clause-settings : goal.returns-clause-settings
returns-clause-settings c =
    let offer = option_copied c.args.offer in
    let so_far : List Setting = c.loop-piece.settings in
    c.in_ok-push-2.ensures
    ∙ ap (λ (one : Setting). so_far ++ one ∷ []) c.in_ok-last.ensures.setting
    ∙ ap (λ pieces. so_far ++ settings_of offer pieces) (sym (cut_first c.loop-piece.rest.now None c.in_default.ensures.cases))
    ∙ c.loop-piece.invariant.settings

pub returns-clause-wants : goal.returns-clause-wants
returns-clause-wants c =
    c.in_ok-last.ensures.wants
    ∙ ap last_wants (sym (cut_first c.loop-piece.rest.now None c.in_default.ensures.cases))
    ∙ c.loop-piece.invariant.wants
