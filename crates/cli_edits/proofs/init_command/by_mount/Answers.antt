-- One mount point more has its text.
use Rattle.std.proofs.Common.{◌≡◌, ◌∙◌, ◌-◌, ◌+◌, ◌<◌, ◌≤◌, ℕ, Bool, true, false, List, ◌∷◌, ap, ap₂, arith, drop, get_or, length, map, refl, sym, cond}
use Rattle.std.specs.Prelude.{unwrap_or}
use Rattle.std.specs.BTreeMap.{get_by_text}
use Rattle.std.specs.Str.{bytes_eq}
use Rattle.std.specs.String.{string_bytes}
use Rattle.std.proofs.lemmas.List.{at_drop_more}
use Rattle.desk_text.specs.Path.{path_text}
use Rattle.desk_tables.specs.declared.filesystems.Mount.{Mount}
use Rattle.desk_policy.specs.Site.{no_exports}
use Rattle.desk_policy.specs.declared.site.ExportsText.{ExportsText}
use Rattle.cli_edits.specs.InitCommand.{new_exports, part_of}
use Rattle.cli_edits.proofs.init_command.by_mount.Goals as goal

drop_back : {X : Type 0} (xs : List X) (n : ℕ) (x : X) → 0 < n → n ≤ length xs → x ≡ get_or xs (n - 1) x → x ∷ drop n xs ≡ drop (n - 1) xs
drop_back xs n x from to e =
    let next : n ≡ n - 1 + 1 = omega arith in
    ap (λ y. y ∷ drop n xs) e ∙ ap (λ k. get_or xs (n - 1) x ∷ drop k xs) next ∙ sym (at_drop_more (λ ys. ys) xs (n - 1) x (omega arith))

both : (b : Bool) (here there : List ℕ) → cond b (new_exports here) (new_exports there) ≡ new_exports (cond b here there)
both true here there = refl
both false here there = refl

pub loop-left-preserved : goal.loop-left-preserved
loop-left-preserved c =
    let mount = c.index-mounts-left.result in
    let part = c.index-parts-left.result in
    let mounts = drop_back c.args.mounts.now c.loop-left.left mount c.loop-left-test.true c.loop-left.invariant.0 c.index-mounts-left.is in
    let in_parts : c.loop-left.left ≤ length c.args.parts.now = omega (arith, c.loop-left.invariant.0, c.requires) in
    let parts = drop_back c.args.parts.now c.loop-left.left part c.loop-left-test.true in_parts c.index-parts-left.is in (
      omega (arith, c.loop-left.invariant.0),
      λ name.
          c.in_ok-put_part.ensures name
          ∙ ap₂ (λ (named text : List ℕ). cond (bytes_eq named name) (new_exports text) (unwrap_or (get_by_text c.loop-left.exports name) no_exports)) (c.text-mount.ensures.printed ∙ ap (λ (m : Mount). path_text m.path) (sym c.index-mounts-left.is)) c.as_str.ensures.value
          ∙ ap (λ (rest : ExportsText). cond (bytes_eq (path_text mount.path) name) (new_exports (string_bytes part)) rest) (c.loop-left.invariant.1 name)
          ∙ both (bytes_eq (path_text mount.path) name) (string_bytes part) (part_of (drop c.loop-left.left c.args.mounts.now) (map string_bytes (drop c.loop-left.left c.args.parts.now)) name)
          ∙ ap₂ (λ (ms : List Mount) (ps : List (List ℕ)). new_exports (part_of ms ps name)) mounts (ap (map string_bytes) parts),
    )
