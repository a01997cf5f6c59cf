use Rattle.std.proofs.Common.{◌∙◌, List, ℕ, Option, Some, None, ap, sym, length}
use Rattle.std.specs.Prelude.{if◌then◌else◌}
use Rattle.std.specs.List.{position}
use Rattle.std.specs.Option.{option_or}
use Rattle.std.specs.BTreeMap.{get_by_text}
use Rattle.std.specs.Str.{bytes_eq}
use Rattle.desk_netgroup.specs.declared.group_line.GroupLine.{GroupLine}
use Rattle.desk_netgroup.proofs.Places.{place_push}
use Rattle.desk_netgroup.proofs.netgroups.Netgroups.with_group.Goals as goal

pub invariant_of-result : goal.invariant_of-result
invariant_of-result c = λ q.
    let lines : List GroupLine = c.self.inside.lines in
    let group : GroupLine = c.args.group in
    c.in_ok-add_first.ensures q
    ∙ ap (λ (ls : List GroupLine). option_or (get_by_text c.self.inside.index q) (if bytes_eq q c.as_str.result.now then Some (length ls) else None)) c.as_slice-place.ensures
    ∙ ap (λ (name : List ℕ). option_or (get_by_text c.self.inside.index q) (if bytes_eq q name then Some (length lines) else None)) c.as_str.ensures
    ∙ ap (λ (o : Option ℕ). option_or o (if bytes_eq q group.name then Some (length lines) else None)) (c.self.invariant q)
    ∙ sym (place_push (λ (line : GroupLine). bytes_eq q line.name) lines group)
    ∙ ap (λ (ls : List GroupLine). position (λ (line : GroupLine). bytes_eq q line.name) ls) (sym c.in_ok-push.ensures.added)
