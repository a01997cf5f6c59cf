use Rattle.std.proofs.Common.{◌∙◌, None, Some, ap, get_or, subst, sym}
use Rattle.std.specs.Prelude.{[], List, find, ℕ}
use Rattle.page_findings.specs.PrivateDeciding.{Ascend, is_line}
use Rattle.page_findings.specs.declared.deciding.NeverDecides.{NeverDecides}
use Rattle.page_findings.proofs.Ordered.{by_value, deciding_is}
use Rattle.page_findings.proofs.deciding.Deciding.of_line.Goals as goal

pub line_among-requires : goal.line_among-requires
line_among-requires c = subst Ascend (sym c.as_slice.ensures) (by_value c.args.self.now.lists c.args.self.now.lines c.requires)

pub returns-in-Some : goal.returns-in-Some
returns-in-Some c =
    let lists = c.args.self.now.lists in
    let lines = c.args.self.now.lines in
    let line = c.args.line in
    let one = c.in-Some.one in
    c.lend_list.ensures ∙ ap (λ (some : List (List ℕ)). get_or some one.list []) c.as_slice-in-Some.ensures
    ∙ sym (deciding_is lists line lines (Some one) (c.in-Some.ensures ∙ ap (λ (some : List NeverDecides). find (is_line line) some) c.as_slice.ensures))

pub returns-in-None : goal.returns-in-None
returns-in-None c =
    let lists = c.args.self.now.lists in
    let lines = c.args.self.now.lines in
    let line = c.args.line in
    sym (deciding_is lists line lines None (c.in-None.ensures ∙ ap (λ (some : List NeverDecides). find (is_line line) some) c.as_slice.ensures))
