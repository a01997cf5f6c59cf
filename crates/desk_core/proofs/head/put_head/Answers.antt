use Rattle.std.proofs.Common.{rules, ◌≡◌, ◌∙◌, ap, sym, subst, None}
use Rattle.std.proofs.lemmas.List.Quantifiers.{position-Some}
use Rattle.std.specs.Prelude.{position}
use Rattle.std.specs.Str.{bytes_eq}
use Rattle.desk_core.specs.Head.{StandOnce, newest_in}
use Rattle.desk_core.specs.declared.head.Head.{Head}
use Rattle.desk_core.proofs.HeadLemmas.{cons_once, cons_put, set_once, set_put}
use Rattle.desk_core.proofs.head.put_head.Goals as goal

pub returns-in-Some-clause-newest : goal.returns-in-Some-clause-newest
returns-in-Some-clause-newest c =
    let at = position-Some (λ (h : Head). bytes_eq h.file c.args.head.file) c.args.heads.now.items c.in-Some.place c.args.head (search rules) in
    set_put c.args.heads.now.items c.in-Some.place c.args.head c.args.head at.0 at.1 at.2

pub returns-in-None-clause-newest : goal.returns-in-None-clause-newest
returns-in-None-clause-newest c = ap newest_in c.add_head.ensures ∙ cons_put c.args.heads.now.items c.args.head

pub returns-in-Some-clause-once : goal.returns-in-Some-clause-once
returns-in-Some-clause-once c =
    set_once c.args.heads.now.items c.in-Some.place c.args.head
    (λ d. let at = position-Some (λ (h : Head). bytes_eq h.file c.args.head.file) c.args.heads.now.items c.in-Some.place d (search rules) in (at.0, at.1))

pub returns-in-None-clause-once : goal.returns-in-None-clause-once
returns-in-None-clause-once c = λ once.
    let none : position (λ (h : Head). bytes_eq h.file c.args.head.file) c.args.heads.now.items ≡ None = search rules in
    subst StandOnce (sym c.add_head.ensures) (cons_once c.args.heads.now.items c.args.head none once)
