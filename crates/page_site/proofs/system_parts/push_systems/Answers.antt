use Rattle.std.proofs.Common.{◌≡◌, ◌++◌, ◌∙◌, List, [], ◌∷◌, ap, append_assoc, arith, map, refl, subst, sym}
use Rattle.std.specs.String.{string_bytes}
use Rattle.std.proofs.lemmas.List.{append-nil, length-append, length-map, map-append, nil_from_length}
use Rattle.page_data.specs.Systems.{SystemValue, system_value}
use Rattle.page_site.specs.SystemParts.{AreTextsFrom}
use Rattle.page_site.specs.Pieces.{Gains}
use Rattle.page_site.specs.PrivateSystemParts.{telling_value}
use Rattle.page_site.proofs.Parts.{gains_more, gains_none, listed, next_is}
use Rattle.page_site.proofs.system_parts.push_systems.Goals as goal

pub loop-system-init : goal.loop-system-init
loop-system-init g c = record {
  given = c.into_iter-system-iterator.ensures.into_iter_gives.0;
  so_far = refl;
  gains = gains_none (telling_value g.V.PolicyView.in_force c.args.telling.now) (string_bytes c.args.page.now);
}

pub push_system-requires-clause-system : goal.push_system-requires-clause-system
push_system-requires-clause-system g c =
    next_is (g.V.PolicyView.in_force c.args.telling.now.view.now) c.args.systems.items c.requires.systems c.loop-system.yielded _ c.next.new.self.rest.items c.in-Some.system c.loop-system.number
    c.in-Some.ensures.steps.0 c.loop-system.invariant.given c.loop-system.invariant.so_far

pub overflow_add-number : goal.overflow_add-number
overflow_add-number g c =
    let within = listed (g.V.PolicyView.in_force c.args.telling.now.view.now) c.args.systems.items c.requires.systems c.loop-system.yielded _ c.next.new.self.rest.items c.in-Some.system c.loop-system.number
    c.in-Some.ensures.steps.0 c.loop-system.invariant.given c.loop-system.invariant.so_far in
    omega (arith, c.requires.site.sound.few)

pub loop-system-preserved : goal.loop-system-preserved
loop-system-preserved g c =
    let telling = telling_value g.V.PolicyView.in_force c.args.telling.now in
    let done = c.loop-system.yielded in
    let system = c.in-Some.system in
    let old = string_bytes c.args.page.now in
    let new = string_bytes c.push_system.new.page in
    record {
      given = append_assoc done (system ∷ []) c.next.new.self.rest.items ∙ ap (λ some. done ++ some) (sym c.in-Some.ensures.steps.0) ∙ c.loop-system.invariant.given;
      so_far = (let long = length-append done (system ∷ []) in let n = c.loop-system.invariant.so_far in omega arith);
      gains = subst (λ (some : List SystemValue). Gains (AreTextsFrom telling 0 some) old new) (sym (map-append system_value done (system ∷ [])))
          (gains_more telling (map system_value done) (system_value system) c.loop-system.number old (string_bytes c.loop-system.page) new
          (c.loop-system.invariant.so_far ∙ sym (length-map done system_value)) c.loop-system.invariant.gains c.in_ok-push_system.ensures);
    }

pub returns : goal.returns
returns g c =
    let telling = telling_value g.V.PolicyView.in_force c.args.telling.now in
    let done = c.loop-system.yielded in
    let rest = c.loop-system.system-iterator.rest in
    let none : rest.items ≡ [] = nil_from_length rest.items (sym rest.ok.0 ∙ c.in-None.ensures.steps.0) in
    let all : done ≡ c.args.systems.items = sym (append-nil done) ∙ ap (λ some. done ++ some) (sym none) ∙ c.loop-system.invariant.given in
    subst (λ some. Gains (AreTextsFrom telling 0 (map system_value some)) (string_bytes c.args.page.now) (string_bytes c.loop-system.page)) all c.loop-system.invariant.gains
