use Rattle.std.proofs.Common.{◌≡◌, ℕ, ◌+◌, ◌*◌, ◌∙◌, ap, arith, length, subst}
use Rattle.std.proofs.lemmas.List.{length_push}
use Rattle.desk_text.specs.Address.{number_of}
use Rattle.desk_text.specs.Network.{last_of}
use Rattle.page_data.specs.declared.class.Class.{Class}
use Rattle.page_maps.specs.Cells.{cell_first, cell_last, cell_size}
use Rattle.page_maps.specs.PrivateCells.{AreMet, TellClasses}
use Rattle.page_maps.proofs.Celling.{SoFar, are_cells, one_more_cell}
use Rattle.page_maps.proofs.Gridding.{cell_within}
use Rattle.page_maps.proofs.cells.cells_of.Goals as goal

pub loop-number-init : goal.loop-number-init
loop-number-init c = record {
  few = omega arith;
  count = ap length c.new-cells.ensures.items;
  each = λ class_at tell number default less. absurd (omega arith);
}

pub overflow_mul-first : goal.overflow_mul-first
overflow_mul-first c =
    let network = c.args.network in
    let number = c.loop-number.number in
    let within = cell_within network number c.requires c.loop-number-test.true in
    let product : number * c.size_of_cells-size.result ≡ number * cell_size network.prefix = ap (λ n. number * n) c.size_of_cells-size.ensures.size in
    omega (arith, c.size_of_cells-size.ensures.within)

pub overflow_add-first : goal.overflow_add-first
overflow_add-first c =
    let network = c.args.network in
    let number = c.loop-number.number in
    let within = cell_within network number c.requires c.loop-number-test.true in
    let product : number * c.size_of_cells-size.result ≡ number * cell_size network.prefix = ap (λ n. number * n) c.size_of_cells-size.ensures.size in
    omega (arith, c.size_of_cells-size.ensures.within, c.number-start.ensures, c.first.ensures.value)

pub overflow_add-last : goal.overflow_add-last
overflow_add-last c =
    let network = c.args.network in
    let number = c.loop-number.number in
    let within = cell_within network number c.requires c.loop-number-test.true in
    let product : number * c.size_of_cells-size.result ≡ number * cell_size network.prefix = ap (λ n. number * n) c.size_of_cells-size.ensures.size in
    omega (arith, c.size_of_cells-size.ensures.size, c.size_of_cells-size.ensures.within, c.number-start.ensures, c.first.ensures.value)

pub loop-number-preserved : goal.loop-number-preserved
loop-number-preserved c =
    let network = c.args.network in
    let number = c.loop-number.number in
    let cells = c.loop-number.cells.items in
    let pushed = c.in_ok-push.ensures.items in
    let product : number * c.size_of_cells-size.result ≡ number * cell_size network.prefix = ap (λ n. number * n) c.size_of_cells-size.ensures.size in
    let begins : number_of c.from_number.result ≡ cell_first network number = omega (arith, c.from_number.ensures, c.number-start.ensures, c.first.ensures.value) in
    let ends : number_of c.from_number-in-loop-number.result ≡ cell_last network number = omega (arith, c.from_number-in-loop-number.ensures, c.number-start.ensures, c.first.ensures.value, c.size_of_cells-size.ensures.size) in
    record {
      few = (let less = c.loop-number-test.true in omega arith);
      count = ap length pushed ∙ length_push cells c.cell_at.result ∙ ap (λ n. n + 1) c.loop-number.invariant.count;
      each = one_more_cell network c.requires c.meeting-own.result.now cells c.push.new.self.items c.cell_at.result number (number_of c.from_number.result) (number_of c.from_number-in-loop-number.result) c.loop-number-test.true
          c.loop-number.invariant.count pushed begins ends c.cell_at.ensures c.loop-number.invariant.each;
    }

pub returns : goal.returns
returns c =
    let network = c.args.network in
    let runs = c.args.runs.now in
    let own = c.meeting-own.result.now in
    let cells = c.loop-number.cells.items in
    let few = c.loop-number.invariant.few in
    let past = c.loop-number-test.false in
    let all : c.loop-number.number ≡ 256 = omega arith in
    are_cells network c.requires own runs cells (c.loop-number.invariant.count ∙ all) c.size_of_cells-size.ensures.within
    (subst (λ low. (class_at : ℕ → Class) → TellClasses class_at low (last_of network) runs → AreMet class_at low (last_of network) own) c.first-2.ensures.value
    (subst (λ high. (class_at : ℕ → Class) → TellClasses class_at (number_of c.first-2.result) high runs → AreMet class_at (number_of c.first-2.result) high own) c.last.ensures c.meeting-own.ensures))
    (subst (λ n. SoFar network own cells n) all c.loop-number.invariant.each)
