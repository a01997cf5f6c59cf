-- Two functions of addresses with the same maps, and the same cells on each of them, are the same: between two neighbouring seams of
-- either lies a whole cell of a map, and both have one value there.
use Rattle.std.proofs.Common.{◌≡◌, ◌⊎◌, ℕ, zero, suc, ◌+◌, ◌-◌, ◌*◌, ◌/◌, ◌%◌, ◌<◌, ◌≤◌, ◌^◌, ◌∙◌, List, ap, arith, inl, inr, refl, subst, sym}
use Rattle.std.specs.Prelude.{Contains}
use Rattle.std.proofs.Math.Nat.{add-mul, lt_of_mul-lt-mul_right, mul-le-mul_right, mul_assoc}
use Rattle.std.proofs.lemmas.Bool.{cases_eq, cases_lt}
use Rattle.std.proofs.lemmas.Nat.{pow-add, pow_pos}
use Rattle.desk_text.specs.Network.{Block, block_of}
use Rattle.page_data.specs.Class.{rank_of}
use Rattle.page_data.specs.declared.class.Class.{Class}
use Rattle.page_data.specs.declared.class.Class.TheVariants.{Denied, ReadOnly, ReadWrite, RootKept}
use Rattle.page_maps.specs.Cells.{cell_first, cell_last, cell_size}
use Rattle.page_maps.specs.Laws.{HaveSameCells, MapsAreExactTogether}
use Rattle.page_maps.specs.Maps.{AreMaps, IsSeam, map_at, map_prefix}
use Rattle.page_maps.specs.declared.cells.Cell.{Cell}
use Rattle.page_maps.proofs.Grids.{IsAtCell, begins_cell, is_within, map_grid, map_wide, whole_cells}

-- ---- classes of one rank are the same
class_at_rank : ℕ → Class
class_at_rank n = elim n [ zero ↦ Denied | suc a ↦ elim a [ zero ↦ ReadOnly | suc b ↦ elim b [ zero ↦ ReadWrite | suc c ↦ RootKept ] ] ]

back : (class : Class) → class_at_rank (rank_of class) ≡ class
unfolding class_at_rank
back Denied = refl
back ReadOnly = refl
back ReadWrite = refl
back RootKept = refl

same_rank : (class other : Class) → rank_of class ≡ rank_of other → class ≡ other
same_rank class other same = sym (back class) ∙ ap class_at_rank same ∙ back other

-- ---- multiples of the sizes of cells
scaled : (low high : ℕ) → low ≤ high → high ≤ 24 → cell_size low ≡ 2 ^ (high - low) * cell_size high
scaled low high le few =
    let bits : (high - low) + (24 - high) ≡ 24 - low = omega arith in
    sym (ap (λ n. 2 ^ n) bits) ∙ pow-add 2 (high - low) (24 - high)

step : (i j size : ℕ) → i * size < j * size → i * size + size ≤ j * size
step i j size less =
    let below : i < j = lt_of_mul-lt-mul_right size less in
    let up : (i + 1) * size ≤ j * size = mul-le-mul_right size (omega arith) in
    let one = add-mul i 1 size in
    omega arith

fits_after : (a t i j size : ℕ) → a ≡ i * size → t ≡ j * size → a < t → a + size ≤ t
fits_after a t i j size is is' less = (let up = step i j size (omega arith) in omega arith)

-- of two multiples of the sizes of cells the greater one is behind the first by the less size
fits_between : (a t i j p q : ℕ) → p ≤ 24 → q ≤ 24 → a ≡ i * cell_size p → t ≡ j * cell_size q → a < t → (a + cell_size p ≤ t) ⊎ (a + cell_size q ≤ t)
fits_between a t i j p q few few' is is' less =
    elim (cases_lt p q) as (λ _. (a + cell_size p ≤ t) ⊎ (a + cell_size q ≤ t)) [
      | inl below ↦ inr (fits_after a t (i * 2 ^ (q - p)) j (cell_size q) (is ∙ ap (λ n. i * n) (scaled p q (omega arith) few') ∙ sym (mul_assoc i (2 ^ (q - p)) (cell_size q))) is' less)
      | inr le ↦ inl (fits_after a t i (j * 2 ^ (p - q)) (cell_size p) is (is' ∙ ap (λ n. j * n) (scaled q p le few) ∙ sym (mul_assoc j (2 ^ (p - q)) (cell_size p))) less)
    ]

-- ---- the cell that ends before an address
record EndsCell (network : Block) (address : ℕ) : Type 0 where
  number : ℕ
  few : number < 256
  first : cell_first network number + cell_size network.prefix ≡ address

one_less : (first number size address : ℕ) → first + suc number * size ≡ address → first + number * size + size ≡ address
one_less first number size address is =
    let next : suc number ≡ number + 1 = omega arith in
    let parts : suc number * size ≡ number * size + 1 * size = ap (λ n. n * size) next ∙ add-mul number 1 size in
    omega arith

none_behind : (first size address : ℕ) → first < address → first + zero * size ≡ address → ⊥
none_behind first size address behind is = omega arith

ends_cell : (network : Block) (number address : ℕ) → network.first < address → IsAtCell network number address → EndsCell network address
ends_cell network zero address behind at = absurd (none_behind network.first (cell_size network.prefix) address behind at.begins)
ends_cell network (suc number) address behind at = record {
  number = number;
  few = (let less = at.few in omega arith);
  first = one_less network.first number (cell_size network.prefix) address at.begins;
}

last_before : (begin size end : ℕ) → 0 < size → begin + size ≤ end → begin + (size - 1) < end
last_before begin size end some up = omega arith

-- a cell of a map that begins at an address or later, and ends before another one
record IsBetween (maps : List Block) (begin end : ℕ) : Type 0 where
  network : Block
  listed : Contains maps network
  number : ℕ
  few : number < 256
  from : begin ≤ cell_first network number
  to : cell_last network number < end

-- it begins at the first of them
from_begin : (maps : List Block) (begin end prefix : ℕ) → prefix ≤ 24 → begin % cell_size prefix ≡ 0 → Contains maps (block_of begin prefix) → begin + cell_size prefix ≤ end → IsBetween maps begin end
from_begin maps begin end prefix few grid listed up =
    let cell = begins_cell begin prefix few grid in
    record {
      network = block_of begin prefix;
      listed = listed;
      number = begin / cell_size prefix % 256;
      few = cell.few;
      from = subst (λ n. begin ≤ n) (sym cell.begins) (omega arith);
      to = subst (λ n. n + (cell_size prefix - 1) < end) (sym cell.begins) (last_before begin (cell_size prefix) end (pow_pos (24 - prefix)) up);
    }

at_last : (first size end : ℕ) → 0 < size → first + size ≡ end → first + (size - 1) < end
at_last first size end some is = omega arith

not_before : (begin first size end : ℕ) → begin + size ≤ end → first + size ≡ end → begin ≤ first
not_before begin first size end up is = omega arith

-- it ends before the other one
to_end : (maps : List Block) (begin end prefix : ℕ) → prefix ≤ 24 → end % cell_size prefix ≡ 0 → Contains maps (block_of end prefix) → (block_of end prefix).first < end → begin + cell_size prefix ≤ end
    → IsBetween maps begin end
to_end maps begin end prefix few grid listed behind up =
    let cell = ends_cell (block_of end prefix) (end / cell_size prefix % 256) end behind (begins_cell end prefix few grid) in
    record {
      network = block_of end prefix;
      listed = listed;
      number = cell.number;
      few = cell.few;
      from = not_before begin (cell_first (block_of end prefix) cell.number) (cell_size prefix) end up cell.first;
      to = at_last (cell_first (block_of end prefix) cell.number) (cell_size prefix) end (pow_pos (24 - prefix)) cell.first;
    }

all_multiple : (prefix : ℕ) → prefix ≤ 24 → 2 ^ 32 ≡ 2 ^ (8 + prefix) * cell_size prefix
all_multiple prefix few =
    let bits : (8 + prefix) + (24 - prefix) ≡ 32 = omega arith in
    sym (ap (λ n. 2 ^ n) bits) ∙ pow-add 2 (8 + prefix) (24 - prefix)

module _ (class_at other_at : ℕ → Class) (maps : List Block) (are : AreMaps class_at maps) (are' : AreMaps other_at maps) (same : (network : Block) → Contains maps network → HaveSameCells class_at other_at network) where
  -- ---- seams of either function
  abbrev Changes : ℕ → Type 0
  Changes address = IsSeam class_at address ⊎ IsSeam other_at address

  abbrev Alike : ℕ → ℕ → Type 0
  Alike address other = (class_at other ≡ class_at address) × (other_at other ≡ other_at address)

  alike_through : (a b c : ℕ) → Alike a b → Alike b c → Alike a c
  alike_through a b c first second = (second.0 ∙ first.0, second.1 ∙ first.1)

  alike_if : (a b : ℕ) → b ≡ a → Alike a b
  alike_if a b e = (ap class_at e, ap other_at e)

  decide : (address : ℕ) → address + 1 < 2 ^ 32 → Alike address (address + 1) ⊎ Changes (address + 1)
  decide address fits =
      let before : address + 1 - 1 ≡ address = omega arith in
      elim (cases_eq (rank_of (class_at (address + 1))) (rank_of (class_at address))) as (λ _. Alike address (address + 1) ⊎ Changes (address + 1)) [
        | inl e ↦
            elim (cases_eq (rank_of (other_at (address + 1))) (rank_of (other_at address))) as (λ _. Alike address (address + 1) ⊎ Changes (address + 1)) [
              | inl e' ↦ inl (same_rank (class_at (address + 1)) (class_at address) e, same_rank (other_at (address + 1)) (other_at address) e')
              | inr ne ↦ inr (inr (record { behind = omega arith; address = fits; changes = λ is. ne (ap rank_of (is ∙ ap other_at before)) }))
            ]
        | inr ne ↦ inr (inl (record { behind = omega arith; address = fits; changes = λ is. ne (ap rank_of (is ∙ ap class_at before)) }))
      ]

  -- from the first address or a seam to an address nothing changes
  record Begins (address : ℕ) : Type 0 where
    begin : ℕ
    le : begin ≤ address
    starts : (begin ≡ 0) ⊎ Changes begin
    steady : (one : ℕ) → begin ≤ one → one ≤ address → Alike begin one

  begins : (address : ℕ) → address < 2 ^ 32 → Begins address
  begins zero fits = record { begin = 0; le = omega arith; starts = inl refl; steady = λ one low high. alike_if 0 one (omega arith) }
  begins (suc address) fits =
      let next : suc address ≡ address + 1 = omega arith in
      elim (decide address (omega arith)) as (λ _. Begins (suc address)) [
        | inl alike ↦
            let rest = begins address (omega arith) in
            let le = rest.le in
            record {
              begin = rest.begin;
              le = omega arith;
              starts = rest.starts;
              steady = λ one low high. elim (cases_lt address one) as (λ _. Alike rest.begin one) [
                | inl less ↦ alike_through rest.begin address one (rest.steady address le (omega arith)) (alike_through address (address + 1) one alike (alike_if (address + 1) one (omega arith)))
                | inr le' ↦ rest.steady one low le'
              ];
            }
        | inr changes ↦ record { begin = address + 1; le = omega arith; starts = inr changes; steady = λ one low high. alike_if (address + 1) one (omega arith) }
      ]

  -- from an address on nothing changes before the end or a seam
  record Ends (address : ℕ) : Type 0 where
    end : ℕ
    less : address < end
    stops : (end ≡ 2 ^ 32) ⊎ Changes end
    steady : (one : ℕ) → address ≤ one → one < end → Alike address one

  ends : (n address : ℕ) → address + n + 1 ≡ 2 ^ 32 → Ends address
  ends zero address is = record { end = address + 1; less = omega arith; stops = inl (omega arith); steady = λ one low high. alike_if address one (omega arith) }
  ends (suc n) address is =
      elim (decide address (omega arith)) as (λ _. Ends address) [
        | inl alike ↦
            let rest = ends n (address + 1) (omega arith) in
            let less = rest.less in
            record {
              end = rest.end;
              less = omega arith;
              stops = rest.stops;
              steady = λ one low high. elim (cases_lt address one) as (λ _. Alike address one) [
                | inl later ↦ alike_through address (address + 1) one alike (rest.steady one (omega arith) high)
                | inr le ↦ alike_if address one (omega arith)
              ];
            }
        | inr changes ↦ record { end = address + 1; less = omega arith; stops = inr changes; steady = λ one low high. alike_if address one (omega arith) }
      ]

  -- ---- a cell between them
  map_of_change : (address : ℕ) → Changes address → Contains maps (map_at address)
  map_of_change address (inl seam) = are.all (map_at address) (inr (record { seam = address; is = seam; map = refl }))
  map_of_change address (inr seam) = are'.all (map_at address) (inr (record { seam = address; is = seam; map = refl }))

  map_of_start : (address : ℕ) → (address ≡ 0) ⊎ Changes address → Contains maps (map_at address)
  map_of_start address (inl none) = are.all (map_at address) (inl (ap map_at none))
  map_of_start address (inr changes) = map_of_change address changes

  behind_map : (address : ℕ) → Changes address → (map_at address).first < address
  behind_map address (inl seam) = (is_within address seam.behind seam.address).behind_first
  behind_map address (inr seam) = (is_within address seam.behind seam.address).behind_first

  between : (begin end : ℕ) → (begin ≡ 0) ⊎ Changes begin → (end ≡ 2 ^ 32) ⊎ Changes end → begin < end → IsBetween maps begin end
  between begin end starts (inl last) less =
      from_begin maps begin end (map_prefix begin) (map_wide begin) (map_grid begin) (map_of_start begin starts)
      (fits_after begin end (begin / cell_size (map_prefix begin)) (2 ^ (8 + map_prefix begin)) (cell_size (map_prefix begin)) (whole_cells begin (map_prefix begin) (map_wide begin) (map_grid begin))
      (last ∙ all_multiple (map_prefix begin) (map_wide begin)) less)
  between begin end starts (inr changes) less =
      elim (fits_between begin end (begin / cell_size (map_prefix begin)) (end / cell_size (map_prefix end)) (map_prefix begin) (map_prefix end) (map_wide begin) (map_wide end)
      (whole_cells begin (map_prefix begin) (map_wide begin) (map_grid begin)) (whole_cells end (map_prefix end) (map_wide end) (map_grid end)) less) as (λ _. IsBetween maps begin end) [
        | inl up ↦ from_begin maps begin end (map_prefix begin) (map_wide begin) (map_grid begin) (map_of_start begin starts) up
        | inr up ↦ to_end maps begin end (map_prefix end) (map_wide end) (map_grid end) (map_of_change end changes) (behind_map end changes) up
      ]

  -- on a cell without a change both have its least class
  on_cell : (begin end : ℕ) → ((one : ℕ) → begin ≤ one → one < end → Alike begin one) → IsBetween maps begin end → other_at begin ≡ class_at begin
  on_cell begin end steady cell =
      let cells = same cell.network cell.listed in
      let nothing : Cell = record { least = Denied; most = Denied } in
      let own = (cells.own.each cell.number nothing cell.few).some_least in
      let other = (cells.other.each cell.number nothing cell.few).some_least in
      let from = cell.from in
      let to = cell.to in
      let low = own.from in
      let high = own.to in
      let low' = other.from in
      let high' = other.to in
      let here = (steady own.address (omega arith) (omega arith)).0 in
      let there = (steady other.address (omega arith) (omega arith)).1 in
      sym there ∙ other.is ∙ sym own.is ∙ here

  exact_at : (address : ℕ) → address < 2 ^ 32 → other_at address ≡ class_at address
  exact_at address fits =
      let behind = begins address fits in
      let ahead = ends (2 ^ 32 - 1 - address) address (omega arith) in
      let le = behind.le in
      let less = ahead.less in
      let here = behind.steady address le (omega arith) in
      let steady : (one : ℕ) → behind.begin ≤ one → one < ahead.end → Alike behind.begin one = λ one low high. elim (cases_lt address one) as (λ _. Alike behind.begin one) [
        | inl later ↦ alike_through behind.begin address one here (ahead.steady one (omega arith) high)
        | inr before ↦ behind.steady one low before
      ] in
      here.1 ∙ on_cell behind.begin ahead.end steady (between behind.begin ahead.end behind.starts ahead.stops (omega arith)) ∙ sym here.0

pub exact_together : MapsAreExactTogether
exact_together class_at other_at maps are are' same address fits = exact_at class_at other_at maps are are' same address fits
