-- What was improved by number is better by name.
use Rattle.std.proofs.Common.{◌≡◌, ℕ, suc, ◌+◌, ◌*◌, ◌/◌, max, Bool, cond, nat_eq, List, [], ◌∷◌, ◌++◌, map, filter, length, flat_map, refl, sym, ap, ap₂, ◌∙◌, arith}
use Rattle.std.specs.Prelude.{ℤ, pos, Option, None, Some, filter_map}
use Rattle.std.specs.Int.{int_max}
use Rattle.std.specs.Option.{option_map}
use Rattle.std.specs.List.{cons_option}
use Rattle.std.proofs.lemmas.List.{length-map}
use Rattle.std.proofs.lemmas.List.Sorted.{IsPermutation-sym, IsPermutation-trans}
use Rattle.vlsi_base.specs.declared.name.Name.{Name}
use Rattle.vlsi_base.specs.declared.name.Terminal.{Terminal}
use Rattle.sym_geom.specs.declared.grid.TheConstants.{FIRST_CELL_X, PITCH}
use Rattle.cell_model.specs.Access.{Point, count_to}
use Rattle.cell_model.specs.Library.{Library}
use Rattle.net_meaning.specs.Netlist.{Member, AbstractNetlist}
use Rattle.ocp_rows.specs.Placement.{Placement, natural, rows_width, block_columns, port_column}
use Rattle.ocp_rows.specs.Length.{point_of, grid_point, terminals, is_net}
use Rattle.ocp_place.specs.Orderly.{IsOrderly}
use Rattle.ocp_place.specs.Stood.{member, named_rows, instance_widths}
use Rattle.ocp_place.proofs.Turned.{widest_is}
use Rattle.row_meaning.specs.declared.Pin.{Pin}
use Rattle.row_meaning.specs.First.{numbers}
use Rattle.row_meaning.specs.Rows.{row_width, exchanged, HaveSameCells}
use Rattle.row_meaning.specs.Rows as number
use Rattle.row_meaning.specs.Length.{Block, hp}
use Rattle.row_meaning.specs.Tried.{tried_by, words_of}
use Rattle.row_meaning.proofs.Keeping.{width_kept, all_kept}
use Rattle.row_meaning.proofs.Exchanging.{same_itself, same_then, same_exchanged}
use Rattle.row_meaning.proofs.Lengths.{map_alike}
use Rattle.row_bridge.specs.Improved.{above, long_in}
use Rattle.row_bridge.specs.Numbered.{pin_at, terminal_pin, net_pins, ports_width, numbered}
use Rattle.row_bridge.specs.Law.{HoldEachOnce, ImprovedAbove, ImprovedHoldEachOnce}
use Rattle.row_bridge.proofs.Bridging.{lengths_agree}
use Rattle.row_bridge.proofs.Cells.{width_at}
use Rattle.row_bridge.proofs.Mapping.{stable_mapped, tried_mapped, tried_good}

-- rows with the same cells hold each once too
pub once_kept : (n : ℕ) (old new : List (List ℕ)) → HoldEachOnce n old → HaveSameCells old new → HoldEachOnce n new
once_kept n old new once same =
    let all : List (List ℕ) → List ℕ = λ rows. flat_map (λ row. row) rows in
    IsPermutation-trans (all new) (all old) (numbers 0 n) (IsPermutation-sym (all old) (all new) (all_kept old new same)) once

pub improved_hold_each_once : ImprovedHoldEachOnce
improved_hold_each_once b n seed moves old new once better = once_kept n old new once better.same

-- ---- the widest row

widest_kept : (w : List ℕ) (old new : List (List ℕ)) → HaveSameCells old new → number.rows_width w new ≡ number.rows_width w old
widest_kept w [] [] h = refl
widest_kept w [] (row ∷ new) h = let e = h.many in absurd (omega arith)
widest_kept w (row ∷ old) [] h = let e = h.many in absurd (omega arith)
widest_kept w (row ∷ old) (other ∷ new) h =
    ap₂ (λ (a b : ℕ). max a b) (width_kept w (row ∷ old) (other ∷ new) 0 h)
    (widest_kept w old new (record { many = (let e = h.many in omega arith); each = λ r. h.each (suc r) }))

-- ---- nets by number, with ports at the same points

pins_alike : (test : Terminal → Bool) (f g : Terminal → Option Pin) → ((t : Terminal) → f t ≡ g t) → (ts : List Terminal)
    → filter_map (λ t. cond (test t) (f t) None) ts ≡ filter_map (λ t. cond (test t) (g t) None) ts
pins_alike test f g h [] = refl
pins_alike test f g h (t ∷ ts) = ap₂ (λ (o : Option Pin) (pins : List Pin). cons_option (cond (test t) o None) pins) (h t) (pins_alike test f g h ts)

module _ (n : AbstractNetlist) (l : Library) (p q : Placement) (ports : (name : Name) → point_of l p None name ≡ point_of l q None name) where
  terminal_alike : (t : Terminal) → terminal_pin n l p t.instance t.pin ≡ terminal_pin n l q t.instance t.pin
  terminal_alike t = by t.instance where
    by : (o : Option (List ℕ)) → terminal_pin n l p o t.pin ≡ terminal_pin n l q o t.pin
    by None = ap (λ (o : Option Point). option_map (pin_at (length n.instances)) o) (ports t.pin)
    by (Some owner) = refl

  numbered_alike : ports_width l p ≡ ports_width l q → numbered n l p ≡ numbered n l q
  numbered_alike same =
      let nets = filter (is_net n) (count_to n.classes) in
      ap₂ (λ (last : ℕ) (pins : List (List Pin)). record { left = FIRST_CELL_X; widths = instance_widths l n.instances ++ last ∷ []; nets = pins }) same
      (map_alike (net_pins n l p) (net_pins n l q) nets
      (λ k. pins_alike (λ t. nat_eq (n.class t) k) (λ t. terminal_pin n l p t.instance t.pin) (λ t. terminal_pin n l q t.instance t.pin) terminal_alike (terminals n l)))

-- ---- rows with the same cells

module _ (n : AbstractNetlist) (l : Library) (ports : List Name) (old : List (List ℕ)) (orderly : IsOrderly n l) (once : HoldEachOnce (length n.instances) old) where
  abbrev ms : List Member
  ms = n.instances

  abbrev of_rows : List (List ℕ) → Placement
  of_rows rows = above ports (named_rows ms rows)

  abbrev w : List ℕ
  w = instance_widths l ms ++ 0 ∷ []

  widths_same : (rows : List (List ℕ)) → HaveSameCells old rows → rows_width l (named_rows ms rows) ≡ rows_width l (named_rows ms old)
  widths_same rows same =
      sym (widest_is l ms w rows (once_kept (length ms) old rows once same) (λ c low. width_at n l orderly 0 c low))
      ∙ ap pos (widest_kept w old rows same)
      ∙ widest_is l ms w old once (λ c low. width_at n l orderly 0 c low)

  columns_same : (rows : List (List ℕ)) → HaveSameCells old rows → block_columns l (of_rows rows) ≡ block_columns l (of_rows old)
  columns_same rows same = ap (λ (z : ℤ). natural (int_max z (pos (PITCH * (length ports + 1)))) / PITCH) (widths_same rows same)

  -- the ports stand where they stood
  numbered_same : (rows : List (List ℕ)) → HaveSameCells old rows → numbered n l (of_rows rows) ≡ numbered n l (of_rows old)
  numbered_same rows same =
      let many : length (named_rows ms rows) ≡ length (named_rows ms old) =
      length-map rows (λ row. map (member ms) row) ∙ same.many ∙ sym (length-map old (λ row. map (member ms) row)) in
      let columns = columns_same rows same in
      numbered_alike n l (of_rows rows) (of_rows old)
      (λ name. ap₂ (λ (c r : ℕ). grid_point (port_column (length ports) c) r 0 ports name) columns many)
      (ap (λ (c : ℕ). FIRST_CELL_X + PITCH * (c + 1)) columns)

  abbrev b : Block
  b = numbered n l (of_rows old)

  abbrev Good : List (List ℕ) → Type 0
  Good rows = HaveSameCells old rows

  agree : (rows : List (List ℕ)) → Good rows → long_in n l ports (named_rows ms rows) ≡ hp b rows
  agree rows good =
      lengths_agree n l ports rows orderly (once_kept (length ms) old rows once good) ∙ ap (λ (c : Block). hp c rows) (numbered_same rows good)

  keep : (rows : List (List ℕ)) (r k : ℕ) → Good rows → Good (exchanged rows r k)
  keep rows r k good = same_then old rows (exchanged rows r k) good (same_exchanged rows r k)

pub improved_above : ImprovedAbove
improved_above n l ports seed moves old new orderly once better =
    let ms = n.instances in
    let f : ℕ → Member = member ms in
    let long : List (List ℕ) → ℕ = hp (numbered n l (above ports (named_rows ms old))) in
    let named : List (List Member) → ℕ = long_in n l ports in
    let Same : List (List ℕ) → Type 0 = λ rows. HaveSameCells old rows in
    let same_long : (rows : List (List ℕ)) → Same rows → named (named_rows ms rows) ≡ long rows = λ rows good. agree n l ports old orderly once rows good in
    let kept : (rows : List (List ℕ)) (r k : ℕ) → Same rows → Same (exchanged rows r k) = λ rows r k good. keep n l ports old orderly once rows r k good in
    let words = words_of seed (2 * moves) in
    let there : Same (tried_by long words old) = tried_good f long named Same same_long kept words old (same_itself old) in
    let tried_same : tried_by named words (named_rows ms old) ≡ named_rows ms (tried_by long words old) = tried_mapped f long named Same same_long kept words old (same_itself old) in
    record {
      stable = stable_mapped f long named Same same_long kept new better.same better.stable;
      lower =
          (let a = same_long new better.same in
          let e = ap named tried_same in
          let g = same_long (tried_by long words old) there in
          let m = better.lower in
          omega arith);
    }
