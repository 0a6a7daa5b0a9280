-- Rows of instances are as long as the rows of their numbers.
use Rattle.std.proofs.Common.{◌≡◌, ℕ, ◌+◌, ◌*◌, ◌<◌, Bool, true, false, cond, nat_eq, List, [], ◌∷◌, map, filter, length, sum_by, refl, sym, ap, ap₂, ◌∙◌, arith}
use Rattle.std.specs.Prelude.{pos, Option, None, Some, filter_map}
use Rattle.std.specs.Option.{option_map}
use Rattle.std.specs.List.{cons_option}
use Rattle.std.proofs.lemmas.List.Sums.{sum-map, sum_by-cons}
use Rattle.vlsi_base.specs.declared.name.Name.{Name}
use Rattle.vlsi_base.specs.declared.name.Terminal.{Terminal}
use Rattle.sym_geom.specs.declared.grid.TheConstants.{FIRST_CELL_X}
use Rattle.cell_model.specs.Access.{Point, count_to, access_point}
use Rattle.cell_model.specs.Cell.{Cell}
use Rattle.cell_model.specs.Library.{Library, cell_of}
use Rattle.net_meaning.specs.Netlist.{Member, AbstractNetlist}
use Rattle.ocp_rows.specs.Placement.{Placement, standing_rows}
use Rattle.ocp_rows.specs.Length.{point_of, net_points, pin_point, instance_point, shown_point, terminals, is_net}
use Rattle.ocp_rows.specs.Length as named
use Rattle.ocp_place.specs.Orderly.{IsOrderly}
use Rattle.ocp_place.specs.Stood.{member, named_rows, stood}
use Rattle.ocp_place.proofs.Boxed.{access_within}
use Rattle.ocp_place.proofs.Turned.{shown}
use Rattle.ocp_place.proofs.Widths.{member_in}
use Rattle.row_fill.proofs.Once.{holds_once}
use Rattle.row_meaning.specs.declared.Pin.{Pin}
use Rattle.row_meaning.specs.Rows.{x_of, row_of, times}
use Rattle.row_meaning.specs.Length.{Block, y_at, pin_x, pin_y, half_box, hp}
use Rattle.row_meaning.proofs.Counting.{x_of_absent}
use Rattle.row_meaning.proofs.Lengths.{sum_alike}
use Rattle.row_meaning.proofs.Numbering.{row_absent}
use Rattle.row_bridge.specs.Improved.{above, long_in}
use Rattle.row_bridge.specs.Numbered.{number_of, pin_at, cell_pin, own_pin, terminal_pin, net_pins, ports_width, numbered}
use Rattle.row_bridge.specs.Law.{HoldEachOnce, LengthsAgree}
use Rattle.row_bridge.proofs.Boxing.{box_is}
use Rattle.row_bridge.proofs.Cells.{in_row, height_is}
use Rattle.row_bridge.proofs.Names.{IsNamed, number_found}
use Rattle.row_bridge.proofs.Ports.{port_up_to}
use Rattle.row_bridge.proofs.Standing.{pin_none, pin_found}

-- ---- lists

put : {X Y : Type 0} (show : X → Y) (o : Option X) (p : Option Y) (xs : List X) (ys : List Y) → p ≡ option_map show o → ys ≡ map show xs
    → cons_option p ys ≡ map show (cons_option o xs)
put {X} {Y} show None p xs ys e f = ap (λ (q : Option Y). cons_option q ys) e ∙ f
put {X} {Y} show (Some x) p xs ys e f = ap (λ (q : Option Y). cons_option q ys) e ∙ ap (λ (zs : List Y). show x ∷ zs) f

if_alike : {X Y : Type 0} (show : X → Y) (t : Bool) (p : Option Y) (o : Option X) → p ≡ option_map show o → cond t p None ≡ option_map show (cond t o None)
if_alike show true p o e = e
if_alike show false p o e = refl

filtered : {T X Y : Type 0} (test : T → Bool) (f : T → Option Y) (g : T → Option X) (show : X → Y) → ((t : T) → f t ≡ option_map show (g t)) → (ts : List T)
    → filter_map (λ t. cond (test t) (f t) None) ts ≡ map show (filter_map (λ t. cond (test t) (g t) None) ts)
filtered test f g show h [] = refl
filtered test f g show h (t ∷ ts) =
    put show (cond (test t) (g t) None) (cond (test t) (f t) None) (filter_map (λ s. cond (test s) (g s) None) ts) (filter_map (λ s. cond (test s) (f s) None) ts)
    (if_alike show (test t) (f t) (g t) (h t)) (filtered test f g show h ts)

sum_mapped : {X Y : Type 0} (f : Y → ℕ) (g : X → Y) (xs : List X) → sum_by f (map g xs) ≡ sum_by (λ x. f (g x)) xs
sum_mapped f g [] = refl
sum_mapped f g (x ∷ xs) = sum_by-cons f (g x) (map g xs) ∙ ap (λ (k : ℕ). f (g x) + k) (sum_mapped f g xs) ∙ sym (sum_by-cons (λ y. f (g y)) x xs)

module _ (n : AbstractNetlist) (l : Library) (ports : List Name) (rows : List (List ℕ)) (orderly : IsOrderly n l) (once : HoldEachOnce (length n.instances) rows) where
  abbrev ms : List Member
  ms = n.instances

  abbrev p : Placement
  p = above ports (named_rows ms rows)

  abbrev b : Block
  b = numbered n l p

  abbrev begin : ℕ → ℕ
  begin c = x_of b.widths FIRST_CELL_X rows c 0

  abbrev row : ℕ → ℕ
  row c = row_of 0 rows c 0

  abbrev show : Pin → Point
  show pin = (pos (pin_x b rows pin), pos (pin_y rows pin))

  -- a point of an instance
  own_point : (i : ℕ) (pin : Name) → i < length ms
      → instance_point (cell_of l (member ms i).model) (stood (member ms i) (begin i) (row i)) pin ≡ option_map show (own_pin l ms (Some i) pin)
  own_point i pin low = by (cell_of l (member ms i).model) refl where
    by : (o : Option Cell) → cell_of l (member ms i).model ≡ o → instance_point o (stood (member ms i) (begin i) (row i)) pin ≡ option_map show (cell_pin i o pin)
    by None e = refl
    by (Some c) e = at (access_point c pin) refl where
      at : (o : Option Point) → access_point c pin ≡ o → shown_point c (stood (member ms i) (begin i) (row i)) o ≡ option_map show (option_map (pin_at i) o)
      at None f = refl
      at (Some q) f =
          let stands = in_row n l orderly (member ms i) c (member_in ms i low) e in
          let r = access_within c pin q stands f in
          ap (λ (a : Point). shown_point c (stood (member ms i) (begin i) (row i)) (Some a)) r.is
          ∙ shown c (row i) (begin i) (member ms i) r.x r.y (height_is c stands) r.high
          ∙ ap (λ (a : Point). Some (show (pin_at i a))) (sym r.is)

  pin_is : (owner : List ℕ) (pin : Name) → pin_point l (standing_rows l false (pos 0) (named_rows ms rows)) owner pin ≡ option_map show (terminal_pin n l p (Some owner) pin)
  pin_is owner pin = by (number_of 0 ms owner) refl where
    by : (o : Option ℕ) → number_of 0 ms owner ≡ o → pin_point l (standing_rows l false (pos 0) (named_rows ms rows)) owner pin ≡ option_map show (own_pin l ms o pin)
    by None e = pin_none n l (ports_width l p) rows orderly once owner pin e
    by (Some i) e = there (number_found 0 ms owner i e) where
      there : (j : ℕ) × (i ≡ 0 + j) × IsNamed ms owner j → pin_point l (standing_rows l false (pos 0) (named_rows ms rows)) owner pin ≡ option_map show (own_pin l ms (Some i) pin)
      there first =
          let is_j : i ≡ first.0 = (let a = first.1 in omega arith) in
          let low : i < length ms = (let a = first.2.inside in omega arith) in
          let own : (member ms i).name ≡ owner = ap (λ (k : ℕ). (member ms k).name) is_j ∙ first.2.is in
          ap (λ (o : List ℕ). pin_point l (standing_rows l false (pos 0) (named_rows ms rows)) o pin) (sym own)
          ∙ pin_found n l (ports_width l p) rows orderly once i pin low
          ∙ own_point i pin low

  port_is : (name : Name) → point_of l p None name ≡ option_map show (terminal_pin n l p None name)
  port_is name = by (point_of l p None name) refl where
    by : (o : Option Point) → point_of l p None name ≡ o → o ≡ option_map show (option_map (pin_at (length ms)) o)
    by None e = refl
    by (Some q) e =
        let r = port_up_to l ports (named_rows ms rows) name q e in
        let none : times rows (length ms) ≡ 0 = (holds_once rows (length ms) once).others (length ms) (omega arith) in
        let x : begin (length ms) ≡ 0 = x_of_absent b.widths FIRST_CELL_X rows (length ms) 0 none in
        let low : row (length ms) ≡ 0 = row_absent 0 rows (length ms) 0 none in
        let first : r.x ≡ begin (length ms) + r.x = omega arith in
        let second : r.y ≡ y_at (row (length ms)) r.y = (let f : r.y ≡ 5000 * 0 + r.y = omega arith in f) ∙ ap (λ (k : ℕ). y_at k r.y) (sym low) in
        ap (λ (a : Point). Some a) r.is
        ∙ ap₂ (λ (u v : ℕ). Some (pos u, pos v)) first second
        ∙ ap (λ (a : Point). Some (show (pin_at (length ms) a))) (sym r.is)

  terminal_is : (t : Terminal) → point_of l p t.instance t.pin ≡ option_map show (terminal_pin n l p t.instance t.pin)
  terminal_is t = by t.instance where
    by : (o : Option (List ℕ)) → point_of l p o t.pin ≡ option_map show (terminal_pin n l p o t.pin)
    by None = port_is t.pin
    by (Some owner) = pin_is owner t.pin

  net_is : (k : ℕ) → net_points n l p k ≡ map show (net_pins n l p k)
  net_is k =
      filtered (λ t. nat_eq (n.class t) k) (λ t. point_of l p t.instance t.pin) (λ t. terminal_pin n l p t.instance t.pin) show terminal_is (terminals n l)

  box_of : (k : ℕ) → named.half_box (net_points n l p k) ≡ half_box b rows (net_pins n l p k)
  box_of k = ap named.half_box (net_is k) ∙ box_is (pin_x b rows) (pin_y rows) (net_pins n l p k)

  agree : long_in n l ports (named_rows ms rows) ≡ hp b rows
  unfolding hp
  agree =
      let nets = filter (is_net n) (count_to n.classes) in
      sum-map (λ k. named.half_box (net_points n l p k)) nets
      ∙ sum_alike (λ k. named.half_box (net_points n l p k)) (λ k. half_box b rows (net_pins n l p k)) nets box_of
      ∙ sym (sum_mapped (half_box b rows) (net_pins n l p) nets)

pub lengths_agree : LengthsAgree
lengths_agree n l ports rows orderly once = agree n l ports rows orderly once
