-- The gates of a library by their numbers.
use Rattle.std.proofs.Common.{◌≡◌, ◌≢◌, inl, inr, ℕ, ◌*◌, ◌<◌, ◌≤◌, Bool, List, [], ◌∷◌, length, slice_index, Some, refl, sym, ap, subst, ◌∙◌, arith}
use Rattle.std.specs.Prelude.{slice_get, pos}
use Rattle.std.proofs.lemmas.Bool.{cases_lt}
use Rattle.std.proofs.lemmas.List.{get_or_past}
use Rattle.std.proofs.lemmas.Option.{slice_get_within, get_or_from_slice_get}
use Rattle.vlsi_base.specs.Member.{In, here, there}
use Rattle.vlsi_base.specs.declared.kind.Kind.{Kind}
use Rattle.vlsi_base.specs.declared.kind.Kind.TheVariants as kind
use Rattle.bool_expr.specs.Expression.{Expression, val}
use Rattle.truth_tab.specs.Table.{value_of}
use Rattle.sym_geom.specs.declared.grid.TheConstants.{PITCH}
use Rattle.cell_model.specs.Cell.{Function, gate, flip_flop, other, opaque, Cell, cell_inputs}
use Rattle.cell_model.specs.Library.{Library, IsUsable, IsPlain}
use Rattle.cell_model.specs.Covering.{IsGateOf, IsFunctionOf, HasCellOf}
use Rattle.cell_checks.specs.Checks.{HasColumns}
use Rattle.cell_match.specs.declared.gate.CellWord.{CellWord}
use Rattle.cell_match.specs.Cells.{blank, inputs_of, cell_value}
use Rattle.gate_cells.specs.declared.listed.GateCells.{GateCells}
use Rattle.gate_cells.specs.Listed.{IsGateCell, AreGateCells}
use Rattle.boog_tree.specs.Direct.{HasGates}
use Rattle.boog_tree.specs.Picked.{AreRising}
use Rattle.boog_area.specs.Refused.{CoversTrees}
use Rattle.boog_area.proofs.Listing.{in_got, got_at, same_got}

pub one_expr : (c : Cell) (e f : Expression) → c.function ≡ gate e → c.function ≡ gate f → e ≡ f
one_expr c e f p q = let same : gate e ≡ gate f = sym p ∙ q in cc

-- a cell has one width
pub one_width : (c : Cell) (a b : ℕ) → HasColumns c a → HasColumns c b → a ≡ b
one_width c a b is is_too =
    let e : pos (PITCH * a) ≡ pos (PITCH * b) = sym is.right ∙ is_too.right in
    let f : PITCH * a ≡ PITCH * b = cc in
    omega (arith, f)

plain_few : (c : Cell) (f : Function) (e : Expression) → f ≡ gate e → IsPlain c f → length (cell_inputs c) ≤ 6
plain_few c f e is plain = let p : IsPlain c (gate e) = subst (λ (h : Function). IsPlain c h) is plain in p.1

gate_of : (f : Function) (n : ℕ) (k : Kind) → IsFunctionOf f n k → k ≢ kind.Dff → (e : Expression) × (f ≡ gate e) × IsGateOf e n k
gate_of (gate e) n k h apart = (e, refl, h)
gate_of (flip_flop data_pin clock_pin) n k h apart = absurd (apart h)
gate_of (other m) n k h apart = absurd h
gate_of opaque n k h apart = absurd h

module _ (l : Library) (g : GateCells) (are : AreGateCells l g) where
  -- the cell at number k
  pub record Standing (k : ℕ) : Type 0 where
    pub word : CellWord
    pub place : ℕ
    pub cell : Cell
    pub at_word : slice_get g.words.items k ≡ Some word
    pub at_place : slice_get g.places.items k ≡ Some place
    pub at : slice_get l.cells place ≡ Some cell
    pub is : IsGateCell cell word (slice_index g.areas.items k)

  pub standing : (k : ℕ) → k < length g.words.items → Standing k
  standing k low =
      let words = are.words in
      let areas = are.areas in
      let w = got_at g.words.items k low in
      let a = got_at g.areas.items k (omega (arith, low, words, areas)) in
      let p = got_at g.places.items k (omega (arith, low, words)) in
      let c = are.each k w.0 a.0 p.0 w.1 a.1 p.1 in
      let area : a.0 ≡ slice_index g.areas.items k = sym (get_or_from_slice_get g.areas.items k a.0 0 a.1) in
      record {
        word = w.0;
        place = p.0;
        cell = c.0;
        at_word = w.1;
        at_place = p.1;
        at = c.1;
        is = let P : ℕ → Type 0 = λ n. IsGateCell c.0 w.0 n in subst P area c.2;
      }

  module _ (k : ℕ) (s : Standing k) where
    pub inputs_are : inputs_of g.words.items k ≡ length (cell_inputs s.cell)
    inputs_are = ap (λ (x : CellWord). x.inputs) (get_or_from_slice_get g.words.items k s.word blank s.at_word) ∙ s.is.inputs

    pub value_is : (w : List Bool) → length w ≡ length (cell_inputs s.cell) → cell_value g.words.items k w ≡ val s.is.expr w
    value_is w long = ap (λ (x : CellWord). value_of x.word.word w) (get_or_from_slice_get g.words.items k s.word blank s.at_word) ∙ s.is.value w long

  -- the number of a cell
  pub number_of : (c : Cell) (e : Expression) → In c l.cells → IsUsable c → c.function ≡ gate e
      → (k : ℕ) × (k < length g.words.items) × (s : Standing k) × (s.cell ≡ c)
  number_of c e listed usable is_gate =
      let p = in_got c l.cells listed in
      let k = are.every p.0 c e p.1 usable is_gate in
      let low = slice_get_within g.places.items k.0 p.0 k.1 in
      let words = are.words in
      let there : k.0 < length g.words.items = omega (arith, low, words) in
      let s = standing k.0 there in
      let place : s.place ≡ p.0 = same_got g.places.items k.0 s.place p.0 s.at_place k.1 in
      let P : ℕ → Type 0 = λ n. slice_get l.cells n ≡ Some s.cell in
      (k.0, there, s, same_got l.cells p.0 s.cell c (subst P place s.at) p.1)

  pub narrow : (k : ℕ) → inputs_of g.words.items k ≤ 6
  narrow k = elim (cases_lt k (length g.words.items)) [
    | inl low ↦
        let s = standing k low in
        let e = inputs_are k s in
        let few = plain_few s.cell s.cell.function s.is.expr s.is.is_gate s.is.usable.function in
        omega (arith, e, few)
    | inr high ↦ let e : inputs_of g.words.items k ≡ 0 = ap (λ (w : CellWord). w.inputs) (get_or_past g.words.items k blank high) in omega (arith, e)
  ]

  pub rising : AreRising g.words.items g.areas.items
  rising = record {
    many = let words = are.words in let areas = are.areas in omega (arith, words, areas);
    rising = λ j k order low.
        let a = got_at g.areas.items j (omega (arith, order, low)) in
        let b = got_at g.areas.items k low in
        let e = are.rising j k a.0 b.0 order a.1 b.1 in
        let x = get_or_from_slice_get g.areas.items j a.0 0 a.1 in
        let y = get_or_from_slice_get g.areas.items k b.0 0 b.1 in
        omega (arith, e, x, y);
  }

  -- a cell of this kind by its number
  kind_cell : (t : Kind) → t ≢ kind.Dff → HasCellOf l.cells t
      → (k : ℕ) × (k < length g.words.items) × (s : Standing k) × IsGateOf s.is.expr (inputs_of g.words.items k) t
  kind_cell t apart has =
      let e = gate_of has.cell.function (length (cell_inputs has.cell)) t has.kind apart in
      let r = number_of has.cell e.0 has.listed has.usable e.1 in
      let s = r.2 in
      let inputs : inputs_of g.words.items r.0 ≡ length (cell_inputs has.cell) = inputs_are r.0 s ∙ ap (λ (c : Cell). length (cell_inputs c)) r.3 in
      let expr : s.is.expr ≡ e.0 = one_expr has.cell s.is.expr e.0 (subst (λ (c : Cell). c.function ≡ gate s.is.expr) r.3 s.is.is_gate) e.1 in
      let P : Expression → Type 0 = λ f. IsGateOf f (length (cell_inputs has.cell)) t in
      let Q : ℕ → Type 0 = λ n. IsGateOf s.is.expr n t in
      (r.0, r.1, s, subst Q (sym inputs) (subst P (sym expr) e.2))

  pub has_gates : CoversTrees l → HasGates g.words.items
  has_gates covers =
      let r = kind_cell kind.Inv (λ e. absurd (cc e)) (covers kind.Inv here) in
      let q = kind_cell kind.Nand2 (λ e. absurd (cc e)) (covers kind.Nand2 (there here)) in
      let inverts : IsGateOf (r.2).is.expr (inputs_of g.words.items r.0) kind.Inv = r.3 in
      let joins : IsGateOf (q.2).is.expr (inputs_of g.words.items q.0) kind.Nand2 = q.3 in
      record {
        inverter = r.0;
        inverter_there = r.1;
        inverter_reads = inverts.0;
        inverts = λ x. value_is r.0 r.2 (x ∷ []) (sym inverts.0 ∙ inputs_are r.0 r.2) ∙ inverts.1 x;
        nand = q.0;
        nand_there = q.1;
        nand_reads = joins.0;
        joins = λ x y. value_is q.0 q.2 (x ∷ y ∷ []) (sym joins.0 ∙ inputs_are q.0 q.2) ∙ joins.1 x y;
      }
