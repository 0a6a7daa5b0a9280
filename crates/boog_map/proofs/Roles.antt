-- The cells that a netlist is made of, by the roles of its instances.
use Rattle.std.proofs.Common.{◌≡◌, ◌≢◌, inl, inr, ℕ, ◌<◌, ◌≤◌, Bool, true, false, List, [], ◌∷◌, length, Some, refl, sym, ◌∙◌, ap, subst, arith, get_or}
use Rattle.std.proofs.lemmas.Bool.{cases_lt}
use Rattle.std.specs.Prelude.{slice_get}
use Rattle.std.proofs.lemmas.List.{get_or_past}
use Rattle.std.proofs.lemmas.Option.{slice_get_within}
use Rattle.vlsi_base.specs.Member.{In, here, there}
use Rattle.vlsi_base.specs.declared.name.Name.{Name}
use Rattle.vlsi_base.specs.declared.kind.Kind.{Kind}
use Rattle.vlsi_base.specs.declared.kind.Kind.TheVariants as kind
use Rattle.bool_expr.specs.Expression.{Expression, val}
use Rattle.truth_tab.specs.Table.{value_of}
use Rattle.cell_model.specs.Cell.{Function, gate, flip_flop, other, opaque, Cell, cell_inputs}
use Rattle.cell_model.specs.Library.{Library, IsUsable, IsPlain}
use Rattle.cell_model.specs.Covering.{IsGateOf, IsFunctionOf, HasKind, HasCellOf, needed}
use Rattle.cell_match.specs.declared.gate.CellWord.{CellWord}
use Rattle.cell_match.specs.declared.gate.Gate.{Gate}
use Rattle.cell_match.specs.Cells.{blank, inputs_of, cell_value, IsGate}
use Rattle.gate_cells.specs.Listed.{IsGateCell}
use Rattle.boog_cover.specs.Covered.{HasCells, HasFixed, HasInv, HasNand}
use Rattle.net_core.proofs.Standing.{stands_same}
use Rattle.net_tight.specs.Carries.{IsCell}
use Rattle.boog_map.specs.declared.part.Part.{Part}
use Rattle.boog_map.specs.declared.choice.Role.{Role}
use Rattle.boog_map.specs.declared.choice.Role.TheVariants as role
use Rattle.boog_map.specs.declared.choice.Parts.{Parts}
use Rattle.boog_map.specs.Tied.{IsPart, AreParts, register_kind, part_of, gate_words, HaveFewInputs}
use Rattle.boog_map.proofs.Lists.{in_there, there_in, stands_at, got}

-- ---- what kinds say of functions

pub gate_of : (f : Function) (n : ℕ) (k : Kind) → IsFunctionOf f n k → k ≢ kind.Dff → (e : Expression) × (f ≡ gate e) × IsGateOf e n k
gate_of (gate e) n k h apart = (e, refl, h)
gate_of (flip_flop data_pin clock_pin) n k h apart = absurd (apart h)
gate_of (other m) n k h apart = absurd h
gate_of opaque n k h apart = absurd h

pub flip_of : (f : Function) (n : ℕ) → IsFunctionOf f n kind.Dff → (data_pin : Name) × (clock_pin : Name) × (f ≡ flip_flop data_pin clock_pin)
flip_of (gate e) n h = absurd h
flip_of (flip_flop data_pin clock_pin) n h = (data_pin, clock_pin, refl)
flip_of (other m) n h = absurd h
flip_of opaque n h = absurd h

-- ---- the gates by their numbers

-- number k of the words is the word of this cell
word_is : (words : List CellWord) (k area : ℕ) (w : CellWord) (c : Cell) → slice_get words k ≡ Some w → (is : IsGateCell c w area) → IsCell words k c is.expr
word_is words k area w c at is =
    let word : get_or words k blank ≡ w = got words k w blank at in
    let inputs : inputs_of words k ≡ length (cell_inputs c) = ap (λ (x : CellWord). x.inputs) word ∙ is.inputs in
    record {
      there = slice_get_within words k w at;
      inputs = inputs;
      value = λ v long. ap (λ (x : CellWord). value_of x.word.word v) word ∙ is.value v (long ∙ inputs);
    }

-- ---- roles

-- a usable cell of the list, as a netlist uses it
pub record IsRole (cells : List Cell) (p : Part) : Type 0 where
  pub cell : Cell
  pub listed : In cell cells
  pub usable : IsUsable cell
  pub is_part : IsPart cell p

-- number k of the words is that of the cell
pub record IsGateRole (words : List CellWord) (k : ℕ) (c : Cell) : Type 0 where
  pub expr : Expression
  pub is_gate : c.function ≡ gate expr
  pub is_cell : IsCell words k c expr

pub record AreRoles (cells : List Cell) (registers : Bool) (ps : Parts) : Type 0 where
  pub each : (r : Role) → IsRole cells (part_of ps r)
  pub flip : registers ≡ true → HasKind (each role.Register).cell kind.Dff
  pub of_gate : (k : ℕ) → k < length (gate_words ps) → IsGateRole (gate_words ps) k (each (role.Gate k)).cell
  pub every : (c : Cell) (e : Expression) → In c cells → IsUsable c → c.function ≡ gate e → (k : ℕ) × IsCell (gate_words ps) k c e

pub one_expr : (c : Cell) (e f : Expression) → c.function ≡ gate e → c.function ≡ gate f → e ≡ f
one_expr c e f p q = let same : gate e ≡ gate f = sym p ∙ q in cc

module _ (l : Library) (registers : Bool) (ps : Parts) (parts : AreParts l registers ps) where
  of_register : (p : Part) → p ≡ ps.register → IsRole l.cells p
  of_register p same = record {
    cell = parts.register.cell;
    listed = parts.register.chosen.listed;
    usable = parts.register.chosen.usable;
    is_part = subst (λ (q : Part). IsPart parts.register.cell q) (sym same) parts.register.is_part;
  }

  -- what stands at number k
  record Entry (k : ℕ) : Type 0 where
    pub word : CellWord
    pub area : ℕ
    pub place : ℕ
    pub part : Part
    pub at_word : slice_get (gate_words ps) k ≡ Some word
    pub at_area : slice_get ps.cells.areas.items k ≡ Some area
    pub at_place : slice_get ps.cells.places.items k ≡ Some place
    pub at_part : slice_get ps.gates.items k ≡ Some part

  entry : (k : ℕ) → k < length ps.cells.places.items → Entry k
  entry k low =
      let words = parts.cells.words in
      let areas = parts.cells.areas in
      let many = parts.gates.many in
      let w = stands_at (gate_words ps) k (omega (arith, low, words)) in
      let a = stands_at ps.cells.areas.items k (omega (arith, low, areas)) in
      let p = stands_at ps.cells.places.items k low in
      let q = stands_at ps.gates.items k (omega (arith, low, many)) in
      record { word = w.0; area = a.0; place = p.0; part = q.0; at_word = w.1; at_area = a.1; at_place = p.1; at_part = q.1 }

  -- its cell
  record Standing (k : ℕ) : Type 0 where
    pub own : Entry k
    pub cell : Cell
    pub at : slice_get l.cells own.place ≡ Some cell
    pub is : IsGateCell cell own.word own.area
    pub is_part : IsPart cell own.part

  gate_at : (k : ℕ) → k < length ps.cells.places.items → Standing k
  gate_at k low =
      let e = entry k low in
      let c = parts.cells.each k e.word e.area e.place e.at_word e.at_area e.at_place in
      record { own = e; cell = c.0; at = c.1; is = c.2; is_part = parts.gates.each k e.place c.0 e.part e.at_place c.1 e.at_part }

  abbrev Told : ℕ → Type 0
  Told k = (r : IsRole l.cells (part_of ps (role.Gate k))) × (k < length (gate_words ps) → IsGateRole (gate_words ps) k r.cell)

  told : (k : ℕ) → Told k
  told k = elim (cases_lt k (length ps.cells.places.items)) [
    | inl low ↦
        let g = gate_at k low in (
          record {
            cell = g.cell;
            listed = there_in l.cells g.own.place g.cell g.at;
            usable = g.is.usable;
            is_part = subst (λ (q : Part). IsPart g.cell q) (sym (got ps.gates.items k g.own.part ps.register g.own.at_part)) g.is_part;
          },
          λ h. record { expr = g.is.expr; is_gate = g.is.is_gate; is_cell = word_is (gate_words ps) k g.own.area g.own.word g.cell g.own.at_word g.is },
        )
    | inr high ↦
        let many = parts.gates.many in
        let words = parts.cells.words in (
          of_register (part_of ps (role.Gate k)) (get_or_past ps.gates.items k ps.register (omega (arith, high, many))),
          λ h. absurd (omega (arith, h, high, words)),
        )
  ]

  role_of : (r : Role) → IsRole l.cells (part_of ps r)
  role_of role.Register = of_register ps.register refl
  role_of (role.Gate k) = (told k).0

  every_gate : (c : Cell) (e : Expression) → In c l.cells → IsUsable c → c.function ≡ gate e → (k : ℕ) × IsCell (gate_words ps) k c e
  every_gate c e listed usable is_gate =
      let p = in_there c l.cells listed in
      let k = parts.cells.every p.0 c e p.1 usable is_gate in
      let g = gate_at k.0 (slice_get_within ps.cells.places.items k.0 p.0 k.1) in
      let place : g.own.place ≡ p.0 = stands_same ps.cells.places.items k.0 g.own.place p.0 g.own.at_place k.1 in
      let P : ℕ → Type 0 = λ n. slice_get l.cells n ≡ Some g.cell in
      let same : g.cell ≡ c = stands_same l.cells p.0 g.cell c (subst P place g.at) p.1 in
      let is : IsGateCell c g.own.word g.own.area = subst (λ (x : Cell). IsGateCell x g.own.word g.own.area) same g.is in (
        k.0,
        subst (λ (f : Expression). IsCell (gate_words ps) k.0 c f) (one_expr c is.expr e is.is_gate is_gate)
            (word_is (gate_words ps) k.0 g.own.area g.own.word c g.own.at_word is),
      )

  pub roles : AreRoles l.cells registers ps
  unfolding role_of of_register
  roles = record {
    each = role_of;
    flip = λ is. subst (λ (b : Bool). HasKind parts.register.cell (register_kind b)) is parts.register.chosen.kind;
    of_gate = λ k low. (told k).1 low;
    every = every_gate;
  }

-- ---- the cells of registers and of gates

pub record IsFlip (c : Cell) : Type 0 where
  pub data_pin : Name
  pub clock_pin : Name
  pub is_flip : c.function ≡ flip_flop data_pin clock_pin
  pub has_data : In data_pin (cell_inputs c)
  pub has_clock : In clock_pin (cell_inputs c)
  pub apart : data_pin ≢ clock_pin
  pub two : length (cell_inputs c) ≡ 2

pub flip_cell : (cells : List Cell) (registers : Bool) (ps : Parts) (rs : AreRoles cells registers ps) → registers ≡ true → IsFlip (rs.each role.Register).cell
flip_cell cells registers ps rs some =
    let c = (rs.each role.Register).cell in
    let flip = flip_of c.function (length (cell_inputs c)) (rs.flip some) in
    let plain : IsPlain c (flip_flop flip.0 flip.1) = subst (λ (f : Function). IsPlain c f) flip.2 (rs.each role.Register).usable.function in
    record { data_pin = flip.0; clock_pin = flip.1; is_flip = flip.2; has_data = plain.2; has_clock = plain.3; apart = plain.4; two = plain.1 }

-- the cell of a gate: its function is that of the gate's word
pub record IsCellOfGate (words : List CellWord) (c : Cell) (x : Gate) : Type 0 where
  pub expr : Expression
  pub is_gate : c.function ≡ gate expr
  pub many : length (cell_inputs c) ≡ length x.leaves.items
  pub value : (w : List Bool) → length w ≡ length x.leaves.items → val expr w ≡ cell_value words x.cell w

pub gate_cell : (cells : List Cell) (registers : Bool) (ps : Parts) (rs : AreRoles cells registers ps) (j : ℕ) (x : Gate) → IsGate (gate_words ps) j x
    → IsCellOfGate (gate_words ps) (rs.each (role.Gate x.cell)).cell x
gate_cell cells registers ps rs j x is =
    let g = rs.of_gate x.cell is.there in
    record {
      expr = g.expr;
      is_gate = g.is_gate;
      many = sym (is.many ∙ g.is_cell.inputs);
      value = λ w long. sym (g.is_cell.value w (long ∙ is.many));
    }

-- ---- what a cover asks of the words

plain_few : (c : Cell) (f : Function) (e : Expression) → f ≡ gate e → IsPlain c f → length (cell_inputs c) ≤ 6
plain_few c f e is plain = let p : IsPlain c (gate e) = subst (λ (h : Function). IsPlain c h) is plain in p.1

pub few_inputs : (cells : List Cell) (registers : Bool) (ps : Parts) → AreRoles cells registers ps → HaveFewInputs (gate_words ps)
few_inputs cells registers ps rs k = elim (cases_lt k (length (gate_words ps))) [
  | inl low ↦
      let g = rs.of_gate k low in
      let e = g.is_cell.inputs in
      let few = plain_few (rs.each (role.Gate k)).cell (rs.each (role.Gate k)).cell.function g.expr g.is_gate (rs.each (role.Gate k)).usable.function in
      omega (arith, e, few)
  | inr high ↦ let e : inputs_of (gate_words ps) k ≡ 0 = ap (λ (w : CellWord). w.inputs) (get_or_past (gate_words ps) k blank high) in omega (arith, e)
]

module _ (cells : List Cell) (registers : Bool) (ps : Parts) (rs : AreRoles cells registers ps) (there_are : (k : Kind) → In k (needed registers) → HasCellOf cells k) where
  kind_cell : (t : Kind) → In t (needed registers) → t ≢ kind.Dff
      → (c : Cell) × (e : Expression) × (k : ℕ) × IsCell (gate_words ps) k c e × IsGateOf e (length (cell_inputs c)) t
  kind_cell t h apart =
      let has = there_are t h in
      let g = gate_of has.cell.function (length (cell_inputs has.cell)) t has.kind apart in
      let r = rs.every has.cell g.0 has.listed has.usable g.1 in
      (has.cell, g.0, r.0, r.1, g.2)

  fixed_of : (b : Bool) (c : Cell) (e : Expression) (k : ℕ) → IsCell (gate_words ps) k c e → length (cell_inputs c) ≡ 0 → val e [] ≡ b → HasFixed (gate_words ps) b
  fixed_of b c e k is none value =
      let inputs = is.inputs ∙ none in
      record { cell = k; there = is.there; inputs = inputs; value = is.value [] (sym inputs) ∙ value }

  has_fixed : (b : Bool) → HasFixed (gate_words ps) b
  has_fixed false = let r = kind_cell kind.Zero (there (there here)) (λ e. absurd (cc e)) in fixed_of false r.0 r.1 r.2 r.3 r.4.0 r.4.1
  has_fixed true = let r = kind_cell kind.One (there (there (there here))) (λ e. absurd (cc e)) in fixed_of true r.0 r.1 r.2 r.3 r.4.0 r.4.1

  has_inv : HasInv (gate_words ps)
  has_inv =
      let r = kind_cell kind.Inv here (λ e. absurd (cc e)) in
      let inputs : inputs_of (gate_words ps) r.2 ≡ 1 = r.3.inputs ∙ r.4.0 in
      record { cell = r.2; there = r.3.there; inputs = inputs; value = λ x. r.3.value (x ∷ []) (sym inputs) ∙ r.4.1 x }

  has_nand : HasNand (gate_words ps)
  has_nand =
      let r = kind_cell kind.Nand2 (there here) (λ e. absurd (cc e)) in
      let inputs : inputs_of (gate_words ps) r.2 ≡ 2 = r.3.inputs ∙ r.4.0 in
      record { cell = r.2; there = r.3.there; inputs = inputs; value = λ x y. r.3.value (x ∷ y ∷ []) (sym inputs) ∙ r.4.1 x y }

  pub has_cells : HasCells (gate_words ps)
  has_cells = record { has_fixed = has_fixed; has_inv = has_inv; has_nand = has_nand }
