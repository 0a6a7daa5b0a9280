-- Kinds of cells, and cells of a list that have them.
use Rattle.std.proofs.Common.{◌≡◌, ℕ, ◌<◌, Bool, true, false, List, [], ◌∷◌, map, filter, length, get_or, Option, None, Some, IfSome, IfNone, refl, sym, ap, subst, ◌∙◌, cond, arith}
use Rattle.vlsi_base.specs.declared.name.Port.{Port}
use Rattle.vlsi_base.specs.Member.{In, here, there}
use Rattle.machine_core.specs.Machine.{is_input, names_of}
use Rattle.bool_expr.specs.Expression.{Expression, IsOver}
use Rattle.cell_model.specs.declared.cell.Pin.{Pin}
use Rattle.vlsi_base.specs.declared.kind.Kind.{Kind}
use Rattle.vlsi_base.specs.declared.kind.Kind.TheVariants as kind
use Rattle.cell_model.specs.Function.{Function, gate, flip_flop, other, opaque}
use Rattle.cell_model.specs.Cell.{Cell, cell_inputs}
use Rattle.cell_model.specs.Library.{IsUsable}
use Rattle.cell_model.specs.Usable.{FitsPins}
use Rattle.cell_model.specs.Covering.{IsGateOf, IsFunctionOf, HasKind, HasCellOf, needed, IsFirstMissing, first, later}
use Rattle.cell_model.proofs.Members.{place-In, In-at}

-- how many pins are inputs
abbrev pub inputs_among : List Pin → ℕ
inputs_among pins = length (filter (λ p. is_input p.port.dir) pins)

chosen : (b : Bool) (p : Pin) (ports : List Port) (pins : List Pin) → length (names_of ports) ≡ length pins
    → length (names_of (cond b (p.port ∷ ports) ports)) ≡ length (cond b (p ∷ pins) pins)
chosen true p ports pins h = omega (arith, h)
chosen false p ports pins h = h

counted : (pins : List Pin) → length (names_of (filter (λ p. is_input p.dir) (map (λ p. p.port) pins))) ≡ inputs_among pins
counted [] = refl
counted (p ∷ pins) =
    chosen (is_input p.port.dir) p (filter (λ q. is_input q.dir) (map (λ q. q.port) pins)) (filter (λ q. is_input q.port.dir) pins) (counted pins)

pub inputs_counted : (c : Cell) (n : ℕ) → n ≡ inputs_among c.pins → length (cell_inputs c) ≡ n
inputs_counted c n h = counted c.pins ∙ sym h

pub gate_over : (c : Cell) (e : Expression) (n : ℕ) → n ≡ inputs_among c.pins → c.function ≡ gate e → FitsPins c c.function → IsOver e n
gate_over c e n h is fits = let f : FitsPins c (gate e) = subst (FitsPins c) is fits in subst (IsOver e) (inputs_counted c n h) f.2

pub gate_kinds : (c : Cell) (e : Expression) (n : ℕ) → n ≡ inputs_among c.pins → c.function ≡ gate e → (k : Kind) → IsGateOf e n k → HasKind c k
gate_kinds c e n h is k has =
    subst (λ (f : Function). IsFunctionOf f (length (cell_inputs c)) k) (sym is) (subst (λ (m : ℕ). IsGateOf e m k) (sym (inputs_counted c n h)) has)

pub kinds_gate : (c : Cell) (e : Expression) (n : ℕ) → n ≡ inputs_among c.pins → c.function ≡ gate e → (k : Kind) → HasKind c k → IsGateOf e n k
kinds_gate c e n h is k has =
    subst (λ (m : ℕ). IsGateOf e m k) (inputs_counted c n h) (subst (λ (f : Function). IsFunctionOf f (length (cell_inputs c)) k) is has)

pub some_like : (P Q : Kind → Type 0) (r : Option Kind) → ((k : Kind) → P k → Q k) → IfSome r P → IfSome r Q
some_like P Q None f h = tt
some_like P Q (Some k) f h = f k h

pub none_like : (P Q : Type 0) (r : Option Kind) → (P → Q) → IfNone r P → IfNone r Q
none_like P Q None f h = f h
none_like P Q (Some k) f h = tt

-- a cell has one kind at most
pub one_gate : (e : Expression) (n : ℕ) (j k : Kind) → IsGateOf e n j → IsGateOf e n k → j ≡ k
one_gate e n kind.Inv kind.Inv a b = refl
one_gate e n kind.Inv kind.Nand2 a b = absurd (omega (arith, a.0, b.0))
one_gate e n kind.Inv kind.Zero a b = absurd (omega (arith, a.0, b.0))
one_gate e n kind.Inv kind.One a b = absurd (omega (arith, a.0, b.0))
one_gate e n kind.Nand2 kind.Inv a b = absurd (omega (arith, a.0, b.0))
one_gate e n kind.Nand2 kind.Nand2 a b = refl
one_gate e n kind.Nand2 kind.Zero a b = absurd (omega (arith, a.0, b.0))
one_gate e n kind.Nand2 kind.One a b = absurd (omega (arith, a.0, b.0))
one_gate e n kind.Zero kind.Inv a b = absurd (omega (arith, a.0, b.0))
one_gate e n kind.Zero kind.Nand2 a b = absurd (omega (arith, a.0, b.0))
one_gate e n kind.Zero kind.Zero a b = refl
one_gate e n kind.Zero kind.One a b = absurd (let h : false ≡ true = sym a.1 ∙ b.1 in cc)
one_gate e n kind.One kind.Inv a b = absurd (omega (arith, a.0, b.0))
one_gate e n kind.One kind.Nand2 a b = absurd (omega (arith, a.0, b.0))
one_gate e n kind.One kind.Zero a b = absurd (let h : true ≡ false = sym a.1 ∙ b.1 in cc)
one_gate e n kind.One kind.One a b = refl
one_gate e n kind.Dff k a b = absurd a
one_gate e n kind.Inv kind.Dff a b = absurd b
one_gate e n kind.Nand2 kind.Dff a b = absurd b
one_gate e n kind.Zero kind.Dff a b = absurd b
one_gate e n kind.One kind.Dff a b = absurd b

one_function : (f : Function) (n : ℕ) (j k : Kind) → IsFunctionOf f n j → IsFunctionOf f n k → j ≡ k
one_function (gate e) n j k a b = one_gate e n j k a b
one_function (flip_flop p q) n j k a b = a ∙ sym b
one_function (other m) n j k a b = absurd a
one_function opaque n j k a b = absurd a

pub one_kind : (c : Cell) (j k : Kind) → HasKind c j → HasKind c k → j ≡ k
one_kind c j k a b = one_function c.function (length (cell_inputs c)) j k a b

-- the answer of `kind_of` is the kind exactly where the cell has it
pub kind_told : (c : Cell) (r : Option Kind) (k : Kind) → IfSome r (HasKind c) → IfNone r ((j : Kind) → HasKind c j → ⊥) → HasKind c k → r ≡ Some k
kind_told c None k some none has = absurd (none k has)
kind_told c (Some j) k some none has = ap Some (one_kind c j k some has)

pub kind_said : (c : Cell) (r : Option Kind) (k : Kind) → IfSome r (HasKind c) → r ≡ Some k → HasKind c k
kind_said c r k some is = subst (λ (o : Option Kind). IfSome o (HasKind c)) is some

-- what a cell of a list is asked for
abbrev pub IsCellOf : Kind → Cell → Type 0
IsCellOf k c = IsUsable c × HasKind c k

pub found : (cells : List Cell) (k : Kind) (i : ℕ) (d : Cell) → i < length cells → IsCellOf k (get_or cells i d) → HasCellOf cells k
found cells k i d h is = record { cell = get_or cells i d; listed = In-at cells i d h; usable = is.0; kind = is.1 }

pub not_found : (cells : List Cell) (k : Kind) → ((i : ℕ) (d : Cell) → i < length cells → IsCellOf k (get_or cells i d) → ⊥) → HasCellOf cells k → ⊥
not_found cells k none has =
    let r = place-In has.cell cells has.listed in
    none r.0 has.cell r.1 (subst (IsCellOf k) (sym (r.2 has.cell)) (has.usable, has.kind))

pub all_there : (cells : List Cell) (registers : Bool) → HasCellOf cells kind.Inv → HasCellOf cells kind.Nand2 → HasCellOf cells kind.Zero
    → HasCellOf cells kind.One → (registers ≡ true → HasCellOf cells kind.Dff) → (k : Kind) → In k (needed registers) → HasCellOf cells k
all_there cells registers inv nand low high dff k here = inv
all_there cells registers inv nand low high dff k (there here) = nand
all_there cells registers inv nand low high dff k (there (there here)) = low
all_there cells registers inv nand low high dff k (there (there (there here))) = high
all_there cells true inv nand low high dff k (there (there (there (there here)))) = dff refl
all_there cells true inv nand low high dff k (there (there (there (there (there h))))) = elim h [ ]
all_there cells false inv nand low high dff k (there (there (there (there h)))) = elim h [ ]

-- a Dff is missing where all others are there
pub dff_missing : (cells : List Cell) (registers : Bool) → HasCellOf cells kind.Inv → HasCellOf cells kind.Nand2 → HasCellOf cells kind.Zero
    → HasCellOf cells kind.One → registers ≡ true → (HasCellOf cells kind.Dff → ⊥) → IsFirstMissing cells kind.Dff (needed registers)
dff_missing cells true inv nand low high is none = later inv (later nand (later low (later high (first none))))
dff_missing cells false inv nand low high is none = absurd cc

pub told : {P : Type 0} (r : Bool) → (r ≡ true → P) × (P → r ≡ true) → r ≡ true → P
told r iff is = iff.0 is

pub denied : {P : Type 0} (r : Bool) → (r ≡ true → P) × (P → r ≡ true) → r ≡ false → P → ⊥
denied r iff is p = let h : true ≡ false = sym (iff.1 p) ∙ is in cc
