-- What instances hold after the clock's rise, by a bit for each terminal.
use Rattle.std.proofs.Common.{◌≡◌, ℕ, Bool, true, false, List, [], ◌∷◌, ◌++◌, map, Option, None, Some, refl, sym, ◌∙◌, ap, subst, if◌then◌else◌}
use Rattle.vlsi_base.specs.declared.name.Name.{Name}
use Rattle.vlsi_base.specs.declared.name.Port.{Port}
use Rattle.vlsi_base.specs.declared.name.Terminal.{Terminal}
use Rattle.vlsi_base.specs.Member.{In, here, there}
use Rattle.machine_core.specs.Named.{is_same_text}
use Rattle.cell_model.specs.Cell.{Function, gate, flip_flop, other, opaque, Cell}
use Rattle.cell_model.specs.Library.{Library, cell_of, IsPlain}
use Rattle.cell_model.proofs.Texts.{text_same}
use Rattle.net_core.specs.Netlist.{Instance, Netlist as InMemory, pin_of, terminals_of}
use Rattle.net_meaning.specs.Netlist.{AbstractNetlist}
use Rattle.net_meaning.specs.Behaviour.{Valuation, model_of, cell_at, loaded, next_held}
use Rattle.net_right.specs.View.{member_of, netlist_by}
use Rattle.net_bits.proofs.Lists.{pin_in, input_pin, IsMadeOf}
use Rattle.net_bits.proofs.Bits.{bits_of}

abbrev pub loaded_by : (Terminal → Bool) → List ℕ → Function → List Bool
loaded_by g owner (gate e) = []
loaded_by g owner (flip_flop d k) = g (pin_of owner d) ∷ []
loaded_by g owner (other m) = []
loaded_by g owner opaque = []

abbrev pub cell_holds : (Terminal → Bool) → List ℕ → Option Cell → List Bool
cell_holds g owner None = []
cell_holds g owner (Some c) = loaded_by g owner c.function

-- what the first instance of a name holds
abbrev pub held_by : Library → (Terminal → Bool) → List Instance → List ℕ → List Bool
held_by l g [] owner = []
held_by l g (i ∷ is) owner = if is_same_text i.name owner then cell_holds g owner (cell_of l i.model) else held_by l g is owner

-- ---- the next contents

module _ (l : Library) (n : InMemory) (class : Terminal → ℕ) (w : Valuation) (owner : List ℕ) where
  abbrev seen : AbstractNetlist
  seen = netlist_by class n

  cell_next : (i : Instance) → IsMadeOf l i → next_held seen w owner (cell_of l i.model) ≡ cell_holds (bits_of class w.classes) owner (cell_of l i.model)
  cell_next i m =
      ap (λ (o : Option Cell). next_held seen w owner o) m.1 ∙ by m.0.function m.2.function ∙ sym (ap (cell_holds (bits_of class w.classes) owner) m.1) where
        by : (u : Function) → IsPlain m.0 u → loaded seen w owner u ≡ loaded_by (bits_of class w.classes) owner u
        by (gate e) plain = refl
        by (flip_flop d k) plain = refl
        by (other machine) plain = absurd plain
        by opaque plain = absurd plain

  pub next_is : (is : List Instance) → ((i : Instance) → In i is → IsMadeOf l i)
      → next_held seen w owner (cell_at l (model_of (map member_of is) owner)) ≡ held_by l (bits_of class w.classes) is owner
  next_is [] cells = refl
  next_is (i ∷ is) cells = by (is_same_text i.name owner) (cell_next i (cells i here)) (next_is is (λ x h. cells x (there h))) where
    by : (b : Bool) → next_held seen w owner (cell_of l i.model) ≡ cell_holds (bits_of class w.classes) owner (cell_of l i.model)
        → next_held seen w owner (cell_at l (model_of (map member_of is) owner)) ≡ held_by l (bits_of class w.classes) is owner
        → next_held seen w owner (cell_at l (if b then Some i.model else model_of (map member_of is) owner))
        ≡ (if b then cell_holds (bits_of class w.classes) owner (cell_of l i.model) else held_by l (bits_of class w.classes) is owner)
    by true first rest = first
    by false first rest = rest

-- ---- the same bits

module _ (l : Library) (ports : List Port) (all : List Instance) (f g : Terminal → Bool) (same : (t : Terminal) → In t (terminals_of ports all) → f t ≡ g t)
    (owner : List ℕ) where
  cell_same : (i : Instance) → In i all → i.name ≡ owner → IsMadeOf l i → cell_holds f owner (cell_of l i.model) ≡ cell_holds g owner (cell_of l i.model)
  cell_same i i_in name m = ap (cell_holds f owner) m.1 ∙ by m.0.function m.2.function ∙ sym (ap (cell_holds g owner) m.1) where
    by : (u : Function) → IsPlain m.0 u → loaded_by f owner u ≡ loaded_by g owner u
    by (gate e) plain = refl
    by (flip_flop d k) plain =
        let pin : In d i.pins = subst (λ (ns : List Name). In d ns) (sym m.3) (input_pin m.0 d plain.2) in
        ap (λ (b : Bool). b ∷ []) (subst (λ (x : List ℕ). f (pin_of x d) ≡ g (pin_of x d)) name (same (pin_of i.name d) (pin_in ports all i d i_in pin)))
    by (other machine) plain = absurd plain
    by opaque plain = absurd plain

  pub held_same : (is : List Instance) → ((i : Instance) → In i is → In i all) → ((i : Instance) → In i is → IsMadeOf l i)
      → held_by l f is owner ≡ held_by l g is owner
  held_same [] inside cells = refl
  held_same (i ∷ is) inside cells = by (is_same_text i.name owner) refl (held_same is (λ x h. inside x (there h)) (λ x h. cells x (there h))) where
    by : (b : Bool) → is_same_text i.name owner ≡ b → held_by l f is owner ≡ held_by l g is owner
        → (if b then cell_holds f owner (cell_of l i.model) else held_by l f is owner) ≡ (if b then cell_holds g owner (cell_of l i.model) else held_by l g is owner)
    by true e rest = cell_same i (inside i here) (text_same i.name owner e) (cells i here)
    by false e rest = rest

-- ---- gates

-- no instance holds anything
abbrev pub HoldNothing : Library → List Instance → Type 0
HoldNothing l is = (i : Instance) (c : Cell) → In i is → cell_of l i.model ≡ Some c → (g : Terminal → Bool) (owner : List ℕ) → loaded_by g owner c.function ≡ []

module _ (l : Library) (g : Terminal → Bool) (owner : List ℕ) where
  nothing_by : (o : Option Cell) → ((c : Cell) → o ≡ Some c → loaded_by g owner c.function ≡ []) → cell_holds g owner o ≡ []
  nothing_by None each = refl
  nothing_by (Some c) each = each c refl

  held_nothing : (is : List Instance) → HoldNothing l is → held_by l g is owner ≡ []
  held_nothing [] empty = refl
  held_nothing (i ∷ is) empty =
      by (is_same_text i.name owner)
      (nothing_by (cell_of l i.model) (λ c found. empty i c here found g owner)) (held_nothing is (λ x c h. empty x c (there h))) where
        by : (b : Bool) → cell_holds g owner (cell_of l i.model) ≡ [] → held_by l g is owner ≡ []
            → (if b then cell_holds g owner (cell_of l i.model) else held_by l g is owner) ≡ []
        by true first rest = first
        by false first rest = rest

  pub held_before : (is others : List Instance) → HoldNothing l others → held_by l g (is ++ others) owner ≡ held_by l g is owner
  held_before [] others empty = held_nothing others empty
  held_before (i ∷ is) others empty =
      ap (λ (r : List Bool). if is_same_text i.name owner then cell_holds g owner (cell_of l i.model) else r) (held_before is others empty)
