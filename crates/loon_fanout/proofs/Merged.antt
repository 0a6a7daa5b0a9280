-- What holds of terminals whose classes are one once the buffers are taken out.
use Rattle.std.proofs.Common.{◌≡◌, ◌⊎◌, inl, inr, ℕ, refl, sym, ◌∙◌, subst}
use Rattle.vlsi_base.specs.declared.name.Name.{Name}
use Rattle.vlsi_base.specs.declared.name.Terminal.{Terminal}
use Rattle.vlsi_base.specs.Member.{In}
use Rattle.machine_core.specs.Machine.{names_of}
use Rattle.cell_model.specs.Cell.{Cell, pin_ports, cell_inputs, cell_outputs}
use Rattle.cell_model.specs.Library.{Library}
use Rattle.net_meaning.specs.Netlist.{Member, AbstractNetlist, pin_of}
use Rattle.net_meaning.specs.Well.{Has, buffer_instance}
use Rattle.net_meaning.specs.Buffers.{AreOne, alike, tied, turned, through}
use Rattle.net_theory.proofs.Basics.{In-names}

-- a relation of such terminals that holds of those of one class, and of the pins of each instance named b
pub record Merges (n : AbstractNetlist) (l : Library) (There : Terminal → Type 0) (Same : Terminal → Terminal → Type 0) : Type 0 where
  pub in_class : (t u : Terminal) → There t → There u → n.class t ≡ n.class u → Same t u
  pub back : (t u : Terminal) → Same t u → Same u t
  pub chain : (t u v : Terminal) → Same t u → Same u v → Same t v
  pub pins : (i : Member) (c : Cell) → Has n l i c → (pin : Name) → In pin (names_of (pin_ports c)) → There (pin_of i.name pin)
  pub over : (i : Member) (c : Cell) (j : ℕ) (x y : Name) → Has n l i c → i.name ≡ buffer_instance j → In x (cell_inputs c) → In y (cell_outputs c)
      → Same (pin_of i.name x) (pin_of i.name y)

module _ (n : AbstractNetlist) (l : Library) (There : Terminal → Type 0) (Same : Terminal → Terminal → Type 0) (h : Merges n l There Same) where
  -- two classes with terminals that are related
  record Met (a d : ℕ) : Type 0 where
    first : Terminal
    second : Terminal
    first_in : There first
    second_in : There second
    first_class : n.class first ≡ a
    second_class : n.class second ≡ d
    same : Same first second

  joined : (a mid d : ℕ) → Met a mid → Met mid d → Met a d
  joined a mid d x y = record {
    first = x.first;
    second = y.second;
    first_in = x.first_in;
    second_in = y.second_in;
    first_class = x.first_class;
    second_class = y.second_class;
    same =
        h.chain x.first y.first y.second
        (h.chain x.first x.second y.first x.same (h.in_class x.second y.first x.second_in y.first_in (x.second_class ∙ sym y.first_class))) y.same;
  }

  met : (a d : ℕ) → AreOne n l a d → (a ≡ d) ⊎ Met a d
  met a d alike = inl refl
  met a d (tied i c j x y has named x_in y_in) = inr (record {
    first = pin_of i.name x;
    second = pin_of i.name y;
    first_in = h.pins i c has x (In-names _ (pin_ports c) x x_in);
    second_in = h.pins i c has y (In-names _ (pin_ports c) y y_in);
    first_class = refl;
    second_class = refl;
    same = h.over i c j x y has named x_in y_in;
  })
  met a d (turned g) = elim (met d a g) [
    | inl e ↦ inl (sym e)
    | inr x ↦ inr (record {
      first = x.second;
      second = x.first;
      first_in = x.second_in;
      second_in = x.first_in;
      first_class = x.second_class;
      second_class = x.first_class;
      same = h.back x.first x.second x.same;
    })
  ]
  met a d (through {b = mid} f g) = by (met a mid f) (met mid d g) where
    by : (a ≡ mid) ⊎ Met a mid → (mid ≡ d) ⊎ Met mid d → (a ≡ d) ⊎ Met a d
    by (inl x) (inl y) = inl (x ∙ y)
    by (inl x) (inr y) = inr (subst (λ (z : ℕ). Met z d) (sym x) y)
    by (inr x) (inl y) = inr (subst (λ (z : ℕ). Met a z) y x)
    by (inr x) (inr y) = inr (joined a mid d x y)

  pub merged : (t u : Terminal) → There t → There u → AreOne n l (n.class t) (n.class u) → Same t u
  merged t u t_in u_in g = elim (met (n.class t) (n.class u) g) [
    | inl e ↦ h.in_class t u t_in u_in e
    | inr x ↦
        h.chain t x.first u (h.in_class t x.first t_in x.first_in (sym x.first_class))
        (h.chain x.first x.second u x.same (h.in_class x.second u x.second_in u_in x.second_class))
  ]
