-- Names that are declared: how they are found, and which bits they have.
use Rattle.std.proofs.Common.{◌≡◌, ℕ, true, cond, List, [], ◌∷◌, Option, None, Some, refl, sym, ap, subst, ◌∙◌}
use Rattle.vlsi_base.specs.declared.name.Name.{Name}
use Rattle.vlsi_base.specs.declared.name.Port.{Port}
use Rattle.vlsi_base.specs.declared.name.Dir.TheVariants as dir
use Rattle.vlsi_base.specs.declared.range.Range.{Range}
use Rattle.vlsi_base.specs.Member.{In, here, there, AllDifferent}
use Rattle.vlsi_base.specs.NamePlaces.{name_of}
use Rattle.source_checks.specs.declared.symbol_table.Role.{Role}
use Rattle.source_checks.specs.declared.symbol_table.Role.TheVariants as role
use Rattle.source_checks.specs.declared.symbol_table.Symbol.{Symbol}
use Rattle.source_checks.specs.Symbols.{find, is_port}
use Rattle.source_checks.specs.Elaboration.{port_of, ports_of_role}
use Rattle.vlsi_base.specs.Range.{range_bits}
use Rattle.vlsi_model.proofs.Members.{In-map_back}
use Rattle.vlsi_model.proofs.Bits.{texts, in_found, range-has}
use Rattle.vst_io.specs.Nets.{bits_of, part_of, selected, pin_selection, names, port_bits}
use Rattle.vst_io.specs.Faults.{lies_in, goes}
use Rattle.vst_io.proofs.Fine.{in_flat}
use Rattle.vst_io.proofs.Ports.{ports_at}

-- ---- one bit of a name

pub lies_of : (range : Option Range) (b : Option ℕ) → In b (bits_of range) → lies_in range b ≡ true
lies_of None b here = refl
lies_of None b (there h) = elim h [ ]
lies_of (Some r) b h =
    let k = In-map_back (λ (j : ℕ). Some j) b (range_bits r) h in
    subst (λ (o : Option ℕ). lies_in (Some r) o ≡ true) k.2 (range-has r k.0 k.1)

part_bit : (range : Option Range) (b : Option ℕ) → lies_in range b ≡ true → part_of range (pin_selection b) ≡ b ∷ []
part_bit None None h = refl
part_bit None (Some k) h = absurd cc
part_bit (Some r) None h = absurd cc
part_bit (Some r) (Some k) h = ap (λ t. cond t (Some k ∷ []) []) h

-- a name that is declared with this bit
pub record IsNameOf (known : List Symbol) (n : Name) : Type 0 where
  pub symbol : Symbol
  pub listed : In symbol known
  pub text : symbol.text ≡ n.text
  pub bit : lies_in symbol.range n.bit ≡ true

-- is found, where texts are different
pub found : (known : List Symbol) (n : Name) → AllDifferent (texts known) → (i : IsNameOf known n) → find known n.text ≡ Some i.symbol
found known n different i = ap (find known) (sym i.text) ∙ in_found known i.symbol different i.listed

-- and the bit alone is selected
pub one_bit : (known : List Symbol) (n : Name) → AllDifferent (texts known) → IsNameOf known n → selected (find known n.text) (pin_selection n.bit) ≡ n.bit ∷ []
one_bit known n different i = ap (λ (o : Option Symbol). selected o (pin_selection n.bit)) (found known n different i) ∙ part_bit i.symbol.range n.bit i.bit

-- ---- ports

-- the name that a port is a bit of
pub record IsPortOf (known : List Symbol) (p : Port) : Type 0 where
  pub name : IsNameOf known p.name
  pub goes : goes name.symbol.role p.dir ≡ true
  pub port : is_port name.symbol.role ≡ true

record AtRole (r : Role) (ns : List Name) (p : Port) : Type 0 where
  pub name : In p.name ns
  pub goes : goes r p.dir ≡ true
  pub port : is_port r ≡ true

at_role : (r : Role) (ns : List Name) (p : Port) → In p (ports_of_role r ns) → AtRole r ns p
at_role role.Input ns p h =
    let n = In-map_back (port_of dir.In) p ns h in
    record { name = subst (λ (q : Port). In q.name ns) n.2 n.1; goes = ap (λ (q : Port). goes role.Input q.dir) (sym n.2); port = refl }
at_role role.Output ns p h =
    let n = In-map_back (port_of dir.Out) p ns h in
    record { name = subst (λ (q : Port). In q.name ns) n.2 n.1; goes = ap (λ (q : Port). goes role.Output q.dir) (sym n.2); port = refl }
at_role role.Both ns p h = elim h [ ]
at_role role.Inner ns p h = elim h [ ]
at_role role.Register ns p h = elim h [ ]

pub port_is : (known : List Symbol) (p : Port) → In p (port_bits known) → IsPortOf known p
port_is known p h =
    let s = in_flat ports_at known p h in
    let r = at_role s.0.role (names s.0.text (bits_of s.0.range)) p s.2 in
    let b = In-map_back (name_of s.0.text) p.name (bits_of s.0.range) r.name in
    record {
      name = record {
        symbol = s.0;
        listed = s.1;
        text = ap (λ (n : Name). n.text) b.2;
        bit = subst (λ (n : Name). lies_in s.0.range n.bit ≡ true) b.2 (lies_of s.0.range b.0 b.1);
      };
      goes = r.goes;
      port = r.port;
    }
