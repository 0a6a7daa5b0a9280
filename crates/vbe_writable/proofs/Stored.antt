-- The registers of a machine that is read: their bits can be declared, and none has the text of a port.
use Rattle.std.proofs.Common.{◌≡◌, Bool, true, false, List, map, Option, None, Some, IsSome, option_map, inl, inr, refl, sym, ◌∙◌, ap, subst}
use Rattle.std.specs.List.Sorted.{IsPermutation}
use Rattle.std.proofs.lemmas.List.Sorted.{IsPermutation-sym, IsPermutation-map}
use Rattle.vlsi_base.specs.declared.name.Name.{Name}
use Rattle.vlsi_base.specs.declared.name.Port.{Port}
use Rattle.vlsi_base.specs.declared.name.Dir.{Dir}
use Rattle.vlsi_base.specs.declared.name.Dir.TheVariants as dir
use Rattle.vlsi_base.specs.Name.{is_supply}
use Rattle.vlsi_base.specs.Member.{In}
use Rattle.text_names.specs.Words.{ArePortsNamed}
use Rattle.machine_core.specs.Machine.{Machine, Register, register_names}
use Rattle.machine_core.proofs.Values.{In-map}
use Rattle.source_checks.specs.declared.statement.DesignFile.{DesignFile}
use Rattle.source_checks.specs.declared.symbol_table.Role.{Role}
use Rattle.source_checks.specs.declared.symbol_table.Role.TheVariants as role
use Rattle.source_checks.specs.declared.symbol_table.Symbol.{Symbol}
use Rattle.source_checks.specs.Symbols.{symbols, scalar}
use Rattle.source_checks.specs.Drivers.{needs_driver}
use Rattle.source_checks.specs.Clock.{clock_text}
use Rattle.source_checks.specs.Elaboration.{Storage, definitions, storage, port_of, port_bits, clock_name, IsMachineOf}
use Rattle.vlsi_model.specs.Laid.{names_defined, names_stored}
use Rattle.vlsi_model.proofs.Members.{In-map_back}
use Rattle.vlsi_model.proofs.Stages.{no_fault}
use Rattle.vlsi_model.proofs.Bits.{IsBit as IsBitOf, found_in, bit_of_symbol, different_texts}
use Rattle.vlsi_model.proofs.PortBits.{role_of_dir}
use Rattle.vlsi_model.proofs.FineAssignments.{RoleIn}
use Rattle.vlsi_model.proofs.FineSources.{Facts, facts}
use Rattle.vlsi_model.proofs.Assembly.{register_of, names-registers, In-permutation, false_or_true, one_symbol, stored_is, defined_is}
use Rattle.vbe_io.specs.Text.{IsVbe}
use Rattle.vbe_writable.specs.Laws.{register_ports, AreRegistersNamed, RegistersAreNamed}
use Rattle.vbe_writable.proofs.Sources.{written_words, symbols_words}
use Rattle.vbe_writable.proofs.Declaring.{IsBit, AreBits, bits_named, text_of, same_symbol, machine_dir, machine_bits}

-- ---- the direction of registers, where they are taken for ports

abbrev register_dir : Role → Option Dir
register_dir role.Input = None
register_dir role.Output = None
register_dir role.Both = None
register_dir role.Inner = None
register_dir role.Register = Some dir.Out

of_stored : (r : Role) → RoleIn true r → r ≡ role.Register
of_stored role.Input h = absurd h
of_stored role.Output h = absurd h
of_stored role.Both h = absurd h
of_stored role.Inner h = absurd h
of_stored role.Register h = refl

to_role : (r : Role) (d : Dir) → register_dir r ≡ Some d → (r ≡ role.Register) × (d ≡ dir.Out)
to_role role.Input d e = absurd cc
to_role role.Output d e = absurd cc
to_role role.Both d e = absurd cc
to_role role.Inner d e = absurd cc
to_role role.Register d e = let same : dir.Out ≡ d = cc in (refl, sym same)

not_a_port : (r : Role) (d : Dir) → machine_dir r ≡ Some d → r ≡ role.Register → ⊥
not_a_port role.Input d e h = subst (λ (x : Role). RoleIn true x) (sym h) tt
not_a_port role.Output d e h = subst (λ (x : Role). RoleIn true x) (sym h) tt
not_a_port role.Both d e h = absurd cc
not_a_port role.Inner d e h = absurd cc
not_a_port role.Register d e h = absurd cc

-- ---- the bits that are stored, in any order

module _ (design : DesignFile) (f : Facts design) where
  abbrev known : List Symbol
  known = symbols design

  bit_is : (n : Name) → In n (names_stored (storage design)) → IsBit register_dir known (port_of dir.Out n)
  bit_is n i =
      let d = stored_is design f n i in
      let declared = found_in known n.text d.symbol d.bit.found in
      let is = of_stored d.symbol.role d.role in
      record {
        symbol = d.symbol;
        declared = declared;
        bit = d.bit.among;
        no_supply = false_or_true (is_supply d.symbol.text) (λ h. subst (RoleIn true) ((f.fine d.symbol declared).supply h) d.role);
        direction = ap register_dir is;
      }

  stored_in : (n : Name) (s : Symbol) → IsBitOf known n s → s.role ≡ role.Register → In n (names_stored (storage design))
  stored_in n s bit is = elim (f.driven n s bit (ap needs_driver is)) [
    | inl i ↦
        let d = defined_is design f n i in
        let same = one_symbol known n d.symbol s d.bit bit in
        absurd (subst (RoleIn false) (ap (λ (x : Symbol). x.role) same ∙ is) d.role)
    | inr i ↦ i
  ]

  register_bits : (ns : List Name) → IsPermutation (names_stored (storage design)) ns → AreBits register_dir known (register_ports ns)
  register_bits ns moved = record {
    only = λ p i.
        let m = In-map_back (port_of dir.Out) p ns i in
        subst (λ (q : Port). IsBit register_dir known q) m.2
        (bit_is m.0 (In-permutation ns (names_stored (storage design)) m.0 (IsPermutation-sym (names_stored (storage design)) ns moved) m.1));
    all = λ p b.
        let is = to_role b.symbol.role p.dir b.direction in
        let bit = bit_of_symbol known p.name b.symbol f.different b.declared b.bit in
        let among = In-permutation (names_stored (storage design)) ns p.name moved (stored_in p.name b.symbol bit is.0) in
        subst (λ (d : Dir). In (port_of d p.name) (register_ports ns)) (sym is.1) (In-map (port_of dir.Out) p.name ns among);
  }

scalar_clock : (o : Option (List _)) (name : Name) → option_map scalar o ≡ Some name → name.bit ≡ None
scalar_clock None name e = absurd cc
scalar_clock (Some text) name e = let same : scalar text ≡ name = cc in ap (λ (n : Name). n.bit) (sym same)

stored_names : (design : DesignFile) (m : Machine) → IsMachineOf design m → IsPermutation (names_stored (storage design)) (register_names m)
stored_names design m is =
    let moved = IsPermutation-map (λ (r : Register). r.name) m.registers (map (register_of m.vars) (storage design)) is.registers in
    let names = subst (λ (ns : List Name). IsPermutation (register_names m) ns) (names-registers m.vars (storage design)) moved in
    IsPermutation-sym (register_names m) (names_stored (storage design)) names

pub registers_are_named : RegistersAreNamed
registers_are_named bytes m is =
    let design = is.design in
    let none = no_fault design is.passes.no_fault in
    let f = facts design none in
    let words = symbols_words design (written_words bytes design is.written) in
    let bits = register_bits design f (register_names m) (stored_names design m is.machine) in
    let ports = machine_bits (symbols design) in
    record {
      named = bits_named register_dir (symbols design) (register_ports (register_names m)) f.different words bits;
      apart = λ p r i j e.
          let a = ports.only p (In-permutation m.ports (port_bits (symbols design)) p is.machine.ports i) in
          let b = bits.only (port_of dir.Out r.name) (In-map (port_of dir.Out) r.name (register_names m) (In-map (λ (x : Register). x.name) r m.registers j)) in
          let texts = sym (text_of machine_dir (symbols design) p a) ∙ e ∙ text_of register_dir (symbols design) (port_of dir.Out r.name) b in
          let same = same_symbol (symbols design) a.symbol b.symbol f.different a.declared b.declared texts in
          not_a_port a.symbol.role p.dir a.direction (ap (λ (s : Symbol). s.role) same ∙ (to_role b.symbol.role dir.Out b.direction).0);
      clock = λ name e. scalar_clock (clock_text design) name (sym is.machine.clock ∙ e);
    }
