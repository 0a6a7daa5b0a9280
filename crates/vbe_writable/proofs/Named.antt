-- What is read has names that can be written again.
use Rattle.std.proofs.Common.{◌≡◌, ℕ, true, false, codes, List, [], ◌∷◌, ◌≤◌, length, Option, None, Some, inl, inr, refl, sym, ◌∙◌, ap, subst, arith}
use Rattle.std.specs.List.{list_all}
use Rattle.std.specs.List.Sorted.{IsPermutation}
use Rattle.std.specs.Char.{is_ascii_alphabetic, to_ascii_lowercase}
use Rattle.std.specs.Prelude.{slice_index}
use Rattle.std.proofs.lemmas.Bool.{and_parts}
use Rattle.std.proofs.lemmas.List.{length-map}
use Rattle.std.proofs.lemmas.List.Sorted.{IsPermutation-sym}
use Rattle.vlsi_base.specs.declared.name.Port.{Port}
use Rattle.vlsi_base.specs.declared.name.Dir.{Dir}
use Rattle.vlsi_base.specs.declared.fault.FaultKind.TheVariants as kind
use Rattle.vlsi_base.specs.declared.fault.ReadError.{ReadError}
use Rattle.vlsi_base.specs.Member.{In, here, there}
use Rattle.text_names.specs.Words.{IsIdentifier, ArePortsNamed, CanBePorts}
use Rattle.lexer_base.specs.Bytes.{is_in_word}
use Rattle.machine_core.specs.Machine.{Machine, names_of}
use Rattle.machine_core.specs.Checked.{AreInOrder}
use Rattle.machine_core.proofs.Values.{In-split}
use Rattle.source_checks.specs.declared.statement.DesignFile.{DesignFile}
use Rattle.source_checks.specs.declared.symbol_table.Role.{Role}
use Rattle.source_checks.specs.declared.symbol_table.Symbol.{Symbol}
use Rattle.source_checks.specs.Symbols.{symbols, scalar}
use Rattle.source_checks.specs.Checks.{fault, if_symbol, first_repeated, Passes}
use Rattle.source_checks.specs.Elaboration.{port_bits, IsMachineOf}
use Rattle.vlsi_model.proofs.Assembly.{In-permutation}
use Rattle.vlsi_model.proofs.Bits.{different_texts}
use Rattle.vlsi_model.proofs.Stages.{no_fault}
use Rattle.vbe_io.specs.Text.{IsWritten, IsVbe}
use Rattle.vbe_io.specs.Cell.{pin_dir, pin_bits, is_left_out, IsBehaviour, ArePins, IsCellText}
use Rattle.vbe_io.specs.declared.cell_text.CellText.{CellText}
use Rattle.vlsi_base.specs.Lines.{lines_of}
use Rattle.catal.specs.Line.{lower, IsEntry}
use Rattle.catal.specs.Catal.{Gives, empty, used, unused, Lists, none, more}
use Rattle.vbe_writable.specs.Laws.{NoneIsSupply, with_supplies, MachineIsNamed, MachineIsShort, CellIsNamed, CatalIsNamed, CatalIsShort, MachineCanBeWritten, CellCanBeWritten}
use Rattle.vbe_writable.proofs.Letters.{word_of}
use Rattle.vbe_writable.proofs.Sources.{written_words, symbols_words}
use Rattle.vbe_writable.proofs.Declaring.{AreBits, bits_named, bits_small, none_supply, machine_dir, machine_bits, cell_bits}
use Rattle.vbe_writable.proofs.Running.{supplied}

-- ---- machines and cells

moved_bits : (towards : Role → Option Dir) (known : List Symbol) (bits ports : List Port) → IsPermutation bits ports → AreBits towards known bits → AreBits towards known ports
moved_bits towards known bits ports moved h = record {
  only = λ p i. h.only p (In-permutation ports bits p (IsPermutation-sym bits ports moved) i);
  all = λ p b. In-permutation bits ports p moved (h.all p b);
}

-- what is known of ports that are read
record AreRead (ports : List Port) : Type 0 where
  pub named : ArePortsNamed ports
  pub signals : NoneIsSupply ports
  pub order : AreInOrder (names_of ports)

read_of : (bytes : List ℕ) (design : DesignFile) (towards : Role → Option Dir) (ports : List Port) → IsWritten bytes design → first_repeated [] (symbols design) ≡ None
    → AreBits towards (symbols design) ports → AreInOrder (names_of ports) → AreRead ports
read_of bytes design towards ports w once bits order = record {
  named = bits_named towards (symbols design) ports (different_texts (symbols design) once) (symbols_words design (written_words bytes design w)) bits;
  signals = none_supply towards (symbols design) ports bits;
  order = order;
}

of_machine : (bytes : List ℕ) (design : DesignFile) (m : Machine) → IsWritten bytes design → Passes design → IsMachineOf design m → AreRead m.ports
of_machine bytes design m w passes is =
    let known = symbols design in
    let back = IsPermutation-sym m.ports (port_bits known) is.ports in
    read_of bytes design machine_dir m.ports w (no_fault design passes.no_fault).repeated (moved_bits machine_dir known (port_bits known) m.ports back (machine_bits known))
    is.checked.ports

machine_read : (bytes : List ℕ) (m : Machine) → IsVbe bytes m → AreRead m.ports
machine_read bytes m is = of_machine bytes is.design m is.written is.passes is.machine

pub machine_is_named : MachineIsNamed
machine_is_named bytes m is = (subst IsIdentifier (sym is.machine.name) (written_words bytes is.design is.written).0.0.0, (machine_read bytes m is).named)

pub machine_is_short : MachineIsShort
machine_is_short bytes m is =
    let known = symbols is.design in
    let words = written_words bytes is.design is.written in
    let back = IsPermutation-sym m.ports (port_bits known) is.machine.ports in
    let bits = moved_bits machine_dir known (port_bits known) m.ports back (machine_bits known) in (
      subst (λ (t : List ℕ). length t ≤ 64) (sym is.machine.name) words.0.0.1,
      bits_small machine_dir known m.ports (symbols_words is.design words) bits,
    )

-- a text that declares a name twice is no cell without a machine
never_twice : (o : Option Symbol) (later : Option ReadError) (e : ReadError) → if_symbol o later ≡ Some e → is_left_out e ≡ true → o ≡ None
never_twice None later e is left = refl
never_twice (Some s) later e is left =
    let twice : fault kind.Twice s.line (scalar s.text ∷ []) ≡ e = cc in let never : false ≡ true = ap is_left_out twice ∙ left in absurd cc

of_cell : (bytes : List ℕ) (design : DesignFile) (o : Option Machine) (pins : List Port) → IsWritten bytes design → IsBehaviour design o → ArePins (pin_bits (symbols design)) o pins → AreRead pins
of_cell bytes design (Some m) pins w b same = subst AreRead (sym same) (of_machine bytes design m w b.0 b.1)
of_cell bytes design None pins w b p =
    let known = symbols design in
    read_of bytes design pin_dir pins w (never_twice (first_repeated [] known) _ b.0 b.1 b.2) (moved_bits pin_dir known (pin_bits known) pins p.0 (cell_bits known)) p.1

cell_read : (bytes : List ℕ) (cell : CellText) → IsCellText bytes cell → AreRead cell.ports
cell_read bytes cell is = of_cell bytes is.design cell.machine cell.ports is.written is.behaviour is.pins

pub cell_is_named : CellIsNamed
cell_is_named bytes cell is = (cell_read bytes cell is).named

-- with the supplies

of_read : (ports : List Port) → AreRead ports → CanBePorts (with_supplies ports)
of_read ports h = supplied ports h.named h.signals h.order

pub machine_can_be_written : MachineCanBeWritten
machine_can_be_written bytes m is = of_read m.ports (machine_read bytes m is)

pub cell_can_be_written : CellCanBeWritten
cell_can_be_written bytes cell is = of_read cell.ports (cell_read bytes cell is)

-- ---- lists of cells

entry_word : (line name word : List ℕ) → IsEntry line name word → IsIdentifier (lower name)
entry_word line name word e =
    let parts = and_parts (is_ascii_alphabetic (slice_index name 0)) (list_all is_in_word name) e.spelled.name_is in
    word_of name parts.0 parts.1 e.unreserved

gives_words : (line name : List ℕ) (names : List (List ℕ)) → Gives line names → In name names → IsIdentifier name
gives_words line name _ (empty is) i = elim i [ ]
gives_words line _ _ (used n e fits) here = entry_word line n (codes "C") e
gives_words line _ _ (used n e fits) (there i) = elim i [ ]
gives_words line name _ (unused n w e other fits) i = elim i [ ]

lists_words : (lines : List (List ℕ)) (name : List ℕ) (names : List (List ℕ)) → Lists lines names → In name names → IsIdentifier name
lists_words _ name _ none i = elim i [ ]
lists_words _ name _ (more {line = line} {lines = lines} {given = a} {names = b} g t) i =
    elim (In-split name a b i) [ inl j ↦ gives_words line name a g j | inr j ↦ lists_words lines name b t j ]

gives_short : (line name : List ℕ) (names : List (List ℕ)) → Gives line names → In name names → length name ≤ 64
gives_short line name _ (empty is) i = elim i [ ]
gives_short line _ _ (used n e fits) here = let same = length-map n to_ascii_lowercase in omega (arith, same, fits)
gives_short line _ _ (used n e fits) (there i) = elim i [ ]
gives_short line name _ (unused n w e other fits) i = elim i [ ]

lists_short : (lines : List (List ℕ)) (name : List ℕ) (names : List (List ℕ)) → Lists lines names → In name names → length name ≤ 64
lists_short _ name _ none i = elim i [ ]
lists_short _ name _ (more {line = line} {lines = lines} {given = a} {names = b} g t) i =
    elim (In-split name a b i) [ inl j ↦ gives_short line name a g j | inr j ↦ lists_short lines name b t j ]

pub catal_is_short : CatalIsShort
catal_is_short bytes names is name i = lists_short (lines_of bytes) name names is.used.lists i

pub catal_is_named : CatalIsNamed
catal_is_named bytes names is name i = lists_words (lines_of bytes) name names is.used.lists i
