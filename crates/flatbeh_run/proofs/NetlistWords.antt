-- The names of a structural text are words, and its ports but the supplies can be declared.
use Rattle.std.proofs.Common.{List, [], ◌∷◌, arith}
use Rattle.std.proofs.lemmas.List.Elements.{All-nil}
use Rattle.vlsi_base.specs.declared.name.Port.{Port}
use Rattle.machine_core.specs.Machine.{names_of}
use Rattle.text_names.specs.Words.{IsIdentifier, ArePortsNamed}
use Rattle.cell_pins.proofs.Ports.{sorted_of, sorted_filter, sorted_pairs}
use Rattle.net_core.specs.Netlist.{AreInOrder as StandInOrder}
use Rattle.net_machine.specs.Signals.{signal_ports}
use Rattle.vbe_print.specs.Writable.{AreDeclared}
use Rattle.vbe_writable.specs.Laws.{InOrderCanBeWritten}
use Rattle.vst_laws.specs.Writable.{NetlistHasNames}
use Rattle.vst_laws.proofs.Words.{is_signal}
use Rattle.flatbeh_run.specs.Laws.{NetlistHasWords}

-- ports in the order of names that can be declared, perhaps none
declared : InOrderCanBeWritten → (ports : List Port) → ArePortsNamed ports → StandInOrder (names_of ports) → AreDeclared ports
declared law [] h order = record { words = All-nil (λ (p : Port). IsIdentifier p.name.text); runs = λ k p q e f same. absurd cc }
declared law (p ∷ ports) h order = let c = law (p ∷ ports) h order (omega arith) in record { words = c.words; runs = c.runs }

pub netlist_words : InOrderCanBeWritten → NetlistHasNames → NetlistHasWords
netlist_words law named bytes table n is =
    let names = named bytes table n is in
    record {
      name = names.name;
      ports = declared law (signal_ports n.ports) names.signals
          (sorted_pairs (signal_ports n.ports) (sorted_filter is_signal n.ports (sorted_of n.ports is.netlist.sound.ports)));
      instances = names.instances;
    }
