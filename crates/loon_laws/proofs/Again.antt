-- What is made of a netlist that is read, written and read again.
use Rattle.std.proofs.Common.{◌≡◌, ◌≤◌, ℕ, false, List, filter, length, not, refl, sym, subst}
use Rattle.vlsi_base.specs.declared.name.Port.{Port}
use Rattle.vlsi_base.specs.Name.{is_supply}
use Rattle.cell_model.specs.Library.{Library}
use Rattle.cell_checks.specs.Checked.{IsChecked as HasPassed}
use Rattle.cell_lib.specs.Laws.{LibraryPasses}
use Rattle.cell_pins.specs.Table.{IsListed}
use Rattle.cell_pins.proofs.Sound.{sound as table_sound}
use Rattle.source_checks.specs.Checks.{most_ports}
use Rattle.net_core.specs.declared.pins.ModelPins.{ModelPins}
use Rattle.net_core.specs.Netlist.{Netlist, IsNetlist}
use Rattle.net_core.specs.Checks.{IsPinTable}
use Rattle.net_right.specs.Condition.{MeetsCondition}
use Rattle.vst_io.proofs.First.{faultless}
use Rattle.vst_io.proofs.Reading.{netlist_meets}
use Rattle.loon_run.specs.Loon.{AreRead, IsMade, bare, driven}
use Rattle.loon_run.specs.Laws.{HasUsableCells, NetlistIsDrivable, DrivenIsWritable}
use Rattle.vst_laws.specs.Again.{CanBeSaid, CanBeRead, WrittenIsReadAgain, ReadAgain}
use Rattle.loon_laws.specs.Meets.{MadeMeetsCondition}
use Rattle.loon_laws.specs.Again.{ReadMeetsCondition, IsSmall, IsReadAgain, MadeIsReadAgain, LoonIsReadAgain}
use Rattle.vst_laws.proofs.Supplies.{lists_supplies}
use Rattle.loon_laws.proofs.Meets.{Known as Kept, cells_after, ports_after}

-- the pins of the usable cells are a table
is_table : LibraryPasses → (source catal : List ℕ) (files : List (List ℕ)) (l : Library) (table : List ModelPins) (n : Netlist)
    → AreRead source catal files l table n → IsPinTable table
is_table passes source catal files l table n read =
    let passed = passes false catal files l read.library in table_sound (IsListed false) l.cells table passed.formed passed.names read.pins

pub read_meets : LibraryPasses → ReadMeetsCondition
read_meets passes source catal files l table n read =
    let v = read.netlist in
    netlist_meets table v.file n (is_table passes source catal files l table n read) (faultless table v.file v.no_fault) v.netlist v.passes
    (lists_supplies l false table read.pins)

-- what is known of libraries, of what is made, and of what is written
pub record Known : Type 0 where
  pub passes : LibraryPasses
  pub drivable : NetlistIsDrivable
  pub writable : DrivenIsWritable
  pub kept : Kept
  pub meets : MadeMeetsCondition
  pub written : WrittenIsReadAgain
  pub again : ReadAgain

module _ (known : Known) (source catal : List ℕ) (files : List (List ℕ)) (l : Library) (table : List ModelPins) (n : Netlist)
    (fanout : ℕ) (read : AreRead source catal files l table n) where
  passed : HasPassed false l
  passed = known.passes false catal files l read.library

  is_n : IsNetlist n
  is_n = read.netlist.netlist.sound

  met : MeetsCondition table n
  met = read_meets known.passes source catal files l table n read

  -- its cells are usable, and its ports are those that were read
  usable : (k : Netlist) (delay : ℕ) → IsMade n l fanout k delay → HasUsableCells l k
  usable _ _ (bare none) = (known.drivable catal files l table n read.library read.pins is_n met).cells
  usable k delay (driven of_cells d few) = λ i t. cells_after known.kept n l fanout k delay passed is_n of_cells d

  ports_made : (k : Netlist) (delay : ℕ) → IsMade n l fanout k delay → k.ports ≡ n.ports
  ports_made _ _ (bare none) = refl
  ports_made k delay (driven of_cells d few) = ports_after known.kept n l fanout k delay d

  module _ (k : Netlist) (delay : ℕ) (is_k : IsNetlist k) (made : IsMade n l fanout k delay) (small : IsSmall k table) where
    met_k : MeetsCondition table k
    met_k = known.meets n l table fanout k delay passed read.pins is_n is_k met made

    said : CanBeSaid k table
    said =
        let w = known.writable catal source files l table n k fanout delay read.library read.pins
        (is_table known.passes source catal files l table n read) read.netlist met made (usable k delay made) in
        record { sound = is_k; fits = w.fits; pins = w.pins; named = w.named; limits = small.limits; apart = met_k.apart }

    can : CanBeRead k table
    can = record {
      said = said;
      condition = met_k;
      short = small.short;
      few_ports = subst (λ (ps : List Port). length (filter (λ p. not (is_supply p.name.text)) ps) ≤ most_ports) (sym (ports_made k delay made)) read.netlist.few_ports;
      few = small.few;
    }

    pub made_again : IsReadAgain k table
    made_again = record {
      is = (known.written k table can).0;
      only = λ m v. (known.again.is k m table said v).0;
      accepted = λ e refused. known.again.accepted k table e can refused;
    }

pub made_is_read_again : Known → MadeIsReadAgain
made_is_read_again known source catal files l table n k fanout delay read is_k made small =
    made_again known source catal files l table n fanout read k delay is_k made small

pub loon_is_read_again : Known → LoonIsReadAgain
loon_is_read_again known c source catal cells p h small =
    (h.written.file, made_again known source catal cells h.l h.table h.n c.fanout h.read h.k h.delay h.sound h.made small)
