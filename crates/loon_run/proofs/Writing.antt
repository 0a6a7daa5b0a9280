-- The netlist with buffers and with cells exchanged can be written.
use Rattle.std.proofs.Common.{◌≡◌, inl, inr, ℕ, zero, suc, ◌<◌, false, List, [], ◌∷◌, map, length, refl, sym, ap, ◌∙◌, subst, arith}
use Rattle.std.specs.Prelude.{codes}
use Rattle.vlsi_base.specs.declared.name.Name.{Name}
use Rattle.vlsi_base.specs.Member.{In}
use Rattle.vlsi_base.specs.Names.{vdd, vss}
use Rattle.text_names.specs.Words.{IsIdentifier, CanBePorts}
use Rattle.text_names.specs.Free.{numbered, free_numbers, free_texts}
use Rattle.cell_model.specs.Library.{Library}
use Rattle.cell_model.proofs.Members.{In-split, In-map_back, All-In, All-from}
use Rattle.cell_lib.specs.Cells.{sources}
use Rattle.cell_lib.specs.Library.{IsLibraryOf}
use Rattle.cell_lib.specs.Laws.{LibraryPasses}
use Rattle.net_core.specs.declared.pins.ModelPins.{ModelPins}
use Rattle.net_core.specs.Places.{Stands}
use Rattle.net_core.specs.Netlist.{Instance, Netlist}
use Rattle.net_right.specs.Condition.{MeetsCondition}
use Rattle.net_right.specs.Writable.{CanBeAnInstance, CanBeNamed}
use Rattle.net_right.proofs.Lists.{in_place}
use Rattle.net_right.proofs.Models.{named_cell}
use Rattle.vbe_writable.specs.Laws.{CatalIsNamed}
use Rattle.loon_buffer.specs.Drives.{OnlyExchanges}
use Rattle.loon_fanout.specs.Sinks.{wired_of}
use Rattle.loon_fanout.specs.Limited.{IsBuffered}
use Rattle.loon_fanout.specs.Laws.{gate_named, LimitedStaysBeside}
use Rattle.loon_drive.specs.Driven.{most_sinks, IsDrivenFrom}
use Rattle.loon_drive.proofs.Fitting.{found, timed, fits_again}
use Rattle.vst_io.specs.Text.{IsVst}
use Rattle.vst_laws.specs.Writable.{NetlistHasNames, NetlistCanBeNamed, TableCanBeWritten}
use Rattle.vst_laws.proofs.Pins.{said_in, name_in}
use Rattle.vst_room.specs.Room.{HasScalarPins, HasFewPins}
use Rattle.vst_room.proofs.Cells.{cell_is_scalar}
use Rattle.loon_run.specs.Loon.{IsMade, bare, driven}
use Rattle.loon_run.specs.Laws.{HasUsableCells, NetlistIsDrivable, NetlistHasRoom, DrivenIsWritable}
use Rattle.loon_run.proofs.Lists.{stands_in}
use Rattle.loon_run.proofs.Numbered.{numbered_word}

-- ---- a netlist that is read is of usable cells, and can be timed

pub netlist_is_drivable : LibraryPasses → NetlistIsDrivable
netlist_is_drivable passes catal files l table n library of sound met = record {
  sound = sound;
  cells = λ i t. record {
    found = found l table of (passes false catal files l library) n met.fits;
    on_vdd = let both = met.tied i vdd t (inl refl) in (both.of_port.0, both.of_port.1);
    on_vss = let both = met.tied i vss t (inr refl) in (both.of_port.0, both.of_port.1);
  };
  tied = met.tied;
  timed = timed l table of (passes false catal files l library) n met.fits met.passes;
}

-- ---- it has room for buffers

scalar_pins : (l : Library) (n : Netlist) → HasUsableCells l n → HasScalarPins n
scalar_pins l n cells i pin at h =
    let there_is = in_place i n.instances at in
    let f = (cells i there_is).found i there_is in
    cell_is_scalar f.0 f.2.scalars pin (subst (λ (ns : List Name). In pin ns) f.3 h)

pub netlist_has_room : LibraryPasses → HasFewPins → NetlistHasRoom
netlist_has_room passes room catal source files l table n library of is met =
    let cells = (netlist_is_drivable passes catal files l table n library of is.netlist.sound met).cells in
    let fits = room source table n is met (scalar_pins l n cells) in
    omega (arith, fits)

-- ---- names

-- the cells of a library have identifiers as names
model_named : CatalIsNamed → (catal : List ℕ) (files : List (List ℕ)) (l : Library) → IsLibraryOf false catal files l → (n : Netlist) → HasUsableCells l n
    → (i : Instance) → In i n.instances → IsIdentifier i.model
model_named lists catal files l library n cells i at =
    let there_is = in_place i n.instances at in
    let f = (cells i there_is).found i there_is in
    let c = named_cell l.cells i.model f.0 f.1 in
    let x = said_in false (sources library.names files) l.cells library.cells f.0 c.0 in
    subst IsIdentifier (sym x.2.said.name ∙ c.1) (lists catal library.names library.uses x.0.name (name_in library.names files x.0 x.1))

-- a free text of the stem b is one
free_named : (taken : List (List ℕ)) (many : ℕ) (name : List ℕ) → In name (free_texts (codes "b") taken many) → IsIdentifier name
free_named taken many name i =
    let x = In-map_back (numbered (codes "b")) name (free_numbers (codes "b") taken many) i in
    subst IsIdentifier x.2 (numbered_word 98 x.0 refl refl)

-- the instances of a netlist with buffers: those of the given one, and buffers
buffered_named : LimitedStaysBeside → (l : Library) (limit : ℕ) (n b : Netlist) → IsBuffered n l limit b
    → ((i : Instance) → In i n.instances → IsIdentifier i.name) → (i : Instance) → In i b.instances → IsIdentifier i.name
buffered_named law l limit n b h given i at =
    let beside = law l limit h.repeater h.names (wired_of n) h.wired h.limited in
    elim (In-split i n.instances (map (gate_named h.repeater.cell) h.names) (subst (λ (is : List Instance). In i is) (h.is.instances ∙ beside.instances) at)) [
      | inl old ↦ given i old
      | inr new ↦
          let x = In-map_back (gate_named h.repeater.cell) i h.names new in
          subst (λ (y : Instance). IsIdentifier y.name) x.2
          (free_named (map (λ (y : Instance). y.name) n.instances) (length h.names) x.0 (subst (λ (names : List (List ℕ)). In x.0 names) h.named x.1))
    ]

below : {A : Type 0} (xs : List A) (k : ℕ) (x : A) → Stands xs k x → k < length xs
below [] k x h = absurd cc
below (y ∷ xs) zero x h = omega arith
below (y ∷ xs) (suc k) x h = omega (arith, below xs k x h)

standing : {A : Type 0} (xs : List A) (k : ℕ) → k < length xs → (x : A) × Stands xs k x
standing [] k h = absurd (omega (arith, h))
standing (x ∷ xs) zero h = (x, refl)
standing (x ∷ xs) (suc k) h = standing xs k (omega (arith, h))

-- exchanges keep the names of instances
kept_named : (l : Library) (old new : Netlist) → OnlyExchanges l old new → ((i : Instance) → In i old.instances → IsIdentifier i.name)
    → (i : Instance) → In i new.instances → IsIdentifier i.name
kept_named l old new x given i at =
    let p = in_place i new.instances at in
    let o = standing old.instances p.0 (omega (arith, x.many, below new.instances p.0 i p.1)) in
    subst IsIdentifier (sym (ap (λ (y : Instance). y.name) (x.each p.0 o.0 i o.1 p.1).same)) (given o.0 (stands_in old.instances p.0 o.0 o.1))

-- ---- what is driven

-- what is known of a library and of a netlist that are read
pub record Known : Type 0 where
  pub passes : LibraryPasses
  pub beside : LimitedStaysBeside
  pub lists : CatalIsNamed
  pub names : NetlistHasNames
  pub named : NetlistCanBeNamed
  pub written : TableCanBeWritten

module _ (known : Known) (catal source : List ℕ) (files : List (List ℕ)) (l : Library) (table : List ModelPins) (n k : Netlist) (fanout delay : ℕ)
    (library : IsLibraryOf false catal files l) (is : IsVst source table n) (met : MeetsCondition table n) (h : IsDrivenFrom n l fanout k delay) where
  ports_same : k.ports ≡ n.ports
  ports_same =
      ap (λ (y : Netlist). y.ports) h.exchanged.now ∙ h.is_buffered.is.ports
      ∙ (known.beside l (most_sinks fanout) h.is_buffered.repeater h.is_buffered.names (wired_of n) h.is_buffered.wired h.is_buffered.limited).ports

  name_same : k.name ≡ n.name
  name_same = ap (λ (y : Netlist). y.name) h.exchanged.now ∙ h.is_buffered.name

  every_name : (i : Instance) → In i k.instances → IsIdentifier i.name
  every_name = kept_named l (record h.buffered { models = k.models }) k h.exchanged
      (buffered_named known.beside l (most_sinks fanout) n h.buffered h.is_buffered
      (All-In (λ (y : Instance). IsIdentifier y.name) n.instances (known.names source table n is).instances))

  pub driven_named : HasUsableCells l n → HasUsableCells l k → CanBeNamed k
  driven_named cells after =
      let given = known.named source table n is met (model_named known.lists catal files l library n cells) in
      record {
        name = subst IsIdentifier (sym name_same) given.name;
        ports = subst CanBePorts (sym ports_same) given.ports;
        instances = All-from CanBeAnInstance k.instances (λ i at. (every_name i at, model_named known.lists catal files l library k after i at));
      }

pub driven_is_writable : Known → DrivenIsWritable
driven_is_writable known catal source files l table n k fanout delay library of is_table is met made cells = record {
  fits = fits_again l table of (known.passes false catal files l library) k is_table (λ i t. (cells i t).found i t);
  pins = known.written false false catal files l table library of;
  named = named k delay made cells;
} where
  given : HasUsableCells l n
  given = (netlist_is_drivable known.passes catal files l table n library of is.netlist.sound met).cells

  named : (k : Netlist) (delay : ℕ) → IsMade n l fanout k delay → HasUsableCells l k → CanBeNamed k
  named _ _ (bare none) cells = known.named source table n is met (model_named known.lists catal files l library n given)
  named k delay (driven of_cells h few) cells = driven_named known catal source files l table n k fanout delay library is met h given cells
