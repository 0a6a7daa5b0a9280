-- When a netlist is sound, and which fault it has where it isn't.
use Rattle.std.specs.Prelude.{◌≡◌, ℕ, ◌+◌, ◌-◌, ◌<◌, ◌≤◌, Bool, true, false, not, ◌&&◌, ◌||◌, List, [], ◌∷◌, ◌++◌, map, length, Option, None, Some, nat_eq, nat_le, nat_lt, bytes_eq, slice_index_or, take, if◌then◌else◌}
use Rattle.std.specs.List.{All, flat_map, zip, sum_by}
use Rattle.vlsi_base.specs.declared.name.Name.{Name}
use Rattle.vlsi_base.specs.declared.name.Port.{Port}
use Rattle.vlsi_base.specs.declared.name.Dir.{Dir}
use Rattle.vlsi_base.specs.declared.name.Dir.TheVariants.{In, Out}
use Rattle.vlsi_base.specs.declared.name.Terminal.{Terminal}
use Rattle.vlsi_base.specs.declared.fault.FaultKind.{FaultKind}
use Rattle.vlsi_base.specs.declared.fault.FaultKind.TheVariants as kind
use Rattle.vlsi_base.specs.Names.{comes_before}
use Rattle.net_core.specs.Named.{terminal_names}
use Rattle.net_core.specs.declared.pins.ModelPin.{ModelPin}
use Rattle.net_core.specs.declared.pins.ModelPins.{ModelPins}
use Rattle.net_core.specs.declared.tally.Role.{Role}
use Rattle.net_core.specs.declared.tally.Role.TheVariants as role
use Rattle.net_core.specs.declared.tally.Tally.{Tally}
use Rattle.net_core.specs.declared.tally.ClassFault.{ClassFault}
use Rattle.net_core.specs.declared.tally.ClassFault.TheVariants as fault
use Rattle.net_core.specs.declared.error.CheckError.{CheckError}
use Rattle.net_core.specs.declared.error.CheckError.TheVariants as error
use Rattle.net_core.specs.Places.{Stands, IsThere, NoneTwice}
use Rattle.net_core.specs.Netlist.{Instance, Netlist, pin_of, AreInOrder, terminals, HasClass}

-- the pins of the first model of this name in a table
abbrev pub pins_named : List ModelPins → List ℕ → List ModelPin
pins_named [] model = []
pins_named (m ∷ rest) model = if bytes_eq m.model model then m.pins else pins_named rest model

-- an input pin stands at this place
abbrev pub IsInputAt : List ModelPin → ℕ → Type 0
IsInputAt pins k = (q : ModelPin) × Stands pins k q × (q.dir ≡ In)

-- an output depends on input pins of its model
abbrev pub DependsWithin : ModelPins → Type 0
DependsWithin m = All (λ p. All (IsInputAt m.pins) p.depends_on) m.pins

-- A table of pins: no model is listed twice, pins stand in the order of names, and outputs depend on input pins of their model.
pub record IsPinTable (table : List ModelPins) : Type 0 where
  pub once : NoneTwice (map (λ m. m.model) table)
  pub order : All (λ m. AreInOrder (map (λ p. p.name) m.pins)) table
  pub depends : All DependsWithin table

-- the table lists the model of each instance, and each instance has exactly the pins of its model
pub record Fits (n : Netlist) (table : List ModelPins) : Type 0 where
  pub table_is : IsPinTable table
  pub listed : All (λ i. IsThere (map (λ m. m.model) table) i.model) n.instances
  pub pins : All (λ i. i.pins ≡ map (λ p. p.name) (pins_named table i.model)) n.instances

-- what a terminal does in its class

abbrev pub port_role_of : Dir → Role
port_role_of In = role.InputPort
port_role_of Out = role.OutputPort

abbrev pub port_role : Port → Role
port_role p = port_role_of p.dir

abbrev pub pin_role_of : Dir → Bool → Role
pin_role_of In true = role.ClockPin
pin_role_of In false = role.InputPin
pin_role_of Out clocks = role.OutputPin

abbrev pub pin_role : ModelPin → Role
pin_role p = pin_role_of p.dir p.is_clock

-- of each pin, in the order of instances
abbrev pub pin_roles : List ModelPins → List Instance → List Role
pin_roles table instances = flat_map (λ i. map pin_role (pins_named table i.model)) instances

-- of each terminal, in the order of terminals
abbrev pub roles : List ModelPins → Netlist → List Role
roles table n = map port_role n.ports ++ pin_roles table n.instances

-- one more terminal of a role
abbrev pub with_one : Role → Tally → Tally
with_one role.InputPort t = record t { input_ports = t.input_ports + 1 }
with_one role.OutputPort t = record t { output_ports = t.output_ports + 1 }
with_one role.InputPin t = record t { input_pins = t.input_pins + 1 }
with_one role.ClockPin t = record t { clock_pins = t.clock_pins + 1 }
with_one role.OutputPin t = record t { output_pins = t.output_pins + 1 }

abbrev pub no_terminals : Tally
no_terminals = record { input_ports = 0; output_ports = 0; input_pins = 0; clock_pins = 0; output_pins = 0 }

-- how many terminals of each role a class has, where each terminal stands with its class
abbrev pub tally_of : List (Role × ℕ) → ℕ → Tally
tally_of [] class = no_terminals
tally_of (t ∷ rest) class = if nat_eq t.1 class then with_one t.0 (tally_of rest class) else tally_of rest class

abbrev pub tally : List ModelPins → Netlist → ℕ → Tally
tally table n class = tally_of (zip (roles table n) n.classes) class

abbrev pub is_clock_pin : Role → Bool
is_clock_pin role.InputPort = false
is_clock_pin role.OutputPort = false
is_clock_pin role.InputPin = false
is_clock_pin role.ClockPin = true
is_clock_pin role.OutputPin = false

-- how many clock pins the whole netlist has
abbrev pub all_clocks : List Role → ℕ
all_clocks rs = sum_by (λ r. if is_clock_pin r then 1 else 0) rs

-- an input pin is alone in its class
abbrev pub is_unconnected : Tally → Bool
is_unconnected t = nat_eq (t.input_pins + t.clock_pins) 1 && nat_eq (t.input_ports + t.output_ports + t.output_pins) 0

-- input ports and output pins drive their class
abbrev pub drivers : Tally → ℕ
drivers t = t.input_ports + t.output_pins

-- a class that isn't unconnected has an input pin or an output port, and no driver
abbrev pub is_undriven : Tally → Bool
is_undriven t = not (is_unconnected t) && nat_le 1 (t.input_pins + t.clock_pins + t.output_ports) && nat_eq (drivers t) 0

-- a class has two drivers
abbrev pub is_driven_twice : Tally → Bool
is_driven_twice t = nat_le 2 (drivers t)

-- a class with a clock pin has no input port, or lacks another clock pin, or has an output port or an input pin that isn't a
-- clock pin
abbrev pub is_misused_clock : ℕ → Tally → Bool
is_misused_clock clocks t =
    nat_le 1 t.clock_pins && (nat_eq t.input_ports 0 || nat_lt t.clock_pins clocks || nat_le 1 t.output_ports || nat_le 1 t.input_pins)

-- the first class that passes a test, and that none does
pub record IsFirstClass (n : Netlist) (test : ℕ → Bool) (class : ℕ) : Type 0 where
  pub inside : class < n.count
  pub passes : test class ≡ true
  pub first : (c : ℕ) → c < class → test c ≡ false

abbrev pub NoClass : Netlist → (ℕ → Bool) → Type 0
NoClass n test = (c : ℕ) → c < n.count → test c ≡ false

-- the least terminal of a class
pub record IsLeast (n : Netlist) (class : ℕ) (t : Terminal) : Type 0 where
  pub place : ℕ
  pub stands : Stands (terminals n) place t
  pub here : Stands n.classes place class
  pub first : (k : ℕ) → k < place → Stands n.classes k class → ⊥

-- the names of the least terminal of a class
pub record HasNamesOfLeast (n : Netlist) (class : ℕ) (names : List Name) : Type 0 where
  pub terminal : Terminal
  pub least : IsLeast n class terminal
  pub named : names ≡ terminal_names terminal

-- a pin of an instance, as the table has it
pub record IsPinOf (table : List ModelPins) (n : Netlist) (i : Instance) (p : ModelPin) (t : Terminal) : Type 0 where
  pub listed : IsThere n.instances i
  pub known : IsThere (pins_named table i.model) p
  pub is : t ≡ pin_of i.name p.name

-- one output pin depends at once on an input pin in the class of another
pub record DependsOn (table : List ModelPins) (n : Netlist) (a b : Terminal) : Type 0 where
  pub owner : Instance
  pub output : ModelPin
  pub is_pin : IsPinOf table n owner output a
  pub gives : output.dir ≡ Out
  -- the input pin on which it depends, and its class
  pub place : ℕ
  pub input : ModelPin
  pub depends : IsThere output.depends_on place
  pub there : Stands (pins_named table owner.model) place input
  pub takes : input.dir ≡ In
  pub class : ℕ
  pub reads : HasClass n (pin_of owner.name input.name) class
  -- the output pin in that class
  pub other : Instance
  pub driver : ModelPin
  pub is_driver : IsPinOf table n other driver b
  pub drives : driver.dir ≡ Out
  pub joined : HasClass n b class

-- different output pins, of which each depends at once on an input pin in the class of the next, and the last on one in that
-- of the first
pub record IsRing (table : List ModelPins) (n : Netlist) (ring : List Terminal) : Type 0 where
  pub some : 0 < length ring
  pub once : NoneTwice ring
  pub next : (k : ℕ) (a b : Terminal) → Stands ring k a → Stands ring (k + 1) b → DependsOn table n a b
  pub close : (a b : Terminal) → Stands ring (length ring - 1) a → Stands ring 0 b → DependsOn table n a b

-- a ring's instances, from the least name
pub record NamesRing (ring : List Terminal) (names : List Name) : Type 0 where
  pub owners : map (λ t. t.instance) ring ≡ map (λ name. Some name.text) names
  pub scalars : All (λ name. name.bit ≡ None) names
  pub least : (first other : Name) → Stands names 0 first → IsThere names other → comes_before other first ≡ false

-- a class has a fault, in a netlist with so many clock pins
abbrev pub has_fault : ClassFault → ℕ → Tally → Bool
has_fault fault.Unconnected clocks t = is_unconnected t
has_fault fault.NoDriver clocks t = is_undriven t
has_fault fault.TwoDrivers clocks t = is_driven_twice t
has_fault fault.ClockUse clocks t = is_misused_clock clocks t

abbrev pub kind_of : ClassFault → FaultKind
kind_of fault.Unconnected = kind.Unconnected
kind_of fault.NoDriver = kind.NoDriver
kind_of fault.TwoDrivers = kind.TwoDrivers
kind_of fault.ClockUse = kind.ClockUse

-- the kinds of faults before one
abbrev pub earlier : ClassFault → List ClassFault
earlier fault.Unconnected = []
earlier fault.NoDriver = fault.Unconnected ∷ []
earlier fault.TwoDrivers = fault.Unconnected ∷ fault.NoDriver ∷ []
earlier fault.ClockUse = fault.Unconnected ∷ fault.NoDriver ∷ fault.TwoDrivers ∷ []

abbrev pub class_test : List ModelPins → Netlist → ClassFault → ℕ → Bool
class_test table n f class = has_fault f (all_clocks (roles table n)) (tally table n class)

-- no class has a fault
abbrev pub HasSoundClasses : List ModelPins → Netlist → Type 0
HasSoundClasses table n = (f : ClassFault) → NoClass n (class_test table n f)

-- The fault of a netlist's classes: the first kind in this order that a class has, at the first class that has it, named by the
-- least terminal of that class.
pub record IsClassFault (table : List ModelPins) (n : Netlist) (k : FaultKind) (names : List Name) : Type 0 where
  pub fault : ClassFault
  pub is : k ≡ kind_of fault
  pub none : All (λ f. NoClass n (class_test table n f)) (earlier fault)
  pub class : ℕ
  pub first : IsFirstClass n (class_test table n fault) class
  pub least : HasNamesOfLeast n class names

-- the netlist has no fault
pub record Passes (table : List ModelPins) (n : Netlist) : Type 0 where
  pub classes : HasSoundClasses table n
  pub rings : (ring : List Terminal) → IsRing table n ring → ⊥

-- the fault of a netlist: that of its classes, and where these are sound a ring
pub data IsFault (table : List ModelPins) (n : Netlist) (k : FaultKind) (names : List Name) : Type 0 where
  by_class : IsClassFault table n k names → IsFault table n k names
  by_ring : (ring : List Terminal) → HasSoundClasses table n → IsRing table n ring → NamesRing ring names → k ≡ kind.Cycle → IsFault table n k names

-- why a netlist's classes are refused, if memory hasn't run out
abbrev pub IsClassRefusal : List ModelPins → Netlist → CheckError → Type 0
IsClassRefusal table n error.Memory = Unit {0}
IsClassRefusal table n (error.Fault f) = IsClassFault table n f.kind f.names

-- why a netlist is refused, if memory hasn't run out
abbrev pub IsRefusal : List ModelPins → Netlist → CheckError → Type 0
IsRefusal table n error.Memory = Unit {0}
IsRefusal table n (error.Fault f) = IsFault table n f.kind f.names

-- each number is at most n
pub record AtMost (n : ℕ) (t : Tally) : Type 0 where
  pub input_ports : t.input_ports ≤ n
  pub output_ports : t.output_ports ≤ n
  pub input_pins : t.input_pins ≤ n
  pub clock_pins : t.clock_pins ≤ n
  pub output_pins : t.output_pins ≤ n

-- tallies of the classes below their number
pub record AreTallies (members : List (Role × ℕ)) (tallies : List Tally) : Type 0 where
  pub each : (c : ℕ) (d : Tally) → c < length tallies → slice_index_or tallies c d ≡ tally_of members c

-- the first tally with a fault; none exactly where no tally has it
abbrev pub IsFirstTally : List Tally → ClassFault → ℕ → Option ℕ → Type 0
IsFirstTally tallies f clocks None = All (λ t. has_fault f clocks t ≡ false) tallies
IsFirstTally tallies f clocks (Some c) =
    (c < length tallies) × ((d : Tally) → has_fault f clocks (slice_index_or tallies c d) ≡ true)
    × All (λ t. has_fault f clocks t ≡ false) (take c tallies)

-- the first fault that a tally has, at the first such; none exactly where no tally has a fault
abbrev pub IsFirstFault : List Tally → ℕ → Option (ClassFault × ℕ) → Type 0
IsFirstFault tallies clocks None = (f : ClassFault) → All (λ t. has_fault f clocks t ≡ false) tallies
IsFirstFault tallies clocks (Some r) =
    All (λ f. All (λ t. has_fault f clocks t ≡ false) tallies) (earlier r.0) × IsFirstTally tallies r.0 clocks (Some r.1)
