-- What machines of netlists rest on, from what is known of the netlist and of the library.
use Rattle.std.proofs.Common.{◌≡◌, ℕ, zero, suc, ◌<◌, ◌≤◌, ◌^◌, Bool, true, false, cond, ◌&&◌, List, [], ◌∷◌, length, Option, None, Some, refl, sym, ap, ◌∙◌, subst, arith}
use Rattle.vlsi_base.specs.declared.name.Name.{Name}
use Rattle.vlsi_base.specs.declared.name.Port.{Port}
use Rattle.vlsi_base.specs.declared.name.Terminal.{Terminal}
use Rattle.machine_core.specs.Named.{is_same_text, is_same_name}
use Rattle.machine_core.specs.Machine.{Machine}
use Rattle.machine_core.proofs.Names.{same_name-true, same_name-itself}
use Rattle.std.specs.Cmp.Lexicographic.{bytes_decides}
use Rattle.cell_model.specs.Library.{Library}
use Rattle.cell_checks.specs.Checked.{IsChecked}
use Rattle.cell_pins.specs.Table.{IsTableOf}
use Rattle.net_core.specs.declared.pins.ModelPins.{ModelPins}
use Rattle.net_core.specs.Places.{Stands, NoneTwice}
use Rattle.net_core.specs.Netlist.{Netlist as InMemory, IsNetlist, terminals, IsClassFunction}
use Rattle.net_core.proofs.Finishing.{netlist_terminals_once}
use Rattle.net_meaning.specs.Netlist.{AbstractNetlist}
use Rattle.net_meaning.specs.Behaviour.{Contents}
use Rattle.net_right.specs.Condition.{MeetsCondition}
use Rattle.net_right.specs.View.{IsSeenAs}
use Rattle.bit_machine.specs.System.{System, system_of, IsSystem, Falls, FitsPorts, IsMachineOfBits}
use Rattle.bit_machine.specs.declared.system.BitSystem.{BitSystem}
use Rattle.net_machine.specs.Signals.{signal_ports, IsClockPort, MeetsConditionWith, HasBehaviour}
use Rattle.net_machine.specs.Step.{held_by, KeepsStep, IsMachineWith, IsInOrderWith}
use Rattle.net_machine.specs.Bits.{net_system, bits_of}
use Rattle.net_machine.specs.Gathered.{KnowsModels, AreKnown, HasClockOf, AreBitsOf}
use Rattle.net_machine.specs.declared.known.Known.{Known as KnownParts}
use Rattle.net_machine.proofs.Cells.{fine, clock_found}
use Rattle.net_machine.proofs.Scenes.{Scene}
use Rattle.net_machine.proofs.Whole.{is_system, names_count}
use Rattle.net_machine.proofs.Fitting.{fits_ports}
use Rattle.net_machine.proofs.Falling.{falls}
use Rattle.net_machine.proofs.Ranking.{class_ranks}
use Rattle.net_machine.proofs.Stepping.{keeps_step, keeps_order}

-- ---- a class for each terminal

abbrev same_owner : Option (List ℕ) → Option (List ℕ) → Bool
same_owner None None = true
same_owner None (Some b) = false
same_owner (Some a) None = false
same_owner (Some a) (Some b) = is_same_text a b

abbrev same_terminal : Terminal → Terminal → Bool
same_terminal t u = same_owner t.instance u.instance && is_same_name t.pin u.pin

owner_true : (a b : Option (List ℕ)) → same_owner a b ≡ true → a ≡ b
owner_true None None e = refl
owner_true None (Some b) e = absurd cc
owner_true (Some a) None e = absurd cc
owner_true (Some a) (Some b) e = ap Some ((bytes_decides a b).0 e)

owner_itself : (a : Option (List ℕ)) → same_owner a a ≡ true
owner_itself None = refl
owner_itself (Some a) = (bytes_decides a a).1 refl

both_true : (a b : Bool) → (a && b) ≡ true → (a ≡ true) × (b ≡ true)
both_true true true e = (refl, refl)
both_true true false e = absurd cc
both_true false b e = absurd cc

terminal_true : (t u : Terminal) → same_terminal t u ≡ true → t ≡ u
terminal_true t u e =
    let p = both_true (same_owner t.instance u.instance) (is_same_name t.pin u.pin) e in
    let made : Option (List ℕ) → Name → Terminal = λ i n. record { instance = i; pin = n } in
    ap (λ i. made i t.pin) (owner_true t.instance u.instance p.0) ∙ ap (made u.instance) (same_name-true t.pin u.pin p.1)

terminal_itself : (t : Terminal) → same_terminal t t ≡ true
terminal_itself t = ap (λ b. b && is_same_name t.pin t.pin) (owner_itself t.instance) ∙ same_name-itself t.pin

abbrev class_in : List Terminal → List ℕ → Terminal → ℕ
class_in [] cs t = 0
class_in (u ∷ ts) [] t = 0
class_in (u ∷ ts) (c ∷ cs) t = cond (same_terminal u t) c (class_in ts cs t)

tail_once : (u : Terminal) (ts : List Terminal) → NoneTwice (u ∷ ts) → NoneTwice ts
tail_once u ts h i j x p q = let e = h (suc i) (suc j) x p q in omega (arith, e)

class_in_is : (ts : List Terminal) (cs : List ℕ) → NoneTwice ts → (k : ℕ) (t : Terminal) (c : ℕ) → Stands ts k t → Stands cs k c → class_in ts cs t ≡ c
class_in_is [] cs h k t c p q = absurd cc
class_in_is (u ∷ ts) [] h k t c p q = absurd cc
class_in_is (u ∷ ts) (d ∷ cs) h zero t c p q =
    let same : u ≡ t = cc in
    let like : d ≡ c = cc in
    ap (λ b. cond b d (class_in ts cs t)) (subst (λ (x : Terminal). same_terminal u x ≡ true) same (terminal_itself u)) ∙ like
class_in_is (u ∷ ts) (d ∷ cs) h (suc k) t c p q = by (same_terminal u t) refl (class_in_is ts cs (tail_once u ts h) k t c p q) where
  by : (b : Bool) → same_terminal u t ≡ b → class_in ts cs t ≡ c → cond b d (class_in ts cs t) ≡ c
  by false e rest = rest
  by true e rest =
      let same = terminal_true u t e in
      let w = h 0 (suc k) t (ap Some same) p in absurd (omega (arith, w))

abbrev pub class_by : InMemory → Terminal → ℕ
class_by n t = class_in (terminals n) n.classes t

pub class_by_is : (n : InMemory) → IsNetlist n → IsClassFunction n (class_by n)
class_by_is n is = record { each = λ t k h. class_in_is (terminals n) n.classes (netlist_terminals_once n is) h.0 t k h.1 h.2 }

-- ---- what is known of the models

pub all_known : (n : InMemory) (l : Library) (known : List KnownParts) → IsNetlist n → IsChecked false l → MeetsConditionWith l n → KnowsModels n l known → AreKnown n known
all_known n l known net checked meets knows =
    record { library = l; knows = knows; fine = fine n l meets.0 (record { netlist = net; condition = meets.2; table_is = meets.1; checked = checked }) }

-- ---- the bits, and their machine

-- what is known once a netlist's bits are gathered
pub record Gathered (n : InMemory) (l : Library) (clock : Option Name) (b : BitSystem) : Type 0 where
  pub net : IsNetlist n
  pub checked : IsChecked false l
  pub meets : MeetsConditionWith l n
  pub known : HasBehaviour n l
  pub clock_is : HasClockOf n l clock
  pub bits : AreBitsOf n l clock b

-- with this table, and with these classes
abbrev scene : (n : InMemory) (l : Library) (clock : Option Name) (b : BitSystem) → Gathered n l clock b → (table : List ModelPins) → IsTableOf l true table → MeetsCondition table n
    → (class : Terminal → ℕ) → IsClassFunction n class → Scene
scene n l clock b g table table_is condition class classes = record {
  n = n;
  l = l;
  table = table;
  class = class;
  clock = clock;
  text = g.bits.text;
  ground = record { netlist = g.net; condition = condition; table_is = table_is; checked = g.checked };
  classes = classes;
  known = g.known;
  clock_is = g.clock_is;
  longer = g.bits.longer;
}

module _ (n : InMemory) (l : Library) (clock : Option Name) (b : BitSystem) (g : Gathered n l clock b) where
  abbrev this : Scene
  this = scene n l clock b g g.meets.0 g.meets.1 g.meets.2 (class_by n) (class_by_is n g.net)

  same : system_of b ≡ net_system g.bits.text (class_by n) n l clock
  same = g.bits.is (class_by n) (class_by_is n g.net)

  pub system_is : IsSystem (system_of b)
  system_is = subst IsSystem (sym same) (is_system this)

  names_are : length (system_of b).names ≡ bits_of n l
  names_are = ap (λ (s : System). length s.names) same ∙ names_count this

  pub system_few : bits_of n l < 2 ^ 32 → length (system_of b).names < 2 ^ 32
  system_few few = subst (λ (k : ℕ). k < 2 ^ 32) (sym names_are) few

  pub vars_few : (m : Machine) → length m.vars ≤ length b.names → length m.vars ≤ bits_of n l
  vars_few m few = subst (λ (k : ℕ). length m.vars ≤ k) names_are few

  pub system_falls : Falls (system_of b).driven
  system_falls = subst (λ (s : System). Falls s.driven) (sym same) (falls this (class_ranks this))

  pub system_fits : (ports : List Port) → ports ≡ signal_ports n.ports → FitsPorts ports clock (system_of b)
  system_fits ports e =
      subst (λ (ps : List Port). FitsPorts ps clock (system_of b)) (sym e)
      (subst (λ (s : System). FitsPorts (signal_ports n.ports) clock s) (sym same) (fits_ports this))

  machine_is : (m : Machine) → IsMachineOfBits n.name (signal_ports n.ports) clock (system_of b) m → IsMachineWith n l m
  machine_is m is table table_is condition = record {
    name = is.text;
    ports = is.ports_are;
    clock = subst (IsClockPort table n) (sym is.clock_is) (clock_found n l table (record { netlist = g.net; condition = condition; table_is = table_is; checked = g.checked }) clock g.clock_is);
    step = λ k seen.
        subst (λ (x : AbstractNetlist). KeepsStep x l m) (sym seen.is)
        (keeps_step (scene n l clock b g table table_is condition k.class seen.classes) n.name m
        (subst (λ (s : System). IsMachineOfBits n.name (signal_ports n.ports) clock s m) (g.bits.is k.class seen.classes) is));
  }

  pub machine_made : (name : List ℕ) (ports : List Port) (m : Machine) → name ≡ n.name → ports ≡ signal_ports n.ports → IsMachineOfBits name ports clock (system_of b) m → IsMachineWith n l m
  machine_made name ports m e f is =
      machine_is m
      (subst (λ (t : List ℕ). IsMachineOfBits t (signal_ports n.ports) clock (system_of b) m) e
      (subst (λ (ps : List Port). IsMachineOfBits name ps clock (system_of b) m) f is))

  -- it keeps step, and holds what the instances hold in their order
  abbrev StepsInOrder : Machine → AbstractNetlist → Type 0
  StepsInOrder m k = (step : KeepsStep k l m) × ((t : Contents) → step.held t ≡ held_by l k.instances t)

  in_order : (m : Machine) → IsMachineOfBits n.name (signal_ports n.ports) clock (system_of b) m → IsInOrderWith n l m
  in_order m is table table_is condition = record {
    of_netlist = record {
      name = is.text;
      ports = is.ports_are;
      clock = subst (IsClockPort table n) (sym is.clock_is) (clock_found n l table (record { netlist = g.net; condition = condition; table_is = table_is; checked = g.checked }) clock g.clock_is);
      step = λ k seen. (both k seen).0;
    };
    holds = λ k seen t. (both k seen).1 t;
  } where
    both : (k : AbstractNetlist) → IsSeenAs n k → StepsInOrder m k
    both k seen =
        let s = scene n l clock b g table table_is condition k.class seen.classes in
        let made = subst (λ (x : System). IsMachineOfBits n.name (signal_ports n.ports) clock x m) (g.bits.is k.class seen.classes) is in
        subst (StepsInOrder m) (sym seen.is) (keeps_step s n.name m made, keeps_order s n.name m made)

  pub in_order_made : (name : List ℕ) (ports : List Port) (m : Machine) → name ≡ n.name → ports ≡ signal_ports n.ports → IsMachineOfBits name ports clock (system_of b) m → IsInOrderWith n l m
  in_order_made name ports m e f is =
      in_order m
      (subst (λ (t : List ℕ). IsMachineOfBits t (signal_ports n.ports) clock (system_of b) m) e
      (subst (λ (ps : List Port). IsMachineOfBits name ps clock (system_of b) m) f is))
