-- The names of a netlist's registers.
use Rattle.std.proofs.Common.{◌≡◌, ◌≢◌, ◌⊎◌, inl, inr, ℕ, zero, suc, ◌<◌, List, [], ◌∷◌, ◌++◌, map, length, get_or, Option, None, Some, refl, sym, ap, ◌∙◌, subst, arith}
use Rattle.std.specs.Prelude.{codes, not}
use Rattle.std.proofs.lemmas.List.{length-map}
use Rattle.std.proofs.lemmas.Option.{get_or_from_slice_get, slice_get_within}
use Rattle.vlsi_base.specs.declared.name.Name.{Name}
use Rattle.vlsi_base.specs.declared.name.Port.{Port}
use Rattle.vlsi_base.specs.declared.name.Terminal.{Terminal}
use Rattle.vlsi_base.specs.Name.{is_supply}
use Rattle.vlsi_base.specs.Names.{scalar, vdd, vss}
use Rattle.vlsi_base.specs.Member.{In, here, there, AllDifferent}
use Rattle.machine_core.specs.Machine.{Machine}
use Rattle.machine_core.specs.Checked.{IsChecked, IsNoSupply}
use Rattle.machine_core.proofs.Values.{In-split, In-left, In-right, In-map}
use Rattle.vlsi_model.proofs.Members.{In-map_back, different_append}
use Rattle.vlsi_model.proofs.PortBits.{In-filter}
use Rattle.vlsi_model.proofs.Sorting.{In-at, place_of_In}
use Rattle.cell_model.specs.Library.{Library, cell_of}
use Rattle.cell_pins.specs.Table.{IsTableOf}
use Rattle.net_core.specs.declared.pins.ModelPins.{ModelPins}
use Rattle.net_core.specs.Places.{Stands, IsThere, NoneTwice}
use Rattle.net_core.specs.Netlist.{Instance, Netlist as InMemory, IsNetlist, port}
use Rattle.net_meaning.specs.Netlist.{AbstractNetlist}
use Rattle.net_meaning.specs.Behaviour.{Contents}
use Rattle.net_right.specs.Condition.{MeetsCondition}
use Rattle.net_right.specs.View.{IsSeenAs, netlist_by}
use Rattle.net_machine.specs.Signals.{signal_ports, MeetsConditionWith}
use Rattle.net_machine.specs.Step.{KeepsStep, IsMachineInOrder, IsInOrderWith}
use Rattle.net_machine.proofs.Drivers.{In_there}
use Rattle.net_machine.proofs.Clocks.{port_place}
use Rattle.net_machine.proofs.Knowing.{stands_of}
use Rattle.net_machine.proofs.Made.{class_by, class_by_is}
use Rattle.net_flat.specs.declared.parts.Part.{Part}
use Rattle.net_flat.specs.declared.parts.Part.TheVariants as part
use Rattle.net_flat.specs.Parts.{part_at, names_if, registers_of}
use Rattle.net_flat.specs.Flat.{IsPlain, HasText, AreApart}
use Rattle.net_flat.specs.Renamed.{AreFree}
use Rattle.net_flat.proofs.Flattening.{names_each}

-- a name of a register is that of an instance
pub record IsRegister (is : List Instance) (name : Name) : Type 0 where
  pub owner : Instance
  pub listed : In owner is
  pub named : name ≡ scalar owner.name

one_name : (p : Part) (i : Instance) (name : Name) → In name (names_if p i) → name ≡ scalar i.name
one_name part.Gate i name j = elim j [ ]
one_name part.Register i _ here = refl
one_name part.Register i name (there j) = elim j [ ]
one_name part.Other i name j = elim j [ ]

pub register_is : (l : Library) (is : List Instance) (name : Name) → In name (registers_of l is) → IsRegister is name
register_is l [] name j = elim j [ ]
register_is l (i ∷ is) name j = elim (In-split name (names_if (part_at (cell_of l i.model)) i) (registers_of l is) j) [
  | inl a ↦ record { owner = i; listed = here; named = one_name (part_at (cell_of l i.model)) i name a }
  | inr b ↦ let r = register_is l is name b in record { owner = r.owner; listed = there r.listed; named = r.named }
]

pub text_of_port : (ports : List Port) (p : Port) (text : List ℕ) → In p ports → p.name.text ≡ text → HasText ports text
text_of_port ports p text i e = record { port = p; listed = In_there ports p i; is = e }

-- ---- they differ

stands_all : {A : Type 0} (xs : List A) → NoneTwice xs → AllDifferent xs
stands_all [] h = tt
stands_all (x ∷ xs) h = (
  λ i. let r = In_there xs x i in let e = h 0 (suc r.0) x refl r.1 in absurd (omega (arith, e)),
  stands_all xs (λ i j y p q. let e = h (suc i) (suc j) y p q in omega (arith, e)),
)

one_different : (p : Part) (i : Instance) → AllDifferent (names_if p i)
one_different part.Gate i = tt
one_different part.Register i = (λ j. elim j [ ], tt)
one_different part.Other i = tt

names_different : (l : Library) (is : List Instance) → AllDifferent (map (λ (i : Instance). i.name) is) → AllDifferent (registers_of l is)
names_different l [] d = tt
names_different l (i ∷ is) d =
    different_append (names_if (part_at (cell_of l i.model)) i) (registers_of l is) (one_different (part_at (cell_of l i.model)) i) (names_different l is d.1)
    (λ x a b.
    let r = register_is l is x b in
    let e : i.name ≡ r.owner.name = ap (λ (n : Name). n.text) (sym (one_name (part_at (cell_of l i.model)) i x a) ∙ r.named) in
    d.0 (subst (λ (t : List ℕ). In t (map (λ (i : Instance). i.name) is)) (sym e) (In-map (λ (i : Instance). i.name) r.owner is r.listed)))

-- ---- none is a supply

supply_text : (n : InMemory) (table : List ModelPins) → MeetsCondition table n → (i : Instance) → In i n.instances → (supply : Name) → ((supply ≡ vdd) ⊎ (supply ≡ vss)) → HasText n.ports supply.text
supply_text n table condition i j supply which =
    let t = condition.tied i supply (In_there n.instances i j) which in
    let p = port_place n supply t.class t.of_port in
    record { port = p.port; listed = (p.place, p.stands); is = ap (λ (x : Name). x.text) p.named }

pub are_free : (n : InMemory) (l : Library) (m : Machine) → IsNetlist n → MeetsConditionWith l n → IsPlain n l → AreApart n l → IsInOrderWith n l m → AreFree m (registers_of l n.instances)
are_free n l m net meets plain apart ordered = record {
  each = names_each n l meets.0 m plain is (netlist_by (class_by n) n) (record { is = refl; classes = class_by_is n net });
  different = names_different l n.instances (stands_all (map (λ (i : Instance). i.name) n.instances) net.names);
  apart = λ p name i j e.
      let q = (In-filter (λ (p : Port). not (is_supply p.name.text)) n.ports p (subst (λ (ps : List Port). In p ps) is.of_netlist.ports i)).0 in
      apart name j (text_of_port n.ports p name.text q e);
  signals = λ name j.
      let r = register_is l n.instances name j in (
        λ e. apart name j (subst (HasText n.ports) (sym e) (supply_text n meets.0 meets.2 r.owner r.listed vdd (inl refl))),
        λ e. apart name j (subst (HasText n.ports) (sym e) (supply_text n meets.0 meets.2 r.owner r.listed vss (inr refl))),
      );
} where
  is : IsMachineInOrder n l meets.0 m
  is = ordered meets.0 meets.1 meets.2
