-- Maps of pins that have no fault.
use Rattle.std.proofs.Common.{◌≡◌, ℕ, Bool, true, false, not, ◌&&◌, ◌||◌, nat_eq, List, [], ◌∷◌, ◌++◌, map, length, Option, None, Some, refl, sym, ap, subst, ◌∙◌, bytes_eq, append_assoc}
use Rattle.std.specs.Prelude.{is_some}
use Rattle.std.specs.List.{flat_map, list_all}
use Rattle.vlsi_base.specs.declared.name.Name.{Name}
use Rattle.vlsi_base.specs.Member.{In, here, there, AllDifferent}
use Rattle.vlsi_base.specs.Name.{is_supply}
use Rattle.vlsi_base.specs.NamePlaces.{name_of, last_place}
use Rattle.machine_core.proofs.Values.{In-right, In-map}
use Rattle.vlsi_model.proofs.Bits.{texts}
use Rattle.source_checks.specs.declared.symbol_table.Symbol.{Symbol}
use Rattle.source_checks.specs.Symbols.{find}
use Rattle.source_checks.specs.Widths.{if_not}
use Rattle.source_checks.proofs.Lookups.{itself}
use Rattle.net_core.specs.declared.pins.ModelPin.{ModelPin}
use Rattle.net_core.specs.declared.pins.ModelPins.{ModelPins}
use Rattle.net_core.specs.Checks.{pins_named}
use Rattle.vst_text.specs.declared.file.Component.{Component}
use Rattle.vst_text.specs.declared.file.Association.{Association}
use Rattle.vst_text.specs.declared.file.InstanceStatement.{InstanceStatement}
use Rattle.vst_text.specs.declared.file.StructuralFile.{StructuralFile}
use Rattle.vst_print.specs.Says.{bit_of, pin_name, net_name}
use Rattle.vst_io.specs.Nets.{nets, components, pins, selected, pin_selection, pin_bits, net_bits, pin_names, net_names}
use Rattle.vst_io.specs.Faults.{stands, is_free, is_net_port, is_tied, fits, association_faults, end_faults, map_faults, instance_faults}
use Rattle.vst_io.proofs.Places.{last_there, last_is, IsLast, stands_in}
use Rattle.vst_laws.proofs.Symbols.{IsNameOf, one_bit}
use Rattle.vst_laws.proofs.Modelled.{both, all_pass, IsModel, name_is, is_named}

-- ---- names that stand, and that don't

pub there_stands : (ns : List Name) (n : Name) → In n ns → stands ns n ≡ true
there_stands ns n h = ap is_some (last_there ns n h).1

pub not_stands : (ns : List Name) (n : Name) → (In n ns → ⊥) → stands ns n ≡ false
not_stands ns n lacks = by (last_place ns n) (last_is ns n) where
  by : (o : Option ℕ) → IsLast ns n o → is_some o ≡ false
  by None s = refl
  by (Some k) s = absurd (lacks (stands_in ns k n s))

apart_from : (before rest : List Name) (n : Name) → AllDifferent (before ++ n ∷ rest) → In n before → ⊥
apart_from (x ∷ before) rest n d here = d.0 (In-right n before (n ∷ rest) here)
apart_from (x ∷ before) rest n d (there h) = apart_from before rest n d.1 h
apart_from [] rest n d h = elim h [ ]

-- ---- an association of one pin with one bit of a net

pub record IsShown (known_nets : List Symbol) (model : List ModelPin) (a : Association) : Type 0 where
  pub pin : In (pin_name a) (map (λ p. p.name) model)
  pub net : IsNameOf known_nets (net_name a)
  pub one : a.net.selection ≡ pin_selection (bit_of a.net.selection)

pub pin_alone : (known : List Symbol) (a : Association) → AllDifferent (texts known) → IsNameOf known (pin_name a) → pin_bits known a.pin ≡ a.pin.bit ∷ []
pin_alone known a different i = one_bit known (pin_name a) different i

pub name_alone : (known : List Symbol) (a : Association) → AllDifferent (texts known) → IsNameOf known (pin_name a) → pin_names known a ≡ pin_name a ∷ []
name_alone known a different i = ap (map (name_of a.pin.text)) (pin_alone known a different i)

pub net_alone : (known_nets : List Symbol) (model : List ModelPin) (a : Association) → AllDifferent (texts known_nets) → IsShown known_nets model a → net_bits known_nets a.net ≡ bit_of a.net.selection ∷ []
net_alone known_nets model a different s = ap (selected (find known_nets a.net.name)) s.one ∙ one_bit known_nets (net_name a) different s.net

pub net_name_alone : (known_nets : List Symbol) (model : List ModelPin) (a : Association) → AllDifferent (texts known_nets) → IsShown known_nets model a → net_names known_nets a ≡ net_name a ∷ []
net_name_alone known_nets model a different s = ap (map (name_of a.net.name)) (net_alone known_nets model a different s)

-- a supply goes to the port of its name
pub tied : (known_nets : List Symbol) (a : Association) → (is_supply a.pin.text ≡ true → (a.net.name ≡ a.pin.text) × (is_net_port (find known_nets a.net.name) ≡ true)) → is_tied known_nets a ≡ true
tied known_nets a s = by (is_supply a.pin.text) refl where
  by : (b : Bool) → is_supply a.pin.text ≡ b → (not b || (bytes_eq a.net.name a.pin.text && is_net_port (find known_nets a.net.name))) ≡ true
  by false e = refl
  by true e =
      both (bytes_eq a.net.name a.pin.text) (is_net_port (find known_nets a.net.name)) (subst (λ (t : List ℕ). bytes_eq a.net.name t ≡ true) (s e).0 (itself a.net.name)) (s e).1

free : (model : List ModelPin) (mapped rest : List Name) (n : Name) → In n (map (λ p. p.name) model) → AllDifferent (mapped ++ n ∷ rest) → is_free model mapped (n ∷ []) ≡ true
free model mapped rest n h d =
    both (stands (map (λ p. p.name) model) n && not (stands mapped n)) true
    (both (stands (map (λ p. p.name) model) n) (not (stands mapped n)) (there_stands (map (λ p. p.name) model) n h) (ap not (not_stands mapped n (apart_from mapped rest n d)))) refl

fitting : (known known_nets : List Symbol) (model : List ModelPin) (a : Association) → AllDifferent (texts known) → AllDifferent (texts known_nets) → IsNameOf known (pin_name a) → IsShown known_nets model a → is_tied known_nets a ≡ true
    → fits known_nets a (length (pin_bits known a.pin)) ≡ true
fitting known known_nets model a d e i s t =
    ap (λ (bs : List (Option ℕ)). nat_eq (length bs) (length (pin_bits known a.pin)) && is_tied known_nets a) (net_alone known_nets model a e s)
    ∙ ap (λ (bs : List (Option ℕ)). nat_eq 1 (length bs) && is_tied known_nets a) (pin_alone known a d i)
    ∙ t

-- ---- maps

pub pins_fine : (known known_nets : List Symbol) (model : List ModelPin) (mapped : List Name) (joins : List Association) → AllDifferent (texts known) → AllDifferent (texts known_nets)
    → ((n : Name) → In n (map (λ p. p.name) model) → IsNameOf known n) → ((a : Association) → In a joins → IsShown known_nets model a)
    → ((a : Association) → In a joins → is_tied known_nets a ≡ true) → AllDifferent (mapped ++ map pin_name joins)
    → association_faults known known_nets model mapped joins ≡ []
pins_fine known known_nets model mapped [] d e has shown ties apart = refl
pins_fine known known_nets model mapped (a ∷ joins) d e has shown ties apart =
    let s = shown a here in
    let i = has (pin_name a) s.pin in
    let alone = name_alone known a d i in
    let one : if_not (is_free model mapped (pin_names known a)) a.pin.line ≡ [] = ap (λ (ns : List Name). if_not (is_free model mapped ns) a.pin.line) alone ∙ ap (λ b. if_not b a.pin.line) (free model mapped (map pin_name joins) (pin_name a) s.pin apart) in
    let two : if_not (fits known_nets a (length (pin_bits known a.pin))) a.net.line ≡ [] = ap (λ b. if_not b a.net.line) (fitting known known_nets model a d e i s (ties a here)) in
    let more : AllDifferent ((mapped ++ pin_names known a) ++ map pin_name joins) =
    subst (λ (ns : List Name). AllDifferent ((mapped ++ ns) ++ map pin_name joins)) (sym alone) (subst (λ (ns : List Name). AllDifferent ns) (sym (append_assoc mapped (pin_name a ∷ []) (map pin_name joins))) apart) in
    let rest = pins_fine known known_nets model (mapped ++ pin_names known a) joins d e has (λ b h. shown b (there h)) (λ b h. ties b (there h)) more in
    ap (λ (ls : List ℕ). ls ++ (if_not (fits known_nets a (length (pin_bits known a.pin))) a.net.line ++ association_faults known known_nets model (mapped ++ pin_names known a) joins)) one
    ∙ ap (λ (ls : List ℕ). ls ++ association_faults known known_nets model (mapped ++ pin_names known a) joins) two
    ∙ rest

pub pins_named_once : (known known_nets : List Symbol) (model : List ModelPin) (joins : List Association) → AllDifferent (texts known)
    → ((n : Name) → In n (map (λ p. p.name) model) → IsNameOf known n) → ((a : Association) → In a joins → IsShown known_nets model a) → flat_map (pin_names known) joins ≡ map pin_name joins
pins_named_once known known_nets model [] d has shown = refl
pins_named_once known known_nets model (a ∷ joins) d has shown =
    ap (λ (ns : List Name). ns ++ flat_map (pin_names known) joins) (name_alone known a d (has (pin_name a) (shown a here).pin))
    ∙ ap (λ (ns : List Name). pin_name a ∷ ns) (pins_named_once known known_nets model joins d has (λ b h. shown b (there h)))

-- what is known of an instance: its component is declared, and its pins are mapped
pub record IsPlaced (table : List ModelPins) (f : StructuralFile) (i : InstanceStatement) : Type 0 where
  pub declared : In i.component (map (λ c. c.name) (components f.declarations))
  pub pins_are : map pin_name i.associations ≡ map (λ p. p.name) (pins_named table i.component)
  pub once : AllDifferent (map pin_name i.associations)
  pub shown : (a : Association) → In a i.associations → IsShown (nets f) (pins_named table i.component) a

-- the names of a model's pins are declared in the component
pub model_names : (table : List ModelPins) (c : Component) (model : List ℕ) → c.name ≡ model → IsModel table c → (n : Name) → In n (map (λ p. p.name) (pins_named table model)) → IsNameOf (pins c) n
model_names table c model named m n h = name_is table c m n (subst (λ (t : List ℕ). In n (map (λ p. p.name) (pins_named table t))) (sym named) h)

pub instance_fine : (table : List ModelPins) (f : StructuralFile) (i : InstanceStatement) → ((c : Component) → In c (components f.declarations) → IsModel table c) → AllDifferent (texts (nets f)) → IsPlaced table f i
    → ((a : Association) → In a i.associations → is_tied (nets f) a ≡ true) → instance_faults table f i ≡ []
instance_fine table f i models e p ties =
    let n = is_named (components f.declarations) i.component p.declared in
    let c = n.component in
    let m = models c n.listed in
    let model = pins_named table i.component in
    let has = model_names table c i.component n.named m in
    let names = pins_named_once (pins c) (nets f) model i.associations m.apart has p.shown ∙ p.pins_are in
    let test : ModelPin → Bool = λ q. stands (flat_map (pin_names (pins c)) i.associations) q.name in
    let first = pins_fine (pins c) (nets f) model [] i.associations m.apart e has p.shown ties p.once in
    let each : list_all test model ≡ true = all_pass test model (λ q h. there_stands (flat_map (pin_names (pins c)) i.associations) q.name (subst (λ (ns : List Name). In q.name ns) (sym names) (In-map (λ (x : ModelPin). x.name) q model h))) in
    ap (map_faults table f i) n.found
    ∙ ap (λ (ls : List ℕ). ls ++ end_faults (pins c) model i) first
    ∙ ap (λ b. if_not b i.end_line) each
