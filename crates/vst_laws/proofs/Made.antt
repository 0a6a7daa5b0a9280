-- What is known of the text of a netlist: its declarations have no fault, and its nets are declared.
use Rattle.std.proofs.Common.{◌≡◌, inl, inr, ℕ, true, List, [], ◌∷◌, ◌++◌, map, refl, sym, ap, subst, ◌∙◌, append-nil, append_assoc}
use Rattle.std.specs.List.{flat_map}
use Rattle.std.specs.List.Sorted.{IsPermutation}
use Rattle.std.proofs.lemmas.List.Sorted.{IsPermutation-sym}
use Rattle.vlsi_base.specs.declared.name.Name.{Name}
use Rattle.vlsi_base.specs.declared.name.Port.{Port}
use Rattle.vlsi_base.specs.declared.entity.PortGroup.{PortGroup}
use Rattle.vlsi_base.specs.Member.{In, AllDifferent}
use Rattle.vlsi_base.specs.Names.{scalar}
use Rattle.machine_core.proofs.Values.{In-split, In-left, In-right}
use Rattle.vlsi_model.proofs.Members.{In-map_back}
use Rattle.vlsi_model.proofs.Assembly.{In-permutation}
use Rattle.vlsi_model.proofs.Bits.{texts}
use Rattle.source_checks.specs.declared.symbol_table.Symbol.{Symbol}
use Rattle.source_checks.specs.Symbols.{port_symbols}
use Rattle.source_checks.specs.Widths.{port_faults}
use Rattle.spell_theory.specs.Layout.{line_behind, line_of}
use Rattle.vhdl_print.specs.Outline.{Outline, entity_layout}
use Rattle.net_core.specs.declared.pins.ModelPins.{ModelPins}
use Rattle.net_core.specs.Netlist.{Netlist}
use Rattle.net_core.specs.Checks.{pins_named}
use Rattle.net_right.specs.Writable.{port_of}
use Rattle.vst_text.specs.declared.file.Component.{Component}
use Rattle.vst_text.specs.declared.file.Declaration.{Declaration}
use Rattle.vst_print.specs.Groups.{outline}
use Rattle.vst_print.specs.Structure.{components_layout, head_layout}
use Rattle.vst_print.specs.Nets.{port_nets, signal_nets, net_names}
use Rattle.vst_print.specs.Written.{used_models, component_of}
use Rattle.vst_print.specs.Placed.{file_of}
use Rattle.vst_print.specs.Says.{ports_of, components_of, Says}
use Rattle.vst_print.proofs.Netlists.{Facts, facts, known_used}
use Rattle.vst_print.proofs.Saying.{written_says_the_netlist}
use Rattle.vst_io.specs.Nets.{nets, components, port_bits}
use Rattle.vst_io.specs.Faults.{all_widths, all_forms, declaration_widths, declaration_forms, port_form}
use Rattle.vst_io.proofs.Ports.{ports_at}
use Rattle.vst_laws.specs.Again.{CanBeSaid}
use Rattle.vst_laws.proofs.Symbols.{IsNameOf, port_is}
use Rattle.vst_laws.proofs.Plain.{ArePlain, SuppliesFit, outline_plain, plain_widths, own_forms, plain_bits}
use Rattle.vst_laws.proofs.Modelled.{IsModel}
use Rattle.vst_laws.proofs.Once.{all_in}
use Rattle.vst_laws.proofs.Declared.{same_components, component_in, is_model, plain_symbols, signals_are, no_ports, signal_is, no_widths, no_forms, nets_apart, first_in}

flat_append : {X Y : Type 0} (f : X → List Y) (xs ys : List X) → flat_map f (xs ++ ys) ≡ flat_map f xs ++ flat_map f ys
flat_append f [] ys = refl
flat_append {X} {Y} f (x ∷ xs) ys = ap (λ (zs : List Y). f x ++ zs) (flat_append f xs ys) ∙ sym (append_assoc (f x) (flat_map f xs) (flat_map f ys))

pub no_more : {X : Type 0} (xs ys : List X) → xs ≡ [] → ys ≡ [] → xs ++ ys ≡ []
no_more {X} xs ys e f = ap (λ (zs : List X). zs ++ ys) e ∙ f

pub record IsMade (n : Netlist) (table : List ModelPins) : Type 0 where
  pub facts : Facts n table
  pub says : Says n table (file_of n table)
  pub models : (c : Component) → In c (components (file_of n table).declarations) → IsModel table c
  pub widths : all_widths (file_of n table) ≡ []
  pub plain : ArePlain (file_of n table).entity.ports
  pub own : IsPermutation n.ports (port_bits (port_symbols (file_of n table).entity.ports))
  pub forms : flat_map declaration_forms (file_of n table).declarations ≡ []
  pub apart : AllDifferent (texts (nets (file_of n table)))
  pub bits : IsPermutation n.ports (port_bits (nets (file_of n table)))
  pub names : (x : Name) → In x (net_names n) → IsNameOf (nets (file_of n table)) x

pub is_made : (n : Netlist) (table : List ModelPins) → CanBeSaid n table → IsMade n table
is_made n table r = record {
  facts = f;
  says = says;
  models = models;
  widths = no_more (port_faults P) (flat_map declaration_widths D) (plain_widths P plain) (no_widths table d g cs (signal_nets n) models);
  plain = plain;
  own = own;
  forms = no_forms table d g cs (signal_nets n) models;
  apart = subst (λ (xs : List Symbol). AllDifferent (texts xs)) (sym nets_are) (nets_apart n l g f.ports f.few);
  bits = subst (λ (xs : List Symbol). IsPermutation n.ports (port_bits xs)) (sym nets_are) (subst (λ (ps : List Port). IsPermutation n.ports ps) (sym bits_are) own);
  names = λ x h. subst (λ (xs : List Symbol). IsNameOf xs x) (sym nets_are) (named x h);
} where
  f : Facts n table
  f = facts n table r.sound r.fits r.pins r.named r.limits

  says : Says n table (file_of n table)
  says = written_says_the_netlist n table r.sound r.fits r.pins r.named r.limits r.apart

  cs : List Outline
  cs = map (component_of table) (used_models n.instances)

  l : ℕ
  l = line_behind (line_behind 1)

  d : ℕ
  d = line_of (line_of 1 (entity_layout (outline n.name n.ports))) (head_layout (outline n.name n.ports).name)

  g : ℕ
  g = line_of d (components_layout cs)

  P : List PortGroup
  P = (file_of n table).entity.ports

  D : List Declaration
  D = (file_of n table).declarations

  models : (c : Component) → In c (components (file_of n table).declarations) → IsModel table c
  models c h =
      let w = component_in table d g (used_models n.instances) (signal_nets n) c h in
      let pins = all_in (λ (x : Component). flat_map ports_of x.ports ≡ map port_of (pins_named table x.name)) (components_of D) says.pins c (subst (λ (xs : List Component). In c xs) (same_components D) h) in
      is_model table (used_models n.instances) c (known_used n table f.known) w pins

  plain : ArePlain (file_of n table).entity.ports
  plain = outline_plain l n.name n.ports f.ports

  own : IsPermutation n.ports (port_bits (port_symbols (file_of n table).entity.ports))
  own = subst (λ (ps : List Port). IsPermutation ps (port_bits (port_symbols (file_of n table).entity.ports))) says.ports (plain_bits P plain)

  nets_are : nets (file_of n table) ≡ port_symbols (file_of n table).entity.ports ++ plain_symbols g (signal_nets n)
  nets_are = ap (λ (xs : List Symbol). port_symbols P ++ xs) (signals_are d g cs (signal_nets n))

  bits_are : port_bits (port_symbols (file_of n table).entity.ports ++ plain_symbols g (signal_nets n)) ≡ port_bits (port_symbols (file_of n table).entity.ports)
  bits_are = flat_append ports_at (port_symbols P) (plain_symbols g (signal_nets n)) ∙ ap (λ (ps : List Port). port_bits (port_symbols P) ++ ps) (no_ports g (signal_nets n)) ∙ append-nil (port_bits (port_symbols P))

  left : (x : Name) → IsNameOf (port_symbols (file_of n table).entity.ports) x → IsNameOf (port_symbols (file_of n table).entity.ports ++ plain_symbols g (signal_nets n)) x
  left x i = record { symbol = i.symbol; listed = In-left i.symbol (port_symbols P) (plain_symbols g (signal_nets n)) i.listed; text = i.text; bit = i.bit }

  right : (x : Name) → IsNameOf (plain_symbols g (signal_nets n)) x → IsNameOf (port_symbols (file_of n table).entity.ports ++ plain_symbols g (signal_nets n)) x
  right x i = record { symbol = i.symbol; listed = In-right i.symbol (port_symbols P) (plain_symbols g (signal_nets n)) i.listed; text = i.text; bit = i.bit }

  port_named : (x : Name) → In x (map (λ p. p.name) n.ports) → IsNameOf (port_symbols (file_of n table).entity.ports) x
  port_named x h =
      let p = In-map_back (λ (q : Port). q.name) x n.ports h in
      let i = port_is (port_symbols P) p.0 (In-permutation n.ports (port_bits (port_symbols P)) p.0 own p.1) in
      subst (λ (y : Name). IsNameOf (port_symbols P) y) p.2 i.name

  named : (x : Name) → In x (net_names n) → IsNameOf (port_symbols (file_of n table).entity.ports ++ plain_symbols g (signal_nets n)) x
  named x h = elim (In-split x (port_nets n) (map scalar (signal_nets n)) h) [
    | inl a ↦ left x (port_named x (first_in 0 n.ports n.classes x a))
    | inr b ↦
        let t = In-map_back scalar x (signal_nets n) b in
        right x (subst (λ (y : Name). IsNameOf (plain_symbols g (signal_nets n)) y) t.2 (signal_is g (signal_nets n) t.0 t.1))
  ]

-- where supplies are inputs of one bit, no form is at fault
pub no_form : (n : Netlist) (table : List ModelPins) → IsMade n table → SuppliesFit n.ports → all_forms (file_of n table) ≡ []
no_form n table m supplies =
    let P = (file_of n table).entity.ports in
    let bits = port_bits (port_symbols P) in
    no_more (flat_map (port_form true) P) (flat_map declaration_forms (file_of n table).declarations)
    (own_forms P m.plain (λ p h s. supplies p (In-permutation bits n.ports p (IsPermutation-sym n.ports bits m.own) h) s)) m.forms
