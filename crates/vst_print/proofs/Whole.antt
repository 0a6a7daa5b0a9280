-- A whole text: components of models that have pins, signals, and its parts one behind the other.
use Rattle.std.proofs.Common.{◌≡◌, ℕ, zero, suc, ◌+◌, ◌-◌, ◌<◌, Bool, true, false, not, cond, List, [], ◌∷◌, ◌++◌, map, filter, length, take, drop, get_or, bytes_eq, refl, sym, ap, ◌∙◌, append_assoc, arith}
use Rattle.std.specs.List.{All}
use Rattle.std.proofs.lemmas.List.{drop_more, take_all, take_more, length-map, length-drop, map-append}
use Rattle.std.proofs.lemmas.Option.{same_Some, none-some}
use Rattle.std.proofs.lemmas.List.Elements.{All-cons, All-head, All-tail, All-map, All-weaker, All-filter}
use Rattle.vlsi_base.specs.declared.name.Name.{Name}
use Rattle.vlsi_base.specs.Names.{scalar}
use Rattle.spell_theory.specs.Layout.{Written, text_of}
use Rattle.net_core.specs.declared.pins.ModelPins.{ModelPins}
use Rattle.net_core.specs.declared.frame.Node.{Node}
use Rattle.net_core.specs.Frame.{instance_of}
use Rattle.net_core.specs.Places.{Stands, IsThere}
use Rattle.net_core.specs.Netlist.{Instance, Netlist}
use Rattle.net_core.specs.Checks.{pins_named, Fits}
use Rattle.net_core.proofs.Lookups.{itself}
use Rattle.net_right.specs.Writable.{port_of, CanBePorts, PinsCanBeWritten}
use Rattle.vhdl_print.specs.Outline.{OnePort, entity_layout}
use Rattle.vst_print.specs.Groups.{declared, grouped, outline, outline_of}
use Rattle.vst_print.specs.Structure.{signals_layout, component_layout, components_layout, head_layout, begin_layout, instances_layout, last_layout}
use Rattle.vst_print.specs.Written.{each_once, used_models, component_of, instances_with, layout}
use Rattle.vst_print.specs.Pieces.{front_text, body_text}
use Rattle.vst_print.specs.Nets.{port_nets, signal_nets, net_names}
use Rattle.vst_print.proofs.Texts.{text_append, three}

-- ---- models have pins

all_once : (P : List ℕ → Type 0) (ts : List (List ℕ)) → All P ts → All P (each_once ts)
all_once P [] all = all
all_once P (t ∷ ts) all =
    All-cons P t (filter (λ u. not (bytes_eq t u)) (each_once ts)) (All-head P t ts all) (All-filter (λ u. not (bytes_eq t u)) P (each_once ts) (all_once P ts (All-tail P t ts all)))

named_pins : (table : List ModelPins) (t : List ℕ) → IsThere (map (λ m. m.model) table) t → PinsCanBeWritten table → 0 < length (pins_named table t)
named_pins [] t there can = absurd (none there.0 there.1) where
  none : (k : ℕ) → Stands [] k t → ⊥
  none zero s = none-some t s
  none (suc k) s = none-some t s
named_pins (m ∷ ms) t there can = by (λ (more : IsThere (map (λ (m : ModelPins). m.model) ms) t). named_pins ms t more (All-tail (λ (m : ModelPins). CanBePorts (map port_of m.pins)) m ms can)) (bytes_eq m.model t) refl where
  some : 0 < length m.pins
  some =
      let h = All-head (λ (m : ModelPins). CanBePorts (map port_of m.pins)) m ms can in
      let s = h.some in
      let n : length (map port_of m.pins) ≡ length m.pins = length-map m.pins port_of in
      omega (arith, s, n)

  later : bytes_eq m.model t ≡ false → (k : ℕ) → Stands (map (λ (m : ModelPins). m.model) (m ∷ ms)) k t → IsThere (map (λ (m : ModelPins). m.model) ms) t
  later other zero s = let same : m.model ≡ t = same_Some m.model t s in let no : true ≡ false = sym (itself t) ∙ ap (λ (x : List ℕ). bytes_eq x t) (sym same) ∙ other in absurd cc
  later other (suc k) s = (k, s)

  by : (IsThere (map (λ (m : ModelPins). m.model) ms) t → 0 < length (pins_named ms t)) → (b : Bool) → bytes_eq m.model t ≡ b → 0 < length (cond b m.pins (pins_named ms t))
  by rest true e = some
  by rest false e = rest (later e there.0 there.1)

model_pins : (n : Netlist) (table : List ModelPins) → Fits n table → PinsCanBeWritten table → All (λ i. 0 < length (pins_named table i.model)) n.instances
model_pins n table fits can =
    All-weaker (λ (i : Instance). IsThere (map (λ (m : ModelPins). m.model) table) i.model) (λ i. 0 < length (pins_named table i.model)) (λ i there. named_pins table i.model there can) n.instances fits.listed

-- each model that is used has pins
pub used_pins : (n : Netlist) (table : List ModelPins) → Fits n table → PinsCanBeWritten table → All (λ t. 0 < length (pins_named table t)) (used_models n.instances)
used_pins n table fits can =
    all_once (λ t. 0 < length (pins_named table t)) (map (λ (i : Instance). i.model) n.instances)
    (All-map (λ t. 0 < length (pins_named table t)) (λ (i : Instance). i.model) n.instances (model_pins n table fits can))

-- each instance has pins
pub instance_pins : (n : Netlist) (table : List ModelPins) → Fits n table → PinsCanBeWritten table → All (λ i. 0 < length i.pins) n.instances
instance_pins n table fits can = λ k d less.
    let some = model_pins n table fits can k d less in
    let same = fits.pins k d less in
    let i = get_or n.instances k d in
    let a : length i.pins ≡ length (map (λ p. p.name) (pins_named table i.model)) = ap (λ (ps : List Name). length ps) same in
    let b = length-map (pins_named table i.model) (λ p. p.name) in
    omega (arith, some, a, b)

-- ---- models, one more

pub models_more : (models : List (List ℕ)) (nodes : List Node) (k : ℕ) (d : Node) (t : List ℕ) → k < length nodes → d ≡ get_or nodes k d → t ≡ get_or models d.model []
    → map (λ (i : Instance). i.model) (map (instance_of models) (take (k + 1) nodes)) ≡ map (λ (i : Instance). i.model) (map (instance_of models) (take k nodes)) ++ t ∷ []
models_more models nodes k d t less is model =
    ap (λ (ds : List Node). map (λ (i : Instance). i.model) (map (instance_of models) ds)) (take_more nodes k d less ∙ ap (λ (x : Node). take k nodes ++ x ∷ []) (sym is))
    ∙ ap (map (λ (i : Instance). i.model)) (map-append (instance_of models) (take k nodes) (d ∷ []))
    ∙ map-append (λ (i : Instance). i.model) (map (instance_of models) (take k nodes)) (instance_of models d ∷ [])
    ∙ ap (λ (x : List ℕ). map (λ (i : Instance). i.model) (map (instance_of models) (take k nodes)) ++ x ∷ []) (sym model)

-- ---- components, one after the other

pub components_next : (start : List ℕ) (table : List ModelPins) (models : List (List ℕ)) (k : ℕ) (t : List ℕ) (out new : List ℕ) → k < length models → t ≡ get_or models k t
    → new ≡ out ++ text_of (component_layout (component_of table t)) → out ++ text_of (components_layout (map (component_of table) (drop k models))) ≡ start
    → new ++ text_of (components_layout (map (component_of table) (drop (k + 1) models))) ≡ start
components_next start table models k t out new less is put w =
    let at : drop k models ≡ t ∷ drop (k + 1) models = drop_more models k t less ∙ ap (λ (u : List ℕ). u ∷ drop (k + 1) models) (sym is) in
    let one = component_layout (component_of table t) in
    let more = components_layout (map (component_of table) (drop (k + 1) models)) in
    ap (λ (x : List ℕ). x ++ text_of more) put
    ∙ append_assoc out (text_of one) (text_of more)
    ∙ ap (λ (x : List ℕ). out ++ x) (sym (text_append one more))
    ∙ ap (λ (ms : List (List ℕ)). out ++ text_of (components_layout (map (component_of table) ms))) (sym at)
    ∙ w

-- ---- signals

-- the names behind those of ports are the signals
pub signals_behind : (n : Netlist) (names : List Name) (with_port : ℕ) → names ≡ net_names n → with_port ≡ length (port_nets n)
    → map (λ (m : Name). m.text) (take (length names - with_port) (drop with_port names)) ≡ signal_nets n
signals_behind n names with_port are many =
    ap (map (λ (m : Name). m.text)) (take_all (length names - with_port) (drop with_port names) (let l = length-drop with_port names in omega (arith, l)))
    ∙ ap (λ (ns : List Name). map (λ (m : Name). m.text) (drop with_port ns)) are
    ∙ ap (λ (k : ℕ). map (λ (m : Name). m.text) (drop k (net_names n))) many
    ∙ ap (map (λ (m : Name). m.text)) (behind_all (port_nets n) (map scalar (signal_nets n)))
    ∙ texts_again (signal_nets n) where
      behind_all : (xs ys : List Name) → drop (length xs) (xs ++ ys) ≡ ys
      behind_all [] ys = refl
      behind_all (x ∷ xs) ys = behind_all xs ys

      texts_again : (ts : List (List ℕ)) → map (λ (m : Name). m.text) (map scalar ts) ≡ ts
      texts_again [] = refl
      texts_again (t ∷ ts) = ap (λ (us : List (List ℕ)). t ∷ us) (texts_again ts)

-- ---- parts, one behind the other

pub three_parts : (out a b new : List ℕ) (xs ys zs : List Written) → a ≡ out ++ text_of xs → b ≡ a ++ text_of ys → new ≡ b ++ text_of zs → new ≡ out ++ text_of (xs ++ (ys ++ zs))
three_parts out a b new xs ys zs ae be ne =
    ne ∙ ap (λ (x : List ℕ). x ++ text_of zs) (be ∙ ap (λ (x : List ℕ). x ++ text_of ys) ae)
    ∙ three out (text_of xs) (text_of ys) (text_of zs)
    ∙ ap (λ (x : List ℕ). out ++ x) (sym (text_append xs (ys ++ zs) ∙ ap (λ (x : List ℕ). text_of xs ++ x) (text_append ys zs)))

pub four_parts : (out a b c new : List ℕ) (xs ys zs ws : List Written) → a ≡ out ++ text_of xs → b ≡ a ++ text_of ys → c ≡ b ++ text_of zs → new ≡ c ++ text_of ws
    → new ≡ out ++ text_of (xs ++ (ys ++ (zs ++ ws)))
four_parts out a b c new xs ys zs ws ae be ce ne =
    let first : b ≡ out ++ text_of (xs ++ ys) = be ∙ ap (λ (x : List ℕ). x ++ text_of ys) ae ∙ append_assoc out (text_of xs) (text_of ys) ∙ ap (λ (x : List ℕ). out ++ x) (sym (text_append xs ys)) in
    three_parts out b c new (xs ++ ys) zs ws first ce ne ∙ ap (λ (vs : List Written). out ++ text_of vs) (append_assoc xs ys (zs ++ ws))

together : (xs ys zs ws : List Written) → text_of (xs ++ (ys ++ zs)) ++ text_of ws ≡ text_of (xs ++ (ys ++ (zs ++ ws)))
together xs ys zs ws = sym (text_append (xs ++ (ys ++ zs)) ws) ∙ ap text_of (append_assoc xs (ys ++ zs) ws ∙ ap (λ (vs : List Written). xs ++ vs) (append_assoc ys zs ws))

outline_named : (name : List ℕ) (ps : List OnePort) → (outline_of name ps).name ≡ name
outline_named name [] = refl
outline_named name (p ∷ ps) = refl

pub front_and_body : (n : Netlist) (table : List ModelPins) → front_text n table ++ body_text n ≡ text_of (layout n table)
unfolding layout
front_and_body n table =
    let entity = entity_layout (outline n.name n.ports) in
    let components = components_layout (map (component_of table) (used_models n.instances)) in
    let behind = signals_layout (signal_nets n) ++ (begin_layout ++ (instances_layout (instances_with (net_names n) n.instances (drop (length n.ports) n.classes)) ++ last_layout)) in
    together entity (head_layout n.name) components behind
    ∙ ap (λ (name : List ℕ). text_of (entity ++ (head_layout name ++ (components ++ behind)))) (sym (outline_named n.name (map declared (grouped n.ports))))

pub head_put : (out name a b n : List ℕ) → a ≡ out ++ 10 ∷ 97 ∷ 114 ∷ 99 ∷ 104 ∷ 105 ∷ 116 ∷ 101 ∷ 99 ∷ 116 ∷ 117 ∷ 114 ∷ 101 ∷ 32 ∷ 115 ∷ 116 ∷ 114 ∷ 117 ∷ 99 ∷ 116 ∷ 117 ∷ 114 ∷ 97 ∷ 108 ∷ 32 ∷ 111 ∷ 102 ∷ 32 ∷ []
    → n ≡ name → b ≡ a ++ n → b ++ 32 ∷ 105 ∷ 115 ∷ 10 ∷ [] ≡ out ++ text_of (head_layout name)
head_put out name a b n ae ne be =
    let H : List ℕ = 10 ∷ 97 ∷ 114 ∷ 99 ∷ 104 ∷ 105 ∷ 116 ∷ 101 ∷ 99 ∷ 116 ∷ 117 ∷ 114 ∷ 101 ∷ 32 ∷ 115 ∷ 116 ∷ 114 ∷ 117 ∷ 99 ∷ 116 ∷ 117 ∷ 114 ∷ 97 ∷ 108 ∷ 32 ∷ 111 ∷ 102 ∷ 32 ∷ [] in
    let I : List ℕ = 32 ∷ 105 ∷ 115 ∷ 10 ∷ [] in
    ap (λ (x : List ℕ). x ++ I) (be ∙ ap (λ (x : List ℕ). x ++ n) ae ∙ ap (λ (x : List ℕ). (out ++ H) ++ x) ne) ∙ three out H name I
