-- Texts of layouts, one behind the other.
use Rattle.std.proofs.Common.{◌≡◌, ℕ, ◌<◌, List, [], ◌∷◌, ◌++◌, length, Option, None, Some, refl, sym, ap, ◌∙◌, append_assoc, arith}
use Rattle.std.specs.Fmt.{decimal}
use Rattle.vlsi_base.specs.declared.name.Name.{Name}
use Rattle.vlsi_base.specs.Name.{bit_text, name_text}
use Rattle.spell_theory.specs.Layout.{Written, gap, turn, says, spelling, text_of}
use Rattle.vhdl_print.specs.Outline.{OnePort, port_layout, ports_layout, end_layout, entity_layout}
use Rattle.net_core.specs.Netlist.{Instance}
use Rattle.vst_print.specs.Groups.{outline_of}
use Rattle.vst_print.specs.Structure.{Mapping, bit_layout, name_layout, mapping_layout, mappings_layout, component_end, component_layout, instance_end, instance_layout}
use Rattle.vst_print.specs.Written.{instance_with}
use Rattle.vst_print.specs.Pieces.{ports_text, label_text, maps_text}

pub text_append : (xs ys : List Written) → text_of (xs ++ ys) ≡ text_of xs ++ text_of ys
text_append [] ys = refl
text_append (gap ∷ xs) ys = ap (λ (t : List ℕ). 32 ∷ t) (text_append xs ys)
text_append (turn ∷ xs) ys = ap (λ (t : List ℕ). 10 ∷ t) (text_append xs ys)
text_append (says t ∷ xs) ys = ap (λ (z : List ℕ). spelling t ++ z) (text_append xs ys) ∙ sym (append_assoc (spelling t) (text_of xs) (text_of ys))

-- two parts behind one another, and the last behind both
pub two_and : (xs ys zs : List Written) → text_of (xs ++ (ys ++ zs)) ≡ text_of (xs ++ ys) ++ text_of zs
two_and xs ys zs = ap text_of (sym (append_assoc xs ys zs)) ∙ text_append (xs ++ ys) zs

-- ---- names

bit_says : (b : Option ℕ) (ws : List Written) → text_of (bit_layout b ++ ws) ≡ bit_text b ++ text_of ws
bit_says None ws = refl
bit_says (Some k) ws = ap (λ (t : List ℕ). 40 ∷ t) (sym (append_assoc (decimal k) (41 ∷ []) (text_of ws)))

bit_alone : (b : Option ℕ) → text_of (bit_layout b) ≡ bit_text b
bit_alone None = refl
bit_alone (Some k) = refl

name_says : (n : Name) (ws : List Written) → text_of (name_layout n ++ ws) ≡ name_text n ++ text_of ws
name_says n ws = ap (λ (t : List ℕ). n.text ++ t) (bit_says n.bit ws) ∙ sym (append_assoc n.text (bit_text n.bit) (text_of ws))

name_alone : (n : Name) → text_of (name_layout n) ≡ name_text n
name_alone n = ap (λ (t : List ℕ). n.text ++ t) (bit_alone n.bit)

pub mapping_says : (pin net : Name) → text_of (mapping_layout (record { pin = pin; net = net })) ≡ 32 ∷ 32 ∷ name_text pin ++ (32 ∷ 61 ∷ 62 ∷ 32 ∷ name_text net)
mapping_says pin net =
    ap (λ (t : List ℕ). 32 ∷ 32 ∷ t) (name_says pin _ ∙ ap (λ (t : List ℕ). name_text pin ++ 32 ∷ 61 ∷ 62 ∷ 32 ∷ t) (name_alone net))

-- ---- entities, components, instances

pub entity_says : (name : List ℕ) (ps : List OnePort) → 0 < length ps
    → text_of (entity_layout (outline_of name ps))
    ≡ (101 ∷ 110 ∷ 116 ∷ 105 ∷ 116 ∷ 121 ∷ 32 ∷ name) ++ (32 ∷ 105 ∷ 115 ∷ 10 ∷ 112 ∷ 111 ∷ 114 ∷ 116 ∷ 32 ∷ 40 ∷ 10 ∷ ports_text ps ++ (41 ∷ 59 ∷ 10 ∷ 101 ∷ 110 ∷ 100 ∷ 32 ∷ name ++ 59 ∷ 10 ∷ []))
entity_says name [] some = absurd (omega arith)
entity_says name (p ∷ ps) some =
    ap (λ (t : List ℕ). (101 ∷ 110 ∷ 116 ∷ 105 ∷ 116 ∷ 121 ∷ 32 ∷ name) ++ (32 ∷ 105 ∷ 115 ∷ 10 ∷ 112 ∷ 111 ∷ 114 ∷ 116 ∷ 32 ∷ 40 ∷ 10 ∷ t)) (two_and (port_layout p) (ports_layout ps) (end_layout name))

pub component_says : (name : List ℕ) (ps : List OnePort) → 0 < length ps
    → text_of (component_layout (outline_of name ps))
    ≡ (99 ∷ 111 ∷ 109 ∷ 112 ∷ 111 ∷ 110 ∷ 101 ∷ 110 ∷ 116 ∷ 32 ∷ name) ++ (10 ∷ 112 ∷ 111 ∷ 114 ∷ 116 ∷ 32 ∷ 40 ∷ 10 ∷ ports_text ps ++ text_of component_end)
component_says name [] some = absurd (omega arith)
component_says name (p ∷ ps) some =
    ap (λ (t : List ℕ). (99 ∷ 111 ∷ 109 ∷ 112 ∷ 111 ∷ 110 ∷ 101 ∷ 110 ∷ 116 ∷ 32 ∷ name) ++ (10 ∷ 112 ∷ 111 ∷ 114 ∷ 116 ∷ 32 ∷ 40 ∷ 10 ∷ t)) (two_and (port_layout p) (ports_layout ps) component_end)

pub instance_says : (i : Instance) (ms : List Mapping) → 0 < length ms → text_of (instance_layout (instance_with i ms)) ≡ label_text i.name i.model ++ (maps_text ms ++ text_of instance_end)
instance_says i [] some = absurd (omega arith)
instance_says i (m ∷ ms) some =
    let s : List ℕ = 32 ∷ 58 ∷ 32 ∷ [] in
    let u : List ℕ = 10 ∷ 112 ∷ 111 ∷ 114 ∷ 116 ∷ 32 ∷ 109 ∷ 97 ∷ 112 ∷ 32 ∷ 40 ∷ 10 ∷ [] in
    let rest : List ℕ = maps_text (m ∷ ms) ++ text_of instance_end in
    let front : (i.name ++ (s ++ (i.model ++ u))) ++ rest ≡ i.name ++ (s ++ (i.model ++ (u ++ rest))) =
    append_assoc i.name (s ++ (i.model ++ u)) rest ∙ ap (λ (t : List ℕ). i.name ++ (s ++ t)) (append_assoc i.model u rest) in
    ap (λ (t : List ℕ). i.name ++ (s ++ (i.model ++ (u ++ t)))) (two_and (mapping_layout m) (mappings_layout ms) instance_end) ∙ sym front

-- ---- bytes that are put one behind the other

pub behind : (out a b : List ℕ) → (out ++ a) ++ b ≡ out ++ (a ++ b)
behind out a b = append_assoc out a b

pub three : (out a b c : List ℕ) → ((out ++ a) ++ b) ++ c ≡ out ++ (a ++ (b ++ c))
three out a b c = append_assoc (out ++ a) b c ∙ append_assoc out a (b ++ c)

pub four : (out a b c d : List ℕ) → (((out ++ a) ++ b) ++ c) ++ d ≡ out ++ (a ++ (b ++ (c ++ d)))
four out a b c d = append_assoc ((out ++ a) ++ b) c d ∙ three out a b (c ++ d)

pub five : (out a b c d e : List ℕ) → ((((out ++ a) ++ b) ++ c) ++ d) ++ e ≡ out ++ (a ++ (b ++ (c ++ (d ++ e))))
five out a b c d e = append_assoc (((out ++ a) ++ b) ++ c) d e ∙ four out a b c (d ++ e)

pub six : (out a b c d e f : List ℕ) → (((((out ++ a) ++ b) ++ c) ++ d) ++ e) ++ f ≡ out ++ (a ++ (b ++ (c ++ (d ++ (e ++ f)))))
six out a b c d e f = append_assoc ((((out ++ a) ++ b) ++ c) ++ d) e f ∙ five out a b c d (e ++ f)

pub label_put : (out name model : List ℕ)
    → (((out ++ name) ++ (32 ∷ 58 ∷ 32 ∷ [])) ++ model) ++ (10 ∷ 112 ∷ 111 ∷ 114 ∷ 116 ∷ 32 ∷ 109 ∷ 97 ∷ 112 ∷ 32 ∷ 40 ∷ 10 ∷ []) ≡ out ++ label_text name model
label_put out name model = four out name (32 ∷ 58 ∷ 32 ∷ []) model (10 ∷ 112 ∷ 111 ∷ 114 ∷ 116 ∷ 32 ∷ 109 ∷ 97 ∷ 112 ∷ 32 ∷ 40 ∷ 10 ∷ [])

-- what is put one behind the other for an entity and a component

pub entity_put : (out name : List ℕ) (ps : List OnePort) (a b c d e f n m : List ℕ) → 0 < length ps
    → a ≡ out ++ 101 ∷ 110 ∷ 116 ∷ 105 ∷ 116 ∷ 121 ∷ 32 ∷ [] → n ≡ name → b ≡ a ++ n → c ≡ b ++ 32 ∷ 105 ∷ 115 ∷ 10 ∷ 112 ∷ 111 ∷ 114 ∷ 116 ∷ 32 ∷ 40 ∷ 10 ∷ []
    → d ≡ c ++ ports_text ps → e ≡ d ++ 41 ∷ 59 ∷ 10 ∷ 101 ∷ 110 ∷ 100 ∷ 32 ∷ [] → m ≡ name → f ≡ e ++ m
    → f ++ 59 ∷ 10 ∷ [] ≡ out ++ text_of (entity_layout (outline_of name ps))
entity_put out name ps a b c d e f n m some ae ne be ce de ee me fe =
    let E : List ℕ = 101 ∷ 110 ∷ 116 ∷ 105 ∷ 116 ∷ 121 ∷ 32 ∷ [] in
    let M : List ℕ = 32 ∷ 105 ∷ 115 ∷ 10 ∷ 112 ∷ 111 ∷ 114 ∷ 116 ∷ 32 ∷ 40 ∷ 10 ∷ [] in
    let N : List ℕ = 41 ∷ 59 ∷ 10 ∷ 101 ∷ 110 ∷ 100 ∷ 32 ∷ [] in
    let S : List ℕ = 59 ∷ 10 ∷ [] in
    let P : List ℕ = ports_text ps in
    let b_is : b ≡ (out ++ E) ++ name = be ∙ ap (λ (x : List ℕ). x ++ n) ae ∙ ap (λ (x : List ℕ). (out ++ E) ++ x) ne in
    let c_is : c ≡ ((out ++ E) ++ name) ++ M = ce ∙ ap (λ (x : List ℕ). x ++ M) b_is in
    let d_is : d ≡ (((out ++ E) ++ name) ++ M) ++ P = de ∙ ap (λ (x : List ℕ). x ++ P) c_is in
    let e_is : e ≡ ((((out ++ E) ++ name) ++ M) ++ P) ++ N = ee ∙ ap (λ (x : List ℕ). x ++ N) d_is in
    let f_is : f ≡ (((((out ++ E) ++ name) ++ M) ++ P) ++ N) ++ name = fe ∙ ap (λ (x : List ℕ). x ++ m) e_is ∙ ap (λ (x : List ℕ). (((((out ++ E) ++ name) ++ M) ++ P) ++ N) ++ x) me in
    ap (λ (x : List ℕ). x ++ S) f_is
    ∙ append_assoc (((((out ++ E) ++ name) ++ M) ++ P) ++ N) name S
    ∙ six out E name M P N (name ++ S)
    ∙ ap (λ (x : List ℕ). out ++ x) (sym (entity_says name ps some))

pub component_put : (out name : List ℕ) (ps : List OnePort) (a b c d n : List ℕ) → 0 < length ps
    → a ≡ out ++ 99 ∷ 111 ∷ 109 ∷ 112 ∷ 111 ∷ 110 ∷ 101 ∷ 110 ∷ 116 ∷ 32 ∷ [] → n ≡ name → b ≡ a ++ n → c ≡ b ++ 10 ∷ 112 ∷ 111 ∷ 114 ∷ 116 ∷ 32 ∷ 40 ∷ 10 ∷ []
    → d ≡ c ++ ports_text ps
    → d ++ text_of component_end ≡ out ++ text_of (component_layout (outline_of name ps))
component_put out name ps a b c d n some ae ne be ce de =
    let C : List ℕ = 99 ∷ 111 ∷ 109 ∷ 112 ∷ 111 ∷ 110 ∷ 101 ∷ 110 ∷ 116 ∷ 32 ∷ [] in
    let M : List ℕ = 10 ∷ 112 ∷ 111 ∷ 114 ∷ 116 ∷ 32 ∷ 40 ∷ 10 ∷ [] in
    let P : List ℕ = ports_text ps in
    let b_is : b ≡ (out ++ C) ++ name = be ∙ ap (λ (x : List ℕ). x ++ n) ae ∙ ap (λ (x : List ℕ). (out ++ C) ++ x) ne in
    let c_is : c ≡ ((out ++ C) ++ name) ++ M = ce ∙ ap (λ (x : List ℕ). x ++ M) b_is in
    let d_is : d ≡ (((out ++ C) ++ name) ++ M) ++ P = de ∙ ap (λ (x : List ℕ). x ++ P) c_is in
    ap (λ (x : List ℕ). x ++ text_of component_end) d_is
    ∙ five out C name M P (text_of component_end)
    ∙ ap (λ (x : List ℕ). out ++ x) (sym (component_says name ps some))
