-- Pins and their nets, and instances, one after the other.
use Rattle.std.proofs.Common.{◌≡◌, ℕ, zero, suc, ◌+◌, ◌-◌, ◌<◌, ◌≤◌, List, [], ◌∷◌, ◌++◌, map, length, take, drop, get_or, refl, sym, ap, subst, ◌∙◌, append_assoc, append-nil, length-append, length-drop, arith}
use Rattle.std.specs.List.{All, flat_map}
use Rattle.std.proofs.lemmas.List.{drop_more, drop_all, length-map, length-take-le, take_all}
use Rattle.std.proofs.lemmas.List.Elements.{All-drop}
use Rattle.vlsi_base.specs.declared.name.Name.{Name}
use Rattle.vlsi_base.specs.declared.name.Port.{Port}
use Rattle.vlsi_base.specs.Names.{scalar}
use Rattle.spell_theory.specs.Layout.{text_of}
use Rattle.net_core.specs.declared.frame.Node.{Node}
use Rattle.net_core.specs.Frame.{instance_of}
use Rattle.net_core.specs.Netlist.{Instance, Netlist, IsNetlist, port, pins_of, pin_of}
use Rattle.vst_print.specs.Structure.{Mapping, mapping_layout, mappings_layout, instance_end, instances_layout, instance_layout}
use Rattle.vst_print.specs.Written.{mapped, instance_with, instances_with}
use Rattle.vst_print.specs.Pieces.{label_text, maps_text}
use Rattle.vst_print.proofs.Texts.{text_append, instance_says, three, four}

-- the mapping of a pin whose class this is
abbrev pub mapping_at : List Name → Name → ℕ → Mapping
mapping_at nets pin class = record { pin = pin; net = get_or nets class (scalar []) }

pub mapped_length : (nets pins : List Name) (classes : List ℕ) → length classes ≡ length pins → length (mapped nets pins classes) ≡ length pins
mapped_length nets [] classes e = refl
mapped_length nets (p ∷ ps) [] e = absurd (omega (arith, e))
mapped_length nets (p ∷ ps) (k ∷ ks) e = ap suc (mapped_length nets ps ks (omega (arith, e)))

pub mapped_at : (nets pins : List Name) (classes : List ℕ) (k : ℕ) (p : Name) → k < length pins → k < length classes → p ≡ get_or pins k p
    → mapped nets (drop k pins) (drop k classes) ≡ mapping_at nets p (get_or classes k 0) ∷ mapped nets (drop (k + 1) pins) (drop (k + 1) classes)
mapped_at nets pins classes k p less within is =
    ap (λ (ps : List Name). mapped nets ps (drop k classes)) (drop_more pins k p less ∙ ap (λ (q : Name). q ∷ drop (k + 1) pins) (sym is))
    ∙ ap (mapped nets (p ∷ drop (k + 1) pins)) (drop_more classes k 0 within)

-- ---- pins

abbrev pub Maps : List ℕ → List Name → List Name → List ℕ → ℕ → List ℕ → Type 0
Maps start nets pins classes k out = out ++ text_of (mappings_layout (mapped nets (drop k pins) (drop k classes))) ≡ start ++ maps_text (mapped nets pins classes)

pub maps_first : (start : List ℕ) (nets pins : List Name) (classes : List ℕ) (p : Name) (out : List ℕ) → 0 < length pins → 0 < length classes → p ≡ get_or pins 0 p
    → out ≡ start ++ text_of (mapping_layout (mapping_at nets p (get_or classes 0 0))) → Maps start nets pins classes 1 out
maps_first start nets pins classes p out some there is put =
    let e : mapped nets pins classes ≡ mapping_at nets p (get_or classes 0 0) ∷ mapped nets (drop 1 pins) (drop 1 classes) = mapped_at nets pins classes 0 p some there is in
    let m = mapping_layout (mapping_at nets p (get_or classes 0 0)) in
    let more = mappings_layout (mapped nets (drop 1 pins) (drop 1 classes)) in
    ap (λ (x : List ℕ). x ++ text_of more) put
    ∙ append_assoc start (text_of m) (text_of more)
    ∙ ap (λ (x : List ℕ). start ++ x) (sym (text_append m more))
    ∙ ap (λ (ms : List Mapping). start ++ maps_text ms) (sym e)

pub maps_next : (start : List ℕ) (nets pins : List Name) (classes : List ℕ) (k : ℕ) (p : Name) (out new : List ℕ) → k < length pins → k < length classes → p ≡ get_or pins k p
    → new ≡ (out ++ 44 ∷ 10 ∷ []) ++ text_of (mapping_layout (mapping_at nets p (get_or classes k 0))) → Maps start nets pins classes k out → Maps start nets pins classes (k + 1) new
maps_next start nets pins classes k p out new less within is put w =
    let e = mapped_at nets pins classes k p less within is in
    let m = mapping_layout (mapping_at nets p (get_or classes k 0)) in
    let more = mappings_layout (mapped nets (drop (k + 1) pins) (drop (k + 1) classes)) in
    ap (λ (x : List ℕ). x ++ text_of more) put
    ∙ three out (44 ∷ 10 ∷ []) (text_of m) (text_of more)
    ∙ ap (λ (x : List ℕ). out ++ 44 ∷ 10 ∷ x) (sym (text_append m more))
    ∙ ap (λ (ms : List Mapping). out ++ text_of (mappings_layout ms)) (sym e)
    ∙ w

pub maps_end : (start : List ℕ) (nets pins : List Name) (classes : List ℕ) (k : ℕ) (out : List ℕ) → length pins ≤ k → Maps start nets pins classes k out → out ≡ start ++ maps_text (mapped nets pins classes)
maps_end start nets pins classes k out past w =
    sym (append-nil out) ∙ sym (ap (λ (ps : List Name). out ++ text_of (mappings_layout (mapped nets ps (drop k classes)))) (drop_all k pins past)) ∙ w

-- ---- instances

-- how many pins these have
abbrev pub pin_total : List Instance → ℕ
pin_total [] = 0
pin_total (i ∷ is) = length i.pins + pin_total is

pub total_pins : (is : List Instance) → length (flat_map pins_of is) ≡ pin_total is
total_pins [] = refl
total_pins (i ∷ is) = let a = length-append (pins_of i) (flat_map pins_of is) in let b : length (pins_of i) ≡ length i.pins = length-map i.pins (pin_of i.name) in omega (arith, a, b, total_pins is)

-- what was written so far, and what is written of the instances from number k on, is the whole; the classes that are left are
-- those of their pins, and have names
pub record Instances (start : List ℕ) (nets : List Name) (all : List Instance) (classes : List ℕ) (k : ℕ) (rest : List ℕ) (out : List ℕ) : Type 0 where
  pub whole : out ++ text_of (instances_layout (instances_with nets (drop k all) rest)) ≡ start ++ text_of (instances_layout (instances_with nets all classes))
  pub many : length rest ≡ pin_total (drop k all)
  pub inside : All (λ class. class < length nets) rest

pub own_many : (start : List ℕ) (nets : List Name) (all : List Instance) (classes : List ℕ) (k : ℕ) (rest : List ℕ) (out : List ℕ) (i : Instance) → k < length all → i ≡ get_or all k i
    → Instances start nets all classes k rest out → length i.pins ≤ length rest
own_many start nets all classes k rest out i less is w =
    let many = w.many in
    let e : pin_total (drop k all) ≡ length i.pins + pin_total (drop (k + 1) all) = ap pin_total (drop_more all k i less ∙ ap (λ (j : Instance). j ∷ drop (k + 1) all) (sym is)) in
    omega (arith, many, e)

pub instances_next : (start : List ℕ) (nets : List Name) (all : List Instance) (classes : List ℕ) (k : ℕ) (rest own others : List ℕ) (out new : List ℕ) (i : Instance)
    → k < length all → i ≡ get_or all k i → 0 < length i.pins → own ≡ take (length i.pins) rest → others ≡ drop (length i.pins) rest
    → new ≡ ((out ++ label_text i.name i.model) ++ maps_text (mapped nets i.pins own)) ++ text_of instance_end
    → Instances start nets all classes k rest out → Instances start nets all classes (k + 1) others new
instances_next start nets all classes k rest own others out new i less is some front back put w =
    let fits = own_many start nets all classes k rest out i less is w in
    let many = w.many in
    let at : drop k all ≡ i ∷ drop (k + 1) all = drop_more all k i less ∙ ap (λ (j : Instance). j ∷ drop (k + 1) all) (sym is) in
    let own_length : length own ≡ length i.pins = ap (λ (x : List ℕ). length x) front ∙ length-take-le (length i.pins) rest fits in
    let n = mapped_length nets i.pins own own_length in
    let ms = mapped nets i.pins own in
    let more = instances_layout (instances_with nets (drop (k + 1) all) others) in
    let one = instance_layout (instance_with i ms) in
    record {
      whole =
          ap (λ (x : List ℕ). x ++ text_of more) put
          ∙ four out (label_text i.name i.model) (maps_text ms) (text_of instance_end) (text_of more)
          ∙ ap (λ (x : List ℕ). out ++ x) (sym (three_in (label_text i.name i.model) (maps_text ms) (text_of instance_end) (text_of more)))
          ∙ ap (λ (x : List ℕ). out ++ (x ++ text_of more)) (sym (instance_says i ms (omega (arith, n, some))))
          ∙ ap (λ (x : List ℕ). out ++ x) (sym (text_append one more))
          ∙ ap (λ (o : List ℕ). out ++ text_of (instances_layout (instance_with i (mapped nets i.pins o) ∷ instances_with nets (drop (k + 1) all) others))) front
          ∙ ap (λ (o : List ℕ). out ++ text_of (instances_layout (instance_with i (mapped nets i.pins (take (length i.pins) rest)) ∷ instances_with nets (drop (k + 1) all) o))) back
          ∙ ap (λ (is : List Instance). out ++ text_of (instances_layout (instances_with nets is rest))) (sym at)
          ∙ w.whole;
      many =
          let e : pin_total (drop k all) ≡ length i.pins + pin_total (drop (k + 1) all) = ap pin_total at in
          let l : length others ≡ length rest - length i.pins = ap (λ (x : List ℕ). length x) back ∙ length-drop (length i.pins) rest in
          omega (arith, l, e, many);
      inside = subst (All (λ class. class < length nets)) (sym back) (all_drop (λ class. class < length nets) (length i.pins) rest w.inside);
    } where
      three_in : (a b c d : List ℕ) → (a ++ (b ++ c)) ++ d ≡ a ++ (b ++ (c ++ d))
      three_in a b c d = append_assoc a (b ++ c) d ∙ ap (λ (x : List ℕ). a ++ x) (append_assoc b c d)

      all_drop : (P : ℕ → Type 0) (n : ℕ) (xs : List ℕ) → All P xs → All P (drop n xs)
      all_drop P zero xs h = h
      all_drop P (suc n) [] h = h
      all_drop P (suc n) (x ∷ xs) h = all_drop P n xs (λ k d l. h (suc k) d (omega (arith, l)))

pub instances_end : (start : List ℕ) (nets : List Name) (all : List Instance) (classes : List ℕ) (k : ℕ) (rest out : List ℕ) → length all ≤ k → Instances start nets all classes k rest out
    → out ≡ start ++ text_of (instances_layout (instances_with nets all classes))
instances_end start nets all classes k rest out past w =
    sym (append-nil out) ∙ sym (ap (λ (is : List Instance). out ++ text_of (instances_layout (instances_with nets is rest))) (drop_all k all past)) ∙ w.whole

-- before the first instance
pub instances_start : (n : Netlist) (nets : List Name) (models : List (List ℕ)) (nodes : List Node) (start classes : List ℕ) (ports : List Port) → classes ≡ n.classes → ports ≡ n.ports
    → map (instance_of models) nodes ≡ n.instances → IsNetlist n → All (λ class. class < length nets) n.classes
    → Instances start nets (map (instance_of models) nodes) (drop (length n.ports) n.classes) 0 (take (length classes - length ports) (drop (length ports) classes)) start
instances_start n nets models nodes start classes ports cs ps seen sound within =
    let own = drop (length n.ports) n.classes in
    let rest : take (length classes - length ports) (drop (length ports) classes) ≡ own =
    ap (λ (ks : List ℕ). take (length ks - length ports) (drop (length ports) ks)) cs
    ∙ ap (λ (qs : List Port). take (length n.classes - length qs) (drop (length qs) n.classes)) ps
    ∙ take_all (length n.classes - length n.ports) own (let l = length-drop (length n.ports) n.classes in omega (arith, l)) in
    let all = map (instance_of models) nodes in
    let many : length own ≡ pin_total all =
    let each = sound.each in
    let a = length-append (map (λ (p : Port). port p.name) n.ports) (flat_map pins_of n.instances) in
    let b : length (map (λ (p : Port). port p.name) n.ports) ≡ length n.ports = length-map n.ports (λ (p : Port). port p.name) in
    let t = total_pins n.instances in
    let d : length own ≡ length n.classes - length n.ports = length-drop (length n.ports) n.classes in
    let same : pin_total all ≡ pin_total n.instances = ap pin_total seen in
    omega (arith, each, a, b, t, d, same) in
    record {
      whole = ap (λ (ks : List ℕ). start ++ text_of (instances_layout (instances_with nets all ks))) rest;
      many = ap (λ (ks : List ℕ). length ks) rest ∙ many;
      inside = subst (All (λ class. class < length nets)) (sym rest) (All-drop (λ class. class < length nets) (length n.ports) n.classes within);
    }
