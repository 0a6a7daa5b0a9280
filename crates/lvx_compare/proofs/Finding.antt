-- Classes of terminals, as they are found one after the other.
use Rattle.std.proofs.Common.{◌≡◌, ℕ, ◌+◌, ◌<◌, ◌≤◌, List, [], ◌∷◌, ◌++◌, length, get_or, take, map, Option, refl, sym, ap, subst, ◌∙◌, append_assoc, append-nil, arith}
use Rattle.std.specs.List.{flat_map}
use Rattle.std.proofs.lemmas.List.{length-append, map-append, take_more, take_all}
use Rattle.std.proofs.lemmas.Grind.{flat_map-append}
use Rattle.std.proofs.lemmas.List.Folds.{flat_map-map}
use Rattle.std.proofs.lemmas.Option.{slice_get_within}
use Rattle.vlsi_base.specs.declared.name.Port.{Port}
use Rattle.vlsi_base.specs.declared.name.Terminal.{Terminal}
use Rattle.net_core.specs.declared.frame.Node.{Node}
use Rattle.net_core.specs.Netlist.{Netlist, port, pins_of, terminals, IsClassOf}
use Rattle.net_core.specs.Frame.{instance_of, node_pins}
use Rattle.net_core.proofs.Standing.{Split, left, right, split, only_one}
use Rattle.net_core.proofs.Frames.{port_terminals}
use Rattle.lvx_compare.specs.Stages.{AreClasses, AddsClasses}

classes_push : (n : Netlist) (ts : List Terminal) (t : Terminal) (found : List (Option ℕ)) (c : Option ℕ) → AreClasses n ts found → IsClassOf n t c → AreClasses n (ts ++ t ∷ []) (found ++ c ∷ [])
classes_push n ts t found c a is = record {
  many = let p = length-append ts (t ∷ []) in let q = length-append found (c ∷ []) in let m = a.many in omega (arith, p, q, m);
  each = λ k u d s r. by k u d (split ts (t ∷ []) k u s) (split found (c ∷ []) k d r);
} where
  by : (k : ℕ) (u : Terminal) (d : Option ℕ) → Split ts (t ∷ []) k u → Split found (c ∷ []) k d → IsClassOf n u d
  by k u d (left s) (left r) = a.each k u d s r
  by k u d (left s) (right i f r) = let w = slice_get_within ts k u s in let m = a.many in absurd (omega (arith, w, f, m))
  by k u d (right j e s) (left r) = let w = slice_get_within found k d r in let m = a.many in absurd (omega (arith, w, e, m))
  by k u d (right j e s) (right i f r) =
      subst (λ (x : Terminal). IsClassOf n x d) (only_one t u (j, s)) (subst (λ (o : Option ℕ). IsClassOf n t o) (only_one c d (i, r)) is)

pub adds_none : (n : Netlist) (old : List (Option ℕ)) → AddsClasses n [] old old
adds_none n old before are = subst (λ (ts : List Terminal). AreClasses n ts old) (sym (append-nil before)) are

adds_one : (n : Netlist) (ts : List Terminal) (t : Terminal) (c : Option ℕ) (old now new : List (Option ℕ)) → AddsClasses n ts old now → IsClassOf n t c → new ≡ now ++ c ∷ [] → AddsClasses n (ts ++ t ∷ []) old new
adds_one n ts t c old now new adds is e before are =
    subst (λ (us : List Terminal). AreClasses n us new) (append_assoc before ts (t ∷ []))
    (subst (λ (found : List (Option ℕ)). AreClasses n ((before ++ ts) ++ t ∷ []) found) (sym e) (classes_push n (before ++ ts) t now c (adds before are) is))

-- one more element of a list whose elements each give a terminal
pub adds_mapped : {X : Type 0} (f : X → Terminal) (n : Netlist) (xs : List X) (k : ℕ) (x : X) (c : Option ℕ) (old now new : List (Option ℕ)) → k < length xs → x ≡ get_or xs k x → AddsClasses n (map f (take k xs)) old now
    → IsClassOf n (f x) c → new ≡ now ++ c ∷ [] → AddsClasses n (map f (take (k + 1) xs)) old new
adds_mapped {X} f n xs k x c old now new l at adds is e =
    subst (λ (ts : List Terminal). AddsClasses n ts old new)
    (sym (ap (map f) (take_more xs k x l ∙ ap (λ (y : X). take k xs ++ y ∷ []) (sym at)) ∙ map-append f (take k xs) (x ∷ [])))
    (adds_one n (map f (take k xs)) (f x) c old now new adds is e)

-- all elements
pub adds_all : {X : Type 0} (f : X → Terminal) (n : Netlist) (xs : List X) (k : ℕ) (old now : List (Option ℕ)) → length xs ≤ k → AddsClasses n (map f (take k xs)) old now → AddsClasses n (map f xs) old now
adds_all {X} f n xs k old now l adds = subst (λ (ys : List X). AddsClasses n (map f ys) old now) (take_all k xs l) adds

pub none_found : (n : Netlist) → AreClasses n [] []
none_found n = record { many = refl; each = λ k t c s r. absurd cc }

-- the ports of a netlist, first of all
pub ports_found : (n : Netlist) (ps qs : List Port) (start now : List (Option ℕ)) → start ≡ [] → ps ≡ qs → AddsClasses n (map (λ p. port p.name) ps) start now → AreClasses n (port_terminals qs ++ []) now
ports_found n ps qs start now e same adds =
    let all : AreClasses n (port_terminals ps) now = adds [] (subst (λ (found : List (Option ℕ)). AreClasses n [] found) (sym e) (none_found n)) in
    subst (λ (ts : List Terminal). AreClasses n ts now) (ap port_terminals same ∙ sym (append-nil (port_terminals qs))) all

-- one more instance
pub node_more : (n : Netlist) (ports : List Terminal) (nodes : List Node) (k : ℕ) (node : Node) (now new : List (Option ℕ)) → k < length nodes → node ≡ get_or nodes k node
    → AreClasses n (ports ++ flat_map node_pins (take k nodes)) now → AddsClasses n (node_pins node) now new → AreClasses n (ports ++ flat_map node_pins (take (k + 1) nodes)) new
node_more n ports nodes k node now new l at are adds =
    subst (λ (ts : List Terminal). AreClasses n ts new) (append_assoc ports (flat_map node_pins (take k nodes)) (node_pins node) ∙ ap (λ (ts : List Terminal). ports ++ ts) (sym next)) (adds (ports ++ flat_map node_pins (take k nodes)) are) where
      next : flat_map node_pins (take (k + 1) nodes) ≡ flat_map node_pins (take k nodes) ++ node_pins node
      next =
          ap (flat_map node_pins) (take_more nodes k node l ∙ ap (λ (y : Node). take k nodes ++ y ∷ []) (sym at))
          ∙ flat_map-append node_pins (take k nodes) (node ∷ [])
          ∙ ap (λ (ts : List Terminal). flat_map node_pins (take k nodes) ++ ts) (append-nil (node_pins node))

-- all terminals of a netlist with these nodes
pub all_found : (other n : Netlist) (nodes : List Node) (k : ℕ) (found : List (Option ℕ)) → map (instance_of n.models) nodes ≡ n.instances → length nodes ≤ k
    → AreClasses other (port_terminals n.ports ++ flat_map node_pins (take k nodes)) found → AreClasses other (terminals n) found
all_found other n nodes k found seen l are =
    subst (λ (ts : List Terminal). AreClasses other (port_terminals n.ports ++ ts) found)
    (ap (flat_map node_pins) (take_all k nodes l) ∙ sym (flat_map-map pins_of (instance_of n.models) nodes) ∙ ap (flat_map pins_of) seen) are
