-- The netlist of a sketch.
use Rattle.std.proofs.Common.{◌≡◌, ℕ, ◌^◌, ◌<◌, List, [], map, length, refl, sym, ◌∙◌, ap, subst, arith, length-append}
use Rattle.std.specs.List.{flat_map}
use Rattle.vlsi_base.specs.declared.name.Port.{Port}
use Rattle.vlsi_base.specs.declared.name.Terminal.{Terminal}
use Rattle.net_core.specs.Places.{IsThere, NoneTwice}
use Rattle.net_core.specs.Netlist.{Netlist, IsNetlist, port, pins_of, terminals, terminals_of, HasClass}
use Rattle.net_core.specs.Joins.{Draft, IsFinished}
use Rattle.net_core.proofs.Finishing.{netlist_terminals_once}
use Rattle.net_theory.proofs.Basics.{length-map}
use Rattle.loon_fanout.specs.Building.{with_instances, with_joins, AreHeads, joins_of}
use Rattle.loon_fanout.proofs.Tying.{star_out, star_back}
use Rattle.scan_build.specs.declared.sketch.Entry.{Entry}
use Rattle.scan_build.specs.declared.sketch.Sketch.{Sketch}
use Rattle.scan_build.specs.Sketched.{instance_by, IsAddable, sketch_terminals, IsSketch, IsBuilt}

abbrev pub begun : Sketch → Draft
begun s = record { name = s.name; ports = s.ports.items; instances = []; joins = [] }

pub begun_parts : (s : Sketch) (name : List ℕ) (ports : List Port) → name ≡ s.name → ports ≡ s.ports.items
    → record { name = name; ports = ports; instances = []; joins = [] } ≡ begun s
begun_parts s name ports is are =
    let made : List ℕ → List Port → Draft = λ x y. record { name = x; ports = y; instances = []; joins = [] } in
    ap (λ (x : List ℕ). made x ports) is ∙ ap (made s.name) are

-- ports are some of the terminals
pub few_ports : (s : Sketch) (ports : List Port) → ports ≡ s.ports.items → IsSketch s → length ports < 2 ^ 32
few_ports s ports are can =
    let all = length-append (map (λ (p : Port). port p.name) s.ports.items) (flat_map pins_of (map instance_by s.entries.items)) in
    let each : length (map (λ (p : Port). port p.name) s.ports.items) ≡ length s.ports.items = length-map (λ (p : Port). port p.name) s.ports.items in
    let same = ap length are in
    let few = can.few in
    omega (arith, all, each, same, few)

pub addable : (s : Sketch) (d : Draft) → d ≡ begun s → IsSketch s → IsAddable d s.entries.items
addable s d is can = subst (λ (x : Draft). IsAddable x s.entries.items) (sym is) (record {
  none = refl;
  pins = can.pins;
  names = can.names;
  many = can.many;
  few = can.few;
})

pub built : (s : Sketch) (heads : List ℕ) (d : Draft) (r : Netlist) → IsNetlist r → IsSketch s → AreHeads s.classes.items heads
    → d ≡ with_joins (with_instances (begun s) (map instance_by s.entries.items)) (joins_of (sketch_terminals s) s.classes.items heads)
    → IsFinished d r → IsBuilt s r
built s heads d r sound can are is done = record {
  name = whole.name;
  ports = whole.ports;
  instances = whole.instances;
  classes = λ a b j k p q. let c = whole.classes a b j k p q in (
    λ e. star_back (sketch_terminals s) s.classes.items heads once can.each are (c.0 e),
    λ e. c.1 (star_out (sketch_terminals s) s.classes.items heads once can.each are a b (at a j p) (at b k q) e),
  );
} where
  whole : IsFinished (with_joins (with_instances (begun s) (map instance_by s.entries.items)) (joins_of (sketch_terminals s) s.classes.items heads)) r
  whole = subst (λ (x : Draft). IsFinished x r) is done

  listed : terminals r ≡ sketch_terminals s
  listed = ap (λ (ps : List Port). terminals_of ps r.instances) whole.ports ∙ ap (terminals_of s.ports.items) whole.instances

  once : NoneTwice (sketch_terminals s)
  once = subst (λ (ts : List Terminal). NoneTwice ts) listed (netlist_terminals_once r sound)

  at : (t : Terminal) (j : ℕ) → HasClass r t j → IsThere (sketch_terminals s) t
  at t j h = subst (λ (ts : List Terminal). IsThere ts t) listed (h.0, h.1)

pub built_by : (s : Sketch) (b c d : Draft) (es : List Entry) (ts : List Terminal) (classes heads : List ℕ) (r : Netlist) → IsSketch s
    → b ≡ begun s → es ≡ s.entries.items → c ≡ with_instances b (map instance_by es) → ts ≡ sketch_terminals s → classes ≡ s.classes.items
    → AreHeads s.classes.items heads → d ≡ with_joins c (joins_of ts classes heads) → IsFinished d r → IsNetlist r → IsBuilt s r
built_by s b c d es ts classes heads r can is_b is_es is_c is_ts is_classes are is_d done sound =
    built s heads d r sound can are
    (is_d
    ∙ ap (λ (x : Draft). with_joins x (joins_of ts classes heads))
    (is_c ∙ ap (λ (x : Draft). with_instances x (map instance_by es)) is_b ∙ ap (λ (x : List Entry). with_instances (begun s) (map instance_by x)) is_es)
    ∙ ap (λ (x : List Terminal). with_joins (with_instances (begun s) (map instance_by s.entries.items)) (joins_of x classes heads)) is_ts
    ∙ ap (λ (x : List ℕ). with_joins (with_instances (begun s) (map instance_by s.entries.items)) (joins_of (sketch_terminals s) x heads)) is_classes)
    done
