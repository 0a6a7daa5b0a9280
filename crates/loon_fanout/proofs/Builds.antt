-- The netlist of a sketch.
use Rattle.std.proofs.Common.{◌≡◌, ℕ, List, [], map, refl, sym, ◌∙◌, ap, subst}
use Rattle.std.specs.Prelude.{IfOk, Result, Ok, Err}
use Rattle.vlsi_base.specs.declared.name.Port.{Port}
use Rattle.vlsi_base.specs.declared.name.Terminal.{Terminal}
use Rattle.net_core.specs.Places.{IsThere, NoneTwice}
use Rattle.net_core.specs.Netlist.{Netlist as InMemory, IsNetlist, terminals, terminals_of, HasClass}
use Rattle.net_core.specs.Joins.{Draft, IsFinished}
use Rattle.net_core.proofs.Finishing.{netlist_terminals_once}
use Rattle.loon_fanout.specs.declared.build.Entry.{Entry}
use Rattle.loon_fanout.specs.declared.build.Sketch.{Sketch}
use Rattle.loon_fanout.specs.Building.{instance_by, with_instances, with_joins, IsAddable, AreHeads, joins_of, sketch_terminals, IsBuildable, IsBuilt}
use Rattle.loon_fanout.proofs.Tying.{star_out, star_back}

abbrev pub begun : InMemory → Draft
begun n = record { name = n.name; ports = n.ports; instances = []; joins = [] }

pub addable : (n : InMemory) (s : Sketch) (d : Draft) → d ≡ begun n → IsBuildable n s → IsAddable d s.entries.items
addable n s d is can = subst (λ (x : Draft). IsAddable x s.entries.items) (sym is) (record {
  none = refl;
  pins = can.pins;
  names = can.names;
  many = can.many;
  few = can.few;
})

pub built : (n : InMemory) (s : Sketch) (heads : List ℕ) (d : Draft) (r : InMemory) → IsNetlist r → IsBuildable n s → AreHeads s.classes.items heads
    → d ≡ with_joins (with_instances (begun n) (map instance_by s.entries.items)) (joins_of (sketch_terminals n s) s.classes.items heads)
    → IsFinished d r → IsBuilt n s r
built n s heads d r sound can are is done = record {
  name = whole.name;
  ports = whole.ports;
  instances = whole.instances;
  classes = λ a b j k p q. let c = whole.classes a b j k p q in (
    λ e. star_back (sketch_terminals n s) s.classes.items heads once can.each are (c.0 e),
    λ e. c.1 (star_out (sketch_terminals n s) s.classes.items heads once can.each are a b (at a j p) (at b k q) e),
  );
} where
  whole : IsFinished (with_joins (with_instances (begun n) (map instance_by s.entries.items)) (joins_of (sketch_terminals n s) s.classes.items heads)) r
  whole = subst (λ (x : Draft). IsFinished x r) is done

  listed : terminals r ≡ sketch_terminals n s
  listed = ap (λ (ps : List Port). terminals_of ps r.instances) whole.ports ∙ ap (terminals_of n.ports) whole.instances

  once : NoneTwice (sketch_terminals n s)
  once = subst (λ (ts : List Terminal). NoneTwice ts) listed (netlist_terminals_once r sound)

  at : (t : Terminal) (j : ℕ) → HasClass r t j → IsThere (sketch_terminals n s) t
  at t j h = subst (λ (ts : List Terminal). IsThere ts t) listed (h.0, h.1)

pub begun_parts : (n : InMemory) (name : List ℕ) (ports : List Port) → name ≡ n.name → ports ≡ n.ports
    → record { name = name; ports = ports; instances = []; joins = [] } ≡ begun n
begun_parts n name ports is are =
    let made : List ℕ → List Port → Draft = λ x y. record { name = x; ports = y; instances = []; joins = [] } in
    ap (λ (x : List ℕ). made x ports) is ∙ ap (made n.name) are

pub if_both : {T E : Type 0} (P Q R : T → Type 0) (r : Result T E) → ((x : T) → P x → Q x → R x) → IfOk r P → IfOk r Q → IfOk r R
if_both P Q R (Ok x) f p q = f x p q
if_both P Q R (Err e) f p q = tt

pub built_by : (n : InMemory) (s : Sketch) (b c d : Draft) (es : List Entry) (ts : List Terminal) (classes heads : List ℕ) (r : InMemory) → IsBuildable n s
    → b ≡ begun n → es ≡ s.entries.items → c ≡ with_instances b (map instance_by es) → ts ≡ sketch_terminals n s → classes ≡ s.classes.items
    → AreHeads s.classes.items heads → d ≡ with_joins c (joins_of ts classes heads) → IsFinished d r → IsNetlist r → IsBuilt n s r
built_by n s b c d es ts classes heads r can is_b is_es is_c is_ts is_classes are is_d done sound =
    built n s heads d r sound can are
    (is_d
    ∙ ap (λ (x : Draft). with_joins x (joins_of ts classes heads))
    (is_c ∙ ap (λ (x : Draft). with_instances x (map instance_by es)) is_b ∙ ap (λ (x : List Entry). with_instances (begun n) (map instance_by x)) is_es)
    ∙ ap (λ (x : List Terminal). with_joins (with_instances (begun n) (map instance_by s.entries.items)) (joins_of x classes heads)) is_ts
    ∙ ap (λ (x : List ℕ). with_joins (with_instances (begun n) (map instance_by s.entries.items)) (joins_of (sketch_terminals n s) x heads)) is_classes)
    done
