use Rattle.std.proofs.Common.{◌≡◌, ◌<◌, ℕ, true, false, List, length, refl, sym, subst}
use Rattle.net_right.specs.Same.{HasInstance}
use Rattle.lvx_compare.specs.Stages.{AllMarked}
use Rattle.lvx_compare.proofs.Instances.{NodeRead, node_read, pins_few, odd_model, odd_by}
use Rattle.lvx_compare.proofs.faults.is_odd.Goals as goal

pub returns-then-not-has_instance : goal.returns-then-not-has_instance
returns-then-not-has_instance c = λ i at.
    let n = c.args.netlist.now in
    let other = c.args.other.now in
    let node = c.index-nodes-number.result in
    let r : NodeRead n c.nodes.result.now c.args.number node c.index-models-node.result =
    node_read n c.nodes.result.now c.models.result.now c.args.number node c.index-models-node.result c.nodes.ensures.seen c.nodes.ensures.known c.nodes.ensures.numbered c.models.ensures c.requires.there
    c.index-nodes-number.is c.index-models-node.is in
    odd_model n other c.args.marks.now c.nodes.result.now c.requires.marks.sound c.requires.marks r.listed c.args.number node r.stands i at
    (λ h. let no : false ≡ true = c.if-not-has_instance.ensures.1 (subst (λ (m : List ℕ). HasInstance other node.name m) r.model h) in absurd cc)

pub are_marked-requires : goal.are_marked-requires
are_marked-requires c =
    let n = c.args.netlist.now in
    let node = c.index-nodes-number.result in
    let r : NodeRead n c.nodes.result.now c.args.number node c.index-models-node.result =
    node_read n c.nodes.result.now c.models.result.now c.args.number node c.index-models-node.result c.nodes.ensures.seen c.nodes.ensures.known c.nodes.ensures.numbered c.models.ensures c.requires.there
    c.index-nodes-number.is c.index-models-node.is in
    let few : length n.classes < 4294967296 = subst (λ (cs : List ℕ). length cs < 4294967296) c.classes-classes.ensures.classes c.classes-classes.ensures.few in
    λ j l. pins_few n c.nodes.result.now 4294967296 r.listed c.requires.marks.sound few c.args.number node r.stands j l

pub returns : goal.returns
returns c = λ i at.
    let n = c.args.netlist.now in
    let other = c.args.other.now in
    let marks = c.args.marks.now in
    let node = c.index-nodes-number.result in
    let r : NodeRead n c.nodes.result.now c.args.number node c.index-models-node.result =
    node_read n c.nodes.result.now c.models.result.now c.args.number node c.index-models-node.result c.nodes.ensures.seen c.nodes.ensures.known c.nodes.ensures.numbered c.models.ensures c.requires.there
    c.index-nodes-number.is c.index-models-node.is in
    let marked : AllMarked marks n.classes node c.are_marked.result = subst (λ (cs : List ℕ). AllMarked marks cs node c.are_marked.result) c.classes-classes.ensures.classes c.are_marked.ensures in
    odd_by n other marks c.nodes.result.now c.requires.marks.sound c.requires.marks r.listed c.args.number node r.stands c.are_marked.result i at marked
    (subst (λ (m : List ℕ). HasInstance other node.name m) (sym r.model) (c.if-not-has_instance.ensures.0 refl))
