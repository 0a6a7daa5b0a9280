use Rattle.std.proofs.Common.{true, false}
use Rattle.graph_theory.specs.Graph.{fixed, nand}
use Rattle.subject_table.specs.Grows.{IsNode}
use Rattle.subject_table.specs.Rules.{OneNode, IsInverse, IsNand}
use Rattle.subject_table.specs.Makes.{Makes}
use Rattle.subject_table.proofs.Tables.{on_ok}
use Rattle.subject_table.proofs.Nodes.{nand_itself, nand_after_one, nand_before_one, nand_after_zero, nand_before_zero, nand_sorted, nand_turned}
use Rattle.subject_table.proofs.table.Table.nand.Goals as goal

pub returns-then-a-b-clause-made : goal.returns-then-a-b-clause-made
returns-then-a-b-clause-made c =
    let t = c.args.self.now in
    let u = c.inv.new.self in
    let a = c.args.a in
    let b = c.args.b in
    on_ok c.inv.result (λ r. Makes t u (IsInverse a) r) (λ r. Makes t u (IsNand a b) r) (λ r g. nand_itself t u a b r c.if-a-b.true g) c.inv.ensures.made

pub returns-then-bit-clause-made : goal.returns-then-bit-clause-made
returns-then-bit-clause-made c =
    let t = c.args.self.now in
    let u = c.inv-then-bit.new.self in
    let a = c.args.a in
    let b = c.args.b in
    let h : IsNode t a (fixed true) = rw c.if-bit.true at c.in-Some.ensures.some in
    on_ok c.inv-then-bit.result (λ r. Makes t u (IsInverse b) r) (λ r. Makes t u (IsNand a b) r) (λ r g. nand_after_one t u a b r h g) c.inv-then-bit.ensures.made

pub returns-else-bit-clause-made : goal.returns-else-bit-clause-made
returns-else-bit-clause-made c =
    let t = c.args.self.now in
    let u = c.add.new.self in
    let a = c.args.a in
    let b = c.args.b in
    let h : IsNode t a (fixed false) = rw c.if-bit.false at c.in-Some.ensures.some in
    on_ok c.add.result (λ r. Makes t u (OneNode (fixed true)) r) (λ r. Makes t u (IsNand a b) r) (λ r g. nand_after_zero t u a b r h g) c.add.ensures.made

pub returns-then-bit-2-clause-made : goal.returns-then-bit-2-clause-made
returns-then-bit-2-clause-made c =
    let t = c.args.self.now in
    let u = c.inv-then-bit-2.new.self in
    let a = c.args.a in
    let b = c.args.b in
    let h : IsNode t b (fixed true) = rw c.if-bit-2.true at c.in-Some-known.ensures.some in
    on_ok c.inv-then-bit-2.result (λ r. Makes t u (IsInverse a) r) (λ r. Makes t u (IsNand a b) r) (λ r g. nand_before_one t u a b r h g) c.inv-then-bit-2.ensures.made

pub returns-else-bit-2-clause-made : goal.returns-else-bit-2-clause-made
returns-else-bit-2-clause-made c =
    let t = c.args.self.now in
    let u = c.add-else-bit-2.new.self in
    let a = c.args.a in
    let b = c.args.b in
    let h : IsNode t b (fixed false) = rw c.if-bit-2.false at c.in-Some-known.ensures.some in
    on_ok c.add-else-bit-2.result (λ r. Makes t u (OneNode (fixed true)) r) (λ r. Makes t u (IsNand a b) r) (λ r g. nand_before_zero t u a b r h g) c.add-else-bit-2.ensures.made

pub returns-then-a-b-2-clause-made : goal.returns-then-a-b-2-clause-made
returns-then-a-b-2-clause-made c =
    let t = c.args.self.now in
    let u = c.add-then-a-b-2.new.self in
    let a = c.args.a in
    let b = c.args.b in
    on_ok c.add-then-a-b-2.result (λ r. Makes t u (OneNode (nand a b)) r) (λ r. Makes t u (IsNand a b) r) (λ r g. nand_sorted t u a b r c.if-a-b.false (c.in_default.ensures.none c.requires.first) (c.in_default-known.ensures.none c.requires.second) g) c.add-then-a-b-2.ensures.made

pub returns-else-a-b-2-clause-made : goal.returns-else-a-b-2-clause-made
returns-else-a-b-2-clause-made c =
    let t = c.args.self.now in
    let u = c.add-else-a-b-2.new.self in
    let a = c.args.a in
    let b = c.args.b in
    on_ok c.add-else-a-b-2.result (λ r. Makes t u (OneNode (nand b a)) r) (λ r. Makes t u (IsNand a b) r) (λ r g. nand_turned t u a b r c.if-a-b.false (c.in_default.ensures.none c.requires.first) (c.in_default-known.ensures.none c.requires.second) g) c.add-else-a-b-2.ensures.made
