-- The diagram of two expansions.
use Rattle.std.specs.Prelude.{◌≡◌, ℕ, ◌<◌, ◌^◌, List, length}
use Rattle.bool_expr.specs.Expression.{Expression, IsOver as IsWithin}
use Rattle.bool_expr.specs.View.{view}
use Rattle.bdd_core.specs.Truths.{IsOver}
use Rattle.bdd_core.specs.Diagram.{IsNode, function_of}
use Rattle.machine_core.specs.Machine.{Machine}
use Rattle.machine_core.specs.Checked.{IsChecked}
use Rattle.machine_walk.specs.declared.walking.WalkedNames.{WalkedNames}
use Rattle.machine_walk.specs.Expansion.{expansion}
use Rattle.machine_roots.specs.declared.sharing.Cone.{Cone}
use Rattle.machine_roots.specs.Roots.{list_by}
use Rattle.machine_walk.specs.Walk.{order_of, AreMet}
use Rattle.proof_joint.specs.declared.joint.JointDiagram.{JointDiagram}
use Rattle.proof_joint.specs.Naming.{HaveSameNames}
use Rattle.proof_joint.specs.Together.{joint_order, joint_lists}

-- a root over the names of a machine that was checked, of which there are few
pub record IsCone (c : Cone) : Type 0 where
  pub checked : IsChecked c.machine.now
  pub over : IsWithin (view c.root.now) (length c.machine.now.vars)
  pub few : length c.machine.now.vars < 2 ^ 32

-- such a root, and what a walk through its expansion meets
pub record IsWalked (c : Cone) (names : WalkedNames) : Type 0 where
  pub cone : IsCone c
  pub order : names.order.items ≡ order_of c.machine.now (view c.root.now)
  pub met : AreMet c.machine.now (view c.root.now) names.met.items

-- two expressions of machines that have the same names
pub record AreTwoRoots (a b : Machine) (x y : Expression) : Type 0 where
  pub names : HaveSameNames a b
  pub first : IsChecked a
  pub second : IsChecked b
  pub over : IsWithin x (length a.vars)
  pub other : IsWithin y (length b.vars)

-- both roots as nodes of one diagram, over the inputs and registers that the two expansions read
pub record IsJointDiagram (a b : Machine) (x y : Expression) (d : JointDiagram) : Type 0 where
  pub order : d.order.items ≡ joint_order a b x y
  pub vars : d.diagrams.table.vars ≡ length d.order.items
  pub first_node : IsNode d.diagrams d.first
  pub first_is : function_of d.diagrams d.first ≡ list_by d.order.items (expansion a x)
  pub second_node : IsNode d.diagrams d.second
  pub second_is : function_of d.diagrams d.second ≡ list_by d.order.items (expansion b y)

-- two expressions of machines that have the same names, as nodes of one diagram
pub record JoinsRoots (a b : Machine) (x y : Expression) (d : JointDiagram) : Type 0 where
  pub roots : AreTwoRoots a b x y
  pub diagram : IsJointDiagram a b x y d

-- two roots as nodes of one diagram
abbrev pub AreJoined : Cone → Cone → JointDiagram → Type 0
AreJoined c e d = IsJointDiagram c.machine.now e.machine.now (view c.root.now) (view e.root.now) d

-- the order of two roots' names, and where their diagram is over a budget
abbrev pub cones_order : Cone → Cone → List ℕ
cones_order c e = joint_order c.machine.now e.machine.now (view c.root.now) (view e.root.now)

abbrev pub AreOver : Cone → Cone → ℕ → Type 0
AreOver c e budget = IsOver (joint_lists c.machine.now e.machine.now (view c.root.now) (view e.root.now)) budget
