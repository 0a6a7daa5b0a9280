-- A layout gives one netlist.
use Rattle.std.proofs.Common.{sym, ◌∙◌, subst, List}
use Rattle.vlsi_base.specs.declared.name.Terminal.{Terminal}
use Rattle.sym_geom.specs.declared.item.Item.{Item}
use Rattle.vlsi_base.specs.Member.{In}
use Rattle.cell_model.specs.Library.{Library}
use Rattle.net_meaning.specs.Netlist.{Member, AbstractNetlist, IsTerminal, a_port, a_pin, Extracts}
use Rattle.net_meaning.specs.Laws.{GivesOneNetlist}

carried : (items : List Item) (l : Library) (n k : AbstractNetlist) → Extracts items l n → Extracts items l k → (t : Terminal) → IsTerminal n l t → IsTerminal k l t
carried items l n k first second t (a_port {name = name} h) = a_port ((second.ports name).1 ((first.ports name).0 h))
carried items l n k first second t (a_pin i c listed found h) = a_pin i c (subst (λ (all : List Member). In i all) (first.instances ∙ sym second.instances) listed) found h

pub one_netlist : GivesOneNetlist
one_netlist items l n k first second = record {
  ports = λ name. (λ h. (second.ports name).1 ((first.ports name).0 h), λ h. (first.ports name).1 ((second.ports name).0 h));
  instances = first.instances ∙ sym second.instances;
  terminals = λ t. (carried items l n k first second t, carried items l k n second first t);
  classes = λ a b is_a is_b.
      let there = second.classes a b (carried items l n k first second a is_a) (carried items l n k first second b is_b) in
      let same = first.classes a b is_a is_b in
      (λ h. there.1 (same.0 h), λ h. same.1 (there.0 h));
}
