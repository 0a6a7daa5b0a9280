-- The order of names, in two words.
use Rattle.std.proofs.Common.{List, refl, sym, subst}
use Rattle.std.specs.Prelude.{IsTrue}
use Rattle.std.specs.Ordering.{is_lt}
use Rattle.std.specs.declared.cmp.Ordering.{Ordering}
use Rattle.vlsi_base.specs.declared.name.Name.{Name}
use Rattle.machine_core.specs.Checked as core
use Rattle.net_core.specs.Netlist.{AreInOrder}

pub in_name_order : (names : List Name) → core.AreInOrder names → AreInOrder names
in_name_order names h i j d p q = subst (λ (o : Ordering). IsTrue (is_lt o)) (sym (h i j d p q)) refl
