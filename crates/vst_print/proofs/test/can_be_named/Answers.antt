use Rattle.std.proofs.Common.{◌≡◌, ◌∙◌, ℕ, List, map, sym, ap, subst}
use Rattle.std.specs.List.{All}
use Rattle.net_core.specs.Frame.{instance_of}
use Rattle.net_right.specs.Writable.{IsIdentifier, CanBePorts, CanBeAnInstance}
use Rattle.vst_print.proofs.test.can_be_named.Goals as goal

pub returns : goal.returns
returns c =
    let nodes = c.nodes.result.now in
    let seen : map (instance_of c.models.result.now) nodes ≡ c.args.netlist.now.instances = ap (λ (ms : List (List ℕ)). map (instance_of ms) nodes) c.models.ensures ∙ c.nodes.ensures.seen in (
      λ yes. record {
        name = subst IsIdentifier c.name.ensures (c.is_identifier.ensures.0 c.if-not-is_identifier.false);
        ports = subst CanBePorts c.ports.ensures (c.can_be_ports.ensures.0 c.if-not-can_be_ports.false);
        instances = subst (All CanBeAnInstance) seen (c.can_be_instances.ensures.0 yes);
      },
      λ w. c.can_be_instances.ensures.1 (subst (All CanBeAnInstance) (sym seen) w.instances),
    )
