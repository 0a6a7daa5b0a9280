use Rattle.std.proofs.Common.{◌≡◌, ℕ, List, refl, ap, ◌∙◌, subst, rules}
use Rattle.ocp_rows.specs.Placement.{net_count}
use Rattle.ocp_run.specs.Ocp.{layout_name}
use Rattle.nero_run.specs.Asked.{Asked}
use Rattle.rip_run.specs.Asked.{AskedRips}
use Rattle.rip_run.specs.RippedText.{IsRippedText}
use Rattle.rip_run.specs.Rip.{report}
use Rattle.rip_run.proofs.rip.product.Goals as goal

pub returns-clause-laid : goal.returns-clause-laid
returns-clause-laid c =
    let l = c.args.library.now in
    let n = c.args.netlist.now in
    let p = c.args.placement.now in
    let t = c.in-Ok.ripped in
    let asked = c.args.command.now in
    let routing : c.command.inside.routing ≡ asked.routing = ap (λ (a : AskedRips). a.routing) c.command.view_is in
    let metals : c.metals-metals.result ≡ asked.routing.metals = c.metals-metals.ensures.metals ∙ ap (λ (a : Asked). a.metals) routing in
    let of_metals : IsRippedText l n p asked.routing.metals c.command.inside.rips t.rips t.bytes =
    subst (λ (m : ℕ). IsRippedText l n p m c.command.inside.rips t.rips t.bytes) metals c.in-Ok.ensures.text in
    record {
      bytes = t.bytes;
      rips = t.rips;
      name = c.in_ok-name.ensures ∙ ap (λ (o : List ℕ). layout_name o) (c.out-2.ensures ∙ ap (λ (a : Asked). a.out) routing);
      file = refl;
      routed = subst (λ (r : ℕ). IsRippedText l n p asked.routing.metals r t.rips t.bytes) (ap (λ (a : AskedRips). a.rips) c.command.view_is) of_metals;
      text = λ k seen.
          let many : c.saturating_sub-nets.result ≡ net_count k = search rules in
          c.in_ok-text.ensures ∙ ap (λ (m : ℕ). report m t.rips) many;
    }
