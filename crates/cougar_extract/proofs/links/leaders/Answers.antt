use Rattle.std.proofs.Common.{◌≡◌, ◌∙◌, arith, get_or, ap, sym, subst}
use Rattle.net_core.specs.Places.{Stands}
use Rattle.cougar_extract.specs.declared.links.Link.{Link}
use Rattle.std.proofs.lemmas.List.{length-set}
use Rattle.cougar_extract.proofs.Linking.{led_step, led_all, number_low}
use Rattle.cougar_extract.proofs.Steps.{read_stands}
use Rattle.cougar_extract.proofs.links.leaders.Goals as goal

pub loop-k-preserved : goal.loop-k-preserved
loop-k-preserved c =
    let links = c.args.links.now in
    let k = c.loop-k.k in
    let y = c.index-links-k.result in
    let x = get_or links k y in
    let at : y ≡ x = c.index-links-k.is in
    let low = number_low links c.args.count k y c.requires c.loop-k-test.true at in
    let own : x.number ≡ y.number = ap (λ (z : Link). z.number) (sym at) in
    let many = c.loop-k.invariant.many in
    record {
      many = length-set c.loop-k.places.items x.number k ∙ c.loop-k.invariant.many;
      led = led_step links c.loop-k.places.items k x (subst (λ (z : Link). Stands links k z) at (read_stands links k y c.loop-k-test.true at)) (omega (arith, low, many, own)) c.loop-k.invariant.led;
    }

pub returns-clause-led : goal.returns-clause-led
returns-clause-led c = led_all c.args.links.now c.loop-k.places.items c.loop-k.k (omega (arith, c.loop-k-test.false)) c.loop-k.invariant.led
