use Rattle.std.proofs.Common.{◌≡◌, ◌∙◌, ◌<◌, ◌++◌, Bool, false, length, get_or, ap, arith}
use Rattle.std.proofs.lemmas.List.{get_or_read}
use Rattle.cougar_extract.specs.Stages.{shape_links}
use Rattle.cougar_extract.proofs.Linking.{no_links, links_next}
use Rattle.cougar_extract.proofs.Steps.{read_stands}
use Rattle.cougar_extract.proofs.links.links.Goals as goal

pub loop-k-init : goal.loop-k-init
loop-k-init c = rw (c.new-links.ensures.items) (no_links c.args.drawing.now.shapes.items c.args.numbers.now c.args.drawing.now.gives.items)

pub loop-k-preserved : goal.loop-k-preserved
loop-k-preserved c =
    let shapes = c.args.drawing.now.shapes.items in
    let numbers = c.args.numbers.now in
    let outputs = c.args.drawing.now.gives.items in
    let links = c.loop-k.links.items in
    let k = c.loop-k.k in
    let s = c.index.result.now in
    let low : k < length shapes = omega (arith, c.loop-k-test.true, c.len-k-end.ensures) in
    let marked : c.index-gives.result.now ≡ get_or outputs k false =
    get_or_read outputs k c.index-gives.result.now (omega (arith, low, c.requires.gives)) c.index-gives.ensures false in
    let made : c.push_link.new.links.items ≡ links ++ shape_links s (get_or numbers k 0) (get_or outputs k false) =
    c.in_ok-push_link.ensures ∙ ap (λ (b : Bool). links ++ shape_links s (get_or numbers k 0) b) marked in
    links_next shapes numbers outputs k links c.push_link.new.links.items s (read_stands shapes k s low c.index.ensures) made c.loop-k.invariant
