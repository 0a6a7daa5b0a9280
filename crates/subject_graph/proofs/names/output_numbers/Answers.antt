use Rattle.std.proofs.Common.{◌≡◌, ◌∙◌, sym, Bool, true, false, not, refl, length}
use Rattle.std.specs.FinMap.{get}
use Rattle.std.proofs.lemmas.List.{drop_all}
use Rattle.machine_core.specs.Machine.{is_input}
use Rattle.subject_graph.proofs.Looking.{Found, found, is_out, looks_out, looks_end}
use Rattle.subject_graph.proofs.Solving.{place_below, place_number}
use Rattle.subject_graph.proofs.names.output_numbers.Goals as goal

not_input : (b : Bool) → not b ≡ true → b ≡ false
not_input true e = absurd (cc e)
not_input false e = refl

pub number_at-requires : goal.number_at-requires
number_at-requires c =
    let p = c.port-item.result in
    let test : is_input p.dir ≡ false = not_input (is_input p.dir) (sym c.is_output.ensures ∙ c.if-not-is_output.false) in
    let listed = is_out c.args.ports.now c.loop-port.port-index p c.loop-port-test.true c.port-item.is test in
    let has : Found c.insert_all.new.self c.args.names.now p.name =
    found c.new-index.result c.insert_all.new.self c.args.names.now p.name c.new-index.ensures c.in_ok-insert_all.ensures (c.requires.driven p.name listed) in
    let is : c.find-place.result ≡ get c.insert_all.new.self p.name = rw c.as_bytes.ensures at c.find-place.ensures in
    place_below c.find-place.result c.insert_all.new.self c.args.names.now p.name (length c.args.numbers.now) is has c.requires.count

pub loop-port-preserved : goal.loop-port-preserved
loop-port-preserved c =
    let p = c.port-item.result in
    let test : is_input p.dir ≡ false = not_input (is_input p.dir) (sym c.is_output.ensures ∙ c.if-not-is_output.false) in
    let listed = is_out c.args.ports.now c.loop-port.port-index p c.loop-port-test.true c.port-item.is test in
    let has : Found c.insert_all.new.self c.args.names.now p.name =
    found c.new-index.result c.insert_all.new.self c.args.names.now p.name c.new-index.ensures c.in_ok-insert_all.ensures (c.requires.driven p.name listed) in
    let is : c.find-place.result ≡ get c.insert_all.new.self p.name = rw c.as_bytes.ensures at c.find-place.ensures in
    let number = place_number c.find-place.result c.insert_all.new.self c.args.names.now c.args.numbers.now p.name c.number_at.result is has c.number_at.ensures in
    rw c.in_ok-push.ensures.items
    (looks_out c.args.names.now c.args.numbers.now c.args.ports.now c.loop-port.port-index c.loop-port.found.items p c.number_at.result c.loop-port-test.true c.port-item.is test number
    c.loop-port.invariant)

pub returns : goal.returns
returns c =
    looks_end c.args.names.now c.args.numbers.now c.args.ports.now c.loop-port.port-index c.loop-port.found.items (drop_all c.loop-port.port-index c.args.ports.now c.loop-port-test.false)
    c.loop-port.invariant
