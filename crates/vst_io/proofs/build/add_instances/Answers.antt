use Rattle.std.proofs.Common.{◌≡◌, ◌∙◌, List, [], None, ap, subst, map}
use Rattle.net_core.specs.declared.pins.ModelPin.{ModelPin}
use Rattle.vst_text.specs.declared.file.InstanceStatement.{InstanceStatement}
use Rattle.vst_text.specs.declared.file.StructuralFile.{StructuralFile}
use Rattle.vst_io.specs.Faults.{first_label_again}
use Rattle.vst_io.proofs.Next.{ArePinsOf, next_at, order_now, few_now, room_now, added_now, goes_on, refused_now, none_again}
use Rattle.vst_io.proofs.build.add_instances.Goals as goal

pub add-added-requires-clause-order : goal.add-added-requires-clause-order
add-added-requires-clause-order c =
    let items : c.as_slice-instance-items.result.now ≡ c.args.known.now.file.instances = c.as_slice-instance-items.ensures ∙ ap (λ (f : StructuralFile). f.instances) c.file.ensures in
    let next = next_at c.args.known.now.table c.args.known.now.file c.args.builder.now c.loop-instance.builder c.loop-instance.instance-index c.instance-item.result c.as_slice-instance-items.result.now items c.requires.table c.requires.few c.requires.room c.requires.maps
    c.loop-instance.invariant.0 c.loop-instance.invariant.1 c.loop-instance-test.true c.instance-item.is in
    let pins : ArePinsOf c.args.known.now.table c.instance-item.result c.new.result = c.new.ensures ∙ c.in_ok-pins.ensures ∙ ap (λ (ps : List ModelPin). map (λ (p : ModelPin). p.name) ps) c.model.ensures in
    order_now c.args.known.now.table c.args.known.now.file c.args.builder.now c.loop-instance.builder c.loop-instance.instance-index c.instance-item.result c.new.result next pins

pub add-added-requires-clause-few : goal.add-added-requires-clause-few
add-added-requires-clause-few c =
    let items : c.as_slice-instance-items.result.now ≡ c.args.known.now.file.instances = c.as_slice-instance-items.ensures ∙ ap (λ (f : StructuralFile). f.instances) c.file.ensures in
    let next = next_at c.args.known.now.table c.args.known.now.file c.args.builder.now c.loop-instance.builder c.loop-instance.instance-index c.instance-item.result c.as_slice-instance-items.result.now items c.requires.table c.requires.few c.requires.room c.requires.maps
    c.loop-instance.invariant.0 c.loop-instance.invariant.1 c.loop-instance-test.true c.instance-item.is in
    few_now c.args.known.now.table c.args.known.now.file c.args.builder.now c.loop-instance.builder c.loop-instance.instance-index c.instance-item.result next

pub add-added-requires-clause-room : goal.add-added-requires-clause-room
add-added-requires-clause-room c =
    let items : c.as_slice-instance-items.result.now ≡ c.args.known.now.file.instances = c.as_slice-instance-items.ensures ∙ ap (λ (f : StructuralFile). f.instances) c.file.ensures in
    let next = next_at c.args.known.now.table c.args.known.now.file c.args.builder.now c.loop-instance.builder c.loop-instance.instance-index c.instance-item.result c.as_slice-instance-items.result.now items c.requires.table c.requires.few c.requires.room c.requires.maps
    c.loop-instance.invariant.0 c.loop-instance.invariant.1 c.loop-instance-test.true c.instance-item.is in
    let pins : ArePinsOf c.args.known.now.table c.instance-item.result c.new.result = c.new.ensures ∙ c.in_ok-pins.ensures ∙ ap (λ (ps : List ModelPin). map (λ (p : ModelPin). p.name) ps) c.model.ensures in
    room_now c.args.known.now.table c.args.known.now.file c.args.builder.now c.loop-instance.builder c.loop-instance.instance-index c.instance-item.result c.new.result next pins

pub returns-in-Err-clause-refused : goal.returns-in-Err-clause-refused
returns-in-Err-clause-refused c =
    let items : c.as_slice-instance-items.result.now ≡ c.args.known.now.file.instances = c.as_slice-instance-items.ensures ∙ ap (λ (f : StructuralFile). f.instances) c.file.ensures in
    let next = next_at c.args.known.now.table c.args.known.now.file c.args.builder.now c.loop-instance.builder c.loop-instance.instance-index c.instance-item.result c.as_slice-instance-items.result.now items c.requires.table c.requires.few c.requires.room c.requires.maps
    c.loop-instance.invariant.0 c.loop-instance.invariant.1 c.loop-instance-test.true c.instance-item.is in
    refused_now c.args.known.now.table c.args.known.now.file c.args.builder.now c.loop-instance.builder c.loop-instance.instance-index c.instance-item.result next c.in-Err.error c.in-Err.ensures.refused c.again.result c.again.ensures

pub loop-instance-preserved : goal.loop-instance-preserved
loop-instance-preserved c =
    let items : c.as_slice-instance-items.result.now ≡ c.args.known.now.file.instances = c.as_slice-instance-items.ensures ∙ ap (λ (f : StructuralFile). f.instances) c.file.ensures in
    let next = next_at c.args.known.now.table c.args.known.now.file c.args.builder.now c.loop-instance.builder c.loop-instance.instance-index c.instance-item.result c.as_slice-instance-items.result.now items c.requires.table c.requires.few c.requires.room c.requires.maps
    c.loop-instance.invariant.0 c.loop-instance.invariant.1 c.loop-instance-test.true c.instance-item.is in
    let pins : ArePinsOf c.args.known.now.table c.instance-item.result c.new.result = c.new.ensures ∙ c.in_ok-pins.ensures ∙ ap (λ (ps : List ModelPin). map (λ (p : ModelPin). p.name) ps) c.model.ensures in
    goes_on c.args.known.now.table c.args.known.now.file c.args.builder.now c.add-added.new.self c.loop-instance.instance-index c.as_slice-instance-items.result.now items
    (added_now c.args.known.now.table c.args.known.now.file c.args.builder.now c.loop-instance.builder c.add-added.new.self c.loop-instance.instance-index c.instance-item.result c.new.result next pins c.in_default.ensures.added c.in_default.ensures.fresh)

pub returns-clause-once : goal.returns-clause-once
returns-clause-once c =
    let items : c.as_slice-instance-items.result.now ≡ c.args.known.now.file.instances = c.as_slice-instance-items.ensures ∙ ap (λ (f : StructuralFile). f.instances) c.file.ensures in
    subst (λ (is : List InstanceStatement). first_label_again [] is ≡ None) items (none_again c.as_slice-instance-items.result.now c.loop-instance.instance-index c.loop-instance-test.false c.loop-instance.invariant.1)
