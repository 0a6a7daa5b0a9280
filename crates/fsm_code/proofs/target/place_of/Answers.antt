use Rattle.std.proofs.Common.{◌≡◌, ◌≢◌, ◌<◌, List, length, get_or, ◌∙◌, rules, arith}
use Rattle.std.specs.Ordering.{is_lt}
use Rattle.std.proofs.lemmas.List.{get_or_default}
use Rattle.std.proofs.lemmas.List.Sorted.{IsPartitionPoint-from_clause}
use Rattle.vlsi_base.specs.declared.name.Name.{Name}
use Rattle.vlsi_base.specs.Name.{name_cmp}
use Rattle.fsm_code.proofs.Targeted.{parted, nowhere}
use Rattle.fsm_code.proofs.target.place_of.Goals as goal
use Rattle.fsm_code.proofs.target.place_of.Goals.{else-place-names-via-then-place-names+else-is_same, else-place-names-via-else-place-names}

pub returns-else-place-names : goal.returns-else-place-names
returns-else-place-names c =
    let names : List Name = c.args.names.now in
    let name : Name = c.args.name.now in
    let place = c.partition_point-place.result in
    let point = IsPartitionPoint-from_clause (λ (n : Name). is_lt (name_cmp n name)) names place c.partition_point-place.ensures.partitioned (parted names name c.requires)
    (λ a r f h. search rules) in
    let apart : place < length names → (d : Name) → get_or names place d ≢ name = elim c.else-place-names.branch [
      | else-place-names-via-then-place-names+else-is_same w ↦ λ low d is.
          let read : w.index-names-place.result ≡ name = w.index-names-place.is ∙ get_or_default names place w.index-names-place.result d low ∙ is in
          let told = w.is_same.ensures.1 read in absurd (search (rules, told, w.if-is_same.false))
      | else-place-names-via-else-place-names w ↦ λ low d is. absurd (omega (arith, low, w.if-place-names.false))
    ] in
    nowhere names name place c.requires (λ k d low. point.0 k d (omega arith) low) (λ k d from upto. point.1 k d from upto) apart
