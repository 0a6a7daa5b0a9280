use Rattle.std.proofs.Common.{ℕ, List, ◌≡◌, ◌<◌, ◌+◌, inl, inr, length, slice_index, arith, sym, ◌∙◌, ap, subst}
use Rattle.std.proofs.lemmas.Bool.{cases_eq}
use Rattle.nero_maze.specs.Search.{reserved_in}
use Rattle.nero_maze.specs.Ripping.{IsFreedFrom}
use Rattle.nero_maze.proofs.Theory.{read_at}
use Rattle.nero_maze.proofs.Freeing.{freed_none, freed_both, walks_reserved}
use Rattle.nero_maze.proofs.tear.free_paths.Goals as goal

pub loop-at-init : goal.loop-at-init
loop-at-init c =
    freed_none c.args.net (reserved_in c.args.room.now.owners.items c.args.reserved.now.items)
    (λ v. (i : ℕ) × (i < 0) × (slice_index c.args.log.now.order.items i ≡ v)) c.args.room.now c.requires.room (λ v is. (let low = is.1 in omega arith))

pub loop-at-preserved : goal.loop-at-preserved
loop-at-preserved c =
    let net = c.args.net in
    let old = c.args.room.now in
    let mid = c.loop-at.room in
    let new = c.free_path.new.room in
    let flags = c.args.reserved.now.items in
    let reserved = reserved_in old.owners.items flags in
    let order = c.args.log.now.order.items in
    let at = c.loop-at.at in
    let inv = c.loop-at.invariant in
    let node = c.index.result.now in
    let same = walks_reserved net flags old mid c.requires.room inv.room inv.grid inv.either in
    let lt : at < length order = (let a = c.loop-at-test.true in let b = c.requires.kept.same in let d = c.requires.kept.full in omega arith) in
    let read : slice_index order at ≡ node = read_at order at node lt c.index.ensures in
    let path = subst (λ (r : List ℕ). IsFreedFrom net r (λ v. v ≡ node) mid new) same c.free_path.ensures in
    freed_both net reserved (λ v. (i : ℕ) × (i < at) × (slice_index order i ≡ v)) (λ v. v ≡ node) (λ v. (i : ℕ) × (i < at + 1) × (slice_index order i ≡ v)) old mid new inv path
    (λ v is. elim (cases_eq is.0 at) [
      | inl e ↦ inr (sym is.2 ∙ (ap (λ (i : ℕ). slice_index order i) e ∙ read))
      | inr ne ↦ inl (is.0, (let low = is.1 in omega arith), is.2)
    ])

pub returns : goal.returns
returns c =
    let all : c.loop-at.at ≡ c.args.log.now.count = (let a = c.loop-at-test.false in let d = c.loop-at.auto.at-end in omega arith) in
    subst (λ (n : ℕ). IsFreedFrom c.args.net (reserved_in c.args.room.now.owners.items c.args.reserved.now.items)
    (λ v. (i : ℕ) × (i < n) × (slice_index c.args.log.now.order.items i ≡ v)) c.args.room.now c.loop-at.room) all c.loop-at.invariant
