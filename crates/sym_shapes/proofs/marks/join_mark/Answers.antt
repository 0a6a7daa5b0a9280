use Rattle.std.proofs.Common.{◌≡◌, ◌∙◌, ℕ, ◌<◌, ap, sym, subst, get_or, None, Some, arith}
use Rattle.sym_groups.specs.Ties.{Tied}
use Rattle.sym_shapes.specs.Shape.{Shape}
use Rattle.sym_shapes.specs.Marks.{mark_of}
use Rattle.sym_shapes.specs.View.{mark_view}
use Rattle.sym_shapes.specs.Seen.{place_of}
use Rattle.sym_shapes.proofs.Joins.{read_at, grows_by}
use Rattle.sym_shapes.proofs.Marked.{some_same, marked_linked, unmarked, put_seen}
use Rattle.sym_shapes.proofs.marks.join_mark.Goals as goal

pub returns-in_default-clause-seen : goal.returns-in_default-clause-seen
returns-in_default-clause-seen c =
    let shapes = c.args.shapes.now in
    let n : ℕ = c.args.place in
    let shape_is : (d : Shape) → c.index-shapes-place.result ≡ get_or shapes n d =
    λ d. read_at shapes n d c.index-shapes-place.result c.requires.within c.index-shapes-place.is in
    unmarked shapes c.args.kind c.args.forest.now.groups (place_of c.args.seen.now) n c.requires.seen (λ d. sym (ap (mark_of c.args.kind) (shape_is d)) ∙ sym c.in_default.ensures)

pub link-requires-clause-a_within : goal.link-requires-clause-a_within
link-requires-clause-a_within c =
    let had : place_of c.args.seen.now c.in-Some.mark ≡ Some c.in-Some-2.before = sym c.in_ok-before.ensures.old ∙ c.in-Some-2.is in
    let low = (c.requires.seen.sound c.in-Some.mark c.in-Some-2.before c.index-shapes-place.result had).0 in
    omega (arith, low, c.requires.within, c.requires.count)

pub returns-in_ok-link-clause-grows : goal.returns-in_ok-link-clause-grows
returns-in_ok-link-clause-grows c =
    let shapes = c.args.shapes.now in
    let n : ℕ = c.args.place in
    let before : ℕ = c.in-Some-2.before in
    let had : place_of c.args.seen.now c.in-Some.mark ≡ Some before = sym c.in_ok-before.ensures.old ∙ c.in-Some-2.is in
    let low : before < n = (c.requires.seen.sound c.in-Some.mark before c.index-shapes-place.result had).0 in
    let shape_is : (d : Shape) → c.index-shapes-place.result ≡ get_or shapes n d =
    λ d. read_at shapes n d c.index-shapes-place.result c.requires.within c.index-shapes-place.is in
    grows_by shapes c.args.forest.now c.link.new.self before n (omega (arith, low, c.requires.within)) c.requires.within
    (λ d.
    marked_linked c.args.kind (get_or shapes before d) (get_or shapes n d) (mark_view c.in-Some.mark) (c.requires.seen.sound c.in-Some.mark before d had).1
    (sym (ap (mark_of c.args.kind) (shape_is d)) ∙ sym c.in-Some.ensures))
    c.in_ok-link.ensures.joins c.in_ok-link.ensures.adds c.in_ok-link.ensures.leads

pub returns-in_ok-link-clause-seen : goal.returns-in_ok-link-clause-seen
returns-in_ok-link-clause-seen c =
    let shapes = c.args.shapes.now in
    let n : ℕ = c.args.place in
    let before : ℕ = c.in-Some-2.before in
    let had : place_of c.args.seen.now c.in-Some.mark ≡ Some before = sym c.in_ok-before.ensures.old ∙ c.in-Some-2.is in
    let shape_is : (d : Shape) → c.index-shapes-place.result ≡ get_or shapes n d =
    λ d. read_at shapes n d c.index-shapes-place.result c.requires.within c.index-shapes-place.is in
    put_seen shapes c.args.kind c.args.forest.now.groups c.link.new.self.groups (place_of c.args.seen.now) (place_of c.insert.new.self) n c.in-Some.mark c.requires.seen
    (λ d. sym (ap (mark_of c.args.kind) (shape_is d)) ∙ sym c.in-Some.ensures) (λ q. c.in_ok-before.ensures.updates.0 q) c.in_ok-link.ensures.joins.kept
    (λ f e. subst (λ (x : ℕ). Tied c.link.new.self.groups x n) (some_same before f (sym had ∙ e)) c.in_ok-link.ensures.joins.added)

pub returns-in_default-2-clause-seen : goal.returns-in_default-2-clause-seen
returns-in_default-2-clause-seen c =
    let shapes = c.args.shapes.now in
    let n : ℕ = c.args.place in
    let had : place_of c.args.seen.now c.in-Some.mark ≡ None = sym c.in_ok-before.ensures.old ∙ c.in_default-2.is in
    let shape_is : (d : Shape) → c.index-shapes-place.result ≡ get_or shapes n d =
    λ d. read_at shapes n d c.index-shapes-place.result c.requires.within c.index-shapes-place.is in
    put_seen shapes c.args.kind c.args.forest.now.groups c.args.forest.now.groups (place_of c.args.seen.now) (place_of c.insert.new.self) n c.in-Some.mark c.requires.seen
    (λ d. sym (ap (mark_of c.args.kind) (shape_is d)) ∙ sym c.in-Some.ensures) (λ q. c.in_ok-before.ensures.updates.0 q) (λ i j t. t)
    (λ f e. absurd (let h : None ≡ Some f = sym had ∙ e in cc h))
