use Rattle.std.proofs.Common.{ℕ, ◌≡◌, ◌≢◌, ◌+◌, ◌<◌, length, set, slice_index, arith, sym, ◌∙◌, subst, inl, inr, get_or-set_same}
use Rattle.nero_maze.specs.Hulls.{far}
use Rattle.nero_maze.specs.Search.{IsFree, Kept, Grown, words_in}
use Rattle.nero_maze.proofs.frontier.visit.Goals as goal
use Rattle.nero_maze.proofs.Theory.{room, read_at, Kept-more, Grown-one, Grown-prefer}
use Rattle.nero_maze.proofs.Visiting.{visit_of, visit_none, visit_other, same_next}

pub index_mut-requires-2 : goal.index_mut-requires-2
index_mut-requires-2 c =
    let m = c.args.frontier.now.marks.items in
    let to = c.number_of_place-to.result in
    let lt : to < length m = (let h = c.number_of_place-to.ensures.below in let e = c.requires.size in omega arith) in
    let z : slice_index m to ≡ 0 = read_at m to c.index-known.result.now lt c.index-known.ensures ∙ c.if-known-ne0.false in
    let r = room c.args.frontier.now.order.items m c.args.frontier.now.count to c.requires.kept lt z in
    let e = c.requires.kept.same in
    omega arith

pub returns-clause-kept : goal.returns-clause-kept
returns-clause-kept c =
    let ord = c.args.frontier.now.order.items in
    let m = c.args.frontier.now.marks.items in
    let n = c.args.frontier.now.count in
    let to = c.number_of_place-to.result in
    let lt : to < length m = (let h = c.number_of_place-to.ensures.below in let e = c.requires.size in omega arith) in
    let z : slice_index m to ≡ 0 = read_at m to c.index-known.result.now lt c.index-known.ensures ∙ c.if-known-ne0.false in
    let same : c.args.way + 8 + 1 ≡ c.args.way + 1 + 8 = omega arith in
    subst (λ (x : ℕ). Kept (set ord n to) (set m to x) (n + 1)) same (Kept-more ord m n to (c.args.way + 8) c.requires.kept lt z)

pub returns-clause-grown : goal.returns-clause-grown
returns-clause-grown c =
    let f = c.args.field.now in
    let s = c.args.source.now in
    let ord = c.args.frontier.now.order.items in
    let m = c.args.frontier.now.marks.items in
    let n = c.args.frontier.now.count in
    let o = words_in f.words in
    let to = c.number_of_place-to.result in
    let vis = visit_of f ord s c.in-Some.place c.args.way to c.far_from-far.result c.weight_of.result c.requires.source c.requires.way c.in-Some.ensures.within c.in-Some.ensures.is
    c.number_of_place-to.ensures.is c.far_from-far.ensures.is c.weight_of.ensures c.if-weight_of-far.false in
    let lt : to < length m = (let h = c.number_of_place-to.ensures.below in let e = c.requires.size in omega arith) in
    let known = read_at m to c.index-known.result.now lt c.index-known.ensures in
    let word = sym c.word_at-owner.ensures in
    let free : IsFree o f.net to = elim (c.is_free.ensures.free c.if-not-is_free.false) [ inl e ↦ inl (word ∙ e) | inr e ↦ inr (word ∙ e) ] in
    let z : slice_index m to ≡ 0 = known ∙ c.if-known-ne0.false in
    let same : c.args.way + 9 ≡ c.args.way + 1 + 8 = omega arith in
    subst (λ (x : ℕ). Grown f.grid o f.net (far f.grid f.hull) s.rise s.at (s.at + 1) ord m n (set ord n to) (set m to x) (n + 1)) same
    (Grown-one f.grid o f.net (far f.grid f.hull) s.rise s.at c.args.way ord m n to c.requires.kept c.requires.at lt z vis.there vis.back free c.requires.way vis.sum)

pub returns-then-known-gt-FRESH-clause-grown : goal.returns-then-known-gt-FRESH-clause-grown
returns-then-known-gt-FRESH-clause-grown c =
    let f = c.args.field.now in
    let s = c.args.source.now in
    let ord = c.args.frontier.now.order.items in
    let m = c.args.frontier.now.marks.items in
    let n = c.args.frontier.now.count in
    let o = words_in f.words in
    let to = c.number_of_place-to.result in
    let vis = visit_of f ord s c.in-Some.place c.args.way to c.far_from-far.result c.weight_of.result c.requires.source c.requires.way c.in-Some.ensures.within c.in-Some.ensures.is
    c.number_of_place-to.ensures.is c.far_from-far.ensures.is c.weight_of.ensures c.if-weight_of-far.false in
    let lt : to < length m = (let h = c.number_of_place-to.ensures.below in let e = c.requires.size in omega arith) in
    let known = read_at m to c.index-known.result.now lt c.index-known.ensures in
    let word = sym c.word_at-owner.ensures in
    let free : IsFree o f.net to = elim (c.is_free.ensures.free c.if-not-is_free.false) [ inl e ↦ inl (word ∙ e) | inr e ↦ inr (word ∙ e) ] in
    let high = c.if-known-gt-FRESH.true in
    let fresh : 8 < slice_index m to = omega arith in
    Grown-prefer f.grid o f.net (far f.grid f.hull) s.rise s.at c.args.way (c.args.way + 1 + 8) ord m n to c.prefer.new.frontier.order.items c.prefer.new.frontier.marks.items c.prefer.new.frontier.count
    c.requires.at lt fresh vis.there vis.back free c.requires.way vis.sum (omega arith) c.prefer.ensures.order c.prefer.ensures.count c.prefer.ensures.marks

pub returns-in_default-clause-spread : goal.returns-in_default-clause-spread
returns-in_default-clause-spread c = λ v is sum free.
    absurd (visit_none c.args.field.now c.args.frontier.now.order.items c.args.source.now c.args.way v c.requires.source c.in_default.ensures.none is)

pub returns-then-weight_of-far-clause-spread : goal.returns-then-weight_of-far-clause-spread
returns-then-weight_of-far-clause-spread c = λ v is sum free.
    absurd (c.if-weight_of-far.true (visit_other c.args.field.now c.args.frontier.now.order.items c.args.source.now c.in-Some.place c.args.way v c.far_from-far.result c.weight_of.result
    c.requires.source c.in-Some.ensures.within c.in-Some.ensures.is c.far_from-far.ensures.is c.weight_of.ensures is sum))

pub returns-then-not-is_free-clause-spread : goal.returns-then-not-is_free-clause-spread
returns-then-not-is_free-clause-spread c = λ v is sum free.
    let f = c.args.field.now in
    let s = c.args.source.now in
    let ord = c.args.frontier.now.order.items in
    let m = c.args.frontier.now.marks.items in
    let o = words_in f.words in
    let to = c.number_of_place-to.result in
    let vis = visit_of f ord s c.in-Some.place c.args.way to c.far_from-far.result c.weight_of.result c.requires.source c.requires.way c.in-Some.ensures.within c.in-Some.ensures.is
    c.number_of_place-to.ensures.is c.far_from-far.ensures.is c.weight_of.ensures c.if-weight_of-far.false in
    let word = sym c.word_at-owner.ensures in
    let e = same_next f.grid (slice_index ord s.at) c.args.way v to is vis.there in
    let free' : IsFree o f.net to = subst (λ (w : ℕ). IsFree o f.net w) e free in
    let r = c.is_free.ensures.taken c.if-not-is_free.true in
    absurd (elim free' [ inl x ↦ r.0 (sym word ∙ x) | inr x ↦ r.1 (sym word ∙ x) ])

pub returns-then-known-gt-FRESH-clause-spread : goal.returns-then-known-gt-FRESH-clause-spread
returns-then-known-gt-FRESH-clause-spread c = λ v is sum free.
    let f = c.args.field.now in
    let s = c.args.source.now in
    let ord = c.args.frontier.now.order.items in
    let m = c.args.frontier.now.marks.items in
    let n = c.args.frontier.now.count in
    let o = words_in f.words in
    let to = c.number_of_place-to.result in
    let vis = visit_of f ord s c.in-Some.place c.args.way to c.far_from-far.result c.weight_of.result c.requires.source c.requires.way c.in-Some.ensures.within c.in-Some.ensures.is
    c.number_of_place-to.ensures.is c.far_from-far.ensures.is c.weight_of.ensures c.if-weight_of-far.false in
    let lt : to < length m = (let h = c.number_of_place-to.ensures.below in let e = c.requires.size in omega arith) in
    let known = read_at m to c.index-known.result.now lt c.index-known.ensures in
    let high = c.if-known-gt-FRESH.true in
    let e = same_next f.grid (slice_index ord s.at) c.args.way v to is vis.there in
    let m' = c.prefer.new.frontier.marks.items in
    let set_at = get_or-set_same m to (c.args.way + 1 + 8) 0 lt in
    let some : slice_index m' to ≢ 0 = elim c.prefer.ensures.marks [
      | inl x ↦ rw x (let ne : slice_index m to ≢ 0 = omega arith in ne)
      | inr x ↦ rw x (let ne : slice_index (set m to (c.args.way + 1 + 8)) to ≢ 0 = omega arith in ne)
    ] in
    subst (λ (w : ℕ). slice_index m' w ≢ 0) (sym e) some

pub returns-then-known-ne0-clause-spread : goal.returns-then-known-ne0-clause-spread
returns-then-known-ne0-clause-spread c = λ v is sum free.
    let f = c.args.field.now in
    let s = c.args.source.now in
    let ord = c.args.frontier.now.order.items in
    let m = c.args.frontier.now.marks.items in
    let n = c.args.frontier.now.count in
    let o = words_in f.words in
    let to = c.number_of_place-to.result in
    let vis = visit_of f ord s c.in-Some.place c.args.way to c.far_from-far.result c.weight_of.result c.requires.source c.requires.way c.in-Some.ensures.within c.in-Some.ensures.is
    c.number_of_place-to.ensures.is c.far_from-far.ensures.is c.weight_of.ensures c.if-weight_of-far.false in
    let lt : to < length m = (let h = c.number_of_place-to.ensures.below in let e = c.requires.size in omega arith) in
    let known = read_at m to c.index-known.result.now lt c.index-known.ensures in
    let e = same_next f.grid (slice_index ord s.at) c.args.way v to is vis.there in
    let ne = c.if-known-ne0.true in
    let some : slice_index m to ≢ 0 = rw known ne in
    subst (λ (w : ℕ). slice_index m w ≢ 0) (sym e) some

pub returns-clause-spread : goal.returns-clause-spread
returns-clause-spread c = λ v is sum free.
    let f = c.args.field.now in
    let s = c.args.source.now in
    let ord = c.args.frontier.now.order.items in
    let m = c.args.frontier.now.marks.items in
    let n = c.args.frontier.now.count in
    let o = words_in f.words in
    let to = c.number_of_place-to.result in
    let vis = visit_of f ord s c.in-Some.place c.args.way to c.far_from-far.result c.weight_of.result c.requires.source c.requires.way c.in-Some.ensures.within c.in-Some.ensures.is
    c.number_of_place-to.ensures.is c.far_from-far.ensures.is c.weight_of.ensures c.if-weight_of-far.false in
    let lt : to < length m = (let h = c.number_of_place-to.ensures.below in let e = c.requires.size in omega arith) in
    let known = read_at m to c.index-known.result.now lt c.index-known.ensures in
    let e = same_next f.grid (slice_index ord s.at) c.args.way v to is vis.there in
    let set_at = get_or-set_same m to (c.args.way + 1 + 8) 0 lt in
    let some : slice_index (set m to (c.args.way + 1 + 8)) to ≢ 0 = omega arith in
    subst (λ (w : ℕ). slice_index (set m to (c.args.way + 1 + 8)) w ≢ 0) (sym e) some
