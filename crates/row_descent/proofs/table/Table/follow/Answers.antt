use Rattle.std.proofs.Common.{ℕ, List, ◌≡◌, ◌+◌, ◌≤◌, subst, sym, ap, ap₂, ◌∙◌, length, slice_index, arith}
use Rattle.std.specs.Global.{Vec}
use Rattle.std.proofs.lemmas.List.{length-map}
use Rattle.row_meaning.specs.declared.Pin.{Pin}
use Rattle.row_meaning.specs.Rows.{row_at}
use Rattle.row_descent.proofs.Views.{written}
use Rattle.row_descent.specs.declared.span.Span.{Span}
use Rattle.row_descent.specs.Spans.{limit, refreshed_all, span_of}
use Rattle.row_descent.specs.Tables.{rows_of, nets_in}
use Rattle.row_descent.proofs.Afterwards as after
use Rattle.row_descent.proofs.table.Table.follow.Goals as goal

pub move_starts-window-requires-clause-near : goal.move_starts-window-requires-clause-near
move_starts-window-requires-clause-near c =
    let a = after.room c.args.cells.now (rows_of c.args.rows.now) c.args.row c.args.place c.neighbours-pair.result.first c.neighbours-pair.result.second
    c.args.self.now c.requires.ready c.requires.place c.neighbours-pair.ensures.first c.neighbours-pair.ensures.second in
    let P : List ℕ → List ℕ → Type 0 = λ xs ws. slice_index xs c.neighbours-pair.result.first + slice_index ws c.neighbours-pair.result.second + slice_index ws c.neighbours-pair.result.first ≤ limit in
    let Q : List ℕ → Type 0 = λ ws. P c.deref_mut.result.now ws in
    let R : List ℕ → Type 0 = λ xs. P xs c.args.cells.now.widths.items in
    subst Q (sym c.deref.ensures.value) (subst R (sym c.deref_mut.ensures.value) a)

pub renew-requires-clause-pins : goal.renew-requires-clause-pins
renew-requires-clause-pins c =
    after.pins_near_then c.args.cells.now (rows_of c.args.rows.now) c.args.row c.args.place c.neighbours-pair.result.first c.neighbours-pair.result.second
    c.args.self.now c.requires.ready c.requires.place c.neighbours-pair.ensures.first c.neighbours-pair.ensures.second _
    (written c.args.self.now.starts c.move_starts-window.new.starts c.deref_mut.result.now c.deref.result.now c.args.cells.now.widths.items
    c.neighbours-pair.result.first c.neighbours-pair.result.second c.args.self.now.starts.ok.0 c.deref_mut.ensures.value c.deref.ensures.value c.move_starts-window.ensures.starts)

pub renew-requires-clause-near : goal.renew-requires-clause-near
renew-requires-clause-near c =
    after.near_now c.args.cells.now (rows_of c.args.rows.now) c.args.row c.args.place c.neighbours-pair.result.first c.neighbours-pair.result.second
    c.args.self.now c.requires.ready c.requires.place c.neighbours-pair.ensures.first c.neighbours-pair.ensures.second

many : (c : goal.After-renew-arg-2-1) → length c.renew.new.self.spans.items ≡ length c.args.cells.now.nets.items
many c =
    c.renew.ensures.length
    ∙ ap (λ (xs : List Span). length xs) c.requires.ready.table.spans
    ∙ length-map (nets_in c.args.cells.now.nets.items) (span_of c.args.self.now.starts.items)
    ∙ length-map c.args.cells.now.nets.items (λ (v : Vec Pin). v.items)

pub renew-requires-2-clause-many : goal.renew-requires-2-clause-many
renew-requires-2-clause-many c = many c

pub renew-requires-2-clause-pins : goal.renew-requires-2-clause-pins
renew-requires-2-clause-pins c =
    after.pins_near_then c.args.cells.now (rows_of c.args.rows.now) c.args.row c.args.place c.neighbours-pair.result.first c.neighbours-pair.result.second
    c.args.self.now c.requires.ready c.requires.place c.neighbours-pair.ensures.first c.neighbours-pair.ensures.second c.renew.new.self.starts.items
    (c.renew.ensures.starts
    ∙ written c.args.self.now.starts c.move_starts-window.new.starts c.deref_mut.result.now c.deref.result.now c.args.cells.now.widths.items
    c.neighbours-pair.result.first c.neighbours-pair.result.second c.args.self.now.starts.ok.0 c.deref_mut.ensures.value c.deref.ensures.value c.move_starts-window.ensures.starts)

pub renew-requires-2-clause-few : goal.renew-requires-2-clause-few
renew-requires-2-clause-few c =
    let a = many c in
    let b = length-map c.args.cells.now.nets.items (λ (v : Vec Pin). v.items) in
    let d = c.requires.ready.block.few in
    omega arith

pub returns : goal.returns
returns c =
    let f = c.neighbours-pair.result.first in
    let s = c.neighbours-pair.result.second in
    let is = written c.args.self.now.starts c.move_starts-window.new.starts c.deref_mut.result.now c.deref.result.now c.args.cells.now.widths.items
    f s c.args.self.now.starts.ok.0 c.deref_mut.ensures.value c.deref.ensures.value c.move_starts-window.ensures.starts in
    let reach : List ℕ → List ℕ → ℕ = λ xs ws. slice_index xs f + slice_index ws s + slice_index ws f in
    let lists : List (Vec ℕ) → List ℕ = λ ls. row_at (rows_of ls) s in
    let xs = c.renew.new.self.starts.items in
    let same = c.renew.ensures.starts in
    let call : List ℕ → List ℕ → List Span → List Span =
    λ ys ks spans. refreshed_all ys c.move_starts-window.result.low c.move_starts-window.result.high (nets_in c.args.cells.now.nets.items) ks spans in
    after.ready_then c.args.cells.now (rows_of c.args.rows.now) c.args.row c.args.place f s
    c.args.self.now c.requires.ready c.requires.place c.neighbours-pair.ensures.first c.neighbours-pair.ensures.second
    c.renew-2.new.self xs c.move_starts-window.result.low c.move_starts-window.result.high c.renew.new.self.spans.items
    (same ∙ is)
    (c.move_starts-window.ensures.low ∙ ap (λ (ys : List ℕ). slice_index ys f) c.deref_mut.ensures.value)
    (c.move_starts-window.ensures.high ∙ ap₂ reach c.deref_mut.ensures.value c.deref.ensures.value)
    (c.renew.ensures.spans ∙ ap (λ (ys : List ℕ). call ys (row_at (rows_of c.args.self.now.nets_of.items) f) c.args.self.now.spans.items) (sym same))
    (c.renew-2.ensures.spans ∙ ap (λ (ls : List (Vec ℕ)). call xs (lists ls) c.renew.new.self.spans.items) c.renew.ensures.nets)
    c.renew-2.ensures.starts c.renew-2.ensures.total (c.renew-2.ensures.nets ∙ c.renew.ensures.nets)
