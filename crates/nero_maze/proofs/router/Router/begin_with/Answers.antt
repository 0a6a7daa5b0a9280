use Rattle.std.proofs.Common.{refl, ℕ, Bool, true, false, List, map, ◌≡◌, ◌≢◌, ◌<◌, length, slice_index, arith, sym, ◌∙◌, ap, subst}
use Rattle.std.specs.Prelude.{slice_index_or}
use Rattle.std.proofs.lemmas.List.{length-map}
use Rattle.grid_core.specs.declared.grid.Grid.{Grid}
use Rattle.grid_core.specs.Numbers.{nodes}
use Rattle.nero_maze.specs.declared.frontier.Room.{Room}
use Rattle.nero_maze.specs.declared.board.Board.{Board}
use Rattle.nero_maze.specs.Search.{IsIdle, is_owned, reserved_in}
use Rattle.nero_maze.specs.Board.{reserved_of}
use Rattle.nero_maze.proofs.Reserving.{reserved_begun, flagged_owned}
use Rattle.nero_maze.proofs.Ties.{table}
use Rattle.nero_maze.proofs.Sounds.{sound_bare}
use Rattle.nero_maze.proofs.router.Router.begin_with.Goals as goal

pub invariant_of-result : goal.invariant_of-result
invariant_of-result c =
    let g = c.grid-grid.result in
    let room : Room = record { grid = g; owners = c.into_words-owners.result; links = c.in_ok-links.links } in
    let b : Board = record { room = room; reserved = c.in_ok-reserved.reserved; frontier = record { order = c.in_ok-reached.reached.order; marks = c.in_ok-reached.reached.marks; count = c.in_ok-reached.reached.count; ties = c.in_ok-ties.ties }; log = c.in_ok-log.log; hulls = c.in_ok-hulls.hulls } in
    let same = sym c.grid-grid.ensures.grid in
    let few : nodes g < 4294967295 = subst (λ (h : Grid). nodes h < 4294967295) same c.grid-grid.ensures.few in
    let size : length c.args.occupied.words ≡ nodes g = subst (λ (h : Grid). length c.args.occupied.words ≡ nodes h) same c.grid-grid.ensures.size in
    let owners : length c.into_words-owners.result.items ≡ nodes g = rw c.into_words-owners.ensures.words size in
    let count : c.len-count.result ≡ nodes g = omega arith in
    let flags : c.in_ok-reserved.reserved.items ≡ map is_owned c.into_words-owners.result.items = c.in_ok-reserved.ensures ∙ ap (map is_owned) c.deref.ensures.value in
    let same : reserved_of b ≡ c.into_words-owners.result.items = rw flags (reserved_begun c.into_words-owners.result.items) in
    let sized : length c.in_ok-reserved.reserved.items ≡ nodes g = rw flags (length-map c.into_words-owners.result.items is_owned ∙ owners) in
    let flagged = subst (λ (r : List Bool). (v : ℕ) → slice_index_or r v false ≡ true → slice_index c.into_words-owners.result.items v ≢ 4294967295) (sym flags)
    (flagged_owned c.into_words-owners.result.items) in
    (sound_bare b same sized flagged (record { few = few; owners = owners; links = c.in_ok-links.ensures.size ∙ count })
    (subst (λ (n : ℕ). IsIdle c.in_ok-reached.reached.order.items c.in_ok-reached.reached.marks.items n) count c.in_ok-reached.ensures.idle)
    (subst (λ (n : ℕ). IsIdle c.in_ok-log.log.order.items c.in_ok-log.log.marks.items n) count c.in_ok-log.ensures.idle)
    c.in_ok-log.ensures.count c.in_ok-links.ensures.zero).0

pub returns : goal.returns
returns c =
    let g = c.grid-grid.result in
    let o = c.into_words-owners.result.items in
    let flags : c.in_ok-reserved.reserved.items ≡ map is_owned o = c.in_ok-reserved.ensures ∙ ap (map is_owned) c.deref.ensures.value in
    let same : reserved_in o c.in_ok-reserved.reserved.items ≡ o = rw flags (reserved_begun o) in
    let whole : table g o ≡ c.args.occupied = rw (c.grid-grid.ensures.grid, c.into_words-owners.ensures.words) refl in
    let none = c.in_ok-log.ensures.count in
    record { occupied = whole; moves = rw none refl; reserved = ap (table g) same ∙ whole }
