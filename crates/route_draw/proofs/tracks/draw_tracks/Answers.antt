use Rattle.std.proofs.Common.{ℕ, List, ◌+◌, pos, ap, ◌∙◌, arith}
use Rattle.vlsi_base.specs.Names.{scalar}
use Rattle.route_draw.proofs.Drawing.{starts_many, tracks_few, names_few, drawn}
use Rattle.route_draw.proofs.tracks.draw_tracks.Goals as goal

pub lines-requires-clause-starts : goal.lines-requires-clause-starts
lines-requires-clause-starts c =
    starts_many c.args.library.now c.args.netlist.now c.requires.library c.requires.netlist c.requires.columns c.args.placement.now c.requires.placement c.args.tracks.now c.requires.tracks

pub lines-requires-clause-names : goal.lines-requires-clause-names
lines-requires-clause-names c =
    names_few c.args.library.now c.args.netlist.now c.requires.library c.requires.netlist c.requires.columns c.args.placement.now c.requires.placement c.args.tracks.now c.requires.tracks
    (omega arith)

pub lines-requires-clause-few : goal.lines-requires-clause-few
lines-requires-clause-few c =
    tracks_few c.args.library.now c.args.netlist.now c.requires.library c.requires.netlist c.requires.columns c.args.placement.now c.requires.placement c.args.tracks.now c.requires.tracks
    (omega arith)

pub track_box-requires-clause-few : goal.track_box-requires-clause-few
track_box-requires-clause-few c =
    let few = tracks_few c.args.library.now c.args.netlist.now c.requires.library c.requires.netlist c.requires.columns c.args.placement.now c.requires.placement c.args.tracks.now c.requires.tracks (omega arith) in
    omega (arith, few)

pub returns : goal.returns
returns c =
    drawn c.args.library.now c.args.netlist.now c.requires.library c.requires.netlist c.requires.columns c.args.placement.now c.requires.placement c.args.tracks.now c.requires.tracks
    c.scalar.result c.track_box.result c.in_ok-items.items
    (c.scalar.ensures ∙ ap (λ (text : List ℕ). scalar text) (c.in_ok-name.ensures ∙ c.name.ensures))
    c.track_box.ensures.left c.track_box.ensures.low (c.track_box.ensures.right ∙ ap (λ (w : ℕ). pos (1500 + 500 + w)) c.width.ensures.width) c.track_box.ensures.high
    c.in_ok-items.ensures
