use Rattle.std.proofs.Common.{◌≡◌, ◌++◌, ◌∷◌, [], ap, ◌∙◌, refl, if◌then◌else◌, Bool}
use Rattle.boom_muxes.proofs.Same.{none_equal}
use Rattle.boom_muxes.proofs.Tabling.{table_pushed, says_pushed}
use Rattle.boom_muxes.proofs.muxes.Muxes.push.Goals as goal

pub returns-in-Ok-clause-table : goal.returns-in-Ok-clause-table
returns-in-Ok-clause-table c =
    let s = c.args.self.now in
    let keys : c.insert_full.new.self.keys ≡ s.nodes.keys ++ c.args.mux ∷ [] =
    c.in-Ok.ensures.keys ∙ ap (λ (b : Bool). if b then s.nodes.keys else s.nodes.keys ++ c.args.mux ∷ []) (none_equal s.nodes.keys c.args.mux c.requires.mux.absent) in
    table_pushed s (record { held = s.held; given = s.given; weight = c.args.weight; nodes = c.insert_full.new.self }) c.args.mux c.args.weight c.requires.table c.requires.mux refl refl refl keys

pub returns-in-Ok-clause-says : goal.returns-in-Ok-clause-says
returns-in-Ok-clause-says c =
    let s = c.args.self.now in
    let keys : c.insert_full.new.self.keys ≡ s.nodes.keys ++ c.args.mux ∷ [] =
    c.in-Ok.ensures.keys ∙ ap (λ (b : Bool). if b then s.nodes.keys else s.nodes.keys ++ c.args.mux ∷ []) (none_equal s.nodes.keys c.args.mux c.requires.mux.absent) in
    says_pushed s (record { held = s.held; given = s.given; weight = c.args.weight; nodes = c.insert_full.new.self }) c.args.mux c.args.weight c.requires.table c.requires.mux refl refl refl keys
    c.next_number-number.result c.next_number-number.ensures
