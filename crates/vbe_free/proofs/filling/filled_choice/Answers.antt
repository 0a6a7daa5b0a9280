use Rattle.std.proofs.Common.{◌≡◌, map, sym, ap, ◌∙◌}
use Rattle.vbe_text.specs.Source.{guarded_view}
use Rattle.vbe_free.specs.Filled.{filled_guarded}
use Rattle.vbe_free.proofs.Values.{map_map}
use Rattle.vbe_free.proofs.filling.filled_choice.Goals as goal

pub returns : goal.returns
returns c =
    let all : map guarded_view c.new.result ≡ map (filled_guarded c.args.bit) (map guarded_view c.args.choice.alternatives) =
    ap (map guarded_view) c.new.ensures ∙ c.in_ok-alternatives.ensures ∙ sym (map_map (filled_guarded c.args.bit) guarded_view c.args.choice.alternatives) in
    λ j. record { alternatives = all j; otherwise = c.filled_value.ensures j }
