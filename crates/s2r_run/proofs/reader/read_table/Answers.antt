use Rattle.std.proofs.Common.{◌∙◌, sym, ap, refl, List, ℕ, ◌∷◌}
use Rattle.s2r_run.specs.TableText.{bad_scale, no_grow, bad_grow, more}
use Rattle.s2r_run.proofs.reader.read_table.Goals as goal

pub returns-in_default-read_scale-clause-refused : goal.returns-in_default-read_scale-clause-refused
returns-in_default-read_scale-clause-refused c =
    bad_scale c.in-Some.first.now c.next_line.new.self (sym c.new-lines.ensures ∙ c.in-Some.ensures.some) (c.in_default-read_scale.ensures.none refl) c.fault-in_default-read_scale.ensures

pub returns-in_default-next_line-clause-refused : goal.returns-in_default-next_line-clause-refused
returns-in_default-next_line-clause-refused c =
    no_grow c.in-Some.first.now c.in-Some-read_scale.scale
    (sym c.new-lines.ensures ∙ c.in-Some.ensures.some ∙ ap (λ (rest : List (List ℕ)). c.in-Some.first.now ∷ rest) (c.in_default-next_line.ensures.none refl))
    c.in-Some-read_scale.ensures.some c.fault-in_default-next_line.ensures

pub returns-in_default-read_grow-clause-refused : goal.returns-in_default-read_grow-clause-refused
returns-in_default-read_grow-clause-refused c =
    bad_grow c.in-Some.first.now c.in-Some-next_line.second.now c.next_line-2.new.self c.in-Some-read_scale.scale
    (sym c.new-lines.ensures ∙ c.in-Some.ensures.some ∙ ap (λ (rest : List (List ℕ)). c.in-Some.first.now ∷ rest) c.in-Some-next_line.ensures.some)
    c.in-Some-read_scale.ensures.some (c.in_default-read_grow.ensures.none refl) c.fault-in_default-read_grow.ensures

pub returns-in-Some-next_line-2-clause-refused : goal.returns-in-Some-next_line-2-clause-refused
returns-in-Some-next_line-2-clause-refused c =
    more c.in-Some.first.now c.in-Some-next_line.second.now c.in-Some-next_line-2._third.now c.next_line-3.new.self c.in-Some-read_scale.scale c.in-Some-read_grow.grow
    (sym c.new-lines.ensures ∙ c.in-Some.ensures.some
    ∙ ap (λ (rest : List (List ℕ)). c.in-Some.first.now ∷ rest)
    (c.in-Some-next_line.ensures.some ∙ ap (λ (rest : List (List ℕ)). c.in-Some-next_line.second.now ∷ rest) c.in-Some-next_line-2.ensures.some))
    c.in-Some-read_scale.ensures.some c.in-Some-read_grow.ensures.some c.fault-in-Some-next_line-2.ensures
