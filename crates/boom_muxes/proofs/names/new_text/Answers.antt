use Rattle.std.proofs.Common.{◌≡◌, List, ℕ, codes, subst, sym, ◌∙◌, ap, arith}
use Rattle.std.specs.List.{slice_index_or}
use Rattle.text_names.specs.Free.{free_texts}
use Rattle.boom_muxes.proofs.Fresh.{one_text, is_fresh}
use Rattle.boom_muxes.proofs.names.new_text.Goals as goal

pub index-requires : goal.index-requires
index-requires c =
    let is = subst (λ (t : List (List ℕ)). c.in_ok-free.free.items ≡ free_texts (codes "n") t 1) (c.deref.ensures.value ∙ c.in_ok-taken.ensures) c.in_ok-free.ensures in
    let one = one_text c.args.ports.now c.args.names.now c.in_ok-free.free.items c.requires is in
    omega (arith, one, c.in_ok-free.free.ok.0)

pub returns : goal.returns
returns c =
    let is = subst (λ (t : List (List ℕ)). c.in_ok-free.free.items ≡ free_texts (codes "n") t 1) (c.deref.ensures.value ∙ c.in_ok-taken.ensures) c.in_ok-free.ensures in
    is_fresh c.args.ports.now c.args.names.now c.in_ok-free.free.items c.in_ok-text.text c.requires is
    (c.in_ok-text.ensures ∙ c.index.ensures ∙ ap (λ (t : List ℕ). slice_index_or c.in_ok-free.free.items 0 t) (sym c.in_ok-text.ensures))
