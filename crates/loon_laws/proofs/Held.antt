-- What instances hold after the clock's rise, where their cells are exchanged for drives of them.
use Rattle.std.proofs.Common.{◌≡◌, ℕ, Bool, List, [], ◌∷◌, map, refl, sym, ◌∙◌, ap, if◌then◌else◌}
use Rattle.vlsi_base.specs.declared.name.Name.{Name}
use Rattle.vlsi_base.specs.declared.name.Terminal.{Terminal}
use Rattle.machine_core.specs.Named.{is_same_text}
use Rattle.cell_model.specs.Cell.{Function, gate, flip_flop, other, opaque}
use Rattle.cell_model.specs.Library.{Library, cell_of}
use Rattle.net_core.specs.Netlist.{Instance, pin_of}
use Rattle.net_theory.specs.Exchanges.{IsSameFunction}
use Rattle.net_bits.proofs.Held.{loaded_by, cell_holds, held_by}
use Rattle.loon_laws.proofs.Exchanging.{AreChosen, none, more}

module _ (l : Library) (g : Terminal → Bool) (owner : List ℕ) where
  same_loaded : (u v : Function) → IsSameFunction u v → loaded_by g owner v ≡ loaded_by g owner u
  same_loaded (gate e) (gate x) same = refl
  same_loaded (gate a) (flip_flop b k) same = absurd same
  same_loaded (gate a) (other m) same = absurd same
  same_loaded (gate a) opaque same = absurd same
  same_loaded (flip_flop a k) (gate b) same = absurd same
  same_loaded (flip_flop a k) (flip_flop b j) same = ap (λ (d : Name). g (pin_of owner d) ∷ []) same.0
  same_loaded (flip_flop a k) (other m) same = absurd same
  same_loaded (flip_flop a k) opaque same = absurd same
  same_loaded (other m) v same = absurd same
  same_loaded opaque v same = absurd same

  pub held_exchanged : (is js : List Instance) → AreChosen l is js → held_by l g js owner ≡ held_by l g is owner
  held_exchanged _ _ none = refl
  held_exchanged _ _ (more {i = i} {j = j} {is = is} {js = js} c rest) =
      let name : j.name ≡ i.name = ap (λ (x : Instance). x.name) c.same in
      let cells : cell_holds g owner (cell_of l j.model) ≡ cell_holds g owner (cell_of l i.model) =
      ap (cell_holds g owner) c.listed ∙ same_loaded c.was.function c.now.function c.drive.function ∙ sym (ap (cell_holds g owner) c.found) in
      ap (λ (x : List ℕ). if is_same_text x owner then cell_holds g owner (cell_of l j.model) else held_by l g js owner) name
      ∙ ap (λ (x : List Bool). if is_same_text i.name owner then x else held_by l g js owner) cells
      ∙ ap (λ (x : List Bool). if is_same_text i.name owner then cell_holds g owner (cell_of l i.model) else x) (held_exchanged is js rest)
