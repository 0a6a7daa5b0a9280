-- Netlists of gates and plain flip-flops alone: the bits of the classes say all.
use Rattle.std.proofs.Common.{◌≡◌, ℕ, Bool, true, false, List, [], ◌∷◌, Option, None, Some, refl, ap, if◌then◌else◌}
use Rattle.vlsi_base.specs.Member.{In, here, there}
use Rattle.machine_core.specs.Named.{is_same_text}
use Rattle.cell_model.specs.Cell.{Function, gate, flip_flop, other, opaque, Cell}
use Rattle.cell_model.specs.Library.{Library, cell_of, IsPlain}
use Rattle.net_meaning.specs.Netlist.{Member, AbstractNetlist, pin_of}
use Rattle.net_meaning.specs.Behaviour.{Valuation, bit_of, model_of, cell_at, loaded, next_held, net_next}

-- the members' cells are gates and plain flip-flops
abbrev pub ArePlain : Library → List Member → Type 0
ArePlain l members = (i : Member) (c : Cell) → In i members → cell_of l i.model ≡ Some c → IsPlain c c.function

-- valuations with the same bits lead to the same contents
module _ (n : AbstractNetlist) (l : Library) (w u : Valuation) (same : w.classes ≡ u.classes) (owner : List ℕ) where
  loads_same : (c : Cell) (f : Function) → IsPlain c f → loaded n w owner f ≡ loaded n u owner f
  loads_same c (gate e) plain = refl
  loads_same c (flip_flop data_pin clock_pin) plain = ap (λ (bits : List Bool). bit_of n bits (pin_of owner data_pin) ∷ []) same
  loads_same c (other m) plain = absurd plain
  loads_same c opaque plain = absurd plain

  holds_same : (found : Option Cell) → ((c : Cell) → found ≡ Some c → IsPlain c c.function) → next_held n w owner found ≡ next_held n u owner found
  holds_same None plain = refl
  holds_same (Some c) plain = loads_same c c.function (plain c refl)

  member_same : (members : List Member) → ArePlain l members
      → next_held n w owner (cell_at l (model_of members owner)) ≡ next_held n u owner (cell_at l (model_of members owner))
  member_same [] plain = refl
  member_same (one ∷ rest) plain =
      first (is_same_text one.name owner) (holds_same (cell_of l one.model) (λ c found. plain one c here found)) (member_same rest (λ i c listed found. plain i c (there listed) found))
    where
      first : (b : Bool)
          → next_held n w owner (cell_of l one.model) ≡ next_held n u owner (cell_of l one.model)
          → next_held n w owner (cell_at l (model_of rest owner)) ≡ next_held n u owner (cell_at l (model_of rest owner))
          → next_held n w owner (cell_at l (if b then Some one.model else model_of rest owner)) ≡ next_held n u owner (cell_at l (if b then Some one.model else model_of rest owner))
      first true this after = this
      first false this after = after

pub next_same : (n : AbstractNetlist) (l : Library) → ArePlain l n.instances → (w u : Valuation) → w.classes ≡ u.classes → net_next n l w ≡ net_next n l u
next_same n l plain w u same = λ k owner. member_same n l w u same owner n.instances plain k
