-- Runs of netlists that behave alike.
use Rattle.std.proofs.Common.{◌≡◌, ℕ, Bool, List, [], ◌∷◌, map, Option, refl, sym, ◌∙◌, ap, subst}
use Rattle.vlsi_base.specs.declared.name.Name.{Name}
use Rattle.bool_expr.specs.Expression.{bit}
use Rattle.machine_core.specs.Machine.{inputs}
use Rattle.machine_core.specs.Cycles.{Settles}
use Rattle.machine_core.specs.Runs.{Trace}
use Rattle.cell_model.specs.Cell.{Function, gate, flip_flop, other, opaque, Cell}
use Rattle.cell_model.specs.Library.{Library}
use Rattle.net_meaning.specs.Netlist.{AbstractNetlist}
use Rattle.net_meaning.specs.Behaviour.{Contents, Valuation, pin_bits, Drives, NetSettles, net_next}
use Rattle.loon_laws.specs.Meaning.{BehavesAs, ArePorts, RunSame}
use Rattle.loon_laws.specs.MeaningLaws.{AlikeRunAlike}

-- what each owner holds is the same
abbrev HoldSame : Contents → Contents → Type 0
HoldSame s t = (owner : List ℕ) → s owner ≡ t owner

abbrev bits_in : List Valuation → List (List Bool)
bits_in ws = map (λ (w : Valuation). w.classes) ws

module _ (l : Library) (n : AbstractNetlist) (names : List Name) (clock : Option Name) where
  -- a valuation from the same contents
  settles_from : (s t : Contents) → HoldSame s t → (i : List Bool) (w : Valuation) → NetSettles n l names clock s i w → NetSettles n l names clock t i w
  settles_from s t same i w h = record {
    each = h.each;
    high = h.high;
    low = h.low;
    still = h.still;
    inputs = h.inputs;
    instances = λ one c one_in found. by one.name c c.function (h.instances one c one_in found);
  } where
    by : (owner : List ℕ) (c : Cell) (u : Function) → Drives n w s owner c u → Drives n w t owner c u
    by owner c (gate e) d = d
    by owner c (flip_flop a k) d = d ∙ ap (λ (x : List Bool). bit x 0 ∷ []) (same owner)
    by owner c (other m) d = (subst (λ (x : List Bool). Settles m x (pin_bits n w.classes owner (inputs m)) (w.inner owner)) (same owner) d.0, d.1)
    by owner c opaque d = tt

  abbrev IsTrace : Contents → List (List Bool) → List Valuation → Type 0
  IsTrace t v ws = Trace (NetSettles n l names clock) (net_next n l) t v ws

module _ (l : Library) (n k : AbstractNetlist) (alike : BehavesAs l n k) (names : List Name) (clock : Option Name) (among : ArePorts n names clock) where
  forth : (v : List (List Bool)) (s t : Contents) (ws : List Valuation) → HoldSame s t → IsTrace l n names clock s v ws
      → (vs : List Valuation) × IsTrace l k names clock t v vs × RunSame l n k (bits_in ws) (bits_in vs)
  forth [] s t ws same h = ([], refl, subst (λ (us : List Valuation). RunSame l n k (bits_in us) []) (sym h) tt)
  forth (i ∷ v) s t ws same h =
      let w = h.0 in
      let a = alike.forth names clock t i w among (settles_from l n names clock s t same i w h.1) in
      let r = forth v (net_next n l w) (net_next k l a.0) h.2.0 a.2.held h.2.2 in (
        a.0 ∷ r.0,
        (a.0, a.1, (r.0, refl, r.1)),
        subst (λ (us : List Valuation). RunSame l n k (bits_in us) (bits_in (a.0 ∷ r.0))) (sym h.2.1) (a.2.bits, r.2),
      )

  back : (v : List (List Bool)) (s t : Contents) (vs : List Valuation) → HoldSame s t → IsTrace l k names clock t v vs
      → (ws : List Valuation) × IsTrace l n names clock s v ws × RunSame l n k (bits_in ws) (bits_in vs)
  back [] s t vs same h = ([], refl, subst (λ (us : List Valuation). RunSame l n k [] (bits_in us)) (sym h) tt)
  back (i ∷ v) s t vs same h =
      let w = h.0 in
      let a = alike.back names clock s i w among (settles_from l k names clock t s (λ owner. sym (same owner)) i w h.1) in
      let r = back v (net_next n l a.0) (net_next k l w) h.2.0 a.2.held h.2.2 in (
        a.0 ∷ r.0,
        (a.0, a.1, (r.0, refl, r.1)),
        subst (λ (us : List Valuation). RunSame l n k (bits_in (a.0 ∷ r.0)) (bits_in us)) (sym h.2.1) (a.2.bits, r.2),
      )

pub run_alike : AlikeRunAlike
run_alike l n k alike = record {
  ports = alike.ports;
  forth = λ names clock t v ws among h.
      let r = forth l n k alike names clock among v t t h.0 (λ owner. refl) h.1 in
      (bits_in r.0, (r.0, r.1, refl), subst (λ (us : List (List Bool)). RunSame l n k us (bits_in r.0)) (sym h.2) r.2);
  back = λ names clock t v vs among h.
      let r = back l n k alike names clock among v t t h.0 (λ owner. refl) h.1 in
      (bits_in r.0, (r.0, r.1, refl), subst (λ (us : List (List Bool)). RunSame l n k (bits_in r.0) us) (sym h.2) r.2);
}
