-- The numbers of instances by their names.
use Rattle.std.proofs.Common.{◌≡◌, ℕ, suc, ◌+◌, ◌<◌, Bool, true, false, cond, List, [], ◌∷◌, length, Some, None, refl, arith}
use Rattle.vlsi_base.specs.Member.{In, here, there}
use Rattle.machine_core.specs.Named.{is_same_text}
use Rattle.cell_model.proofs.Texts.{text_same}
use Rattle.net_meaning.specs.Netlist.{Member}
use Rattle.ocp_place.specs.Stood.{member}
use Rattle.row_bridge.specs.Numbered.{number_of}

-- an instance of this name
pub record IsNamed (ms : List Member) (owner : List ℕ) (i : ℕ) : Type 0 where
  pub inside : i < length ms
  pub is : (member ms i).name ≡ owner

pub number_found : (k : ℕ) (ms : List Member) (owner : List ℕ) (i : ℕ) → number_of k ms owner ≡ Some i → (j : ℕ) × (i ≡ k + j) × IsNamed ms owner j
number_found k [] owner i e = absurd (cc e)
number_found k (m ∷ ms) owner i e = by (is_same_text m.name owner) refl e (number_found (suc k) ms owner i) where
  by : (t : Bool) → is_same_text m.name owner ≡ t → cond t (Some k) (number_of (suc k) ms owner) ≡ Some i
      → (number_of (suc k) ms owner ≡ Some i → (j : ℕ) × (i ≡ suc k + j) × IsNamed ms owner j) → (j : ℕ) × (i ≡ k + j) × IsNamed (m ∷ ms) owner j
  by true f g next =
      let same : k ≡ i = cc g in
      (0, omega arith, record { inside = omega arith; is = text_same m.name owner f })
  by false f g next =
      let r = next g in
      let e = r.1 in
      let l = r.2.inside in
      (suc r.0, omega arith, record { inside = omega arith; is = r.2.is })

pub number_none : (k : ℕ) (ms : List Member) (owner : List ℕ) → number_of k ms owner ≡ None → (one : Member) → In one ms → is_same_text one.name owner ≡ false
number_none k [] owner e one h = elim h [ ]
number_none k (m ∷ ms) owner e one h = by (is_same_text m.name owner) refl e (number_none (suc k) ms owner) one h where
  by : (t : Bool) → is_same_text m.name owner ≡ t → cond t (Some k) (number_of (suc k) ms owner) ≡ None
      → (number_of (suc k) ms owner ≡ None → (other : Member) → In other ms → is_same_text other.name owner ≡ false)
      → (other : Member) → In other (m ∷ ms) → is_same_text other.name owner ≡ false
  by true f g next other h = absurd (cc g)
  by false f g next other here = f
  by false f g next other (there i) = next g other i
