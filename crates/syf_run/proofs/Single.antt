-- A text is made one machine by one style.
use Rattle.std.proofs.Common.{◌≡◌, ℕ, ◌<◌, true, false, List, codes, inl, inr, sym, ap, subst, ◌∙◌, arith}
use Rattle.std.proofs.lemmas.Bool.{cases_lt}
use Rattle.machine_core.specs.Machine.{Machine}
use Rattle.text_names.specs.Free.{is_free, candidate, IsFirstFree}
use Rattle.fsm_machine.specs.Fsm.{Fsm}
use Rattle.fsm_machine.specs.Codes.{Codes}
use Rattle.fsm_machine.specs.MachineOf.{machine_of}
use Rattle.fsm_io.specs.Laws.{OneFsm}
use Rattle.syf_encode.specs.Codes.{codes_by}
use Rattle.syf_machine.specs.Named.{port_texts, inner_names, IsMachineOf}
use Rattle.syf_run.specs.Laws.{EncodedIsOne}

-- no first free text stands before another
none_before : (stem : List ℕ) (taken : List (List ℕ)) (a b : List ℕ) (p : IsFirstFree stem taken a) (q : IsFirstFree stem taken b) → p.place < q.place → ⊥
none_before stem taken a b p q less =
    let never : false ≡ true = sym (q.earlier p.place less) ∙ ap (is_free taken) (sym p.is) ∙ p.free in absurd cc

one_place : (stem : List ℕ) (taken : List (List ℕ)) (a b : List ℕ) (p : IsFirstFree stem taken a) (q : IsFirstFree stem taken b) → p.place ≡ q.place
one_place stem taken a b p q = elim (cases_lt p.place q.place) [
  | inl less ↦ absurd (none_before stem taken a b p q less)
  | inr low ↦ elim (cases_lt q.place p.place) [
    | inl less ↦ absurd (none_before stem taken b a q p less)
    | inr high ↦ omega (arith, low, high)
  ]
]

one_first : (stem : List ℕ) (taken : List (List ℕ)) (a b : List ℕ) → IsFirstFree stem taken a → IsFirstFree stem taken b → a ≡ b
one_first stem taken a b p q = p.is ∙ ap (candidate stem) (one_place stem taken a b p q) ∙ sym q.is

one_machine : (f : Fsm) (c k : Codes) (m n : Machine) → c ≡ k → IsMachineOf f c m → IsMachineOf f k n → m ≡ n
one_machine f c k m n same a b =
    let text = one_first (codes "st") (port_texts f) a.st b.st a.first b.first in
    a.is ∙ ap (λ (x : Codes). machine_of f x a.st (inner_names f)) same ∙ ap (λ (st : List ℕ). machine_of f k st (inner_names f)) text ∙ sym b.is

pub encoded_is_one : OneFsm → EncodedIsOne
encoded_is_one law source how f g c k m n a b =
    let same : g ≡ f = law source g f b.machine a.machine in
    one_machine f c k m n (a.codes_are ∙ sym (b.codes_are ∙ ap (codes_by how) same)) a.made (subst (λ (x : Fsm). IsMachineOf x k n) same b.made)
