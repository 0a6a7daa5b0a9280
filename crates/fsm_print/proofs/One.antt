-- A state machine has one text.
use Rattle.std.proofs.Common.{◌≡◌, inl, inr, ℕ, ◌≤◌, true, false, List, sym, ap, ◌∙◌, arith}
use Rattle.std.proofs.str.Laws.{order}
use Rattle.vlsi_base.specs.declared.name.Name.{Name}
use Rattle.text_names.specs.Free.{is_free, candidate, IsFirstFree}
use Rattle.fsm_machine.specs.Fsm.{Fsm}
use Rattle.fsm_print.specs.declared.words.Words.{Words}
use Rattle.fsm_print.specs.Written.{AreWords, text}
use Rattle.fsm_print.specs.Spelled.{OneText}

-- what is free stands no earlier than the first free one
no_earlier : (stem : List ℕ) (taken : List (List ℕ)) (a b : List ℕ) (f : IsFirstFree stem taken a) (g : IsFirstFree stem taken b) → g.place ≤ f.place
no_earlier stem taken a b f g = elim (order f.place g.place) [
  | inl less ↦
      let on : is_free taken (candidate stem f.place) ≡ true = ap (is_free taken) (sym f.is) ∙ f.free in
      let off = g.earlier f.place less in
      let never : true ≡ false = sym on ∙ off in
      absurd cc
  | inr within ↦ within
]

one_free : (stem : List ℕ) (taken : List (List ℕ)) (a b : List ℕ) → IsFirstFree stem taken a → IsFirstFree stem taken b → a ≡ b
one_free stem taken a b f g =
    let p = no_earlier stem taken a b f g in
    let q = no_earlier stem taken b a g f in
    let same : f.place ≡ g.place = omega (arith, p, q) in
    f.is ∙ ap (candidate stem) same ∙ sym g.is

words_with : List Name → List Name → List ℕ → List ℕ → List ℕ → Words
words_with vars states kind current next = record { vars = vars; states = states; type_name = kind; current = current; next = next }

one_words : (f : Fsm) (v w : Words) → AreWords f v → AreWords f w → v ≡ w
unfolding words_with
one_words f v w a b =
    ap (λ (ns : List Name). words_with ns v.states v.type_name v.current v.next) (a.vars ∙ sym b.vars)
    ∙ ap (λ (ns : List Name). words_with w.vars ns v.type_name v.current v.next) (a.states ∙ sym b.states)
    ∙ ap (λ (t : List ℕ). words_with w.vars w.states t v.current v.next) (one_free _ _ v.type_name w.type_name a.type_name b.type_name)
    ∙ ap (λ (t : List ℕ). words_with w.vars w.states w.type_name t v.next) (one_free _ _ v.current w.current a.current b.current)
    ∙ ap (λ (t : List ℕ). words_with w.vars w.states w.type_name w.current t) (one_free _ _ v.next w.next a.next b.next)

pub one_text : OneText
one_text f a b p q = p.is ∙ ap (λ (w : Words). text w f) (one_words f p.words q.words p.named q.named) ∙ sym q.is
