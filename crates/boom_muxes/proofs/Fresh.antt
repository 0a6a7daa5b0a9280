-- A text that none of some names has.
use Rattle.std.proofs.Common.{◌≡◌, ℕ, zero, suc, ◌+◌, ◌-◌, ◌<◌, ◌≤◌, ◌^◌, Bool, true, false, not, ◌&&◌, List, [], ◌∷◌, ◌++◌, length, map, filter, take, codes, bytes_eq, refl, sym, ap, subst, ◌∙◌, arith, length-append, if◌then◌else◌}
use Rattle.std.specs.List.{slice_index_or}
use Rattle.std.proofs.lemmas.List.{length-map}
use Rattle.std.proofs.lemmas.Slice.Eq.{bytes_eq-Decides}
use Rattle.vlsi_base.specs.declared.name.Name.{Name}
use Rattle.vlsi_base.specs.declared.name.Port.{Port}
use Rattle.vlsi_base.specs.Member.{In, here, there}
use Rattle.vlsi_base.specs.Range.{rising}
use Rattle.machine_core.specs.Machine.{names_of}
use Rattle.text_names.specs.Free.{is_free, numbered, free_numbers, free_texts}
use Rattle.text_names.proofs.Enough.{are_free, same_length}
use Rattle.boom_muxes.specs.Names.{IsFreshText, texts_of}

-- the first number from k on that passes a test
record IsFirst (p : ℕ → Bool) (k n : ℕ) : Type 0 where
  at : ℕ
  low : k ≤ at
  high : at < k + n
  passes : p at ≡ true
  alone : take 1 (filter p (rising k n)) ≡ at ∷ []

first : (p : ℕ → Bool) (k n : ℕ) → length (take 1 (filter p (rising k n))) ≡ 1 → IsFirst p k n
first p k zero one = absurd (cc one)
first p k (suc n) one = by (p k) refl (first p (k + 1) n) one where
  by : (b : Bool) → p k ≡ b → (length (take 1 (filter p (rising (k + 1) n))) ≡ 1 → IsFirst p (k + 1) n)
      → length (take 1 (if b then k ∷ filter p (rising (k + 1) n) else filter p (rising (k + 1) n))) ≡ 1 → IsFirst p k (suc n)
  by true t later o = record {
    at = k;
    low = omega arith;
    high = omega arith;
    passes = t;
    alone = ap (λ (b : Bool). take 1 (if b then k ∷ filter p (rising (k + 1) n) else filter p (rising (k + 1) n))) t;
  }
  by false t later o =
      let f = later o in
      let low = f.low in
      let high = f.high in
      record {
        at = f.at;
        low = omega (arith, low);
        high = omega (arith, high);
        passes = f.passes;
        alone = ap (λ (b : Bool). take 1 (if b then k ∷ filter p (rising (k + 1) n) else filter p (rising (k + 1) n))) t ∙ f.alone;
      }

itself : (t : List ℕ) → bytes_eq t t ≡ true
itself t = (bytes_eq-Decides t t).1 refl

free_not : (taken : List (List ℕ)) (text : List ℕ) → is_free taken text ≡ true → In text taken → ⊥
free_not [] text h i = elim i [ ]
free_not (t ∷ taken) text h here = by (bytes_eq t t) (itself t) h where
  by : (b : Bool) → b ≡ true → (not b && is_free taken t) ≡ true → ⊥
  by true e h = absurd (cc h)
  by false e h = absurd (cc e)
free_not (t ∷ taken) text h (there i) = by (bytes_eq t text) h (λ k. free_not taken text k i) where
  by : (b : Bool) → (not b && is_free taken text) ≡ true → (is_free taken text ≡ true → ⊥) → ⊥
  by true h rest = absurd (cc h)
  by false h rest = rest h

text_in : (names : List Name) (name : Name) → In name names → In name.text (texts_of names)
text_in (n ∷ names) name here = here
text_in (n ∷ names) name (there i) = there (text_in names name i)
text_in [] name i = elim i [ ]

how_many : (ports : List Port) (names : List Name) → length (texts_of (names_of ports ++ names)) ≡ length ports + length names
how_many ports names =
    length-map (names_of ports ++ names) (λ (n : Name). n.text)
    ∙ length-append (names_of ports) names
    ∙ ap (λ (n : ℕ). n + length names) (length-map ports (λ (p : Port). p.name))

-- there is one free text
pub one_text : (ports : List Port) (names : List Name) (texts : List (List ℕ)) → length ports + length names < 2 ^ 32 - 1
    → texts ≡ free_texts (codes "n") (texts_of (names_of ports ++ names)) 1 → length texts ≡ 1
one_text ports names texts few is =
    let many = how_many ports names in
    ap length is ∙ (are_free (codes "n") (texts_of (names_of ports ++ names)) 1 (omega (arith, few, many))).each

first_found : (taken : List (List ℕ)) → length (free_texts (codes "n") taken 1) ≡ 1 → IsFirst (λ k. is_free taken (numbered (codes "n") k)) 0 (1 + length taken)
first_found taken one =
    first (λ k. is_free taken (numbered (codes "n") k)) 0 (1 + length taken) (sym (same_length (numbered (codes "n")) (free_numbers (codes "n") taken 1)) ∙ one)

fresh_by : (names : List Name) (text : List ℕ) (f : IsFirst (λ k. is_free (texts_of names) (numbered (codes "n") k)) 0 (1 + length (texts_of names)))
    → length (texts_of names) < 2 ^ 32 - 1 → text ≡ numbered (codes "n") f.at → IsFreshText names text
fresh_by names text f few is = record {
  number = f.at;
  few = let high = f.high in omega (arith, high, few);
  is = is;
  fresh = λ name i e. free_not (texts_of names) (numbered (codes "n") f.at) f.passes (subst (λ (t : List ℕ). In t (texts_of names)) (e ∙ is) (text_in names name i));
}

-- and it is fresh
pub is_fresh : (ports : List Port) (names : List Name) (texts : List (List ℕ)) (text : List ℕ) → length ports + length names < 2 ^ 32 - 1
    → texts ≡ free_texts (codes "n") (texts_of (names_of ports ++ names)) 1 → text ≡ slice_index_or texts 0 text → IsFreshText (names_of ports ++ names) text
is_fresh ports names texts text few is at =
    let many = how_many ports names in
    let one = sym (ap length is) ∙ one_text ports names texts few is in
    let found = first_found (texts_of (names_of ports ++ names)) one in
    fresh_by (names_of ports ++ names) text found (omega (arith, few, many))
    (at ∙ ap (λ (l : List (List ℕ)). slice_index_or l 0 text) (is ∙ ap (map (numbered (codes "n"))) found.alone))
