-- Where readers stand.
use Rattle.std.proofs.Common.{◌≡◌, ℕ, zero, suc, ◌-◌, ◌<◌, ◌≤◌, List, [], ◌∷◌, ◌++◌, drop, take, length, Option, Some, None, IfSome, Ok, refl, sym, ap, subst, ◌∙◌, arith}
use Rattle.std.specs.Option.{option_map}
use Rattle.std.proofs.lemmas.List.{length-drop, take_all}
use Rattle.vhdl_token.specs.declared.token.PlacedToken.{PlacedToken}
use Rattle.grammar_theory.specs.Marks.{State}
use Rattle.grammar_theory.specs.Outcome.{At, Outcome, start}
use Rattle.vhdl_front.specs.Cursor.{rest_of}
use Rattle.vhdl_reader.specs.declared.done.Kind.{Kind}
use Rattle.vhdl_reader.specs.declared.done.Step.{Step}
use Rattle.vhdl_reader.specs.Place.{with_left, behind_token, behind, behind_read, behind_step, IsAccepted, IsAcceptedStep, AreAccepted, place, stands, IsStanding}

abbrev at_with : State → List PlacedToken → At
at_with state rest = record { state = state; rest = rest }

-- ---- tokens that are passed over

next_length : (a r q k : ℕ) → 0 < r → k ≡ a - r → r ≡ a - k → q ≡ r - 1 → a - q ≡ suc k
next_length a r q k some hk hr hq = omega arith

one_more : (n left : ℕ) → left < suc n → suc n - left ≡ suc (n - left)
one_more n left h = omega arith

none_more : (n left : ℕ) → n ≤ left → n - left ≡ 0
none_more n left h = omega arith

at_most : (n : ℕ) → n ≤ n
at_most n = omega arith

one_less : (n : ℕ) → n ≡ suc n - 1
one_less n = omega arith

length_rest : (ts : List PlacedToken) → length (rest_of ts) ≡ length ts - 1
length_rest [] = refl
length_rest (t ∷ ts) = one_less (length ts)

below_next : (n : ℕ) → n < suc n
below_next n = omega arith

pub shorter : (left : ℕ) (ts : List PlacedToken) → left < length ts → length (rest_of ts) < length ts
shorter left [] h = absurd (omega (arith, h))
shorter left (t ∷ ts) h = below_next (length ts)

few_behind : (n : ℕ) → n ≤ suc n - 1
few_behind n = omega arith

pub first_passed : (ts : List PlacedToken) → take (length ts - 1) (drop 1 ts) ≡ rest_of ts
first_passed [] = take_all (length {A = PlacedToken} [] - 1) [] (omega arith)
first_passed (t ∷ ts) = take_all (length (t ∷ ts) - 1) ts (few_behind (length ts))

drop_next : (n : ℕ) (ts : List PlacedToken) → rest_of (drop n ts) ≡ drop (suc n) ts
drop_next zero [] = refl
drop_next zero (t ∷ ts) = refl
drop_next (suc n) [] = refl
drop_next (suc n) (t ∷ ts) = drop_next n ts

next_left : (left : ℕ) (ts : List PlacedToken) → left < length ts → drop (length (rest_of ts) - left) (rest_of ts) ≡ drop (length ts - left) ts
next_left left [] h = refl
next_left left (t ∷ ts) h = rw (one_more (length ts) left h) refl

pub passed_one : (left : ℕ) (here : At) → left < length here.rest → with_left left (record { state = here.state; rest = rest_of here.rest }) ≡ with_left left here
passed_one left here h = ap (at_with here.state) (next_left left here.rest h)

pub passed_all : (left : ℕ) (here : At) → length here.rest ≤ left → with_left left here ≡ here
passed_all left here h = ap (λ (n : ℕ). at_with here.state (drop n here.rest)) (none_more (length here.rest) left h)

stands_next : (behind : At) (rest : List PlacedToken) → 0 < length rest → at_with behind.state rest ≡ with_left (length rest) behind
    → at_with behind.state (rest_of rest) ≡ with_left (length (rest_of rest)) behind
stands_next behind rest some h =
    let k = length behind.rest - length rest in
    let r : rest ≡ drop k behind.rest = ap (λ (x : At). x.rest) h in
    let l : length rest ≡ length behind.rest - k = ap length r ∙ length-drop k behind.rest in
    let e : length behind.rest - length (rest_of rest) ≡ suc k = next_length (length behind.rest) (length rest) (length (rest_of rest)) k some refl l (length_rest rest) in
    let n : rest_of rest ≡ drop (suc k) behind.rest = ap rest_of r ∙ drop_next k behind.rest in
    ap (at_with behind.state) (n ∙ ap (λ (j : ℕ). drop j behind.rest) (sym e))

pub next_standing : (tokens : List PlacedToken) (done : List Step) (rest after : List PlacedToken) (kept new : Option At) → 0 < length rest → after ≡ rest_of rest
    → new ≡ option_map behind_token kept → IsStanding tokens done rest kept → IsStanding tokens done after new
next_standing tokens done rest after kept new some same moved standing =
    let There : List PlacedToken → Option At → Type 0 = λ ts k. IsStanding tokens done ts k in
    let Rest : List PlacedToken → Type 0 = λ ts. There ts new in
    let Kept : Option At → Type 0 = λ k. There (rest_of rest) k in
    subst Rest (sym same) (subst Kept (sym moved) (record {
      accepted = standing.accepted;
      left = stands_next (place done (start tokens)) rest some standing.left;
      live = live kept standing.live;
    })) where
      live : (k : Option At) → IfSome k (λ c. c ≡ stands tokens done rest) → IfSome (option_map behind_token k) (λ c. c ≡ stands tokens done (rest_of rest))
      live None h = tt
      live (Some c) h = ap behind_token h

-- ---- what was read

pub behind_ok : {A : Type 0} (here : At) (o : Outcome A) (v : A) (there : At) → o ≡ Ok (v, there) → there ≡ behind here o
behind_ok here o v there e = sym (ap (behind here) e)

pub place_more : (done : List Step) (s : Step) (here : At) → place (done ++ s ∷ []) here ≡ behind_step s (place done here)
place_more [] s here = refl
place_more (x ∷ done) s here = place_more done s (behind_step x here)

pub went_on : (tokens : List PlacedToken) (done : List Step) (rest : List PlacedToken) (k : Kind) (room : ℕ) (c : At)
    → stands tokens done rest ≡ with_left (length rest) (place done (start tokens)) → c ≡ behind_read k room (stands tokens done rest)
    → place (done ++ record { kind = k; room = room; left = length rest } ∷ []) (start tokens) ≡ c
went_on tokens done rest k room c left is = place_more done (record { kind = k; room = room; left = length rest }) (start tokens) ∙ (ap (behind_read k room) (sym left) ∙ sym is)

pub stands_behind : (tokens : List PlacedToken) (done : List Step) (c : At) → place done (start tokens) ≡ c → stands tokens done c.rest ≡ c
stands_behind tokens done c e = ap (λ (p : At). at_with p.state c.rest) e

accepted_more : (done : List Step) (s : Step) (here : At) → AreAccepted done here → IsAcceptedStep s (place done here) → AreAccepted (done ++ s ∷ []) here
accepted_more [] s here all last = (last, tt)
accepted_more (x ∷ done) s here all last = (all.0, accepted_more done s (behind_step x here) all.1 last)

pub went_on_accepted : (tokens : List PlacedToken) (done : List Step) (rest : List PlacedToken) (k : Kind) (room : ℕ)
    → stands tokens done rest ≡ with_left (length rest) (place done (start tokens)) → AreAccepted done (start tokens) → IsAccepted k room (stands tokens done rest)
    → AreAccepted (done ++ record { kind = k; room = room; left = length rest } ∷ []) (start tokens)
went_on_accepted tokens done rest k room left all last =
    let From : At → Type 0 = λ h. IsAccepted k room h in
    accepted_more done (record { kind = k; room = room; left = length rest }) (start tokens) all (subst From left last)

pub standing : (tokens : List PlacedToken) (done : List Step) (c : At) → AreAccepted done (start tokens) → place done (start tokens) ≡ c → IsStanding tokens done c.rest (Some c)
standing tokens done c all e = record {
  accepted = all;
  left = stands_behind tokens done c e ∙ (sym (passed_all (length c.rest) c (at_most (length c.rest))) ∙ ap (with_left (length c.rest)) (sym e));
  live = sym (stands_behind tokens done c e);
}
