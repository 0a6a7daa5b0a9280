-- Reading items in a loop.
use Rattle.std.proofs.Common.{◌≡◌, ℕ, zero, suc, ◌≤◌, ◌<◌, Bool, true, false, cond, eqb, List, [], ◌∷◌, ◌++◌, length, Ok, Err, refl, sym, ap, subst, ◌∙◌, append_assoc, arith}
use Rattle.std.proofs.lemmas.List.{append-nil}
use Rattle.vhdl_token.specs.declared.token.PlacedToken.{PlacedToken}
use Rattle.grammar_theory.specs.declared.refusal.Stop.{Stop}
use Rattle.grammar_theory.specs.declared.refusal.Stop.TheVariants as stop
use Rattle.grammar_theory.specs.Tokens.{among}
use Rattle.grammar_theory.specs.Grammar.{Grammar}
use Rattle.grammar_theory.specs.Outcome.{At, Outcome, Reader, Fails, ◌>>=◌, many_at, list_at, with_front}
use Rattle.grammar_theory.specs.Answers.{Accepts, Answers}
use Rattle.grammar_theory.proofs.Sets.{Set}
use Rattle.grammar_theory.proofs.Exact.{Shape, Reads}
use Rattle.grammar_theory.proofs.Many.{shorter}
use Rattle.grammar_theory.proofs.Bundle.{Exact}

-- what a loop keeps, with the items so far in done, where total is what the whole loop reads
pub record Listed {A : Type 0} (kinds : Set) (item : Reader A) (done : List A) (here : At) (total : Outcome (List A)) : Type 0 where
  pub fuel : ℕ
  pub enough : length here.rest ≤ fuel
  pub so_far : with_front done (many_at kinds item fuel here) ≡ total

no_front : {A : Type 0} (read : Outcome (List A)) → with_front [] read ≡ read
no_front (Ok x) = refl
no_front (Err e) = refl

regroup : {A : Type 0} (front : List A) (v : A) (read : Outcome (List A)) → with_front front (read >>= λ x. Ok (v ∷ x.0, x.1)) ≡ with_front (front ++ v ∷ []) read
regroup {A} front v (Ok x) = ap (λ (vs : List A). Ok (vs, x.1)) (sym (append_assoc front (v ∷ []) x.0))
regroup front v (Err e) = refl

pub list_begins : {A : Type 0} (kinds : Set) (item : Reader A) (start : At) → Listed kinds item [] start (list_at kinds item start)
unfolding list_at
list_begins kinds item start = record { fuel = length start.rest; enough = omega arith; so_far = no_front (many_at kinds item (length start.rest) start) }

pub list_begins_with : {A : Type 0} (kinds : Set) (item : Reader A) (front : List A) (start : At) → Listed kinds item front start (with_front front (list_at kinds item start))
unfolding list_at
list_begins_with kinds item front start = record { fuel = length start.rest; enough = omega arith; so_far = refl }

some_token : (kinds : Set) (ts : List PlacedToken) → among kinds ts ≡ true → 0 < length ts
some_token kinds [] e = absurd cc
some_token kinds (t ∷ ts) e = omega arith

pub list_goes_on : {A : Type 0} (kinds : Set) (item : Reader A) (done : List A) (here : At) (total : Outcome (List A)) → Listed kinds item done here total
    → among kinds here.rest ≡ true → (v : A) (there : At) → item here ≡ Ok (v, there) → length there.rest < length here.rest → Listed kinds item (done ++ v ∷ []) there total
unfolding many_at
list_goes_on {A} kinds item done here total kept at v there h less = go kept.fuel kept.enough kept.so_far where
  go : (n : ℕ) → length here.rest ≤ n → with_front done (many_at kinds item n here) ≡ total → Listed kinds item (done ++ v ∷ []) there total
  go zero le e = absurd (omega (arith, some_token kinds here.rest at))
  go (suc n) le e =
      let one : with_front done (many_at kinds item (suc n) here) ≡ with_front (done ++ v ∷ []) (many_at kinds item n there) = rw (at, h) (regroup done v (many_at kinds item n there)) in
      record { fuel = n; enough = omega arith; so_far = sym one ∙ e }

pub list_fails : {A : Type 0} (kinds : Set) (item : Reader A) (done : List A) (here : At) (total : Outcome (List A)) → Listed kinds item done here total
    → among kinds here.rest ≡ true → (e : Stop) → Fails e (item here) → Fails e total
unfolding many_at
list_fails kinds item done here total kept at stop.Memory h = tt
list_fails {A} kinds item done here total kept at (stop.Refused r) h = go kept.fuel kept.enough kept.so_far where
  go : (n : ℕ) → length here.rest ≤ n → with_front done (many_at kinds item n here) ≡ total → total ≡ Err r
  go zero le e = absurd (omega (arith, some_token kinds here.rest at))
  go (suc n) le e =
      let one : with_front done (many_at kinds item (suc n) here) ≡ Err r = rw (at, h) refl in
      sym e ∙ one

pub list_ends : {A : Type 0} (kinds : Set) (item : Reader A) (done : List A) (here : At) (total : Outcome (List A)) → Listed kinds item done here total
    → among kinds here.rest ≡ false → total ≡ Ok (done, here)
unfolding many_at
list_ends {A} kinds item done here total kept at = go kept.fuel kept.so_far where
  at_last : List A → Outcome (List A)
  at_last vs = Ok (vs, here)

  last : at_last (done ++ []) ≡ at_last done
  last = ap at_last (append-nil done)

  go : (n : ℕ) → with_front done (many_at kinds item n here) ≡ total → total ≡ Ok (done, here)
  go zero e = sym e ∙ last
  go (suc n) e =
      let one : with_front done (many_at kinds item (suc n) here) ≡ Ok (done ++ [], here) = rw at refl in
      sym e ∙ one ∙ last

-- an item takes tokens
pub consumes : {A : Type 0} (B : Grammar A) (f l : Set) (r : Reader A) → Shape B false f l → Reads B r → (here there : At) (v : A) → r here ≡ Ok (v, there) → length there.rest < length here.rest
consumes {A} B f l r shape reads here there v h =
    let Right : Outcome A → Type 0 = λ o. Answers B here o in
    let a : Accepts B here v there = subst Right h (reads.answers here) in
    shorter B f l shape here there v a
