-- One answer is right.
use Rattle.std.proofs.Common.{◌≡◌, ℕ, Bool, List, [], ◌∷◌, ◌++◌, ◌⊎◌, inl, inr, length, refl, sym, ap, subst, ◌∙◌, append_assoc, Result, Ok, Err}
use Rattle.std.proofs.lemmas.List.{append-nil}
use Rattle.vhdl_token.specs.declared.token.PlacedToken.{PlacedToken}
use Rattle.grammar_theory.specs.declared.refusal.Breach.{Breach}
use Rattle.grammar_theory.specs.declared.refusal.Reason.{Reason}
use Rattle.grammar_theory.specs.declared.refusal.Reason.TheVariants as reason
use Rattle.grammar_theory.specs.declared.refusal.Refusal.{Refusal}
use Rattle.grammar_theory.specs.Marks.{Item, State, step, run, go_on}
use Rattle.grammar_theory.specs.Grammar.{Grammar, Begins}
use Rattle.grammar_theory.specs.Outcome.{At, Outcome, Reader, finish}
use Rattle.grammar_theory.specs.Answers.{Meets, Accepts, StopsAt, Refuses, Faults, Breaks, Blames, Misses, Ends, Rejects, Answers, AnswersAll, tokens_of}
use Rattle.grammar_theory.specs.Unique.{OneAnswer, OneAnswerToAll}
use Rattle.grammar_theory.proofs.Sets.{Set}
use Rattle.grammar_theory.proofs.Exact.{Shape}
use Rattle.grammar_theory.proofs.End.{answers_all}
use Rattle.grammar_theory.proofs.Sequence.{run-append}
use Rattle.grammar_theory.proofs.Levels.{agree}

-- ---- two ways to part the same tokens

-- the first items go on behind the tokens of the second, with the next of the rest
record Longer (p q : List Item) (rest : List PlacedToken) : Type 0 where
  pub start : List Item
  pub next : Item
  pub more : List Item
  pub is : p ≡ start ++ next ∷ more
  pub tokens : tokens_of start ≡ tokens_of q
  pub rest_more : List PlacedToken
  pub rest_is : rest ≡ next.token ∷ rest_more

abbrev Parted : List Item → List PlacedToken → List Item → List PlacedToken → Type 0
Parted p r q s = ((tokens_of p ≡ tokens_of q) × (r ≡ s)) ⊎ (Longer p q s ⊎ Longer q p r)

one_more : (p q : List Item) (rest : List PlacedToken) (i j : Item) → i.token ≡ j.token → Longer p q rest → Longer (i ∷ p) (j ∷ q) rest
one_more p q rest i j e l = record {
  start = i ∷ l.start;
  next = l.next;
  more = l.more;
  is = ap (λ (z : List Item). i ∷ z) l.is;
  tokens = cc (e, l.tokens);
  rest_more = l.rest_more;
  rest_is = l.rest_is;
}

part : (p : List Item) (r : List PlacedToken) (q : List Item) (s : List PlacedToken) → tokens_of p ++ r ≡ tokens_of q ++ s → Parted p r q s
part [] r [] s e = inl (refl, e)
part (i ∷ p) r [] s e = inr (inl (record { start = []; next = i; more = p; is = refl; tokens = refl; rest_more = tokens_of p ++ r; rest_is = sym e }))
part [] r (j ∷ q) s e = inr (inr (record { start = []; next = j; more = q; is = refl; tokens = refl; rest_more = tokens_of q ++ s; rest_is = e }))
part (i ∷ p) r (j ∷ q) s e =
    let heads : i.token ≡ j.token = cc in
    let tails : tokens_of p ++ r ≡ tokens_of q ++ s = cc in
    elim (part p r q s tails) [
      | inl same ↦ inl (cc (same.0, heads), same.1)
      | inr (inl l) ↦ inr (inl (one_more p q s i j heads l))
      | inr (inr l) ↦ inr (inr (one_more q p r j i (sym heads) l))
    ]

-- the first items are the second, and go on with the next token of the rest
record GoesOn (p q : List Item) (rest : List PlacedToken) : Type 0 where
  pub next : Item
  pub more : List Item
  pub is : p ≡ q ++ next ∷ more
  pub rest_more : List PlacedToken
  pub rest_is : rest ≡ next.token ∷ rest_more

meets : (p q : List Item) (rest : List PlacedToken) (w : List Item) → (g : GoesOn p q rest) → Meets ((g.next ∷ g.more) ++ w) rest
meets p q rest w g = record { next = g.next; w_more = g.more ++ w; rest_more = g.rest_more; w_is = refl; rest_is = g.rest_is }

-- What stops a reader behind these tokens: with the next one they begin no sentence, or it is a breach.
abbrev Bars : {A : Type 0} → Grammar A → State → Reason → List Item → List PlacedToken → Type 0
Bars {A} G state reason.Syntax front rest = (w : List Item) (v : A) → G (front ++ w) v → Meets w rest → ⊥
Bars G state (reason.Breach b) front rest = Breaks G state b front rest

abbrev Stops : {A : Type 0} → Grammar A → At → Refusal → Type 0
Stops G here refused = StopsAt G (Bars G) here refused

blame_bars : {A : Type 0} (G : Grammar A) (s : State) (front : List Item) (rest : List PlacedToken) (which : Reason) → Blames G s which front rest → Bars G s which front rest
blame_bars G s front rest reason.Syntax f = f.dead
blame_bars G s front rest (reason.Breach b) f = f

end_bars : {A : Type 0} (G : Grammar A) (s : State) (front : List Item) (rest : List PlacedToken) (which : Reason) → Ends G s which front rest → Bars G s which front rest
end_bars G s front rest reason.Syntax f = f.dead
end_bars G s front rest (reason.Breach b) f = f

abbrev refuses_stops : {A : Type 0} (G : Grammar A) (here : At) (r : Refusal) → Refuses G here r → Stops G here r
refuses_stops G here r a = record { front = a.front; rest = a.rest; state = a.state; parts = a.parts; place = a.place; viable = a.viable; clean = a.clean; blame = blame_bars G a.state a.front a.rest r.reason a.blame }

abbrev rejects_stops : {A : Type 0} (G : Grammar A) (here : At) (r : Refusal) → Rejects G here r → Stops G here r
rejects_stops G here r a = record { front = a.front; rest = a.rest; state = a.state; parts = a.parts; place = a.place; viable = a.viable; clean = a.clean; blame = end_bars G a.state a.front a.rest r.reason a.blame }

-- ---- with the shape of a grammar

at_end : {A : Type 0} (G : Grammar A) (p : List Item) (v : A) → G p v → G (p ++ []) v
at_end G p v h = subst (λ (k : List Item). G k v) (sym (append-nil p)) h

goes_on : {A : Type 0} (G : Grammar A) (null : Bool) (f l : Set) → Shape G null f l → (p q w z : List Item) (v u : A) (rest : List PlacedToken)
    → G (p ++ w) v → G (q ++ z) u → Longer p q rest → GoesOn p q rest
goes_on G null f l sh p q w z v u rest h g longer =
    let split : G (longer.start ++ ((longer.next ∷ longer.more) ++ w)) v = subst (λ (k : List Item). G k v) (append_assoc longer.start (longer.next ∷ longer.more) w) (subst (λ (k : List Item). G (k ++ w) v) longer.is h) in
    let same : longer.start ≡ q = agree G null f l sh longer.start q ((longer.next ∷ longer.more) ++ w) z v u split g longer.tokens in
    record { next = longer.next; more = longer.more; is = longer.is ∙ ap (λ (k : List Item). k ++ longer.next ∷ longer.more) same; rest_more = longer.rest_more; rest_is = longer.rest_is }

-- a sentence that goes on from items with the next token of the rest
continued : {A : Type 0} (G : Grammar A) (p q w : List Item) (v : A) (rest : List PlacedToken) → (g : GoesOn p q rest) → G (p ++ w) v → G (q ++ ((g.next ∷ g.more) ++ w)) v
continued G p q w v rest g h = subst (λ (k : List Item). G k v) (append_assoc q (g.next ∷ g.more) w) (subst (λ (k : List Item). G (k ++ w) v) g.is h)

states_are : (p q : List Item) (from s t : State) → p ≡ q → run p from ≡ Ok s → run q from ≡ Ok t → s ≡ t
states_are p q from s t same h g = let e : run p from ≡ run q from = ap (λ (z : List Item). run z from) same in cc (e, h, g)

-- behind a breach nothing is read
broken_run : (q : List Item) (i : Item) (more : List Item) (from state end : State) (b : Breach) → run q from ≡ Ok state → step i.mark state ≡ Err b → run (q ++ i ∷ more) from ≡ Ok end → ⊥
broken_run q i more from state end b clean broken all =
    let on : run (q ++ i ∷ more) from ≡ run (i ∷ more) state = run-append q (i ∷ more) from state clean in
    let stopped : run (i ∷ more) state ≡ Err b = ap (λ (r : Result State Breach). go_on r (run more)) broken in
    cc (on, stopped, all)

next_is : {A : Type 0} (G : Grammar A) (null : Bool) (f l : Set) → Shape G null f l → (q : List Item) (i j : Item) (w z : List Item) (v u : A) (rest m n : List PlacedToken)
    → G (q ++ (i ∷ w)) v → G (q ++ (j ∷ z)) u → rest ≡ i.token ∷ m → rest ≡ j.token ∷ n → i ≡ j
next_is G null f l sh q i j w z v u rest m n h g a b = let token : i.token ≡ j.token = cc in sh.marks q i j w z v u h g token

-- no clean beginning goes beyond where a reader is stopped
no_farther : {A : Type 0} (G : Grammar A) (null : Bool) (f l : Set) → Shape G null f l → (from : State) (p w : List Item) (v : A) (end : State) → G (p ++ w) v → run p from ≡ Ok end
    → (q : List Item) (rest : List PlacedToken) (state : State) (which : Reason) → run q from ≡ Ok state → Bars G state which q rest → GoesOn p q rest → ⊥
no_farther G null f l sh from p w v end h all q rest state reason.Syntax clean bars g = bars ((g.next ∷ g.more) ++ w) v (continued G p q w v rest g h) (meets p q rest w g)
no_farther G null f l sh from p w v end h all q rest state (reason.Breach b) clean bars g =
    let alive = subst (λ (k : List Item). G k bars.alive.1) (append_assoc q (bars.next ∷ []) bars.alive.0) bars.alive.2 in
    let same : bars.next ≡ g.next = next_is G null f l sh q bars.next g.next bars.alive.0 (g.more ++ w) bars.alive.1 v rest bars.more g.rest_more alive (continued G p q w v rest g h) bars.rest_is g.rest_is in
    let broken : step g.next.mark state ≡ Err b = subst (λ (i : Item). step i.mark state ≡ Err b) same bars.broken in
    broken_run q g.next g.more from state end b clean broken (subst (λ (k : List Item). run k from ≡ Ok end) g.is all)

-- ---- two answers

refusal_is : (d e : Refusal) → d.reason ≡ e.reason → d.left ≡ e.left → d ≡ e
refusal_is d e a b =
    let made : Reason → ℕ → Refusal = λ r n. record { reason = r; left = n } in
    ap (λ (r : Reason). made r d.left) a ∙ ap (λ (n : ℕ). made e.reason n) b

-- a token with which a sentence begins is no end
alive_or_dead : {A : Type 0} (G : Grammar A) (state : State) (front : List Item) (rest : List PlacedToken) (c : Breach) → Bars G state reason.Syntax front rest → Breaks G state c front rest → ⊥
alive_or_dead G state front rest c a b =
    a (b.next ∷ b.alive.0) b.alive.1 (subst (λ (k : List Item). G k b.alive.1) (append_assoc front (b.next ∷ []) b.alive.0) b.alive.2)
    (record { next = b.next; w_more = b.alive.0; rest_more = b.more; w_is = refl; rest_is = b.rest_is })

same_reason : {A : Type 0} (G : Grammar A) (null : Bool) (f l : Set) → Shape G null f l → (state : State) (front : List Item) (rest : List PlacedToken) (d e : Reason) → Bars G state d front rest → Bars G state e front rest → d ≡ e
same_reason G null f l sh state front rest reason.Syntax reason.Syntax a b = refl
same_reason G null f l sh state front rest reason.Syntax (reason.Breach c) a b = absurd (alive_or_dead G state front rest c a b)
same_reason G null f l sh state front rest (reason.Breach c) reason.Syntax a b = absurd (alive_or_dead G state front rest c b a)
same_reason G null f l sh state front rest (reason.Breach c) (reason.Breach d) a b =
    let one = subst (λ (k : List Item). G k a.alive.1) (append_assoc front (a.next ∷ []) a.alive.0) a.alive.2 in
    let two = subst (λ (k : List Item). G k b.alive.1) (append_assoc front (b.next ∷ []) b.alive.0) b.alive.2 in
    let same : a.next ≡ b.next = next_is G null f l sh front a.next b.next a.alive.0 b.alive.0 a.alive.1 b.alive.1 rest a.more b.more one two a.rest_is b.rest_is in
    let steps : step a.next.mark state ≡ step b.next.mark state = ap (λ (i : Item). step i.mark state) same in
    cc (steps, a.broken, b.broken)

one_stop : {A : Type 0} (G : Grammar A) (null : Bool) (f l : Set) → Shape G null f l → (here : At) (d e : Refusal) → Stops G here d → Stops G here e → d ≡ e
one_stop {A} G null f l sh here d e a b = elim (part a.front a.rest b.front b.rest (sym a.parts ∙ b.parts)) [
  | inl same ↦ level same.0 same.1
  | inr (inl longer) ↦ absurd (no_farther G null f l sh here.state a.front a.viable.0 a.viable.1 a.state a.viable.2 a.clean b.front b.rest b.state e.reason b.clean b.blame
      (goes_on G null f l sh a.front b.front a.viable.0 b.viable.0 a.viable.1 b.viable.1 b.rest a.viable.2 b.viable.2 longer))
  | inr (inr longer) ↦ absurd (no_farther G null f l sh here.state b.front b.viable.0 b.viable.1 b.state b.viable.2 b.clean a.front a.rest a.state d.reason a.clean a.blame
      (goes_on G null f l sh b.front a.front b.viable.0 a.viable.0 b.viable.1 a.viable.1 a.rest b.viable.2 a.viable.2 longer))
] where
  level : tokens_of a.front ≡ tokens_of b.front → a.rest ≡ b.rest → d ≡ e
  level tokens rest =
      let same = agree G null f l sh a.front b.front a.viable.0 b.viable.0 a.viable.1 b.viable.1 a.viable.2 b.viable.2 tokens in
      let states = states_are a.front b.front here.state a.state b.state same a.clean b.clean in
      let bars : Bars G b.state d.reason b.front b.rest =
      subst (λ (z : State). Bars G z d.reason b.front b.rest) states
      (subst (λ (z : List Item). Bars G a.state d.reason z b.rest) same
      (subst (λ (z : List PlacedToken). Bars G a.state d.reason a.front z) rest a.blame)) in
      refusal_is d e (same_reason G null f l sh b.state b.front b.rest d.reason e.reason bars b.blame) (a.place ∙ ap length rest ∙ sym b.place)

one_value : {A : Type 0} (G : Grammar A) (null : Bool) (f l : Set) → Shape G null f l → (here s t : At) (v u : A) → Accepts G here v s → Accepts G here u t → ◌≡◌ {A = A × At} (v, s) (u, t)
one_value {A} G null f l sh here s t v u a b = elim (part a.front s.rest b.front t.rest (sym a.parts ∙ b.parts)) [
  | inl same ↦ level same.0 same.1
  | inr (inl longer) ↦ absurd (beyond b v (at_end G a.front v a.sentence) (goes_on G null f l sh a.front b.front [] [] v u t.rest (at_end G a.front v a.sentence) (at_end G b.front u b.sentence) longer))
  | inr (inr longer) ↦ absurd (beyond a u (at_end G b.front u b.sentence) (goes_on G null f l sh b.front a.front [] [] u v s.rest (at_end G b.front u b.sentence) (at_end G a.front v a.sentence) longer))
] where
  level : tokens_of a.front ≡ tokens_of b.front → s.rest ≡ t.rest → ◌≡◌ {A = A × At} (v, s) (u, t)
  level tokens rest =
      let same = agree G null f l sh a.front b.front [] [] v u (at_end G a.front v a.sentence) (at_end G b.front u b.sentence) tokens in
      let values = sh.same b.front v u (subst (λ (z : List Item). G z v) same a.sentence) b.sentence in
      let states = states_are a.front b.front here.state s.state t.state same a.clean b.clean in
      let made : A → State → List PlacedToken → A × At = λ x c ts. (x, record { state = c; rest = ts }) in
      ap (λ (x : A). made x s.state s.rest) values ∙ ap (λ (c : State). made u c s.rest) states ∙ ap (λ (ts : List PlacedToken). made u t.state ts) rest

  beyond : {there : At} {x : A} (c : Accepts G here x there) {p : List Item} (y : A) → G (p ++ []) y → GoesOn p c.front there.rest → ⊥
  beyond {there} c {p} y h g = c.longest ((g.next ∷ g.more) ++ []) y (continued G p c.front [] y there.rest g h) (meets p c.front there.rest [] g)

-- a sentence that is read, and a stop, of which only what is left tells whether they stand at one place
never_beyond : {A : Type 0} (G : Grammar A) (null : Bool) (f l : Set) → Shape G null f l → (here there : At) (v : A) (r : Refusal) → (a : Accepts G here v there) → (b : Stops G here r)
    → ((a.front ≡ b.front) → (there.rest ≡ b.rest) → ⊥) → ⊥
never_beyond G null f l sh here there v r a b level =
    let whole = at_end G a.front v a.sentence in
    elim (part a.front there.rest b.front b.rest (sym a.parts ∙ b.parts)) [
      | inl same ↦ level (agree G null f l sh a.front b.front [] b.viable.0 v b.viable.1 whole b.viable.2 same.0) same.1
      | inr (inl longer) ↦ no_farther G null f l sh here.state a.front [] v there.state whole a.clean b.front b.rest b.state r.reason b.clean b.blame
          (goes_on G null f l sh a.front b.front [] b.viable.0 v b.viable.1 b.rest whole b.viable.2 longer)
      | inr (inr longer) ↦
          let g = goes_on G null f l sh b.front a.front b.viable.0 [] b.viable.1 v there.rest b.viable.2 whole longer in
          a.longest ((g.next ∷ g.more) ++ b.viable.0) b.viable.1 (continued G b.front a.front b.viable.0 b.viable.1 there.rest g b.viable.2) (meets b.front a.front there.rest b.viable.0 g)
    ]

-- a token behind a sentence that is read is no breach
no_breach : {A : Type 0} (G : Grammar A) (here there : At) (v : A) (a : Accepts G here v there) (s : State) (c : Breach) → Breaks G s c a.front there.rest → ⊥
no_breach G here there v a s c b = alive_or_dead G s a.front there.rest c a.longest b

accepted_or_refused : {A : Type 0} (G : Grammar A) (null : Bool) (f l : Set) → Shape G null f l → (here there : At) (v : A) (r : Refusal) → Accepts G here v there → Refuses G here r → ⊥
accepted_or_refused G null f l sh here there v r a b = never_beyond G null f l sh here there v r a (refuses_stops G here r b) (λ same rest. level r.reason b.blame same rest) where
  level : (which : Reason) → Blames G b.state which b.front b.rest → a.front ≡ b.front → there.rest ≡ b.rest → ⊥
  level reason.Syntax blame same rest = blame.unfinished [] v (subst (λ (z : List Item). G z v) (same ∙ sym (append-nil b.front)) a.sentence) refl
  level (reason.Breach c) blame same rest = no_breach G here there v a b.state c (rw (same, rest) blame)

accepted_or_rejected : {A : Type 0} (G : Grammar A) (null : Bool) (f l : Set) → Shape G null f l → (here there : At) (v : A) (r : Refusal) → Accepts G here v there × (there.rest ≡ []) → Rejects G here r → ⊥
accepted_or_rejected G null f l sh here there v r a b = never_beyond G null f l sh here there v r a.0 (rejects_stops G here r b) (λ same rest. level r.reason b.blame same rest) where
  level : (which : Reason) → Ends G b.state which b.front b.rest → a.0.front ≡ b.front → there.rest ≡ b.rest → ⊥
  level reason.Syntax blame same rest = blame.unfinished (sym rest ∙ a.1) v (subst (λ (z : List Item). G z v) same a.0.sentence)
  level (reason.Breach c) blame same rest = no_breach G here there v a.0 b.state c (rw (same, rest) blame)

-- ---- the laws

at_most_one : {A : Type 0} (G : Grammar A) (null : Bool) (f l : Set) → Shape G null f l → (here : At) (x y : Outcome A) → Answers G here x → Answers G here y → x ≡ y
at_most_one G null f l sh here (Ok (v, s)) (Ok (u, t)) a b = ap (λ x. Ok x) (one_value G null f l sh here s t v u a b)
at_most_one G null f l sh here (Ok (v, s)) (Err r) a b = absurd (accepted_or_refused G null f l sh here s v r a b)
at_most_one G null f l sh here (Err r) (Ok (v, s)) a b = absurd (accepted_or_refused G null f l sh here s v r b a)
at_most_one G null f l sh here (Err d) (Err e) a b = ap (λ x. Err x) (one_stop G null f l sh here d e (refuses_stops G here d a) (refuses_stops G here e b))

pub one_answer : {A : Type 0} (G : Grammar A) (null : Bool) (f l : Set) → Shape G null f l → (read : Reader A) → ((here : At) → Answers G here (read here)) → OneAnswer G
one_answer G null f l sh read right here = (read here, right here, λ y h. at_most_one G null f l sh here y (read here) h (right here))

at_most_one_of_all : {A : Type 0} (G : Grammar A) (null : Bool) (f l : Set) → Shape G null f l → (here : At) (x y : Outcome A) → AnswersAll G here x → AnswersAll G here y → x ≡ y
at_most_one_of_all G null f l sh here (Ok (v, s)) (Ok (u, t)) a b = ap (λ x. Ok x) (one_value G null f l sh here s t v u a.0 b.0)
at_most_one_of_all G null f l sh here (Ok (v, s)) (Err r) a b = absurd (accepted_or_rejected G null f l sh here s v r a b)
at_most_one_of_all G null f l sh here (Err r) (Ok (v, s)) a b = absurd (accepted_or_rejected G null f l sh here s v r b a)
at_most_one_of_all G null f l sh here (Err d) (Err e) a b = ap (λ x. Err x) (one_stop G null f l sh here d e (rejects_stops G here d a) (rejects_stops G here e b))

pub one_answer_to_all : {A : Type 0} (G : Grammar A) (null : Bool) (f l : Set) → Shape G null f l → (read : Reader A) → ((here : At) → Answers G here (read here)) → OneAnswerToAll G
one_answer_to_all G null f l sh read right here =
    let x = finish (read here) in
    let is = answers_all G here (read here) (right here) in
    (x, is, λ y h. at_most_one_of_all G null f l sh here y x h is)

-- ---- what they say of a value and of a refusal

abbrev value_in : {A : Type 0} → A → Outcome A → A
value_in other (Ok x) = x.0
value_in other (Err r) = other

abbrev refusal_in : {A : Type 0} → Refusal → Outcome A → Refusal
refusal_in other (Ok x) = other
refusal_in other (Err r) = r

same : {A : Type 0} (G : Grammar A) → OneAnswerToAll G → (here : At) (x y : Outcome A) → AnswersAll G here x → AnswersAll G here y → x ≡ y
same G one here x y a b = (one here).2 x a ∙ sym ((one here).2 y b)

pub same_value : {A : Type 0} (G : Grammar A) → OneAnswerToAll G → (here s t : At) (v u : A) → AnswersAll G here (Ok (v, s)) → AnswersAll G here (Ok (u, t)) → v ≡ u
same_value G one here s t v u a b = ap (value_in v) (same G one here (Ok (v, s)) (Ok (u, t)) a b)

pub same_refusal : {A : Type 0} (G : Grammar A) → OneAnswerToAll G → (here : At) (d e : Refusal) → AnswersAll G here (Err d) → AnswersAll G here (Err e) → d ≡ e
same_refusal G one here d e a b = ap (refusal_in d) (same G one here (Err d) (Err e) a b)

pub never_both : {A : Type 0} (G : Grammar A) → OneAnswerToAll G → (here s : At) (v : A) (r : Refusal) → AnswersAll G here (Ok (v, s)) → AnswersAll G here (Err r) → ⊥
never_both {A} G one here s v r a b = apart (v, s) r (same G one here (Ok (v, s)) (Err r) a b) where
  apart : (x : A × At) (d : Refusal) → ◌≡◌ {A = Outcome A} (Ok x) (Err d) → ⊥
  apart x d e = cc

read_or_refused : {A : Type 0} (G : Grammar A) (here : At) (x : Outcome A) → AnswersAll G here x
    → ((v : A) × (s : At) × AnswersAll G here (Ok (v, s))) ⊎ ((r : Refusal) × AnswersAll G here (Err r))
read_or_refused G here (Ok (v, s)) a = inl (v, s, a)
read_or_refused G here (Err r) a = inr (r, a)

pub some_answer : {A : Type 0} (G : Grammar A) → OneAnswerToAll G → (here : At) → ((v : A) × (s : At) × AnswersAll G here (Ok (v, s))) ⊎ ((r : Refusal) × AnswersAll G here (Err r))
some_answer G one here = read_or_refused G here (one here).0 (one here).1
