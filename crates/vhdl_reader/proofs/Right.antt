-- From reading to what the grammar says.
use Rattle.std.proofs.Common.{◌≡◌, ℕ, List, Ok, Err, refl, sym, subst}
use Rattle.vlsi_base.specs.declared.fault.ReadError.{ReadError}
use Rattle.vlsi_base.specs.declared.fault.ReadError.TheVariants as errors
use Rattle.vhdl_token.specs.declared.token.PlacedToken.{PlacedToken}
use Rattle.grammar_theory.specs.declared.refusal.Refusal.{Refusal}
use Rattle.grammar_theory.specs.declared.refusal.Stop.{Stop}
use Rattle.grammar_theory.specs.declared.refusal.Stop.TheVariants as stop
use Rattle.grammar_theory.specs.Grammar.{Grammar}
use Rattle.grammar_theory.specs.Outcome.{At, Outcome, Reader, Fails}
use Rattle.grammar_theory.specs.Answers.{Accepts, Refuses, Answers}
use Rattle.vhdl_front.specs.Front.{error_of, OrMemory, Becomes}
use Rattle.vhdl_reader.specs.Front.{Front, IsRefusal, Keeps, IsRead}

abbrev pub Reads : {A : Type 0} → Grammar A → Reader A → Type 0
Reads {A} G read = (here : At) → Answers G here (read here)

is_accepted : {A : Type 0} (G : Grammar A) (read : Reader A) → Reads G read → (here there : At) (v : A) → read here ≡ Ok (v, there) → Accepts G here v there
is_accepted {A} G read good here there v e = let Right : Outcome A → Type 0 = λ o. Answers G here o in subst Right e (good here)

is_refused : {A : Type 0} (G : Grammar A) (read : Reader A) → Reads G read → (here : At) (r : Refusal) → read here ≡ Err r → Refuses G here r
is_refused {A} G read good here r e = let Right : Outcome A → Type 0 = λ o. Answers G here o in subst Right e (good here)

refused_as : {A : Type 0} (G : Grammar A) (last : ℕ) (here : At) (r : Refusal) → Refuses G here r → (e : ReadError) → OrMemory (error_of last here.rest r) e → IsRefusal G last here e
refused_as G last here r right errors.Memory h = tt
refused_as G last here r right (errors.Input f) h = record { refusal = r; is = h; right = right }
refused_as G last here r right (errors.Limit l) h = record { refusal = r; is = h; right = right }

no_refusal : {A : Type 0} (G : Grammar A) (last : ℕ) (here : At) (e : ReadError) → e ≡ errors.Memory → IsRefusal G last here e
no_refusal G last here e is = let P : ReadError → Type 0 = λ x. IsRefusal G last here x in subst P (sym is) tt

is_refusal : {A : Type 0} (G : Grammar A) (read : Reader A) → Reads G read → (last : ℕ) (here : At) (s : Stop) → Fails s (read here) → (e : ReadError) → Becomes last here.rest s e → IsRefusal G last here e
is_refusal G read good last here stop.Memory f e h = no_refusal G last here e h
is_refusal G read good last here (stop.Refused r) f e h = refused_as G last here r (is_refused G read good here r f) e h

-- want of memory may stand for each answer
pub becomes_memory : (last : ℕ) (ts : List PlacedToken) (s : Stop) → Becomes last ts s errors.Memory
becomes_memory last ts stop.Memory = refl
becomes_memory last ts (stop.Refused r) = tt

-- what is read with so much room from here, which is elsewhere called otherwise
pub moved : {A : Type 0} (read : ℕ → Reader A) (a b : ℕ) (h k : At) (o : Outcome A) → a ≡ b → h ≡ k → read a h ≡ o → read b k ≡ o
moved read a b h k o ea eh is =
    let P : ℕ → Type 0 = λ x. read x k ≡ o in
    let Q : At → Type 0 = λ y. read a y ≡ o in
    subst P ea (subst Q eh is)

pub fails_moved : {A : Type 0} (read : ℕ → Reader A) (a b : ℕ) (h k : At) (s : Stop) → a ≡ b → h ≡ k → Fails s (read a h) → Fails s (read b k)
fails_moved read a b h k s ea eh is =
    let P : ℕ → Type 0 = λ x. Fails s (read x k) in
    let Q : At → Type 0 = λ y. Fails s (read a y) in
    subst P ea (subst Q eh is)

pub read_accepts : {X A : Type 0} (view : X → A) (G : Grammar A) (read : Reader A) → Reads G read → (here there : At) (old new : Front) (x : X)
    → read here ≡ Ok (view x, there) → new ≡ record old { here = there } → IsRead view G here old (Ok x) new
read_accepts view G read good here there old new x is grew =
    let P : Front → Type 0 = λ n. IsRead view G here old (Ok x) n in
    subst P (sym grew) (is_accepted G read good here there (view x) is, refl)

pub read_refuses : {X A : Type 0} (view : X → A) (G : Grammar A) (read : Reader A) → Reads G read → (here : At) (old mid new : Front) (s : Stop) (e : ReadError)
    → mid ≡ old → old.here.rest ≡ here.rest → Fails s (read here) → Becomes mid.last_line mid.here.rest s e → Keeps mid e new → IsRead view G here old (Err e) new
read_refuses view G read good here old mid new s e same rest fails becomes keeps =
    let Said : Front → Type 0 = λ f. Becomes f.last_line f.here.rest s e in
    let Of : List PlacedToken → Type 0 = λ ts. Becomes old.last_line ts s e in
    let Kept : Front → Type 0 = λ f. Keeps f e new in
    (is_refusal G read good old.last_line here s fails e (subst Of rest (subst Said same becomes)), subst Kept same keeps)
