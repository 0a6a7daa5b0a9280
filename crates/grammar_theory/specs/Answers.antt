-- When an outcome is the right one.
use Rattle.std.specs.Prelude.{◌≡◌, List, [], ◌∷◌, ◌++◌, length, map, Result, Ok, Err}
use Rattle.vhdl_token.specs.declared.token.PlacedToken.{PlacedToken}
use Rattle.grammar_theory.specs.declared.refusal.Breach.{Breach}
use Rattle.grammar_theory.specs.declared.refusal.Reason.{Reason}
use Rattle.grammar_theory.specs.declared.refusal.Reason.TheVariants as reason
use Rattle.grammar_theory.specs.declared.refusal.Refusal.{Refusal}
use Rattle.grammar_theory.specs.Marks.{Item, State, step, run}
use Rattle.grammar_theory.specs.Grammar.{Grammar, Begins}
use Rattle.grammar_theory.specs.Outcome.{At, Outcome}

abbrev pub tokens_of : List Item → List PlacedToken
tokens_of [] = []
tokens_of (i ∷ is) = i.token ∷ tokens_of is

-- two lists begin with the same token
pub record Meets (w : List Item) (rest : List PlacedToken) : Type 0 where
  pub next : Item
  pub w_more : List Item
  pub rest_more : List PlacedToken
  pub w_is : w ≡ next ∷ w_more
  pub rest_is : rest ≡ next.token ∷ rest_more

-- What is read: a sentence without a breach, which no sentence goes on from with the next token.
pub record Accepts {A : Type 0} (G : Grammar A) (here : At) (value : A) (there : At) : Type 0 where
  pub front : List Item
  pub parts : here.rest ≡ tokens_of front ++ there.rest
  pub sentence : G front value
  pub clean : run front here.state ≡ Ok there.state
  pub longest : (w : List Item) (v : A) → G (front ++ w) v → Meets w there.rest → ⊥

-- However a sentence goes on from the tokens in front, it does go on, and not with the next token.
pub record Faults {A : Type 0} (G : Grammar A) (front : List Item) (rest : List PlacedToken) : Type 0 where
  pub unfinished : (w : List Item) (v : A) → G (front ++ w) v → w ≡ [] → ⊥
  pub dead : (w : List Item) (v : A) → G (front ++ w) v → Meets w rest → ⊥

-- With the next token the tokens in front begin a sentence, and what the token does there is this breach.
pub record Breaks {A : Type 0} (G : Grammar A) (state : State) (which : Breach) (front : List Item) (rest : List PlacedToken) : Type 0 where
  pub next : Item
  pub more : List PlacedToken
  pub rest_is : rest ≡ next.token ∷ more
  pub alive : Begins G (front ++ next ∷ [])
  pub broken : step next.mark state ≡ Err which

abbrev pub Blames : {A : Type 0} → Grammar A → State → Reason → List Item → List PlacedToken → Type 0
Blames G state reason.Syntax front rest = Faults G front rest
Blames G state (reason.Breach b) front rest = Breaks G state b front rest

-- A place up to which the tokens begin a sentence without a breach, and from which on so many are left; the next token, or
-- the end, is to blame for this reason.
pub record StopsAt {A : Type 0} (G : Grammar A) (blames : State → Reason → List Item → List PlacedToken → Type 0) (here : At) (refused : Refusal) : Type 0 where
  pub front : List Item
  pub rest : List PlacedToken
  pub state : State
  pub parts : here.rest ≡ tokens_of front ++ rest
  pub place : refused.left ≡ length rest
  pub viable : Begins G front
  pub clean : run front here.state ≡ Ok state
  pub blame : blames state refused.reason front rest

-- What is refused: the first token with which the tokens so far begin no sentence, or which is a breach.
abbrev pub Refuses : {A : Type 0} → Grammar A → At → Refusal → Type 0
Refuses G here refused = StopsAt G (Blames G) here refused

abbrev pub Answers : {A : Type 0} → Grammar A → At → Outcome A → Type 0
Answers G here (Ok (v, there)) = Accepts G here v there
Answers G here (Err refused) = Refuses G here refused

-- ---- all of the tokens, whose end counts as a token

-- With the next token, or at the end, the tokens in front begin no sentence.
pub record Misses {A : Type 0} (G : Grammar A) (front : List Item) (rest : List PlacedToken) : Type 0 where
  pub unfinished : rest ≡ [] → (v : A) → G front v → ⊥
  pub dead : (w : List Item) (v : A) → G (front ++ w) v → Meets w rest → ⊥

abbrev pub Ends : {A : Type 0} → Grammar A → State → Reason → List Item → List PlacedToken → Type 0
Ends G state reason.Syntax front rest = Misses G front rest
Ends G state (reason.Breach b) front rest = Breaks G state b front rest

-- What is refused of a whole text.
abbrev pub Rejects : {A : Type 0} → Grammar A → At → Refusal → Type 0
Rejects G here refused = StopsAt G (Ends G) here refused

-- what is read is a sentence, and nothing is left behind it
abbrev pub AnswersAll : {A : Type 0} → Grammar A → At → Outcome A → Type 0
AnswersAll G here (Ok (v, there)) = Accepts G here v there × (there.rest ≡ [])
AnswersAll G here (Err refused) = Rejects G here refused
