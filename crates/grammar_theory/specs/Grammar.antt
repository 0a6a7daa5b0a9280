-- What a grammar is: which lists of tokens, with the marks that they bear there, are its sentences, each with its value.
use Rattle.std.specs.Prelude.{◌≡◌, ℕ, List, [], ◌∷◌, ◌++◌, ◌⊎◌}
use Rattle.vhdl_token.specs.declared.token.PlacedToken.{PlacedToken}
use Rattle.grammar_theory.specs.declared.form.Form.{Form}
use Rattle.grammar_theory.specs.Tokens.{code, code_of}
use Rattle.grammar_theory.specs.Marks.{Mark, plain, Item}

abbrev pub Grammar : Type 0 → Type 1
Grammar A = List Item → A → Type 0

-- no sentence
abbrev pub none : {A : Type 0} → Grammar A
none items v = ⊥

-- the empty sentence, with this value
abbrev pub nothing : {A : Type 0} → A → Grammar A
nothing x items v = (items ≡ []) × (v ≡ x)

abbrev pub item : PlacedToken → Mark → Item
item t m = record { token = t; mark = m }

-- one token of this kind, with itself as the value, and the mark that this gives it
pub record One (k : Form) (marked : PlacedToken → Mark) (items : List Item) (v : PlacedToken) : Type 0 where
  pub alone : items ≡ item v (marked v) ∷ []
  pub kind : code_of v ≡ code k

-- a sentence of the first, and behind it one of the second, which may use the value of the first
pub record Then {A C : Type 0} (L : Grammar A) (M : A → Grammar C) (items : List Item) (v : C) : Type 0 where
  pub front : List Item
  pub back : List Item
  pub value : A
  pub parts : items ≡ front ++ back
  pub before : L front value
  pub behind : M value back v

infixl 10 ◌>>=◌
abbrev pub ◌>>=◌ : {A C : Type 0} → Grammar A → (A → Grammar C) → Grammar C
L >>= M = Then L M

abbrev pub marked : Form → (PlacedToken → Mark) → Grammar PlacedToken
marked k m = One k m

abbrev pub one : Form → Grammar PlacedToken
one k = One k (λ _. plain)

-- a sentence of either
infixr 5 ◌or◌
abbrev pub ◌or◌ : {A : Type 0} → Grammar A → Grammar A → Grammar A
(L or M) items v = L items v ⊎ M items v

-- a token of this kind, and behind it a sentence
abbrev pub after : {A : Type 0} → Form → Grammar A → Grammar A
after k L = one k >>= λ _. L

-- a sentence of at least one token, with the line of the first
abbrev pub placed : {A : Type 0} → Grammar A → Grammar (ℕ × A)
placed L [] v = ⊥
placed L (t ∷ items) v = L (t ∷ items) v.1 × (v.0 ≡ t.token.line)

-- the tokens are how some sentence begins
abbrev pub Begins : {A : Type 0} → Grammar A → List Item → Type 0
Begins {A} L items = (more : List Item) × (v : A) × L (items ++ more) v

-- a sentence for each value, one behind the other
abbrev pub list : {A : Type 0} → Grammar A → Grammar (List A)
list L items [] = items ≡ []
list L items (v ∷ vs) = (front : List Item) × (back : List Item) × (items ≡ front ++ back) × L front v × list L back vs

-- the sentences of all grammars G 0, G 1, and so on
pub record AtSome {A : Type 0} (G : ℕ → Grammar A) (items : List Item) (v : A) : Type 0 where
  pub level : ℕ
  pub sentence : G level items v

abbrev pub at_some : {A : Type 0} → (ℕ → Grammar A) → Grammar A
at_some G = AtSome G
