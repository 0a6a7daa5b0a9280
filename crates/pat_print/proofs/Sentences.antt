-- What stands between two places of a text is a sentence of a grammar.
use Rattle.std.proofs.Common.{◌≡◌, ℕ, Bool, List, [], ◌∷◌, ◌++◌, Ok, refl, sym, ap, ◌∙◌, append_assoc, inl, inr}
use Rattle.vhdl_token.specs.declared.token.PlacedToken.{PlacedToken}
use Rattle.grammar_theory.specs.declared.form.Form.{Form}
use Rattle.grammar_theory.specs.Tokens.{code, code_of}
use Rattle.grammar_theory.specs.Marks.{Mark, Item, State, uncounted, step, run}
use Rattle.grammar_theory.specs.Grammar.{Grammar, nothing, One, item, ◌or◌, ◌>>=◌, list}
use Rattle.grammar_theory.specs.Answers.{tokens_of}
use Rattle.pat_print.proofs.Places.{Place, at, tokens_at, refusal_at, Skips, Takes}

abbrev pub start : State
start = uncounted

-- no mark of these changes the state before the first token
abbrev pub AreCalm : List Item → Type 0
AreCalm [] = Unit {0}
AreCalm (i ∷ is) = (step i.mark start ≡ Ok start) × AreCalm is

calm_append : (xs ys : List Item) → AreCalm xs → AreCalm ys → AreCalm (xs ++ ys)
calm_append [] ys h g = g
calm_append (x ∷ xs) ys h g = (h.0, calm_append xs ys h.1 g)

pub calm_run : (is : List Item) → AreCalm is → run is start ≡ Ok start
calm_run [] h = refl
calm_run (i ∷ is) h = rw (h.0) (calm_run is h.1)

tokens_append : (xs ys : List Item) → tokens_of (xs ++ ys) ≡ tokens_of xs ++ tokens_of ys
tokens_append [] ys = refl
tokens_append (x ∷ xs) ys = ap (λ (ts : List PlacedToken). x.token ∷ ts) (tokens_append xs ys)

-- between the places a sentence of the grammar stands, with this value
pub record Reads {A : Type 0} (G : Grammar A) (x : A) (h k : Place) : Type 0 where
  pub items : List Item
  pub tokens : tokens_at h ≡ tokens_of items ++ tokens_at k
  pub refusal : refusal_at h ≡ refusal_at k
  pub sentence : G items x
  pub calm : AreCalm items

pub read_nothing : {A : Type 0} (x : A) (h : Place) → Reads (nothing x) x h h
read_nothing x h = record { items = []; tokens = refl; refusal = refl; sentence = (refl, refl); calm = tt }

pub read_one : (f : Form) (m : PlacedToken → Mark) (t : PlacedToken) (h k : Place) → Takes t h k → code_of t ≡ code f → step (m t) start ≡ Ok start → Reads (One f m) t h k
read_one f m t h k takes kind calm = record {
  items = item t (m t) ∷ [];
  tokens = takes.tokens;
  refusal = takes.refusal;
  sentence = record { alone = refl; kind = kind };
  calm = (calm, tt);
}

pub read_then : {A C : Type 0} {L : Grammar A} {M : A → Grammar C} (x : A) (y : C) {h k m : Place} → Reads L x h k → Reads (M x) y k m → Reads (L >>= M) y h m
read_then x y {k = k} {m = m} front back = record {
  items = front.items ++ back.items;
  tokens = front.tokens ∙ ap (λ (ts : List PlacedToken). tokens_of front.items ++ ts) back.tokens ∙ sym (append_assoc (tokens_of front.items) (tokens_of back.items) (tokens_at m)) ∙ sym (ap (λ (ts : List PlacedToken). ts ++ tokens_at m) (tokens_append front.items back.items));
  refusal = front.refusal ∙ back.refusal;
  sentence = record { front = front.items; back = back.items; value = x; parts = refl; before = front.sentence; behind = back.sentence };
  calm = calm_append front.items back.items front.calm back.calm;
}

pub read_left : {A : Type 0} {L M : Grammar A} {x : A} {h k : Place} → Reads L x h k → Reads (L or M) x h k
read_left r = record { items = r.items; tokens = r.tokens; refusal = r.refusal; sentence = inl r.sentence; calm = r.calm }

pub read_right : {A : Type 0} {L M : Grammar A} {x : A} {h k : Place} → Reads M x h k → Reads (L or M) x h k
read_right r = record { items = r.items; tokens = r.tokens; refusal = r.refusal; sentence = inr r.sentence; calm = r.calm }

pub read_none : {A : Type 0} (L : Grammar A) (h : Place) → Reads (list L) [] h h
read_none L h = record { items = []; tokens = refl; refusal = refl; sentence = refl; calm = tt }

pub read_more : {A : Type 0} {L : Grammar A} {x : A} {xs : List A} {h k m : Place} → Reads L x h k → Reads (list L) xs k m → Reads (list L) (x ∷ xs) h m
read_more {m = m} front back = record {
  items = front.items ++ back.items;
  tokens = front.tokens ∙ ap (λ (ts : List PlacedToken). tokens_of front.items ++ ts) back.tokens ∙ sym (append_assoc (tokens_of front.items) (tokens_of back.items) (tokens_at m)) ∙ sym (ap (λ (ts : List PlacedToken). ts ++ tokens_at m) (tokens_append front.items back.items));
  refusal = front.refusal ∙ back.refusal;
  sentence = (front.items, back.items, refl, front.sentence, back.sentence);
  calm = calm_append front.items back.items front.calm back.calm;
}

-- what is skipped in front of a sentence, or behind it
pub read_behind : {A : Type 0} {L : Grammar A} {x : A} {h k m : Place} → Skips h k → Reads L x k m → Reads L x h m
read_behind skips r = record { items = r.items; tokens = skips.tokens ∙ r.tokens; refusal = skips.refusal ∙ r.refusal; sentence = r.sentence; calm = r.calm }

pub read_before : {A : Type 0} {L : Grammar A} {x : A} {h k m : Place} → Reads L x h k → Skips k m → Reads L x h m
read_before r skips = record { items = r.items; tokens = r.tokens ∙ ap (λ (ts : List PlacedToken). tokens_of r.items ++ ts) skips.tokens; refusal = r.refusal ∙ skips.refusal; sentence = r.sentence; calm = r.calm }

-- the same from a text that is equal
pub read_from : {A : Type 0} {L : Grammar A} {x : A} (v : Bool) (line : ℕ) {s t : List ℕ} {k : Place} → s ≡ t → Reads L x (at v line t) k → Reads L x (at v line s) k
read_from v line same r = record {
  items = r.items;
  tokens = ap (λ (text : List ℕ). tokens_at (at v line text)) same ∙ r.tokens;
  refusal = ap (λ (text : List ℕ). refusal_at (at v line text)) same ∙ r.refusal;
  sentence = r.sentence;
  calm = r.calm;
}
