-- Texts of layouts, one behind the other.
use Rattle.std.proofs.Common.{◌≡◌, ℕ, ◌+◌, ◌<◌, ◌≤◌, List, [], ◌∷◌, ◌++◌, length, drop, get_or, map, codes, refl, sym, ap, ◌∙◌, append_assoc}
use Rattle.std.proofs.lemmas.List.{drop_all}
use Rattle.spell_theory.specs.Layout.{Written, text_of}
use Rattle.vhdl_print.specs.Outline.{a_name}
use Rattle.vbe_print.proofs.Texts.{put_two, put_name, next_part, drop_next, at_end}
use Rattle.vlsi_base.specs.declared.name.Name.{Name}
use Rattle.fsm_print.specs.Layout.{comma, behind, separated}
use Rattle.fsm_print.specs.Written.{texts_of, pragma_line}

-- ---- names behind others

-- those that are left from number k on
abbrev pub names_left : {X : Type 0} → List Written → (X → List ℕ) → List X → ℕ → List Written
names_left between text xs k = behind between (map text (drop k xs))

pub names_next : {X : Type 0} (between : List Written) (text : X → List ℕ) (xs : List X) (k : ℕ) (x : X) (out a new whole : List ℕ) → k < length xs → x ≡ get_or xs k x
    → a ≡ out ++ text_of between → new ≡ a ++ text x → out ++ text_of (names_left between text xs k) ≡ whole → new ++ text_of (names_left between text xs (k + 1)) ≡ whole
names_next between text xs k x out a new whole within is sep put so_far =
    let rest = names_left between text xs (k + 1) in
    let all : out ++ text_of (between ++ (a_name (text x) ∷ rest)) ≡ whole =
    ap (λ ys. out ++ text_of (behind between (map text ys))) (sym (drop_next xs k x within is)) ∙ so_far in
    ap (λ (z : List ℕ). z ++ text_of rest) put ∙ append_assoc a (text x) (text_of rest) ∙ next_part between (a_name (text x) ∷ rest) out a whole sep all

pub names_end : {X : Type 0} (between : List Written) (text : X → List ℕ) (xs : List X) (k : ℕ) (out whole : List ℕ) → length xs ≤ k
    → out ++ text_of (names_left between text xs k) ≡ whole → out ≡ whole
names_end between text xs k out whole past so_far =
    at_end out (text_of (names_left between text xs k)) whole (ap (λ ys. text_of (behind between (map text ys))) (drop_all k xs past)) so_far

-- a pragma
pub put_pragma : (key name out a b c d z : List ℕ) → a ≡ out ++ codes "-- pragma " → b ≡ a ++ key → c ≡ b ++ 32 ∷ [] → d ≡ c ++ name → z ≡ d ++ 10 ∷ [] → z ≡ out ++ pragma_line key name
put_pragma key name out a b c d z ae be ce de ze =
    let P : List ℕ = codes "-- pragma " in
    ze
    ∙ ap (λ (x : List ℕ). x ++ 10 ∷ []) (de ∙ ap (λ (x : List ℕ). x ++ name) (ce ∙ ap (λ (x : List ℕ). x ++ 32 ∷ []) (be ∙ ap (λ (x : List ℕ). x ++ key) ae)))
    ∙ append_assoc (((out ++ P) ++ key) ++ 32 ∷ []) name (10 ∷ [])
    ∙ append_assoc ((out ++ P) ++ key) (32 ∷ []) (name ++ 10 ∷ [])
    ∙ append_assoc (out ++ P) key (32 ∷ name ++ 10 ∷ [])
    ∙ append_assoc out P (key ++ (32 ∷ name ++ 10 ∷ []))

-- three parts of a text behind one another
pub put_parts : (x y w out a b z : List ℕ) → a ≡ out ++ x → b ≡ a ++ y → z ≡ b ++ w → z ≡ out ++ (x ++ (y ++ w))
put_parts x y w out a b z ae be ze =
    ze ∙ ap (λ (t : List ℕ). t ++ w) (be ∙ ap (λ (t : List ℕ). t ++ y) ae) ∙ append_assoc (out ++ x) y w ∙ append_assoc out x (y ++ w)

-- a name alone
pub put_alone : (t : List ℕ) (ws : List Written) (out a b : List ℕ) → a ≡ out ++ t → b ≡ a ++ text_of ws → b ≡ out ++ text_of (a_name t ∷ ws)
put_alone t ws out a b ae be = put_name t ws out t a b refl ae be

-- the states between commas, and what is put behind them
pub put_states : (states names : List Name) (ws : List Written) (out a b : List ℕ) → names ≡ states → a ≡ out ++ text_of (separated comma (texts_of names)) → b ≡ a ++ text_of ws
    → b ≡ out ++ text_of (separated comma (texts_of states) ++ ws)
put_states states names ws out a b same ae be =
    put_two (separated comma (texts_of states)) ws out a b (ae ∙ ap (λ (ns : List Name). out ++ text_of (separated comma (texts_of ns))) same) be
