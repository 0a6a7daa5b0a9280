-- A text that is read piece by piece.
use Rattle.std.proofs.Common.{◌≡◌, ℕ, Bool, false, zero, suc, ◌+◌, ◌-◌, ◌<◌, ◌≤◌, List, [], ◌∷◌, ◌++◌, Option, None, length, take, drop, subst, refl, sym, ap, ◌∙◌, append_assoc, append-nil, arith, length-drop}
use Rattle.vlsi_base.specs.declared.fault.ReadError.{ReadError}
use Rattle.vlsi_base.specs.declared.fault.ReadError.TheVariants as error
use Rattle.vlsi_base.specs.declared.pragma.Pragma.{Pragma}
use Rattle.vhdl_token.specs.declared.token.PlacedToken.{PlacedToken}
use Rattle.lexer_base.specs.declared.piece.Piece.{Piece}
use Rattle.lexer_base.specs.Lexical.{length_of, IsWithin}
use Rattle.lexer_base.specs.Listing.{pieces_within, pieces_from, line_after, tokens_of, pragmas_of, refusal_of, tokens_from, pragmas_from, or_else, refusal_from, last_line_from, IsRefusal}
use Rattle.lexer_base.specs.Whole.{IsWhole}
use Rattle.lexer_base.specs.declared.front.Front.{Front}
use Rattle.std.proofs.lemmas.List.{drop-drop, drop_all, take_rest}

abbrev Cut : Type 0
Cut = Bool → List ℕ → Piece

abbrev Behind : Type 0
Behind = Piece → Bool → Bool

-- more pieces than bytes are not asked for
pieces_enough : (c : Cut) (g : Behind) (n m : ℕ) (v : Bool) (t : List ℕ) → length t ≤ n → length t ≤ m → pieces_within c g n v t ≡ pieces_within c g m v t
unfolding pieces_within
pieces_enough c g zero zero v t few few' = refl
pieces_enough c g zero (suc m) v [] few few' = refl
pieces_enough c g zero (suc m) v (b ∷ bs) few few' = absurd (omega arith)
pieces_enough c g (suc n) zero v [] few few' = refl
pieces_enough c g (suc n) zero v (b ∷ bs) few few' = absurd (omega arith)
pieces_enough c g (suc n) (suc m) v [] few few' = refl
pieces_enough c g (suc n) (suc m) v (b ∷ bs) few few' =
    let p = c v (b ∷ bs) in
    let k = length_of (c v (b ∷ bs)) - 1 in
    ap (λ (ps : List Piece). p ∷ ps) (pieces_enough c g n m (g p v) (drop k bs) (omega (arith, length-drop k bs)) (omega (arith, length-drop k bs)))

pieces_cons : (c : Cut) (g : Behind) (v : Bool) (b : ℕ) (bs : List ℕ)
    → pieces_from c g v (b ∷ bs) ≡ c v (b ∷ bs) ∷ pieces_from c g (g (c v (b ∷ bs)) v) (drop (length_of (c v (b ∷ bs)) - 1) bs)
unfolding pieces_from pieces_within
pieces_cons c g v b bs =
    let p = c v (b ∷ bs) in
    let k = length_of (c v (b ∷ bs)) - 1 in
    ap (λ (ps : List Piece). p ∷ ps) (pieces_enough c g (length bs) (length (drop k bs)) (g p v) (drop k bs) (omega (arith, length-drop k bs)) (omega arith))

drop_behind : (k b : ℕ) (bs : List ℕ) → 0 < k → drop k (b ∷ bs) ≡ drop (k - 1) bs
drop_behind zero b bs some = absurd (omega arith)
drop_behind (suc n) b bs some = let same : n ≡ suc n - 1 = omega arith in ap (λ i. drop i bs) same

-- the pieces from the front on are that of the front, and those behind it
pieces_next : (c : Cut) (g : Behind) (v : Bool) (t : List ℕ) (p : Piece) → 0 < length t → p ≡ c v t → 0 < length_of p → pieces_from c g v t ≡ p ∷ pieces_from c g (g p v) (drop (length_of p) t)
pieces_next c g v [] p some is takes = absurd (omega arith)
pieces_next c g v (b ∷ bs) p some is takes =
    pieces_cons c g v b bs ∙ ap (λ (q : Piece). q ∷ pieces_from c g (g q v) (drop (length_of q - 1) bs)) (sym is)
    ∙ ap (λ (t : List ℕ). p ∷ pieces_from c g (g p v) t) (sym (drop_behind (length_of p) b bs takes))

pieces_at : (c : Cut) (g : Behind) (text : List ℕ) (at : ℕ) (v : Bool) (p : Piece) → at < length text → p ≡ c v (drop at text) → 0 < length_of p
    → pieces_from c g v (drop at text) ≡ p ∷ pieces_from c g (g p v) (drop (at + length_of p) text)
pieces_at c g text at v p more is takes =
    pieces_next c g v (drop at text) p (omega (arith, length-drop at text)) is takes
    ∙ ap (λ (t : List ℕ). p ∷ pieces_from c g (g p v) t) (drop-drop (length_of p) at text)

-- what was read of a text, up to a place
pub record Follows (c : Cut) (g : Behind) (text : List ℕ) (at : ℕ) (items : List PlacedToken) (marks : List Pragma) (v : Bool) (line last : ℕ) : Type 0 where
  pub within : at ≤ length text
  pub tokens : items ++ tokens_from line (pieces_from c g v (drop at text)) ≡ tokens_from 1 (pieces_from c g false text)
  pub pragmas : marks ++ pragmas_from line (pieces_from c g v (drop at text)) ≡ pragmas_from 1 (pieces_from c g false text)
  pub refusal : refusal_from line (pieces_from c g v (drop at text)) ≡ refusal_from 1 (pieces_from c g false text)
  pub ending : last_line_from last line (pieces_from c g v (drop at text)) ≡ last_line_from 1 1 (pieces_from c g false text)

-- the piece that stands at a place, and takes some of what is left
pub record Stands (c : Cut) (text : List ℕ) (at : ℕ) (v : Bool) (p : Piece) : Type 0 where
  pub more : at < length text
  pub is : p ≡ c v (drop at text)
  pub takes : 0 < length_of p
  pub fits : at + length_of p ≤ length text

pub begins : (c : Cut) (g : Behind) (text : List ℕ) (items : List PlacedToken) (marks : List Pragma) (v : Bool) (line last : ℕ) → items ≡ [] → marks ≡ [] → v ≡ false → line ≡ 1 → last ≡ 1 → Follows c g text 0 items marks v line last
begins c g text items marks v line last no_items no_marks no_value first first' = rw (no_items, no_marks, no_value, first, first') (record { within = omega arith; tokens = refl; pragmas = refl; refusal = refl; ending = refl })

pub goes_on : (c : Cut) (g : Behind) (text : List ℕ) (at : ℕ) (items : List PlacedToken) (marks : List Pragma) (v : Bool) (line last : ℕ) (p : Piece) (items' : List PlacedToken) (marks' : List Pragma) (v' : Bool) (line' last' : ℕ)
    → Follows c g text at items marks v line last → Stands c text at v p → items' ≡ items ++ tokens_of line p → marks' ≡ marks ++ pragmas_of line p → v' ≡ g p v → line' ≡ line_after line p → last' ≡ line → refusal_of line p ≡ None
    → Follows c g text (at + length_of p) items' marks' v' line' last'
goes_on c g text at items marks v line last p items' marks' v' line' last' before here item mark value lines lasts none =
    let next = pieces_at c g text at v p here.more here.is here.takes in
    let behind = pieces_from c g (g p v) (drop (at + length_of p) text) in
    let same = ap (λ (b : Bool). pieces_from c g b (drop (at + length_of p) text)) value in
    record {
      within = here.fits;
      tokens = ap (λ (ps : List Piece). items' ++ tokens_from line' ps) same ∙ ap (λ (ts : List PlacedToken). ts ++ tokens_from line' behind) item ∙ append_assoc items (tokens_of line p) (tokens_from line' behind) ∙ ap (λ n. items ++ (tokens_of line p ++ tokens_from n behind)) lines ∙ ap (λ (ps : List Piece). items ++ tokens_from line ps) (sym next) ∙ before.tokens;
      pragmas = ap (λ (ps : List Piece). marks' ++ pragmas_from line' ps) same ∙ ap (λ (ts : List Pragma). ts ++ pragmas_from line' behind) mark ∙ append_assoc marks (pragmas_of line p) (pragmas_from line' behind) ∙ ap (λ n. marks ++ (pragmas_of line p ++ pragmas_from n behind)) lines ∙ ap (λ (ps : List Piece). marks ++ pragmas_from line ps) (sym next) ∙ before.pragmas;
      refusal = ap (λ (ps : List Piece). refusal_from line' ps) same ∙ ap (λ n. refusal_from n behind) lines ∙ ap (λ (o : Option ReadError). or_else o (refusal_from (line_after line p) behind)) (sym none) ∙ ap (refusal_from line) (sym next) ∙ before.refusal;
      ending = ap (λ (ps : List Piece). last_line_from last' line' ps) same ∙ ap (λ n. last_line_from last' n behind) lines ∙ ap (λ n. last_line_from n (line_after line p) behind) lasts ∙ ap (last_line_from last line) (sym next) ∙ before.ending;
    }

refusal_first : (e : ReadError) (o rest total : Option ReadError) → or_else o rest ≡ total → IsRefusal e o → IsRefusal e total
refusal_first error.Memory o rest total is first = tt
refusal_first (error.Input f) o rest total is first = sym is ∙ ap (λ (x : Option ReadError). or_else x rest) first
refusal_first (error.Limit l) o rest total is first = sym is ∙ ap (λ (x : Option ReadError). or_else x rest) first

pub refuses : (c : Cut) (g : Behind) (text : List ℕ) (at : ℕ) (items : List PlacedToken) (marks : List Pragma) (v : Bool) (line last : ℕ) (p : Piece) (e : ReadError)
    → Follows c g text at items marks v line last → Stands c text at v p → IsRefusal e (refusal_of line p) → IsRefusal e (refusal_from 1 (pieces_from c g false text))
refuses c g text at items marks v line last p e before here refused =
    let next = pieces_at c g text at v p here.more here.is here.takes in
    refusal_first e (refusal_of line p) (refusal_from (line_after line p) (pieces_from c g (g p v) (drop (at + length_of p) text))) (refusal_from 1 (pieces_from c g false text)) (ap (refusal_from line) (sym next) ∙ before.refusal) refused

no_pieces : (c : Cut) (g : Behind) (v : Bool) → pieces_from c g v [] ≡ []
unfolding pieces_from pieces_within
no_pieces c g v = refl

pub ends : (c : Cut) (g : Behind) (text : List ℕ) (at : ℕ) (v : Bool) (front : Front) → Follows c g text at front.items front.pragmas v front.line front.last_line → length text ≤ at → IsWhole front (pieces_from c g false text)
ends c g text at v front before done =
    let none : pieces_from c g v (drop at text) ≡ [] = ap (pieces_from c g v) (drop_all at text done) ∙ no_pieces c g v in
    record {
      items = sym (append-nil front.items) ∙ ap (λ (ps : List Piece). front.items ++ tokens_from front.line ps) (sym none) ∙ before.tokens;
      pragmas = sym (append-nil front.pragmas) ∙ ap (λ (ps : List Piece). front.pragmas ++ pragmas_from front.line ps) (sym none) ∙ before.pragmas;
      last_line = ap (last_line_from front.last_line front.line) (sym none) ∙ before.ending;
      accepted = sym before.refusal ∙ ap (refusal_from front.line) none;
    }

-- the piece that was found in what is left of a text stands there
pub stands : (c : Cut) (text : List ℕ) (at : ℕ) (v : Bool) (p : Piece) → at < length text → p ≡ c v (take (length text - at) (drop at text)) → IsWithin p (take (length text - at) (drop at text)) → Stands c text at v p
stands c text at v p more is within =
    let bound : length_of p ≤ length (drop at text) = subst (λ (t : List ℕ). length_of p ≤ length t) (take_rest text at) within.1 in
    record {
      more = more;
      is = is ∙ ap (c v) (take_rest text at);
      takes = within.0;
      fits = omega (arith, length-drop at text, bound);
    }
