-- Lines of boxes and layers, one more.
use Rattle.std.proofs.Common.{◌≡◌, refl, ℕ, ◌+◌, ◌<◌, Bool, List, [], ◌∷◌, ◌++◌, length, take, get_or, sym, ◌∙◌, ap, append_assoc, append-nil, cond}
use Rattle.std.proofs.lemmas.Bool.{eq-eqb, ne_eqb}
use Rattle.std.proofs.lemmas.List.{take_more}
use Rattle.s2r_cif.specs.declared.layout.RealBox.{RealBox}
use Rattle.s2r_cif.specs.Real.{no_box, box_at}
use Rattle.s2r_cif.specs.Cif.{box_text, line_on, boxes_text, layer_text, layers_text}

boxes_push : (level : ℕ) (bs : List RealBox) (b : RealBox) → boxes_text level (bs ++ b ∷ []) ≡ boxes_text level bs ++ line_on level b
boxes_push level [] b = append-nil (line_on level b)
boxes_push level (x ∷ xs) b = ap (λ (t : List ℕ). line_on level x ++ t) (boxes_push level xs b) ∙ sym (append_assoc (line_on level x) (boxes_text level xs) (line_on level b))

-- the lines of one box more
pub boxes_more : (level : ℕ) (bs : List RealBox) (k : ℕ) (start before after : List ℕ) → k < length bs → before ≡ start ++ boxes_text level (take k bs)
    → after ≡ before ++ line_on level (box_at bs k) → after ≡ start ++ boxes_text level (take (k + 1) bs)
boxes_more level bs k start before after low so_far made =
    made
    ∙ ap (λ (t : List ℕ). t ++ line_on level (box_at bs k)) so_far
    ∙ append_assoc start (boxes_text level (take k bs)) (line_on level (box_at bs k))
    ∙ ap (λ (t : List ℕ). start ++ t) (sym (boxes_push level (take k bs) (box_at bs k)) ∙ ap (boxes_text level) (sym (take_more bs k no_box low)))

layers_push : (letter : ℕ) (levels : List ℕ) (level : ℕ) (bs : List RealBox) → layers_text letter (levels ++ level ∷ []) bs ≡ layers_text letter levels bs ++ layer_text letter level bs
layers_push letter [] level bs = append-nil (layer_text letter level bs)
layers_push letter (x ∷ xs) level bs =
    ap (λ (t : List ℕ). layer_text letter x bs ++ t) (layers_push letter xs level bs) ∙ sym (append_assoc (layer_text letter x bs) (layers_text letter xs bs) (layer_text letter level bs))

-- one layer more
pub layers_more : (letter : ℕ) (levels : List ℕ) (bs : List RealBox) (k : ℕ) (start before after : List ℕ) → k < length levels
    → before ≡ start ++ layers_text letter (take k levels) bs → after ≡ before ++ layer_text letter (get_or levels k 0) bs → after ≡ start ++ layers_text letter (take (k + 1) levels) bs
layers_more letter levels bs k start before after low so_far made =
    made
    ∙ ap (λ (t : List ℕ). t ++ layer_text letter (get_or levels k 0) bs) so_far
    ∙ append_assoc start (layers_text letter (take k levels) bs) (layer_text letter (get_or levels k 0) bs)
    ∙ ap (λ (t : List ℕ). start ++ t)
    (sym (layers_push letter (take k levels) (get_or levels k 0) bs) ∙ ap (λ (ls : List ℕ). layers_text letter ls bs) (sym (take_more levels k 0 low)))

-- what is put behind one after the other
pub file_is : (a b c d one two three four : List ℕ) → one ≡ a → two ≡ one ++ b → three ≡ two ++ c → four ≡ three ++ d → four ≡ a ++ (b ++ (c ++ d))
file_is a b c d one two three four p q r s =
    s
    ∙ ap (λ (t : List ℕ). t ++ d) (r ∙ ap (λ (t : List ℕ). t ++ c) (q ∙ ap (λ (t : List ℕ). t ++ b) p))
    ∙ append_assoc (a ++ b) c d ∙ append_assoc a b (c ++ d)

-- the line of a box of the level, and none of another
pub on_level : (level : ℕ) (b : RealBox) (before after : List ℕ) → b.level ≡ level → after ≡ before ++ box_text b → after ≡ before ++ line_on level b
on_level level b before after is made = made ∙ ap (λ (x : Bool). before ++ cond x (box_text b) []) (sym (eq-eqb b.level level is))

pub off_level : (level : ℕ) (b : RealBox) (before after : List ℕ) → (b.level ≡ level → ⊥) → after ≡ before → after ≡ before ++ line_on level b
off_level level b before after other made = made ∙ sym (append-nil before) ∙ ap (λ (x : Bool). before ++ cond x (box_text b) []) (sym (ne_eqb b.level level other))
