-- Marks by what is read.
use Rattle.std.proofs.Common.{◌≡◌, ℕ, zero, suc, ◌+◌, ◌<◌, Bool, false, ◌||◌, List, [], ◌∷◌, ◌++◌, map, take, drop, length, replicate, get_or, refl, sym, ap, ◌∙◌, subst, arith, add-one}
use Rattle.std.proofs.lemmas.List.{length-map}
use Rattle.bool_expr.specs.Expression.{bit}
use Rattle.bool_expr.specs.Support.{among}
use Rattle.fsm_machine.specs.Fsm.{Fsm}
use Rattle.fsm_machine.specs.MachineOf.{up}
use Rattle.fsm_walk.specs.Reads.{reads, read_marks}
use Rattle.fsm_walk.proofs.Reading.{up_length, mark_is}

by_bits : (xs ys : List Bool) → length xs ≡ length ys → ((k : ℕ) → k < length xs → bit xs k ≡ bit ys k) → xs ≡ ys
by_bits [] [] l h = refl
by_bits [] (y ∷ ys) l h = absurd (omega arith)
by_bits (x ∷ xs) [] l h = absurd (omega arith)
by_bits (x ∷ xs) (y ∷ ys) l h =
    ap (λ (b : Bool). b ∷ xs) (h 0 (omega arith)) ∙ ap (λ (bs : List Bool). y ∷ bs) (by_bits xs ys (omega arith) (λ k m. h (suc k) (omega arith)))

unmarked : (n k : ℕ) → bit (replicate n false) k ≡ false
unmarked zero k = refl
unmarked (suc n) zero = refl
unmarked (suc n) (suc k) = unmarked n k

length_of : (n : ℕ) → length (replicate n false) ≡ n
length_of zero = refl
length_of (suc n) = ap (λ (m : ℕ). suc m) (length_of n)

pub marks_made : (f : Fsm) (new old : List Bool) (found : List ℕ) → old ≡ replicate (length f.ports) false → length new ≡ length old
    → ((k : ℕ) → k < length old → bit new k ≡ (bit old k || among k found)) → found ≡ reads f.body → new ≡ read_marks f
marks_made f new old found start same set all =
    let n = ap length start ∙ length_of (length f.ports) in
    let m = length-map (up 0 (length f.ports)) (λ (k : ℕ). among k (reads f.body)) in
    let u = up_length 0 (length f.ports) in
    by_bits new (read_marks f) (omega arith)
    (λ k l.
    set k (omega arith)
    ∙ ap (λ (b : Bool). b || among k found) (ap (λ (bs : List Bool). bit bs k) start ∙ unmarked (length f.ports) k)
    ∙ ap (λ (xs : List ℕ). among k xs) all ∙ sym (mark_is f k (omega arith)))

-- one more of what was made of a list
made_suc : {A B : Type 0} (g : A → B) (xs : List A) (i : ℕ) (d x : A) → i < length xs → x ≡ get_or xs i d → map g (take (suc i) xs) ≡ map g (take i xs) ++ g x ∷ []
made_suc g [] i d x l e = absurd (omega arith)
made_suc {A} {B} g (y ∷ xs) zero d x l e = ap (λ (z : A). g z ∷ []) (sym e)
made_suc {A} {B} g (y ∷ xs) (suc i) d x l e = ap (λ (zs : List B). g y ∷ zs) (made_suc g xs i d x (omega arith) e)

pub made_more : {A B : Type 0} (g : A → B) (xs : List A) (i : ℕ) (d x : A) → i < length xs → x ≡ get_or xs i d → map g (take (i + 1) xs) ≡ map g (take i xs) ++ g x ∷ []
made_more g xs i d x l e = ap (λ (n : ℕ). map g (take n xs)) (add-one i) ∙ made_suc g xs i d x l e

-- a list that is written back over one of its length
pub written_back : (n : ℕ) (new old : List Bool) → n ≡ length old → length new ≡ length old → take n (new ++ drop (length new) old) ≡ new
written_back n new old size same =
    ap (λ (m : ℕ). take m (new ++ drop (length new) old)) (size ∙ sym same) ∙ front new (drop (length new) old) where
      front : (xs ys : List Bool) → take (length xs) (xs ++ ys) ≡ xs
      front [] ys = refl
      front (x ∷ xs) ys = ap (λ (zs : List Bool). x ∷ zs) (front xs ys)
