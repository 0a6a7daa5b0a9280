-- Operators made of inverters and gates of two inputs.
use Rattle.std.proofs.Common.{◌≡◌, ℕ, zero, suc, ◌+◌, ◌<◌, Bool, true, false, not, ◌&&◌, ◌||◌, List, [], ◌∷◌, length, map, get_or, refl, sym, ◌∙◌, ap, arith, if◌then◌else◌}
use Rattle.bool_expr.specs.declared.expr.Gate.{Gate}
use Rattle.bool_expr.specs.Expression.{Expression, bit, val, gate_value, gate_size, size_of}
use Rattle.vlsi_base.specs.Member.{In, here, there}
use Rattle.subject_table.specs.declared.table.Table.{Table}
use Rattle.subject_table.specs.View.{kinds, end_of}
use Rattle.subject_table.specs.Grows.{IsSound, AreBelow, value, Adds}
use Rattle.subject_table.proofs.Tables.{follow, stays, kept, end_grows}

-- what was there keeps its value
pub still : (t u : Table) (n r a : ℕ) (f : (ℕ → Bool) → Bool) (w : List Bool) → Adds t u n f r → length w ≡ t.held → a < end_of t → value u w a ≡ value t w a
still t u n r a f w h size below = kept t.held (kinds t) (kinds u) h.more w a size h.nodes below

and_bits : (a b : Bool) → not (not (a && b)) ≡ a && b
and_bits true true = refl
and_bits true false = refl
and_bits false b = refl

or_bits : (a b : Bool) → not (not a && not b) ≡ a || b
or_bits true b = refl
or_bits false true = refl
or_bits false false = refl

xor_bits : (a b : Bool) → not (not (a && not (a && b)) && not (b && not (a && b))) ≡ (if a then not b else b)
xor_bits true true = refl
xor_bits true false = refl
xor_bits false true = refl
xor_bits false false = refl

choice_bits : (c a b : Bool) → not (not (c && a) && not (not c && b)) ≡ (if c then a else b)
choice_bits true true b = refl
choice_bits true false b = refl
choice_bits false a true = refl
choice_bits false a false = refl

pub and_made : (t u v : Table) (a b n s : ℕ) → Adds t u 1 (λ x. not (x a && x b)) n → Adds u v 1 (λ x. not (x n)) s → Adds t v 2 (λ x. x a && x b) s
and_made t u v a b n s first second =
    follow t u v 1 1 2 (λ x. not (x a && x b)) (λ x. not (x n)) (λ x. x a && x b) n s first second (omega arith)
    (λ w size gives same. ap not gives ∙ and_bits (value t w a) (value t w b))

pub or_made : (t u v x : Table) (a b c d s : ℕ) → b < end_of t → Adds t u 1 (λ y. not (y a)) c → Adds u v 1 (λ y. not (y b)) d → Adds v x 1 (λ y. not (y c && y d)) s
    → Adds t x 3 (λ y. y a || y b) s
or_made t u v x a b c d s low_b first second third =
    let two : Adds t v 2 (λ y. not (y b)) d = follow t u v 1 1 2 (λ y. not (y a)) (λ y. not (y b)) (λ y. not (y b)) c d first second (omega arith) (λ w size gives same. ap not (same b low_b)) in
    follow t v x 2 1 3 (λ y. not (y b)) (λ y. not (y c && y d)) (λ y. y a || y b) d s two third (omega arith) (λ w size gives same.
    let held = first.held in
    let is_c : value v w c ≡ not (value t w a) = still u v 1 d c (λ y. not (y b)) w second (size ∙ sym held) first.within ∙ first.gives w size in
    ap (λ (z : Bool). not (z && value v w d)) is_c ∙ ap (λ (z : Bool). not (not (value t w a) && z)) gives ∙ or_bits (value t w a) (value t w b))

pub xor_made : (t u v x y : Table) (a b n c d s : ℕ) → a < end_of t → b < end_of t → Adds t u 1 (λ z. not (z a && z b)) n → Adds u v 1 (λ z. not (z a && z n)) c
    → Adds v x 1 (λ z. not (z b && z n)) d → Adds x y 1 (λ z. not (z c && z d)) s → Adds t y 4 (λ z. if z a then not (z b) else z b) s
xor_made t u v x y a b n c d s low_a low_b first second third fourth =
    let two : Adds t v 2 (λ z. not (z a && not (z a && z b))) c =
    follow t u v 1 1 2 (λ z. not (z a && z b)) (λ z. not (z a && z n)) (λ z. not (z a && not (z a && z b))) n c first second (omega arith)
    (λ w size gives same. ap (λ (q : Bool). not (q && value u w n)) (same a low_a) ∙ ap (λ (q : Bool). not (value t w a && q)) gives) in
    let is_n : (w : List Bool) → length w ≡ t.held → value v w n ≡ not (value t w a && value t w b) = λ w size.
    still u v 1 c n (λ z. not (z a && z n)) w second (size ∙ sym first.held) first.within ∙ first.gives w size in
    let three : Adds t x 3 (λ z. not (z b && not (z a && z b))) d =
    follow t v x 2 1 3 (λ z. not (z a && not (z a && z b))) (λ z. not (z b && z n)) (λ z. not (z b && not (z a && z b))) c d two third (omega arith)
    (λ w size gives same. ap (λ (q : Bool). not (q && value v w n)) (same b low_b) ∙ ap (λ (q : Bool). not (value t w b && q)) (is_n w size)) in
    follow t x y 3 1 4 (λ z. not (z b && not (z a && z b))) (λ z. not (z c && z d)) (λ z. if z a then not (z b) else z b) d s three fourth (omega arith)
    (λ w size gives same.
    let is_c : value x w c ≡ not (value t w a && not (value t w a && value t w b)) =
    still v x 1 d c (λ z. not (z b && z n)) w third (size ∙ sym two.held) two.within ∙ two.gives w size in
    ap (λ (q : Bool). not (q && value x w d)) is_c ∙ ap (λ (q : Bool). not (not (value t w a && not (value t w a && value t w b)) && q)) gives ∙ xor_bits (value t w a) (value t w b))

pub choice_made : (t u v x y : Table) (c a b n d e s : ℕ) → c < end_of t → b < end_of t → Adds t u 1 (λ z. not (z c && z a)) n → Adds u v 1 (λ z. not (z c)) d
    → Adds v x 1 (λ z. not (z d && z b)) e → Adds x y 1 (λ z. not (z n && z e)) s → Adds t y 4 (λ z. if z c then z a else z b) s
choice_made t u v x y c a b n d e s low_c low_b first second third fourth =
    let two : Adds t v 2 (λ z. not (z c)) d =
    follow t u v 1 1 2 (λ z. not (z c && z a)) (λ z. not (z c)) (λ z. not (z c)) n d first second (omega arith) (λ w size gives same. ap not (same c low_c)) in
    let is_n : (w : List Bool) → length w ≡ t.held → value v w n ≡ not (value t w c && value t w a) = λ w size.
    still u v 1 d n (λ z. not (z c)) w second (size ∙ sym first.held) first.within ∙ first.gives w size in
    let low_n = end_grows u v 1 n d (λ z. not (z c)) second first.within in
    let three : Adds t x 3 (λ z. not (not (z c) && z b)) e =
    follow t v x 2 1 3 (λ z. not (z c)) (λ z. not (z d && z b)) (λ z. not (not (z c) && z b)) d e two third (omega arith)
    (λ w size gives same. ap (λ (q : Bool). not (q && value v w b)) gives ∙ ap (λ (q : Bool). not (not (value t w c) && q)) (same b low_b)) in
    follow t x y 3 1 4 (λ z. not (not (z c) && z b)) (λ z. not (z n && z e)) (λ z. if z c then z a else z b) e s three fourth (omega arith)
    (λ w size gives same.
    let here_n : value x w n ≡ not (value t w c && value t w a) = still v x 1 e n (λ z. not (z d && z b)) w third (size ∙ sym two.held) low_n ∙ is_n w size in
    ap (λ (q : Bool). not (q && value x w e)) here_n ∙ ap (λ (q : Bool). not (not (value t w c && value t w a) && q)) gives ∙ choice_bits (value t w c) (value t w a) (value t w b))

xnor_bits : (a b : Bool) → not (if a then not b else b) ≡ (if a then b else not b)
xnor_bits true true = refl
xnor_bits true false = refl
xnor_bits false b = refl

pub xnor_made : (t u v : Table) (a b n s : ℕ) → Adds t u 4 (λ x. if x a then not (x b) else x b) n → Adds u v 1 (λ x. not (x n)) s → Adds t v 5 (λ x. if x a then x b else not (x b)) s
xnor_made t u v a b n s first second =
    follow t u v 4 1 5 (λ x. if x a then not (x b) else x b) (λ x. not (x n)) (λ x. if x a then x b else not (x b)) n s first second (omega arith)
    (λ w size gives same. ap not gives ∙ xnor_bits (value t w a) (value t w b))

pub below_grows : (t u : Table) (n r : ℕ) (f : (ℕ → Bool) → Bool) (numbers : List ℕ) → Adds t u n f r → AreBelow (end_of t) numbers → AreBelow (end_of u) numbers
below_grows t u n r f numbers h below a is = end_grows t u n a r f h (below a is)

pub same_numbers : (v u : ℕ → Bool) (numbers : List ℕ) → ((a : ℕ) → In a numbers → v a ≡ u a) → map v numbers ≡ map u numbers
same_numbers v u [] same = refl
same_numbers v u (a ∷ numbers) same =
    ap (λ (b : Bool). b ∷ map v numbers) (same a here) ∙ ap (λ (bs : List Bool). u a ∷ bs) (same_numbers v u numbers (λ x h. same x (there h)))

-- a variable's number
pub variable_made : (t : Table) (numbers : List ℕ) (k : ℕ) → IsSound t → k < length numbers → AreBelow (end_of t) numbers
    → Adds t t 0 (λ v. bit (map v numbers) k) (get_or numbers k 0)
variable_made t numbers k sound within below =
    stays t 0 (λ v. bit (map v numbers) k) (get_or numbers k 0) sound (below (get_or numbers k 0) (found numbers k within)) (λ w size. by numbers k within (value t w)) where
      found : (xs : List ℕ) (k : ℕ) → k < length xs → In (get_or xs k 0) xs
      found [] k h = absurd (omega arith)
      found (x ∷ xs) zero h = here
      found (x ∷ xs) (suc k) h = there (found xs k (omega arith))

      by : (xs : List ℕ) (k : ℕ) → k < length xs → (v : ℕ → Bool) → v (get_or xs k 0) ≡ bit (map v xs) k
      by [] k h v = absurd (omega arith)
      by (x ∷ xs) zero h v = refl
      by (x ∷ xs) (suc k) h v = by xs k (omega arith) v

-- an expression's value, over what grew
pub still_value : (t u : Table) (n r : ℕ) (f : (ℕ → Bool) → Bool) (e : Expression) (numbers : List ℕ) (w : List Bool) → Adds t u n f r → length w ≡ t.held
    → AreBelow (end_of t) numbers → val e (map (value u w) numbers) ≡ val e (map (value t w) numbers)
still_value t u n r f e numbers w h size below = ap (val e) (same_numbers (value u w) (value t w) numbers (λ a is. still t u n r a f w h size (below a is)))

pub pair_expr : (t u v x : Table) (g : Gate) (e d : Expression) (numbers : List ℕ) (a b s : ℕ) → AreBelow (end_of t) numbers
    → Adds t u (size_of e) (λ y. val e (map y numbers)) a → Adds u v (size_of d) (λ y. val d (map y numbers)) b → Adds v x (gate_size g) (λ y. gate_value g (y a) (y b)) s
    → Adds t x (gate_size g + (size_of e + size_of d)) (λ y. gate_value g (val e (map y numbers)) (val d (map y numbers))) s
pair_expr t u v x g e d numbers a b s below first second third =
    let two : Adds t v (size_of e + size_of d) (λ y. val d (map y numbers)) b =
    follow t u v (size_of e) (size_of d) (size_of e + size_of d) (λ y. val e (map y numbers)) (λ y. val d (map y numbers)) (λ y. val d (map y numbers)) a b first second (omega arith)
    (λ w size gives same. still_value t u (size_of e) a (λ y. val e (map y numbers)) d numbers w first size below) in
    follow t v x (size_of e + size_of d) (gate_size g) (gate_size g + (size_of e + size_of d)) (λ y. val d (map y numbers)) (λ y. gate_value g (y a) (y b))
    (λ y. gate_value g (val e (map y numbers)) (val d (map y numbers))) b s two third (omega arith)
    (λ w size gives same.
    let is_a : value v w a ≡ val e (map (value t w) numbers) = still u v (size_of d) b a (λ y. val d (map y numbers)) w second (size ∙ sym first.held) first.within ∙ first.gives w size in
    ap (λ (z : Bool). gate_value g z (value v w b)) is_a ∙ ap (gate_value g (val e (map (value t w) numbers))) gives)

pub choice_expr : (t u v x z : Table) (q e d : Expression) (numbers : List ℕ) (c a b s : ℕ) → AreBelow (end_of t) numbers
    → Adds t u (size_of q) (λ y. val q (map y numbers)) c → Adds u v (size_of e) (λ y. val e (map y numbers)) a → Adds v x (size_of d) (λ y. val d (map y numbers)) b
    → Adds x z 4 (λ y. if y c then y a else y b) s
    → Adds t z (4 + (size_of q + (size_of e + size_of d))) (λ y. if val q (map y numbers) then val e (map y numbers) else val d (map y numbers)) s
choice_expr t u v x z q e d numbers c a b s below first second third fourth =
    let below_u = below_grows t u (size_of q) c (λ y. val q (map y numbers)) numbers first below in
    let two : Adds t v (size_of q + size_of e) (λ y. val e (map y numbers)) a =
    follow t u v (size_of q) (size_of e) (size_of q + size_of e) (λ y. val q (map y numbers)) (λ y. val e (map y numbers)) (λ y. val e (map y numbers)) c a first second (omega arith)
    (λ w size gives same. still_value t u (size_of q) c (λ y. val q (map y numbers)) e numbers w first size below) in
    let three : Adds t x (size_of q + (size_of e + size_of d)) (λ y. val d (map y numbers)) b =
    follow t v x (size_of q + size_of e) (size_of d) (size_of q + (size_of e + size_of d)) (λ y. val e (map y numbers)) (λ y. val d (map y numbers)) (λ y. val d (map y numbers)) a b two third (omega arith)
    (λ w size gives same. still_value t v (size_of q + size_of e) a (λ y. val e (map y numbers)) d numbers w two size below) in
    let low_c = end_grows u v (size_of e) c a (λ y. val e (map y numbers)) second first.within in
    follow t x z (size_of q + (size_of e + size_of d)) 4 (4 + (size_of q + (size_of e + size_of d))) (λ y. val d (map y numbers)) (λ y. if y c then y a else y b)
    (λ y. if val q (map y numbers) then val e (map y numbers) else val d (map y numbers)) b s three fourth (omega arith)
    (λ w size gives same.
    let is_c : value x w c ≡ val q (map (value t w) numbers) =
    still v x (size_of d) b c (λ y. val d (map y numbers)) w third (size ∙ sym two.held) low_c
    ∙ still u v (size_of e) a c (λ y. val e (map y numbers)) w second (size ∙ sym first.held) first.within ∙ first.gives w size in
    let is_a : value x w a ≡ val e (map (value t w) numbers) = still v x (size_of d) b a (λ y. val d (map y numbers)) w third (size ∙ sym two.held) two.within ∙ two.gives w size in
    ap (λ (k : Bool). if k then value x w a else value x w b) is_c
    ∙ ap (λ (k : Bool). if val q (map (value t w) numbers) then k else value x w b) is_a
    ∙ ap (λ (k : Bool). if val q (map (value t w) numbers) then val e (map (value t w) numbers) else k) gives)
