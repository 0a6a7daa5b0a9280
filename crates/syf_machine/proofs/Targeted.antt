-- Values of targets, one behind the other, as outputs and as registers.
use Rattle.std.proofs.Common.{◌≡◌, ℕ, zero, suc, ◌+◌, ◌<◌, Bool, true, false, List, [], ◌∷◌, ◌++◌, map, filter, length, Option, None, Some, get_or, refl, sym, ap, ◌∙◌, subst, arith, zero-add, length-append, take, drop}
use Rattle.std.specs.List.{All, AllPairs}
use Rattle.std.specs.declared.cmp.Ordering.TheVariants.{Less}
use Rattle.std.proofs.lemmas.List.{append-nil, take_all, drop_all, get_or_default, length-map, get_or-map}
use Rattle.std.proofs.lemmas.List.Kept.{AllPairs-filter}
use Rattle.vlsi_base.specs.declared.name.Name.{Name}
use Rattle.vlsi_base.specs.declared.name.Port.{Port}
use Rattle.vlsi_base.specs.declared.name.Dir.TheVariants.{In}
use Rattle.vlsi_base.specs.Name.{name_cmp}
use Rattle.bool_expr.specs.declared.expr.Expr.{Expr}
use Rattle.bool_expr.specs.Expression.{Expression, constant}
use Rattle.bool_expr.specs.View.{view}
use Rattle.machine_core.specs.Checked.{AreInOrder}
use Rattle.machine_core.specs.Machine.{Equation, Register, names_of}
use Rattle.machine_core.specs.declared.equation.Register.{Register as RegisterParts}
use Rattle.machine_core.specs.View.{register_view}
use Rattle.fsm_machine.specs.Statements.{Statements, Assignment}
use Rattle.fsm_machine.specs.Codes.{Codes}
use Rattle.fsm_machine.specs.Signals.{final}
use Rattle.fsm_machine.specs.MachineOf.{up, named, output_given, code_given}
use Rattle.fsm_code.specs.Sought.{nameless, EachBecomes}
use Rattle.syf_machine.specs.Pieces.{output_of, register_of, registers_by, values_by}
use Rattle.syf_machine.proofs.Made.{named_map, map_behind}

-- what is made for the places of a list is made for its items
up_listed : {A B : Type 0} (f : ℕ → B) (g : A → B) (xs : List A) (s : ℕ) → ((k : ℕ) (d : A) → k < length xs → f (s + k) ≡ g (get_or xs k d)) → map f (up s (length xs)) ≡ map g xs
up_listed f g [] s h = refl
up_listed {A} {B} f g (x ∷ xs) s h =
    let first : f s ≡ g x = ap f (omega arith) ∙ h 0 x (omega arith) in
    let rest : map f (up (suc s) (length xs)) ≡ map g xs = up_listed f g xs (suc s) (λ k d low. ap f (omega arith) ∙ h (suc k) d (omega (arith, low))) in
    ap (λ (y : B). y ∷ map f (up (suc s) (length xs))) first ∙ ap (λ (ys : List B). g x ∷ ys) rest

up_length : (s n : ℕ) → length (up s n) ≡ n
up_length s zero = refl
up_length s (suc n) = ap suc (up_length (suc s) n)

-- there are as many values as targets
pub values_count : (given : ℕ → Assignment → Option Expression) (first : ℕ) (body : Statements) (news : List Expr) (n : ℕ) → map view news ≡ values_by given first body n → length news ≡ n
values_count given first body news n e =
    sym (length-map news view) ∙ ap (λ (es : List Expression). length es) e ∙ length-map (up 0 n) (λ k. final (given k) None first body (constant false)) ∙ up_length 0 n

-- a vector whose items were all written through a slice has what the slice has
pub rewritten : (many : ℕ) (news olds : List Expr) → length news ≡ length olds → many ≡ length olds → take many (news ++ drop (length news) olds) ≡ news
rewritten many news olds same all =
    ap (λ (es : List Expr). take many (news ++ es)) (drop_all (length news) olds (omega (arith, same)))
    ∙ ap (take many) (append-nil news) ∙ take_all many news (omega (arith, same, all))

-- of zeros, what the statements leave of each
pub values_are : (given : ℕ → Assignment → Option Expression) (first : ℕ) (body : Statements) (olds news : List Expr) (count : ℕ) → length olds ≡ count → All (λ e. view e ≡ constant false) olds
    → EachBecomes (λ k v. final (given k) None first body v) olds news → map view news ≡ values_by given first body count
values_are given first body olds news count many zeros made =
    let f : ℕ → Expression = λ k. final (given k) None first body (constant false) in
    let each : map f (up 0 (length news)) ≡ map view news =
    up_listed f view news 0 (λ k d low. ap f (zero-add k) ∙ sym (made.1 k d (omega (arith, low, made.0)) ∙ ap (λ (v : Expression). final (given k) None first body v) (zeros k d (omega (arith, low, made.0))))) in
    sym each ∙ ap (λ (n : ℕ). map f (up 0 n)) (made.0 ∙ many)

-- the values of outputs, each with its name
pub outputs_are : (first : ℕ) (body : Statements) (names : List Name)
    → named names (values_by (λ k. output_given (get_or names k nameless)) first body (length names)) ≡ map (output_of first body) names
outputs_are first body names =
    let g : Name → Expression = λ n. final (output_given n) None first body (constant false) in
    ap (named names) (up_listed (λ k. g (get_or names k nameless)) g names 0 (λ k d low. ap (λ (j : ℕ). g (get_or names j nameless)) (zero-add k) ∙ ap g (get_or_default names k nameless d low)))
    ∙ named_map g names

abbrev pub register_at : List ℕ → ℕ → Expression → Register
register_at text k e = record { name = record { text = text; bit = Some k }; next = e; enable = constant true }

up_registers : (text : List ℕ) (g : ℕ → Expression) (s n : ℕ) → registers_by text s (map g (up s n)) ≡ map {B = Register} (λ k. register_at text k (g k)) (up s n)
up_registers text g s zero = refl
up_registers text g s (suc n) = ap (λ (rs : List Register). register_at text s (g s) ∷ rs) (up_registers text g (suc s) n)

-- the values of the bits of the next code, each in its register
pub registers_are : (c : Codes) (first : ℕ) (body : Statements) (text : List ℕ) (width : ℕ)
    → registers_by text 0 (values_by (code_given c) first body width) ≡ map (register_of c first body text) (up 0 width)
registers_are c first body text width = up_registers text (λ k. final (code_given c k) None first body (constant false)) 0 width

more : (text : List ℕ) (s : ℕ) (es : List Expression) (e : Expression) → registers_by text s (es ++ e ∷ []) ≡ registers_by text s es ++ register_at text (s + length es) e ∷ []
more text s [] e = ap (λ (k : ℕ). register_at text k e ∷ []) (omega arith)
more text s (x ∷ es) e =
    ap (λ (rs : List Register). register_at text s x ∷ rs)
    (more text (suc s) es e ∙ ap (λ (k : ℕ). registers_by text (suc s) es ++ register_at text k e ∷ []) (omega arith))

-- the registers so far
pub record AreRegisters (text : List ℕ) (made : List RegisterParts) (es : List Expr) : Type 0 where
  pub each : length made ≡ length es
  pub same : map register_view made ≡ registers_by text 0 (map view es)

-- one more register
pub register_more : (text : List ℕ) (old new : List RegisterParts) (es : List Expr) (e : Expr) (r : RegisterParts) → new ≡ old ++ r ∷ []
    → register_view r ≡ register_at text (length es) (view e) → AreRegisters text old es → AreRegisters text new (es ++ e ∷ [])
register_more text old new es e r pushed is a = record {
  each = ap (λ (rs : List RegisterParts). length rs) pushed ∙ length-append old (r ∷ []) ∙ ap (λ (n : ℕ). n + 1) a.each ∙ sym (length-append es (e ∷ []));
  same = ap (map register_view) pushed ∙ map_behind register_view old (r ∷ [])
      ∙ ap (λ (rs : List Register). rs ++ register_view r ∷ []) a.same
      ∙ ap (λ (x : Register). registers_by text 0 (map view es) ++ x ∷ []) (is ∙ ap (λ (k : ℕ). register_at text k (view e)) (sym (length-map es view) ∙ sym (zero-add (length (map view es)))))
      ∙ sym (more text 0 (map view es) (view e))
      ∙ ap (registers_by text 0) (sym (map_behind view es (e ∷ [])));
}

named_at : (ports : List Port) (k : ℕ) (d : Port) (n : Name) → k < length ports → get_or (names_of ports) k n ≡ (get_or ports k d).name
named_at ports k d n low = get_or-map (λ (q : Port). q.name) ports k d n low

-- the outputs of ports in order are in order
pub outputs_in_order : (p : Port → Bool) (ports : List Port) → AreInOrder (names_of ports) → AreInOrder (names_of (filter p ports))
outputs_in_order p ports ordered =
    let R : Port → Port → Type 0 = λ a b. name_cmp a.name b.name ≡ Less in
    let all : AllPairs R ports = λ i j d lt low.
    let h = ordered i j d.name lt (omega (arith, low, length-map ports (λ (q : Port). q.name))) in
    rw (sym (named_at ports i d d.name (omega (arith, lt, low))), sym (named_at ports j d d.name low)) h in
    let kept : AllPairs R (filter p ports) = AllPairs-filter R p ports all in
    λ i j n lt low.
    let d : Port = record { name = n; dir = In } in
    let below : j < length (filter p ports) = omega (arith, low, length-map (filter p ports) (λ (q : Port). q.name)) in
    rw (named_at (filter p ports) i d n (omega (arith, lt, below)), named_at (filter p ports) j d n below) (kept i j d lt below)
