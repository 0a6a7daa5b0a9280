-- Both machines beside one another: what they show and what their registers load.
use Rattle.std.proofs.Common.{◌≡◌, ℕ, zero, suc, ◌+◌, ◌-◌, ◌*◌, ◌<◌, ◌≤◌, Bool, true, false, List, [], ◌∷◌, ◌++◌, length, map, Option, Some, slice_get, refl, sym, ap, subst, ◌∙◌, arith, length-append, append_assoc, if◌then◌else◌}
use Rattle.std.specs.Prelude.{nat_lt}
use Rattle.std.specs.List.{All, AllZip, slice_index_or}
use Rattle.std.proofs.lemmas.List.{length-map}
use Rattle.std.proofs.lemmas.Option.{slice_get_within}
use Rattle.vlsi_base.specs.declared.name.Name.{Name}
use Rattle.vlsi_base.specs.Member.{In, here, there, AllDifferent}
use Rattle.bool_expr.specs.Expression.{Expression, constant, variable, inverse, pair, choice, bit, val, size_of, IsOver}
use Rattle.bool_expr.specs.Renumbering.{renumbered}
use Rattle.machine_core.specs.Machine.{Machine, Equation, Register}
use Rattle.machine_core.specs.Named.{value_at, values_at}
use Rattle.machine_core.specs.Order.{held_names, equation_names, EachReadsBelow, IsOrdered}
use Rattle.machine_core.specs.Built.{built}
use Rattle.machine_core.proofs.Values.{bit-value_at}
use Rattle.machine_walk.specs.Expansion.{held_count}
use Rattle.machine_roots.specs.Roots.{Root, register_roots}
use Rattle.boom_literal.specs.declared.literal.Literal.{Literal}
use Rattle.boom_literal.specs.declared.literal.Literal.TheVariants.{Constant, Name as AName}
use Rattle.boom_muxes.specs.declared.muxes.Muxes.{Muxes}
use Rattle.boom_muxes.specs.declared.plan.Plan.{Plan}
use Rattle.boom_literal.specs.Literals.{literal_expression, said}
use Rattle.boom_muxes.specs.Muxes.{literal_value, IsLiteralBelow, mux_values}
use Rattle.boom_muxes.specs.Building.{numbers_behind, load_for, equations_said, registers_said}
use Rattle.boom_muxes.specs.Planning.{IsPlan}
use Rattle.boom_opt.specs.Rebuilt.{IsShown, SaysRoot}
use Rattle.boom_muxes.proofs.Weighing.{length-mux_values, bit-mux_values}
use Rattle.boom_muxes.proofs.Following.{agree_on, IsPlain, a_constant, a_name, plain_of}
use Rattle.boom_muxes.proofs.Sound.{number_at}
use Rattle.boom_muxes.proofs.Numbered.{length-numbers}

-- ---- values by name

at_behind : (front back : List Name) (j : ℕ) (d : Name) → slice_index_or (front ++ back) (length front + j) d ≡ slice_index_or back j d
at_behind [] back j d = ap (λ (k : ℕ). slice_index_or back k d) (let e : 0 + j ≡ j = omega arith in e)
at_behind (n ∷ front) back j d =
    ap (λ (k : ℕ). slice_index_or (n ∷ (front ++ back)) k d) (let e : suc (length front) + j ≡ suc (length front + j) = omega arith in e) ∙ at_behind front back j d

at_front : (front back : List Name) (j : ℕ) (d : Name) → j < length front → slice_index_or (front ++ back) j d ≡ slice_index_or front j d
at_front [] back j d h = absurd (omega arith)
at_front (n ∷ front) back zero d h = refl
at_front (n ∷ front) back (suc j) d h = at_front front back j d (omega arith)

name_from : (names : List Name) (j : ℕ) (n d : Name) → slice_get names j ≡ Some n → slice_index_or names j d ≡ n
name_from [] j n d e = absurd (cc e)
name_from (x ∷ names) zero n d e = cc e
name_from (x ∷ names) (suc j) n d e = name_from names j n d e

equation_name : (es : List Equation) (j : ℕ) (e : Equation) → slice_get es j ≡ Some e → slice_get (map (λ (x : Equation). x.name) es) j ≡ Some e.name
equation_name [] j e h = absurd (cc h)
equation_name (x ∷ es) zero e h = let same : x ≡ e = cc h in ap (λ (y : Equation). Some y.name) same
equation_name (x ∷ es) (suc j) e h = equation_name es j e h

in_at : (names : List Name) (n : Name) → In n names → (j : ℕ) × (slice_get names j ≡ Some n)
in_at (x ∷ names) n here = (zero, refl)
in_at (x ∷ names) n (there h) = let r = in_at names n h in (suc r.0, r.1)
in_at [] n h = elim h [ ]

pub value_behind : (vars front back : List Name) (w : List Bool) → vars ≡ front ++ back → AllDifferent vars → length w ≡ length vars → (j : ℕ) (n : Name) → slice_get back j ≡ Some n
    → value_at vars w n ≡ bit w (length front + j)
value_behind vars front back w is different long j n at =
    let inside = slice_get_within back j n at in
    let l = length-append front back in
    let m = ap length is in
    let name : slice_index_or vars (length front + j) n ≡ n = ap (λ (l : List Name). slice_index_or l (length front + j) n) is ∙ at_behind front back j n ∙ name_from back j n n at in
    sym (bit-value_at vars w (length front + j) n different long (omega (arith, inside, l, m)) ∙ ap (value_at vars w) name)

pub value_front : (vars front back : List Name) (w : List Bool) → vars ≡ front ++ back → AllDifferent vars → length w ≡ length vars → (j : ℕ) (n : Name) → slice_get front j ≡ Some n
    → value_at vars w n ≡ bit w j
value_front vars front back w is different long j n at =
    let inside : j < length front = slice_get_within front j n at in
    let l = length-append front back in
    let m = ap length is in
    let name : slice_index_or vars j n ≡ n = ap (λ (l : List Name). slice_index_or l j n) is ∙ at_front front back j n inside ∙ name_from front j n n at in
    sym (bit-value_at vars w j n different long (omega (arith, inside, l, m)) ∙ ap (value_at vars w) name)

-- ---- new numbers

number_first : (held count total x : ℕ) → held ≤ total → x < held → slice_index_or (numbers_behind held count total) x 0 ≡ x
number_first held count total x room less = number_at held count total x (omega (arith, room, less)) ∙ by (nat_lt x held) refl where
  by : (b : Bool) → nat_lt x held ≡ b → (if b then x else x + count) ≡ x
  by true t = refl
  by false t = absurd (let q : held ≤ x = search (arith, t) in omega (arith, q, less))

number_later : (held count total j : ℕ) → held + j < total → slice_index_or (numbers_behind held count total) (held + j) 0 ≡ held + count + j
number_later held count total j room = number_at held count total (held + j) room ∙ by (nat_lt (held + j) held) refl where
  by : (b : Bool) → nat_lt (held + j) held ≡ b → (if b then held + j else held + j + count) ≡ held + count + j
  by true t = absurd (let q : held + j < held = search (arith, t) in omega (arith, q))
  by false t = omega arith

-- ---- the two machines

module _ (m : Machine) (t : Muxes) (p : Plan) (plan : IsPlan m t p) (held : t.held ≡ held_count m) (ordered : IsOrdered m)
    (total : length m.vars ≡ held_count m + length m.equations) (w : List Bool) (size : length w ≡ held_count m) where
  abbrev count : ℕ
  count = length t.nodes.keys

  abbrev start : ℕ
  start = held_count m + length t.nodes.keys

  abbrev g : List Bool
  g = mux_values w t.nodes.keys

  abbrev numbers : List ℕ
  numbers = numbers_behind (held_count m) (length t.nodes.keys) (length m.vars)

  abbrev whole : List Bool
  whole = built w m.equations

  abbrev pub other : List Bool
  other = built (mux_values w t.nodes.keys) (equations_said (numbers_behind (held_count m) (length t.nodes.keys) (length m.vars)) (Some p) 0 m.equations)

  -- what both agree on
  pub record AreBeside : Type 0 where
    pub each : length (built w m.equations) ≡ held_count m + length m.equations
    pub long : length other ≡ held_count m + length t.nodes.keys + length m.equations
    pub on_held : (x : ℕ) → x < held_count m → bit other x ≡ bit (built w m.equations) x
    pub on_planned : (j : ℕ) (l : Literal) → j < length m.equations → slice_get p.equations.items j ≡ Some (Some l)
        → bit other (held_count m + length t.nodes.keys + j) ≡ bit (built w m.equations) (held_count m + j)
    pub front : (x : ℕ) → x < held_count m + length t.nodes.keys → bit other x ≡ bit (mux_values w t.nodes.keys) x

  long_g : length g ≡ start
  long_g = length-mux_values t.nodes.keys w ∙ ap (λ (n : ℕ). n + length t.nodes.keys) size

  pub beside : AreBeside
  beside =
      let a =
      agree_on (held_count m) start (omega arith) g whole long_g numbers (λ x h. number_first (held_count m) count (length m.vars) x (omega (arith, total)) h)
      (λ j h. number_later (held_count m) count (length m.vars) j (let l = length-numbers (held_count m) count (length m.vars) in omega (arith, h, l)))
      p m.equations
      (λ j l h. subst (λ (n : ℕ). IsLiteralBelow (n + length t.nodes.keys) l) held (plan.below j l h))
      (λ j l h. plan.value j l h w (size ∙ sym held))
      plan.closed 0 m.equations w g
      (record {
        each = size ∙ (let e : held_count m ≡ held_count m + 0 = omega arith in e);
        other = long_g ∙ (let e : start ≡ start + 0 = omega arith in e);
        on_held = λ x h. bit-mux_values t.nodes.keys w x (omega (arith, h, size));
        on_planned = λ j l h. absurd (omega arith);
        front = λ x h. refl;
      })
      (λ i e h. subst (λ (k : ℕ). slice_get m.equations k ≡ Some e) (let q : i ≡ 0 + i = omega arith in q) h)
      (subst (λ (k : ℕ). EachReadsBelow k m.equations) (let q : held_count m ≡ held_count m + 0 = omega arith in q) ordered.below)
      (let l = length-numbers (held_count m) count (length m.vars) in omega (arith, l, total)) refl in
      record {
        each = let h = a.each in omega (arith, h);
        long = let h = a.other in omega (arith, h);
        on_held = a.on_held;
        on_planned = λ j l h has. a.on_planned j l (omega (arith, h)) has;
        front = a.front;
      }

  literal_front : AreBeside → (l : Literal) → IsLiteralBelow start l → literal_value l other ≡ literal_value l g
  literal_front a (Constant b) low = refl
  literal_front a (AName x) low = a.front x low

  name_there : AreBeside → (r : Root) (l : Literal) (x : ℕ) → SaysRoot m t p r l → r.expr ≡ variable x → x < length m.vars → bit other (slice_index_or numbers x 0) ≡ bit whole x
  name_there a r l x s is low = by (nat_lt x (held_count m)) refl where
    by : (b : Bool) → nat_lt x (held_count m) ≡ b → bit other (slice_index_or numbers x 0) ≡ bit whole x
    by true h = let less : x < held_count m = search (arith, h) in ap (bit other) (number_first (held_count m) count (length m.vars) x (omega (arith, total)) less) ∙ a.on_held x less
    by false h =
        let more : held_count m ≤ x = search (arith, h) in
        let j : ℕ = x - held_count m in
        let sum : x ≡ held_count m + j = omega (arith, more) in
        let led = s.led j (is ∙ ap variable sum) in
        let at : slice_index_or numbers x 0 ≡ start + j = ap (λ (y : ℕ). slice_index_or numbers y 0) sum ∙ number_later (held_count m) count (length m.vars) j (omega (arith, sum, low)) in
        ap (bit other) at ∙ a.on_planned j led.0 (omega (arith, sum, low, total)) led.1 ∙ ap (bit whole) (sym sum)

  -- what a register loads has its value
  load_there : AreBeside → (r : Root) (l : Literal) → SaysRoot m t p r l → IsOver r.expr (length m.vars) → val (said numbers (Some l) r.expr) other ≡ val r.expr whole
  load_there a r l s over = by (nat_lt 0 (size_of r.expr)) refl where
    kept : (f : Expression) → r.expr ≡ f → IsPlain f → val (renumbered numbers f) other ≡ val f whole
    kept (constant b) same a_constant = refl
    kept (variable x) same a_name = name_there a r l x s same (subst (λ (f : Expression). IsOver f (length m.vars)) same over)
    kept (inverse _) same p = elim p [ ]
    kept (pair _ _ _) same p = elim p [ ]
    kept (choice _ _ _) same p = elim p [ ]

    by : (b : Bool) → nat_lt 0 (size_of r.expr) ≡ b → val (if b then literal_expression l else renumbered numbers r.expr) other ≡ val r.expr whole
    by true h = literal_front a l (subst (λ (n : ℕ). IsLiteralBelow (n + length t.nodes.keys) l) held s.below) ∙ s.value w (size ∙ sym held)
    by false h = kept r.expr refl (plain_of r.expr (λ more. search (arith, h, more)))

  module _ (a : AreBeside) (names : List Name) (text_names : List Name) (each_new : length text_names ≡ length t.nodes.keys)
      (named : names ≡ held_names m ++ (text_names ++ equation_names m)) (different : AllDifferent names) where
    long_names : length names ≡ held_count m + length t.nodes.keys + length m.equations
    long_names =
        let e = ap length named in
        let x = length-append (held_names m) (text_names ++ equation_names m) in
        let y = length-append text_names (equation_names m) in
        let z = length-map m.equations (λ (q : Equation). q.name) in
        omega (arith, e, x, y, z, each_new)

    held_value : (n : Name) → In n (held_names m) → value_at names other n ≡ value_at m.vars whole n
    held_value n i =
        let r = in_at (held_names m) n i in
        let low = slice_get_within (held_names m) r.0 n r.1 in
        value_front names (held_names m) (text_names ++ equation_names m) other named different (let x = a.long in let y = long_names in omega (arith, x, y)) r.0 n r.1
        ∙ a.on_held r.0 low
        ∙ sym (value_front m.vars (held_names m) (equation_names m) whole ordered.vars ordered.different (let x = a.each in omega (arith, x, total)) r.0 n r.1)

    shown_value : (r : Root) → IsShown m p r → value_at names other r.name ≡ value_at m.vars whole r.name
    shown_value r s =
        let at = equation_name m.equations s.place s.equation s.there_is in
        let low = slice_get_within m.equations s.place s.equation s.there_is in
        let l = length-append (held_names m) text_names in
        let n : length (held_names m ++ text_names) + s.place ≡ start + s.place = omega (arith, l, each_new) in
        let named_so : names ≡ (held_names m ++ text_names) ++ equation_names m = named ∙ sym (append_assoc (held_names m) text_names (equation_names m)) in
        ap (value_at names other) (sym s.named)
        ∙ value_behind names (held_names m ++ text_names) (equation_names m) other named_so different (let x = a.long in let y = long_names in omega (arith, x, y)) s.place s.equation.name at
        ∙ ap (bit other) n
        ∙ a.on_planned s.place s.literal low s.planned
        ∙ sym (value_behind m.vars (held_names m) (equation_names m) whole ordered.vars ordered.different (let x = a.each in omega (arith, x, total)) s.place s.equation.name at)
        ∙ ap (value_at m.vars whole) s.named

    -- all outputs
    pub shows_same : (asked : List Name) (f : Name → Expression) → All (IsShown m p) (map (λ (n : Name). record { name = n; expr = f n }) asked) → values_at names other asked ≡ values_at m.vars whole asked
    shows_same [] f all = refl
    shows_same (n ∷ asked) f all =
        λ j. shown_value (record { name = n; expr = f n }) (all 0 (record { name = n; expr = f n }) (omega arith)) j ∷ shows_same asked f (λ k d h. all (suc k) d (omega arith)) j

    -- and all registers
    pub loads_same : (k : ℕ) (rs : List Register) (ls : List Literal) → AllZip (SaysRoot m t p) (register_roots rs) ls → ((j : ℕ) → slice_index_or p.loads.items (2 * k + j) (Constant false) ≡ slice_index_or ls j (Constant false))
        → ((r : Register) → In r rs → In r.name (held_names m) × (IsOver r.next (length m.vars) × IsOver r.enable (length m.vars)))
        → map (λ (r : Register). if val r.enable other then val r.next other else value_at names other r.name) (registers_said numbers (Some p) k rs)
        ≡ map (λ (r : Register). if val r.enable whole then val r.next whole else value_at m.vars whole r.name) rs
    loads_same k [] ls says at known = refl
    loads_same k (r ∷ rs) [] says at known = elim says [ ]
    loads_same k (r ∷ rs) (l ∷ []) says at known = elim says.1 [ ]
    loads_same k (r ∷ rs) (l ∷ (e ∷ ls)) says at known =
        let one = loads_same (suc k) rs ls says.1.1 (λ j. ap (λ (n : ℕ). slice_index_or p.loads.items n (Constant false)) (let q : 2 * suc k + j ≡ 2 * k + suc (suc j) = omega arith in q) ∙ at (suc (suc j))) (λ q i. known q (there i)) in
        let first : load_for (Some p) (2 * k) ≡ Some l = ap Some (ap (λ (n : ℕ). slice_index_or p.loads.items n (Constant false)) (let q : 2 * k ≡ 2 * k + 0 = omega arith in q) ∙ at 0) in
        let second : load_for (Some p) (2 * k + 1) ≡ Some e = ap Some (at 1) in
        let name = held_value r.name (known r here).0 in
        let loads = ap (λ (o : Option Literal). val (said numbers o r.next) other) first ∙ load_there a (record { name = r.name; expr = r.next }) l says.0 (known r here).1.0 in
        let enables = ap (λ (o : Option Literal). val (said numbers o r.enable) other) second ∙ load_there a (record { name = r.name; expr = r.enable }) e says.1.0 (known r here).1.1 in
        λ j. (if enables j then loads j else name j) ∷ one j
