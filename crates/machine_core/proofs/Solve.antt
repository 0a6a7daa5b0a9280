-- The one valuation of an ordered machine: what is given is put in place, and then each equation in turn.
use Rattle.std.proofs.Common.{◌≡◌, Bool, false, List, [], ◌∷◌, ◌++◌, length, map, replicate, refl, sym, ◌∙◌, ap, arith, ◌⊎◌, inl, inr}
use Rattle.std.specs.List.{slice_index_or, All}
use Rattle.std.proofs.lemmas.List.{length-map, length-replicate}
use Rattle.std.proofs.lemmas.List.Elements.{All-nil, All-cons, All-head, All-tail}
use Rattle.vlsi_base.specs.declared.name.Name.{Name}
use Rattle.bool_expr.specs.Expression.{val}
use Rattle.machine_core.specs.Named.{value_at, values_at}
use Rattle.machine_core.specs.Machine.{Machine, Equation, inputs, register_names}
use Rattle.machine_core.specs.Cycles.{Settles}
use Rattle.machine_core.specs.Order.{In, here, there, AllDifferent, held_names, equation_names}
use Rattle.machine_core.proofs.Known.{ReadsKnown, EachReadsKnown, IsKnown}
use Rattle.machine_core.proofs.Names.{set_at}
use Rattle.machine_core.proofs.Values.{In-split, In-left, In-right, length-set_at, value_at-set_at, value_at-set_other, bit-value_at, AgreeOn, same_from_values, val-agrees}

-- the bits with those of some names put in place
abbrev pub given : List Name → List Bool → List Name → List Bool → List Bool
given vars w [] bits = w
given vars w (n ∷ names) [] = w
given vars w (n ∷ names) (b ∷ bits) = given vars (set_at vars w n b) names bits

-- the bits with those of equations computed in turn
abbrev pub solved : List Name → List Bool → List Equation → List Bool
solved vars w [] = w
solved vars w (e ∷ rest) = solved vars (set_at vars w e.name (val e.expr w)) rest

abbrev pub names_of : List Equation → List Name
names_of equations = map (λ e. e.name) equations

-- no name stands in both lists
abbrev pub Disjoint : List Name → List Name → Type 0
Disjoint xs ys = (name : Name) → In name xs → In name ys → ⊥

pub length-given : (vars : List Name) (w : List Bool) (names : List Name) (bits : List Bool) → length (given vars w names bits) ≡ length w
length-given vars w [] bits = refl
length-given vars w (n ∷ names) [] = refl
length-given vars w (n ∷ names) (b ∷ bits) = length-given vars (set_at vars w n b) names bits ∙ length-set_at vars w n b

pub length-solved : (vars : List Name) (w : List Bool) (equations : List Equation) → length (solved vars w equations) ≡ length w
length-solved vars w [] = refl
length-solved vars w (e ∷ rest) = length-solved vars (set_at vars w e.name (val e.expr w)) rest ∙ length-set_at vars w e.name (val e.expr w)

pub value_at-given_other : (vars : List Name) (w : List Bool) (names : List Name) (bits : List Bool) (name : Name) → (In name names → ⊥)
    → value_at vars (given vars w names bits) name ≡ value_at vars w name
value_at-given_other vars w [] bits name apart = refl
value_at-given_other vars w (n ∷ names) [] name apart = refl
value_at-given_other vars w (n ∷ names) (b ∷ bits) name apart =
    value_at-given_other vars (set_at vars w n b) names bits name (λ h. apart (there h))
    ∙ value_at-set_other vars w n b name (λ p. apart (rw p here))

pub value_at-solved_other : (vars : List Name) (w : List Bool) (equations : List Equation) (name : Name) → (In name (names_of equations) → ⊥)
    → value_at vars (solved vars w equations) name ≡ value_at vars w name
value_at-solved_other vars w [] name apart = refl
value_at-solved_other vars w (e ∷ rest) name apart =
    value_at-solved_other vars (set_at vars w e.name (val e.expr w)) rest name (λ h. apart (there h))
    ∙ value_at-set_other vars w e.name (val e.expr w) name (λ p. apart (rw p here))

-- what is given is read
pub values_at-given : (vars : List Name) (w : List Bool) (names : List Name) (bits : List Bool) → AllDifferent names
    → ((name : Name) → In name names → In name vars) → length w ≡ length vars → length bits ≡ length names
    → values_at vars (given vars w names bits) names ≡ bits
values_at-given vars w [] [] different inside lengths counts = refl
values_at-given vars w [] (b ∷ bits) different inside lengths counts = absurd (omega arith)
values_at-given vars w (n ∷ names) [] different inside lengths counts = absurd (omega arith)
values_at-given vars w (n ∷ names) (b ∷ bits) different inside lengths counts =
    let changed = set_at vars w n b in
    let first : value_at vars (given vars changed names bits) n ≡ b = value_at-given_other vars changed names bits n different.0 ∙ value_at-set_at vars w n b (inside n here) lengths in
    let rest : values_at vars (given vars changed names bits) names ≡ bits =
    values_at-given vars changed names bits different.1 (λ name h. inside name (there h)) (length-set_at vars w n b ∙ lengths) (omega arith) in
    ap (λ x. x ∷ values_at vars (given vars changed names bits) names) first ∙ ap (λ xs. b ∷ xs) rest

pub values_at-agree : (vars : List Name) (w v : List Bool) (asked : List Name) → AgreeOn vars asked w v → values_at vars w asked ≡ values_at vars v asked
values_at-agree vars w v [] agree = refl
values_at-agree vars w v (n ∷ asked) agree =
    ap (λ x. x ∷ values_at vars w asked) (agree n here) ∙ ap (λ xs. value_at vars v n ∷ xs) (values_at-agree vars w v asked (λ name h. agree name (there h)))

pub agree_from_values : (vars : List Name) (w v : List Bool) (asked : List Name) → values_at vars w asked ≡ values_at vars v asked → AgreeOn vars asked w v
agree_from_values vars w v (n ∷ asked) same name here = cc
agree_from_values vars w v (n ∷ asked) same name (there h) = agree_from_values vars w v asked (cc) name h
agree_from_values vars w v [] same name h = elim h [ ]

-- what an expression reads is as before where only other names changed
val-kept : (vars known : List Name) (w v : List Bool) (e : Equation) → AllDifferent vars → length w ≡ length vars → length v ≡ length vars
    → ReadsKnown vars known e → AgreeOn vars known w v → val e.expr w ≡ val e.expr v
val-kept vars known w v e different lw lv reads agree =
    val-agrees e.expr w v (λ k h. let r = reads k h in
    bit-value_at vars w k e.name different lw r.0
    ∙ agree (slice_index_or vars k e.name) (r.1 e.name)
    ∙ sym (bit-value_at vars v k e.name different lv r.0))

-- each equation holds of the solved bits
pub solved-settles : (vars known : List Name) (w : List Bool) (equations : List Equation) → AllDifferent vars → length w ≡ length vars
    → EachReadsKnown vars known equations → AllDifferent (names_of equations) → Disjoint known (names_of equations)
    → ((name : Name) → In name (names_of equations) → In name vars)
    → All (λ e. value_at vars (solved vars w equations) e.name ≡ val e.expr (solved vars w equations)) equations
solved-settles vars known w [] different lw reads once apart inside = All-nil (λ e. value_at vars w e.name ≡ val e.expr w)
solved-settles vars known w (e ∷ rest) different lw reads once apart inside =
    let b = val e.expr w in
    let changed = set_at vars w e.name b in
    let last = solved vars changed rest in
    let lc : length changed ≡ length vars = length-set_at vars w e.name b ∙ lw in
    let ll : length last ≡ length vars = length-solved vars changed rest ∙ lc in
    let kept : AgreeOn vars known w last = λ name h.
    sym (value_at-solved_other vars changed rest name (λ g. apart name h (there g))
    ∙ value_at-set_other vars w e.name b name (λ p. apart name h (rw p here))) in
    let first : value_at vars last e.name ≡ val e.expr last =
    value_at-solved_other vars changed rest e.name once.0 ∙ value_at-set_at vars w e.name b (inside e.name here) lw
    ∙ val-kept vars known w last e different lw ll reads.0 kept in
    All-cons (λ x. value_at vars last x.name ≡ val x.expr last) e rest first
    (solved-settles vars (e.name ∷ known) changed rest different lc reads.1 once.1 (apart_more e rest apart once.0) (λ name h. inside name (there h))) where
      apart_more : (e : Equation) (rest : List Equation) → Disjoint known (names_of (e ∷ rest)) → (In e.name (names_of rest) → ⊥) → Disjoint (e.name ∷ known) (names_of rest)
      apart_more e rest apart new name here g = new g
      apart_more e rest apart new name (there h) g = apart name h (there g)

-- lists of bits of which the equations hold agree on all names, if they agree on those that are known
pub agree-solved : (vars known : List Name) (w v : List Bool) (equations : List Equation) → AllDifferent vars → length w ≡ length vars → length v ≡ length vars
    → EachReadsKnown vars known equations
    → All (λ e. value_at vars w e.name ≡ val e.expr w) equations → All (λ e. value_at vars v e.name ≡ val e.expr v) equations
    → AgreeOn vars known w v → AgreeOn vars (known ++ names_of equations) w v
agree-solved vars known w v [] different lw lv reads hw hv agree name h = elim (In-split name known [] h) [ inl left ↦ agree name left | inr right ↦ absurd (elim right [ ]) ]
agree-solved vars known w v (e ∷ rest) different lw lv reads hw hv agree name h =
    let pw = All-head (λ x. value_at vars w x.name ≡ val x.expr w) e rest hw in
    let pv = All-head (λ x. value_at vars v x.name ≡ val x.expr v) e rest hv in
    let same : value_at vars w e.name ≡ value_at vars v e.name = pw ∙ val-kept vars known w v e different lw lv reads.0 agree ∙ sym pv in
    agree-solved vars (e.name ∷ known) w v rest different lw lv reads.1
    (All-tail (λ x. value_at vars w x.name ≡ val x.expr w) e rest hw) (All-tail (λ x. value_at vars v x.name ≡ val x.expr v) e rest hv)
    (more e.name known same agree) name (moved e.name known (names_of rest) name (In-split name known (e.name ∷ names_of rest) h)) where
      more : (n : Name) (known : List Name) → value_at vars w n ≡ value_at vars v n → AgreeOn vars known w v → AgreeOn vars (n ∷ known) w v
      more n known same agree name here = same
      more n known same agree name (there h) = agree name h

      moved : (n : Name) (known rest : List Name) (name : Name) → In name known ⊎ In name (n ∷ rest) → In name ((n ∷ known) ++ rest)
      moved n known rest name (inl left) = there (In-left name known rest left)
      moved n known rest name (inr here) = here
      moved n known rest name (inr (there h)) = there (In-right name known rest h)

different-left : (xs ys : List Name) → AllDifferent (xs ++ ys) → AllDifferent xs
different-left [] ys h = tt
different-left (x ∷ xs) ys h = (λ g. h.0 (In-left x xs ys g), different-left xs ys h.1)

different-right : (xs ys : List Name) → AllDifferent (xs ++ ys) → AllDifferent ys
different-right [] ys h = h
different-right (x ∷ xs) ys h = different-right xs ys h.1

different-apart : (xs ys : List Name) → AllDifferent (xs ++ ys) → Disjoint xs ys
different-apart (x ∷ xs) ys h name here g = h.0 (In-right x xs ys g)
different-apart (x ∷ xs) ys h name (there f) g = different-apart xs ys h.1 name f g
different-apart [] ys h name f g = elim f [ ]

pub settles_once_known : (m : Machine) (s i : List Bool) → IsKnown m → length s ≡ length m.registers → length i ≡ length (inputs m)
    → (w : List Bool) × Settles m s i w × ((other : List Bool) → Settles m s i other → other ≡ w)
settles_once_known m s i o ls li =
    let blank : List Bool = replicate (length m.vars) false in
    let with_inputs = given m.vars blank (inputs m) i in
    let with_registers = given m.vars with_inputs (register_names m) s in
    let w = solved m.vars with_registers m.equations in
    let lb : length blank ≡ length m.vars = length-replicate (length m.vars) false in
    let l1 : length with_inputs ≡ length m.vars = length-given m.vars blank (inputs m) i ∙ lb in
    let l2 : length with_registers ≡ length m.vars = length-given m.vars with_inputs (register_names m) s ∙ l1 in
    let lw : length w ≡ length m.vars = length-solved m.vars with_registers m.equations ∙ l2 in
    let held = different-left (held_names m) (equation_names m) o.once in
    let apart = different-apart (held_names m) (equation_names m) o.once in
    let apart_held = different-apart (inputs m) (register_names m) held in
    let kept : AgreeOn m.vars (held_names m) w with_registers = λ name h. value_at-solved_other m.vars with_registers m.equations name (apart name h) in
    let on_inputs : values_at m.vars w (inputs m) ≡ i =
    values_at-agree m.vars w with_inputs (inputs m) (λ name h.
    kept name (In-left name (inputs m) (register_names m) h)
    ∙ value_at-given_other m.vars with_inputs (register_names m) s name (apart_held name h))
    ∙ values_at-given m.vars blank (inputs m) i (different-left (inputs m) (register_names m) held)
    (λ name h. o.inside name (In-left name (held_names m) (equation_names m) (In-left name (inputs m) (register_names m) h))) lb li in
    let on_registers : values_at m.vars w (register_names m) ≡ s =
    values_at-agree m.vars w with_registers (register_names m) (λ name h. kept name (In-right name (inputs m) (register_names m) h))
    ∙ values_at-given m.vars with_inputs (register_names m) s (different-right (inputs m) (register_names m) held)
    (λ name h. o.inside name (In-left name (held_names m) (equation_names m) (In-right name (inputs m) (register_names m) h))) l1 (ls ∙ sym (length-map m.registers (λ r. r.name))) in
    let settled = solved-settles m.vars (held_names m) with_registers m.equations o.different l2 o.ordered
    (different-right (held_names m) (equation_names m) o.once) apart
    (λ name h. o.inside name (In-right name (held_names m) (equation_names m) h)) in
    let settles : Settles m s i w = record { each = lw; inputs = on_inputs; registers = on_registers; equations = settled } in (
      w,
      settles,
      λ other h.
          same_from_values m.vars other w o.different h.each lw (λ name g.
          agree-solved m.vars (held_names m) other w m.equations o.different h.each lw o.ordered h.equations settled
          (λ n f. elim (In-split n (inputs m) (register_names m) f) [
            | inl left ↦ agree_from_values m.vars other w (inputs m) (h.inputs ∙ sym on_inputs) n left
            | inr right ↦ agree_from_values m.vars other w (register_names m) (h.registers ∙ sym on_registers) n right
          ])
          name (o.covered name g)),
    )
